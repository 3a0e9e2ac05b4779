-- Wrong tallies by counts of bits, each of which breaks document 01's own words (`Tallies`) at a proved map.
use Rattle.std.specs.Prelude.{ℕ, zero, suc, ◌+◌, ◌-◌, ◌*◌, ◌/◌, ◌%◌, ◌^◌, ◌<◌, ◌≡◌, refl, Bool, true, false, cond, List, [], ◌∷◌, get_or, replicate, Result, Ok, Err}
use Rattle.std.proofs.Common.{arith, sym, ap, ◌∙◌, true≢false}
use Rattle.std.specs.Int.Count.{ones_in, ones}
use Rattle.layout.specs.declared.Refusal.TheVariants.{Pair}
use Rattle.blockmap.specs.Pairs.{map_bytes, pair_at, pairs, patch_pair, full_pair, some_reserved, some_used, bad_pairs}
use Rattle.bits.specs.Bits.{low_bits, high_bits, threes, added, highs, lows, some_three}
use Rattle.blockmap.specs.PairLaws.{unused_bad}
use Rattle.blockmap.specs.PairBitLaws.{bits_bad, bits_good, bits_patch, bits_full}
use Rattle.blockmap.specs.Meaning.{Tallies, blocks_with, blocks_with_is, pairs_count, pairs_counted, BadPair, bad_iff}
use Rattle.blockmap.specs.Calls.{tallied_numbers}
use Rattle.layout.specs.declared.Refusal.{Refusal}
use Rattle.blockmap.specs.declared.Tallied.{Tallied}

-- what the words ask of a map, by its pairs
told : (map : List ℕ) (n : ℕ) (a : Result Tallied Refusal) → Tallies map n a → bad_pairs map n ≡ false
    → a ≡ Ok (record { patch = (pairs patch_pair map n); full = (pairs full_pair map n) })
told map n a t e =
    t.counts (λ b bad. true≢false (sym ((bad_iff map n).1 (b, bad)) ∙ e))
    (blocks_with patch_pair map n) (blocks_with full_pair map n) (blocks_with_is patch_pair map n) (blocks_with_is full_pair map n)
    ∙ (λ i. Ok (record { patch = (sym (pairs_count patch_pair map n) i); full = (sym (pairs_count full_pair map n) i) }))

told_bad : (map : List ℕ) (n : ℕ) (a : Result Tallied Refusal) → Tallies map n a → bad_pairs map n ≡ true → a ≡ Err Pair
told_bad map n a t e = let (b, bad) = (bad_iff map n).0 e in t.refuses b bad

-- what a program makes of the number of high bits, the number of low bits, and whether a pair is 3
abbrev pub Program : Type 0
Program = ℕ → ℕ → Bool → Result Tallied Refusal

-- a program that looks at unused pairs first
unfoldable pub by_bits : Program → List ℕ → ℕ → Result Tallied Refusal
by_bits f map n =
    cond (some_used map n (4 * map_bytes n - n)) (Err Pair)
    (f (highs map 0 (map_bytes n)) (lows map 0 (map_bytes n)) (some_three map 0 (map_bytes n)))

-- the right one, which keeps the words for every map of bytes
abbrev pub right : Program
right high low three = cond three (Err Pair) (Ok (record { patch = high; full = low }))

pub right_tallies : (map : List ℕ) (n : ℕ) → ((i : ℕ) → get_or map i 0 < 256) → Tallies map n (by_bits right map n)
unfolding by_bits
right_tallies map n bytes =
    go (some_used map n (4 * map_bytes n - n)) (some_three map 0 (map_bytes n)) refl refl
  where
    bad_true : {A : Type 0} → bad_pairs map n ≡ true → ((b : ℕ) → BadPair map n b → ⊥) → A
    bad_true e none = let (b, bad) = (bad_iff map n).0 e in absurd (none b bad)

    go : (u t : Bool) → some_used map n (4 * map_bytes n - n) ≡ u → some_three map 0 (map_bytes n) ≡ t
        → Tallies map n (cond u (Err Pair) (right (highs map 0 (map_bytes n)) (lows map 0 (map_bytes n)) t))
    go true t e f = record { counts = λ none ps fs jp jf. bad_true (unused_bad map n e) none; refuses = λ b bad. refl }
    go false true e f = record { counts = λ none ps fs jp jf. bad_true (bits_bad map bytes n e f) none; refuses = λ b bad. refl }
    go false false e f =
        record {
          counts =
              λ none ps fs jp jf i.
              Ok (record {
                patch = (bits_patch map bytes n e f ∙ pairs_counted patch_pair map n ps jp) i;
                full = (bits_full map bytes n e f ∙ pairs_counted full_pair map n fs jf) i;
              });
          refuses = λ b bad. absurd (true≢false (sym ((bad_iff map n).1 (b, bad)) ∙ bits_good map bytes n e f));
        }

-- the wrong ones: PATCH and full mixed up, 3 counted as both, sums that are kept in 8 bits
abbrev pub mixed_up : Program
mixed_up high low three = cond three (Err Pair) (Ok (record { patch = low; full = high }))

abbrev pub three_as_both : Program
three_as_both high low three = Ok (record { patch = high; full = low })

abbrev pub in_eight_bits : Program
in_eight_bits high low three = cond three (Err Pair) (Ok (record { patch = (high % 256); full = (low % 256) }))

-- a full pair
pub not_mixed_up : Tallies (0x01 ∷ []) 4 (by_bits mixed_up (0x01 ∷ []) 4) → ⊥
unfolding by_bits map_bytes pair_at pairs some_reserved some_used bad_pairs ones ones_in low_bits high_bits threes added some_three
not_mixed_up t = absurd (let e : ◌≡◌ {A = ℕ} 1 0 = ap (λ (a : Result Tallied Refusal). (tallied_numbers a).patch) (told (0x01 ∷ []) 4 _ t refl) in omega arith)

-- a pair that is 3
pub not_three_as_both : Tallies (0x03 ∷ []) 4 (by_bits three_as_both (0x03 ∷ []) 4) → ⊥
unfolding by_bits map_bytes pair_at pairs some_reserved some_used bad_pairs ones ones_in low_bits high_bits threes added some_three
not_three_as_both t =
    absurd (let e : ◌≡◌ {A = ℕ} 0 11 = ap (λ (a : Result Tallied Refusal). (tallied_numbers a).number) (told_bad (0x03 ∷ []) 4 _ t refl) in omega arith)

-- 256 PATCH pairs
pub not_in_eight_bits : Tallies (replicate 64 0xAA) 256 (by_bits in_eight_bits (replicate 64 0xAA) 256) → ⊥
unfolding by_bits map_bytes pair_at pairs some_reserved some_used bad_pairs ones ones_in low_bits high_bits threes added some_three
not_in_eight_bits t =
    absurd (let e : ◌≡◌ {A = ℕ} 0 256 = ap (λ (a : Result Tallied Refusal). (tallied_numbers a).patch) (told (replicate 64 0xAA) 256 _ t refl) in omega arith)

-- The right one, but for the unused pairs, which it does not look at: they are counted
unfoldable pub unseen : List ℕ → ℕ → Result Tallied Refusal
unseen map n = right (highs map 0 (map_bytes n)) (lows map 0 (map_bytes n)) (some_three map 0 (map_bytes n))

pub not_unseen : Tallies (0x04 ∷ []) 1 (unseen (0x04 ∷ []) 1) → ⊥
unfolding unseen map_bytes pair_at pairs some_reserved some_used bad_pairs ones ones_in low_bits high_bits threes added some_three
not_unseen t =
    absurd (let e : ◌≡◌ {A = ℕ} 0 11 = ap (λ (a : Result Tallied Refusal). (tallied_numbers a).number) (told_bad (0x04 ∷ []) 1 _ t refl) in omega arith)

-- The right one, but for its sums: two counts stand side by side in one number, and when the lower one passes 255 the upper one gets 1 more
unfoldable pub side_by_side : (ℕ → ℕ) → List ℕ → ℕ → ℕ
side_by_side f map zero = 0
side_by_side f map (suc k) = side_by_side f map k + f (get_or map k 0) * 256 ^ (k % 2)

abbrev pub carried : ℕ → ℕ
carried x = x % 256 + x / 256

unfoldable pub carrying : List ℕ → ℕ → Result Tallied Refusal
carrying map n =
    cond (some_used map n (4 * map_bytes n - n)) (Err Pair)
    (right (carried (side_by_side (λ x. ones (high_bits x)) map (map_bytes n))) (carried (side_by_side (λ x. ones (low_bits x)) map (map_bytes n)))
    (some_three map 0 (map_bytes n)))

pub not_carrying : Tallies (replicate 128 0xAA) 512 (carrying (replicate 128 0xAA) 512) → ⊥
unfolding carrying side_by_side map_bytes pair_at pairs some_reserved some_used bad_pairs ones ones_in low_bits high_bits threes some_three
not_carrying t =
    absurd (let e : ◌≡◌ {A = ℕ} 257 512 = ap (λ (a : Result Tallied Refusal). (tallied_numbers a).patch) (told (replicate 128 0xAA) 512 _ t refl) in omega arith)
