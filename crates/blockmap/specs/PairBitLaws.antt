-- From bits to pairs: laws for a byte, computed at each of its 256 values, and one that joins the bytes of a map.
use Prim.Native.Nat.{ℕ, zero, suc, ◌+◌, ◌-◌, ◌*◌, ◌/◌, ◌%◌, ◌^◌, ◌<◌}
use native.Mathlib.Omega.{arith}
use Rattle.std.specs.Prelude.{◌≡◌, Bool, true, false, not, ◌||◌, cond, List, eqb, get_or}
use Rattle.std.proofs.Math.Path.{refl}
use Rattle.std.proofs.Common.{sym, ap, ◌∙◌, true≢false, eq-eqb, ne_eqb, eqb-true}
use Rattle.std.proofs.lemmas.Bool.{false≢true, eqb-false, agree_below, agree_below_at}
use Rattle.std.proofs.Math.Nat.{mod-mod}
use Rattle.std.specs.Int.Bits.{bit_and, bit_or}
use Rattle.blockmap.specs.Pack.{byte_of, with_pair}
use Rattle.std.specs.Int.Count.{ones_in, ones}
use Rattle.bits.specs.Bits.{low_bits, high_bits, threes, added, highs, lows, some_three}
use Rattle.bits.specs.BitLaws.{at_each_byte, ones_none}
use Rattle.blockmap.specs.Pairs.{map_bytes, pairs, patch_pair, full_pair, reserved_pair, some_used, bad_pairs, in_byte}
use Rattle.blockmap.specs.PairLaws.{pairs_byte, pairs_whole, good_bytes, bad_bytes}

-- A byte

-- A pair that is 3 has both bits: it counts as a high bit, as a low bit and as a three
pub record ByteBits (x : ℕ) : Type 0 where
  pub high : ones (high_bits x) ≡ in_byte patch_pair x + in_byte reserved_pair x
  pub low : ones (low_bits x) ≡ in_byte full_pair x + in_byte reserved_pair x
  pub three : ones (threes x) ≡ in_byte reserved_pair x

pub byte_bits : (x : ℕ) → x < 256 → ByteBits x
unfolding ones ones_in low_bits high_bits threes in_byte
byte_bits x h =
    record {
      high = at_each_byte (λ y. ones (high_bits y)) (λ y. in_byte patch_pair y + in_byte reserved_pair y) refl x h;
      low = at_each_byte (λ y. ones (low_bits y)) (λ y. in_byte full_pair y + in_byte reserved_pair y) refl x h;
      three = at_each_byte (λ y. ones (threes y)) (in_byte reserved_pair) refl x h;
    }

three_byte : (x : ℕ) → x < 256 → eqb (threes x) 0 ≡ eqb (in_byte reserved_pair x) 0
unfolding ones ones_in
three_byte x h = go (eqb (threes x) 0) refl
  where
    go : (t : Bool) → eqb (threes x) 0 ≡ t → eqb (threes x) 0 ≡ eqb (in_byte reserved_pair x) 0
    go true e = e ∙ sym (eq-eqb (in_byte reserved_pair x) 0 (sym (byte_bits x h).three ∙ ap ones (eqb-true (threes x) 0 e)))
    go false e =
        e ∙ sym (ne_eqb (in_byte reserved_pair x) 0 (λ z. eqb-false (threes x) 0 e (ones_none (threes x) ((byte_bits x h).three ∙ z))))

-- One pair of a byte set by shifts: the two bits at its place cleared, and the pair's put there
abbrev pub shifted : ℕ → ℕ → ℕ → ℕ
shifted x k v = bit_or (bit_and x (255 - 3 * 2 ^ (2 * k) % 256)) (v % 4 * 2 ^ (2 * k) % 256)

shifted_as : ℕ → ℕ → ℕ → Bool
shifted_as k v x = eqb (shifted x k v) (with_pair x k v)

yes : ℕ → Bool
yes x = true

low_bits_count : (t : Bool) (v a : ℕ) → cond t (v % 4) a % 4 ≡ cond t v a % 4
low_bits_count true v a = mod-mod v 4
low_bits_count false v a = refl

-- computed at each byte, place and pair
pub with_shifted : (x k v : ℕ) → x < 256 → k < 4 → shifted x k v ≡ with_pair x k v
unfolding shifted_as yes with_pair byte_of
with_shifted x k v small place =
    let of_pair : shifted x k (v % 4) ≡ with_pair x k (v % 4) =
    eqb-true (shifted x k (v % 4)) (with_pair x k (v % 4))
    (agree_below_at (shifted_as k (v % 4)) yes 256 x
    (agree_below_at (λ u. agree_below (shifted_as k u) yes 256) yes 4 (v % 4)
    (agree_below_at (λ j. agree_below (λ u. agree_below (shifted_as j u) yes 256) yes 4) yes 4 k refl place) (omega arith)) small) in
    let both : with_pair x k (v % 4) ≡ with_pair x k v =
    rw (
      low_bits_count (eqb k 0) v (x % 4),
      low_bits_count (eqb k 1) v (x / 4 % 4),
      low_bits_count (eqb k 2) v (x / 16 % 4),
      low_bits_count (eqb k 3) v (x / 64 % 4),
    ) in
    (rw (mod-mod v 4) at of_pair) ∙ both

-- Bytes joined

added_sum : (f g h : ℕ → ℕ) (map : List ℕ) (i k : ℕ) → ((j : ℕ) → f (get_or map j 0) ≡ g (get_or map j 0) + h (get_or map j 0))
    → added f map i k ≡ added g map i k + added h map i k
unfolding added
added_sum f g h map i zero e = refl
added_sum f g h map i (suc k) e = omega (arith, added_sum f g h map i k e, e (i + k))

added_pairs : (v : ℕ) (map : List ℕ) (k : ℕ) → added (in_byte v) map 0 k ≡ pairs v map (4 * k)
unfolding added pairs
added_pairs v map zero = refl
added_pairs v map (suc k) =
    let s : suc k ≡ k + 1 = omega arith in
    let z : 0 + k ≡ k = omega arith in
    rw (s, z) (omega (arith, added_pairs v map k, pairs_byte v map k))

sum_some : (a b : ℕ) → not (eqb (a + b) 0) ≡ (not (eqb a 0) || not (eqb b 0))
sum_some zero b = let e : 0 + b ≡ b = omega arith in ap (λ (k : ℕ). not (eqb k 0)) e
sum_some (suc a) b = rw (ne_eqb (suc a + b) 0 (λ z. omega arith), ne_eqb (suc a) 0 (λ z. omega arith))

module _ (map : List ℕ) (bytes : (i : ℕ) → get_or map i 0 < 256) where
  -- The first k bytes of a map are its first 4·k blocks

  pub highs_are : (k : ℕ) → highs map 0 k ≡ pairs patch_pair map (4 * k) + pairs reserved_pair map (4 * k)
  highs_are k =
      omega (
        arith,
        added_sum (λ x. ones (high_bits x)) (in_byte patch_pair) (in_byte reserved_pair) map 0 k
            (λ j. (byte_bits (get_or map j 0) (bytes j)).high),
        added_pairs patch_pair map k,
        added_pairs reserved_pair map k,
      )

  pub lows_are : (k : ℕ) → lows map 0 k ≡ pairs full_pair map (4 * k) + pairs reserved_pair map (4 * k)
  lows_are k =
      omega (
        arith,
        added_sum (λ x. ones (low_bits x)) (in_byte full_pair) (in_byte reserved_pair) map 0 k
            (λ j. (byte_bits (get_or map j 0) (bytes j)).low),
        added_pairs full_pair map k,
        added_pairs reserved_pair map k,
      )

  pub three_is : (k : ℕ) → some_three map 0 k ≡ not (eqb (pairs reserved_pair map (4 * k)) 0)
  unfolding some_three pairs
  three_is zero = refl
  three_is (suc k) =
      let s : suc k ≡ k + 1 = omega arith in
      let z : 0 + k ≡ k = omega arith in
      rw (s, z, three_is k, three_byte (get_or map k 0) (bytes k), pairs_byte reserved_pair map k)
      (sym (sum_some (pairs reserved_pair map (4 * k)) (in_byte reserved_pair (get_or map k 0))))

  -- A map of n blocks whose unused pairs are 0: what its bits say of its pairs

  module _ (n : ℕ) (clean : some_used map n (4 * map_bytes n - n) ≡ false) where
    pub bits_bad : some_three map 0 (map_bytes n) ≡ true → bad_pairs map n ≡ true
    bits_bad e =
        bad_bytes map n clean (map_bytes n) (omega arith)
        (λ z. let f : some_three map 0 (map_bytes n) ≡ false = three_is (map_bytes n) ∙ rw z in false≢true (sym f ∙ e))

    module _ (none : some_three map 0 (map_bytes n) ≡ false) where
      free : pairs reserved_pair map (4 * map_bytes n) ≡ 0
      free = go (eqb (pairs reserved_pair map (4 * map_bytes n)) 0) refl
        where
          go : (t : Bool) → eqb (pairs reserved_pair map (4 * map_bytes n)) 0 ≡ t → pairs reserved_pair map (4 * map_bytes n) ≡ 0
          go true e = eqb-true (pairs reserved_pair map (4 * map_bytes n)) 0 e
          go false e = absurd (true≢false (sym (ap not e) ∙ sym (three_is (map_bytes n)) ∙ none))

      pub bits_good : bad_pairs map n ≡ false
      bits_good = good_bytes map n clean free

      pub bits_patch : highs map 0 (map_bytes n) ≡ pairs patch_pair map n
      bits_patch = omega (arith, highs_are (map_bytes n), free, pairs_whole map n clean patch_pair (λ z. omega arith))

      pub bits_full : lows map 0 (map_bytes n) ≡ pairs full_pair map n
      bits_full = omega (arith, lows_are (map_bytes n), free, pairs_whole map n clean full_pair (λ z. omega arith))
