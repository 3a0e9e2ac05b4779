-- Document 01's table of 256 numbers, one for each byte value. The code has no table: the rule is what Tally answers for a map of one byte.
use Rattle.std.specs.Prelude.{ℕ, ◌+◌, ◌-◌, ◌*◌, ◌/◌, ◌%◌, ◌≤◌, ◌≡◌, Bool, true, false, cond, [], ◌∷◌, eqb}
use native.Mathlib.Omega.{arith}
use Rattle.std.proofs.Math.Path.{refl}
use Rattle.std.proofs.Common.{sym, ◌∙◌, lit≤, ne_eqb, eqb-true}
use Rattle.std.proofs.lemmas.Bool.{eqb-false}
use Rattle.layout.specs.Sizes.{page_size}
use Rattle.blockmap.specs.Pairs.{map_bytes, pairs, patch_pair, full_pair, reserved_pair, some_used, bad_pairs, in_byte}
use Rattle.blockmap.specs.PairLaws.{one_most, pairs_byte, unused_none, good_bytes, bad_bytes}
use Rattle.blockmap.specs.Calls.{TalliedNumbers, tally_numbers}
use Rattle.blockmap.specs.CallLaws.{tally_pair, tally_done}

-- PATCH pairs plus 8 times full pairs, or 255 where some pair is 3
unfoldable pub tally_entry : ℕ → ℕ
tally_entry x = cond (eqb (in_byte reserved_pair x) 0) (in_byte patch_pair x + 8 * in_byte full_pair x) 255

-- the answer that an entry stands for
abbrev pub entry_numbers : ℕ → TalliedNumbers
entry_numbers e = cond (eqb e 255) (record { number = 11; patch = 0; full = 0 }) (record { number = 0; patch = e % 8; full = e / 8 })

-- Document 01's five entries
pub entries : (tally_entry 0x00 ≡ 0) × (tally_entry 0x09 ≡ 9) × (tally_entry 0xAA ≡ 4) × (tally_entry 0x55 ≡ 32) × (tally_entry 0x03 ≡ 255)
unfolding tally_entry in_byte
entries = (refl, refl, refl, refl, refl)

in_byte_most : (v x : ℕ) → in_byte v x ≤ 4
unfolding in_byte
in_byte_most v x =
    omega (arith, one_most (eqb (x % 4) v), one_most (eqb (x / 4 % 4) v), one_most (eqb (x / 16 % 4) v), one_most (eqb (x / 64 % 4) v))

-- A map of one byte, which is four blocks: the tally is the table's entry, for every byte value
module _ (x : ℕ) where
  in_one : (v : ℕ) → pairs v (x ∷ []) 4 ≡ in_byte v x
  unfolding pairs
  in_one v = let e : pairs v (x ∷ []) 4 ≡ 0 + in_byte v x = pairs_byte v (x ∷ []) 0 in omega arith

  clean : some_used (x ∷ []) 4 (4 * map_bytes 4 - 4) ≡ false
  clean = unused_none (x ∷ []) 4 refl

  pub one_byte : tally_numbers page_size (x ∷ []) 4 ≡ entry_numbers (tally_entry x)
  unfolding tally_entry map_bytes
  one_byte = go (eqb (in_byte reserved_pair x) 0) refl
    where
      answered : (p f : ℕ) → p ≤ 4 → f ≤ 4 → record { number = 0; patch = p; full = f } ≡ entry_numbers (p + 8 * f)
      answered p f h k =
          let d : (p + 8 * f) % 8 ≡ p = omega arith in
          let q : (p + 8 * f) / 8 ≡ f = omega arith in
          rw (ne_eqb (p + 8 * f) 255 (λ z. omega arith), d, q)

      go : (t : Bool) → eqb (in_byte reserved_pair x) 0 ≡ t → tally_numbers page_size (x ∷ []) 4
          ≡ entry_numbers (cond t (in_byte patch_pair x + 8 * in_byte full_pair x) 255)
      go true e =
          let good : bad_pairs (x ∷ []) 4 ≡ false = good_bytes (x ∷ []) 4 clean (in_one reserved_pair ∙ eqb-true (in_byte reserved_pair x) 0 e) in
          sym
          (tally_done page_size (x ∷ []) 4 (lit≤ tt) (lit≤ tt) (in_byte patch_pair x) (in_byte full_pair x) good (sym (in_one patch_pair))
          (sym (in_one full_pair))).numbers
          ∙ answered (in_byte patch_pair x) (in_byte full_pair x) (in_byte_most patch_pair x) (in_byte_most full_pair x)
      go false e =
          let bad : bad_pairs (x ∷ []) 4 ≡ true = bad_bytes (x ∷ []) 4 clean 1 (lit≤ tt)
          (λ z. eqb-false (in_byte reserved_pair x) 0 e (sym (in_one reserved_pair) ∙ z)) in
          sym (tally_pair page_size (x ∷ []) 4 (lit≤ tt) (lit≤ tt) bad).numbers
