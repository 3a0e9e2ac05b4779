-- Whether a reader can stand at a position, by the place after it, which the code reads back from its bits, as r, and takes as an index, if it
-- is one.
use Prim.Native.Nat.{ℕ, zero, suc, ◌+◌, ◌-◌, ◌^◌, ◌<◌}
use native.Mathlib.Omega.{arith}
use native.Mathlib.Decide.{dec_lt}
use mathlib.Core.Path.{◌≡◌, refl, sym, ap, ◌∙◌, subst}
use mathlib.Core.Bool.{false}
use lib.Dec.{leb}
use lib.IntN.{ℤ, pos, negsuc, ◌+ℤ◌}
use mir.Syntax.{w64}
use mir.Val.{SFits}
use borrow.Author.Tests.{lt-ltb, le-ltb, le-leb, lt-leb}
use Rattle.std.specs.Int.{FitsUnsignedBits}
use Rattle.std.specs.Prelude.{unsigned_abs}
use Rattle.entry_reader.specs.Turns.{stands}

-- the place after a position below -1
far_below : (k : ℕ) → negsuc (suc k) +ℤ pos 1 ≡ negsuc k
far_below k =
    let e : suc (suc k) - 2 ≡ k = omega arith in
    rw (lt-ltb 1 (suc (suc k)) (omega arith)) (ap negsuc e)

module _ (n : ℕ) (r : ℤ) where
  pub below : (p : ℤ) → r ≡ p +ℤ pos 1 → SFits w64 (p +ℤ pos 1) → (FitsUnsignedBits 64 r → ⊥) → false ≡ stands n p
  unfolding stands
  below (pos q) e f h =
      let g : q + 1 < 2 ^ 63 = f.sfits in
      absurd (h (subst (FitsUnsignedBits 64) (sym e) (omega arith)))
  below (negsuc zero) e f h = absurd (h (subst (FitsUnsignedBits 64) (sym e) (omega arith)))
  below (negsuc (suc k)) e f h = refl

  pub inside : (p : ℤ) → r ≡ p +ℤ pos 1 → (at : ℕ) → FitsUnsignedBits 64 r × (at ≡ unsigned_abs r) → leb at n ≡ stands n p
  unfolding stands
  inside (pos q) e at h =
      let f : at ≡ q + 1 = h.1 ∙ ap unsigned_abs e in
      elim (dec_lt q n) [
        | yes l ↦ le-leb at n (omega arith) ∙ sym (lt-ltb q n l)
        | no l ↦ lt-leb at n (omega arith) ∙ sym (le-ltb q n (omega arith))
      ]
  inside (negsuc zero) e at h = let f : at ≡ 0 = h.1 ∙ ap unsigned_abs e in le-leb at n (omega arith)
  inside (negsuc (suc k)) e at h = absurd (subst (FitsUnsignedBits 64) (e ∙ far_below k) h.0)
