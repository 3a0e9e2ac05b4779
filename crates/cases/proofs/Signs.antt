-- The position that a text says, by way of signed numbers of 64 bits: a number that they do not hold is far beyond a position.
use Prim.Native.Nat.{ℕ, zero, suc, ◌-◌, ◌^◌, ◌≤◌, ◌<◌}
use native.Mathlib.Omega.{arith}
use mathlib.Core.Logic.{◌⊎◌, inl, inr}
use mathlib.Core.Path.{◌≡◌, refl, sym, ap, ◌∙◌, subst}
use mathlib.Core.Bool.{Bool, cond}
use mathlib.Core.List.{List}
use lib.ListN.{get_or}
use lib.IntN.{ℤ, pos, negsuc, ◌-ℤ◌}
use mir.Syntax.{w32, w64}
use mir.Val.{SFits, to_z, of_z}
use mir.ValLaws.{to_z-of_z}
use borrow.Author.Tests.{le-ltb, lt-ltb, eq-eqb, ne_eqb}
use Rattle.std.proofs.Math.Decide.{dec_lt}
use Rattle.std.specs.declared.result.Result.{Result}
use Rattle.std.specs.Prelude.{Ok, Err}
use Rattle.std.specs.Result.{OkIff, result_unwrap_or}
use Rattle.span.specs.Tests.{tests}
use Rattle.cases.specs.Decimal.{decimal}
use Rattle.cases.specs.Position.{held, above, below, position}

-- The definitions, where a number fits and where it does not

above_is : (size : ℕ) → size < 2147483648 → above size ≡ pos size
unfolding above
above_is size h = search tests

above_over : (size : ℕ) → 2147483648 ≤ size → above size ≡ pos 0
unfolding above
above_over size h = search tests

below_is : (k : ℕ) → k < 2147483648 → below (suc k) ≡ negsuc k
unfolding below
below_is k h =
    let q : suc k ≤ held = omega arith in
    rw (ne_eqb (suc k) 0 (λ (e : suc k ≡ 0). omega arith), le-ltb held (suc k) q) (ap negsuc (omega arith))

below_over : (size : ℕ) → 2147483648 < size → below size ≡ pos 0
unfolding below
below_over size h = rw (ne_eqb size 0 (λ (e : size ≡ 0). omega arith), lt-ltb held size h) refl

minus : (k : ℕ) → pos 0 -ℤ pos (suc k) ≡ negsuc k
minus k = ap (λ (t : Bool). cond t (negsuc (suc k - 1)) (pos (0 - suc k))) (lt-ltb 0 (suc k) (omega arith)) ∙ ap negsuc (omega arith)

-- A number as one of 64 bits, or the largest of those

record Size (n : ℕ) (s : ℤ) : Type 0 where
  far : ℕ
  is : s ≡ pos far
  fits : far < 2 ^ 63
  near : (far ≡ n) ⊎ ((2147483648 < far) × (2147483648 < n))

size_of : {E : Type 0} (n : ℕ) (r : Result ℤ E) → OkIff r (SFits w64 (pos n)) (pos n) → Size n (result_unwrap_or r (pos 9223372036854775807))
size_of n (Ok x) o = record { far = n; is = o.1; fits = o.0.sfits; near = inl refl }
size_of n (Err e) o =
    let h : 2 ^ 63 ≤ n = elim (dec_lt n (2 ^ 63)) [ yes l ↦ absurd (o (record { sfits = l })) | no l ↦ omega arith ] in
    record { far = 9223372036854775807; is = refl; fits = omega arith; near = inr (omega arith, omega arith) }

abbrev pub back : ℤ → ℤ
back p = to_z w64 (of_z w64 p)

above_far : (m n : ℕ) → (m ≡ n) ⊎ ((2147483648 < m) × (2147483648 < n)) → above m ≡ above n
above_far m n (inl e) = ap above e
above_far m n (inr h) = above_over m (omega (arith, h.0)) ∙ sym (above_over n (omega (arith, h.1)))

below_far : (m n : ℕ) → (m ≡ n) ⊎ ((2147483648 < m) × (2147483648 < n)) → below m ≡ below n
below_far m n (inl e) = ap below e
below_far m n (inr h) = below_over m h.0 ∙ sym (below_over n h.1)

-- That as one of 32 bits, or 0

narrow_above : {E : Type 0} (m : ℕ) (r : Result ℤ E) → OkIff r (SFits w32 (pos m)) (pos m) → result_unwrap_or r (pos 0) ≡ above m
narrow_above m (Ok x) o = o.1 ∙ sym (above_is m o.0.sfits)
narrow_above m (Err e) o =
    let h : 2147483648 ≤ m = elim (dec_lt m 2147483648) [ yes l ↦ absurd (o (record { sfits = l })) | no l ↦ omega arith ] in
    sym (above_over m h)

narrow_below : {E : Type 0} (m : ℕ) (r : Result ℤ E) → OkIff r (SFits w32 (pos 0 -ℤ pos m)) (pos 0 -ℤ pos m) → result_unwrap_or r (pos 0) ≡ below m
unfolding below
narrow_below zero (Ok x) o = o.1
narrow_below zero (Err e) o = refl
narrow_below (suc k) (Ok x) o = o.1 ∙ minus k ∙ sym (below_is k (subst (SFits w32) (minus k) o.0).sfits)
narrow_below (suc k) (Err e) o =
    let h : 2147483648 ≤ k =
    elim (dec_lt k 2147483648) [ yes l ↦ absurd (o (subst (SFits w32) (sym (minus k)) (record { sfits = l }))) | no l ↦ omega arith ] in
    sym (below_over (suc k) (omega arith))

minus_fits : (m : ℕ) → m < 2 ^ 63 → SFits w64 (pos 0 -ℤ pos m)
minus_fits zero h = record { sfits = omega arith }
minus_fits (suc k) h = subst (SFits w64) (sym (minus k)) (record { sfits = omega arith })

-- what a text says, by its first byte
module _ {E : Type 0} (text : List ℕ) (first n : ℕ) (s z : ℤ) (r q : Result ℤ E) (f : first ≡ get_or text 0 0) (e : n ≡ decimal 0 text)
    (o : OkIff r (SFits w64 (pos n)) (pos n)) (d : s ≡ result_unwrap_or r (pos 9223372036854775807)) (u : OkIff q (SFits w32 z) z) where
  abbrev by_first : Bool → ℤ
  by_first t = cond t (below (decimal 0 text)) (above (decimal 0 text))

  size : Size n s
  size = subst (Size n) (sym d) (size_of n r o)

  back_is : back s ≡ pos size.far
  back_is = ap back size.is ∙ to_z-of_z w64 (pos size.far) (record { sfits = size.fits })

  pub said_above : (first ≡ 45 → ⊥) → z ≡ back s → result_unwrap_or q (pos 0) ≡ position text
  said_above h k =
      narrow_above size.far q (subst (λ (y : ℤ). OkIff q (SFits w32 y) y) (k ∙ back_is) u)
      ∙ above_far size.far n size.near
      ∙ ap above e
      ∙ sym (ap by_first (ne_eqb (get_or text 0 0) 45 (λ (k : get_or text 0 0 ≡ 45). h (f ∙ k))))

  pub said_below : first ≡ 45 → z ≡ back (pos 0 -ℤ back s) → result_unwrap_or q (pos 0) ≡ position text
  said_below h k =
      let m : back (pos 0 -ℤ back s) ≡ pos 0 -ℤ pos size.far =
      ap (λ (y : ℤ). back (pos 0 -ℤ y)) back_is ∙ to_z-of_z w64 (pos 0 -ℤ pos size.far) (minus_fits size.far size.fits) in
      narrow_below size.far q (subst (λ (y : ℤ). OkIff q (SFits w32 y) y) (k ∙ m) u)
      ∙ below_far size.far n size.near
      ∙ ap below e
      ∙ sym (ap by_first (eq-eqb (get_or text 0 0) 45 (sym f ∙ h)))
