-- The laws of the marks of words: joined, and the lowest of them.
use Prim.Native.Nat.{ℕ, zero, suc, ◌+◌, ◌-◌, ◌*◌, ◌/◌, ◌%◌, ◌^◌, ◌≤◌, ◌<◌, min}
use native.Mathlib.Omega.{arith}
use Rattle.std.proofs.Common.{mul_assoc, suc-mul, sym, ap, ◌∙◌, pow-add}
use Rattle.std.proofs.Math.Decide.{dec_lt}
use Rattle.std.specs.Prelude.{◌≡◌, Bool, List}
use Rattle.std.proofs.Math.Path.{refl, subst}
use Rattle.std.proofs.Math.Bool.{true, false}
use Rattle.std.specs.Int.Bits.{bit_and, bit_xor, and_step, and_self, and_zero_l, xor_self}
use Rattle.std.proofs.lemmas.Nat.{and_block}
use Rattle.std.specs.Int.Count.{count_trailing_zeros}
use Rattle.std.proofs.Math.Dec.{eqb}
use borrow.Author.Tests.{eqb-true}
use Rattle.differ.specs.Differ.{Same}
use Rattle.writer.specs.Words.{word_bytes, numeral, one_unless, marked, marks, FirstMark}
use Rattle.writer.specs.WordLaws.{Bytes, unlike_none, zeros_even, zeros_odd}

pub marked_few : (a b : List ℕ) (at : ℕ) → marked a b at ≤ 1
unfolding marked
marked_few a b at = go (eqb (numeral a at word_bytes) (numeral b at word_bytes))
  where
    go : (t : Bool) → one_unless t ≤ 1
    go true = omega arith
    go false = omega arith

pow_suc_two : (k : ℕ) → 2 ^ suc k ≡ 2 ^ k * 2
pow_suc_two k =
    let q : suc k ≡ k + 1 = omega arith in
    ap (λ (i : ℕ). 2 ^ i) q ∙ pow-add 2 k 1

pub pow_some : (j : ℕ) → 0 < 2 ^ j
pow_some zero = omega arith
pow_some (suc j) = omega (arith, pow_suc_two j, pow_some j)

pub marks_below : (a b : List ℕ) (k at : ℕ) → marks a b at k < 2 ^ k
unfolding marks
marks_below a b zero at = omega arith
marks_below a b (suc k) at = omega (arith, pow_suc_two k, marked_few a b at, marks_below a b k (at + word_bytes))

-- one word more
pub marks_more : (a b : List ℕ) (k at : ℕ) → marks a b at (k + 1) ≡ marked a b (at + word_bytes * k) * 2 ^ k + marks a b at k
unfolding marks
marks_more a b zero at =
    let q : at + word_bytes * 0 ≡ at = omega arith in
    let e : marked a b (at + word_bytes * 0) ≡ marked a b at = ap (marked a b) q in
    omega arith
marks_more a b (suc k) at =
    let h : suc k + 1 ≡ suc (k + 1) = omega arith in
    let e : marks a b at (suc k + 1) ≡ marks a b at (suc (k + 1)) = ap (λ (i : ℕ). marks a b at i) h in
    let q : at + word_bytes * suc k ≡ at + word_bytes + word_bytes * k = omega arith in
    let d : ℕ = marked a b (at + word_bytes + word_bytes * k) in
    let f : marked a b (at + word_bytes * suc k) * 2 ^ suc k ≡ d * 2 ^ k * 2 =
    (λ i. marked a b (q i) * pow_suc_two k i) ∙ sym (mul_assoc d (2 ^ k) 2) in
    omega (arith, marks_more a b k (at + word_bytes))

module _ (a b : List ℕ) (wa : Bytes a) (wb : Bytes b) where
  -- a word without a mark is the same in both
  pub marked_none : (at : ℕ) → marked a b at ≡ 0 → Same a b at (at + word_bytes)
  unfolding marked
  marked_none at = go (eqb (numeral a at word_bytes) (numeral b at word_bytes)) refl
    where
      go : (t : Bool) → eqb (numeral a at word_bytes) (numeral b at word_bytes) ≡ t → one_unless t ≡ 0 → Same a b at (at + word_bytes)
      go true s e =
          let same : numeral a at word_bytes ≡ numeral b at word_bytes = eqb-true (numeral a at word_bytes) (numeral b at word_bytes) s in
          unlike_none a b wa wb word_bytes at (ap (λ (v : ℕ). bit_xor v (numeral b at word_bytes)) same ∙ xor_self (numeral b at word_bytes))
      go false s e = absurd (omega arith)

  same_then : (at to end : ℕ) → Same a b at to → Same a b to end → Same a b at end
  unfolding Same
  same_then at to end f g i h l =
      elim (dec_lt i to) [
        | yes o ↦ f i h o
        | no o ↦ g i (omega arith) l
      ]

  same_none : (at to : ℕ) → to ≤ at → Same a b at to
  unfolding Same
  same_none at to e i h l = absurd (omega arith)

  -- nor is any
  pub marks_none : (k at : ℕ) → marks a b at k ≡ 0 → Same a b at (at + word_bytes * k)
  unfolding marks
  marks_none zero at e = same_none at (at + word_bytes * 0) (omega arith)
  marks_none (suc k) at e =
      let q : at + word_bytes * suc k ≡ at + word_bytes + word_bytes * k = omega arith in
      subst (λ (n : ℕ). Same a b at n) (sym q)
      (same_then at (at + word_bytes) (at + word_bytes + word_bytes * k) (marked_none at (omega arith)) (marks_none k (at + word_bytes) (omega arith)))

  -- the lowest mark

  -- the first word differs
  first_here : (at k x m i : ℕ) → x ≡ marks a b (at + word_bytes) k * 2 + 1 → i ≡ count_trailing_zeros (suc m) x → FirstMark a b at (suc k) x i
  first_here at k x m i e q =
      let y : ℕ = marks a b (at + word_bytes) k in
      let is : i ≡ 0 = q ∙ zeros_odd m x (omega arith) in
      let up : x / 2 ≡ y = omega arith in
      let low : (x - 1) / 2 ≡ y = omega arith in
      let odd : x % 2 ≡ 1 = omega arith in
      let even : (x - 1) % 2 ≡ 0 = omega arith in
      let cut : bit_and x (x - 1) ≡ y * 2 =
      and_step x (x - 1) ∙ (λ l. bit_and (up l) (low l) * 2 + min (odd l) (even l)) ∙ (λ l. and_self y l * 2 + 0) ∙ omega arith in
      let then : at + word_bytes ≡ at + word_bytes * (i + 1) = omega arith in
      let many : k ≡ suc k - (i + 1) = omega arith in
      let far : 1 ≡ i + 1 = omega arith in
      record {
        within = omega arith;
        alike = same_none at (at + word_bytes * i) (omega arith);
        left = cut ∙ (λ l. marks a b (then l) (many l) * 2 ^ (far l));
      }

  -- the first word is alike: what the others tell
  first_later : (at k x m i : ℕ) → x ≡ marks a b (at + word_bytes) k * 2 → (x ≡ 0 → ⊥) → Same a b at (at + word_bytes)
      → FirstMark a b (at + word_bytes) k (marks a b (at + word_bytes) k) (count_trailing_zeros m (marks a b (at + word_bytes) k))
      → i ≡ count_trailing_zeros (suc m) x → FirstMark a b at (suc k) x i
  first_later at k x m i e n same f q =
      let y : ℕ = marks a b (at + word_bytes) k in
      let j : ℕ = count_trailing_zeros m y in
      let up : x / 2 ≡ y = omega arith in
      let is : i ≡ suc j = q ∙ zeros_even m x (omega arith) ∙ ap (λ (v : ℕ). suc (count_trailing_zeros m v)) up in
      let low : (x - 1) / 2 ≡ y - 1 = omega arith in
      let even : x % 2 ≡ 0 = omega arith in
      let odd : (x - 1) % 2 ≡ 1 = omega arith in
      let rest : ℕ = marks a b (at + word_bytes + word_bytes * (j + 1)) (k - (j + 1)) in
      let cut : bit_and x (x - 1) ≡ rest * 2 ^ (j + 1) * 2 =
      and_step x (x - 1) ∙ (λ l. bit_and (up l) (low l) * 2 + min (even l) (odd l)) ∙ (λ l. f.left l * 2 + 0) ∙ omega arith in
      let then : at + word_bytes + word_bytes * (j + 1) ≡ at + word_bytes * (i + 1) = omega arith in
      let many : k - (j + 1) ≡ suc k - (i + 1) = omega arith in
      let far : suc (j + 1) ≡ i + 1 = omega arith in
      let here : at + word_bytes + word_bytes * j ≡ at + word_bytes * i = omega arith in
      record {
        within = omega (arith, f.within);
        alike = subst (λ (n : ℕ). Same a b at n) here (same_then at (at + word_bytes) (at + word_bytes + word_bytes * j) same f.alike);
        left =
            cut ∙ mul_assoc rest (2 ^ (j + 1)) 2 ∙ ap (λ (v : ℕ). rest * v) (sym (pow_suc_two (j + 1)))
            ∙ (λ l. marks a b (then l) (many l) * 2 ^ (far l));
      }

  pub first_mark : (k at m x i : ℕ) → k ≤ m → x ≡ marks a b at k → (x ≡ 0 → ⊥) → i ≡ count_trailing_zeros m x → FirstMark a b at k x i
  unfolding marks
  first_mark zero at m x i h e n q = absurd (n e)
  first_mark (suc k) at zero x i h e n q = absurd (omega arith)
  first_mark (suc k) at (suc m) x i h e n q =
      elim (dec_lt (marked a b at) 1) [
        | yes o ↦
            let y : ℕ = marks a b (at + word_bytes) k in
            let twice : x ≡ y * 2 = omega arith in
            first_later at k x m i twice n (marked_none at (omega arith))
            (first_mark k (at + word_bytes) m y (count_trailing_zeros m y) (omega arith) refl (λ z. n (omega arith)) refl) q
        | no o ↦ first_here at k x m i (omega (arith, marked_few a b at)) q
      ]

-- the lowest mark of a number that was moved up j digits
pub cut_shifted : (j y : ℕ) → (y ≡ 0 → ⊥) → bit_and (y * 2 ^ j) (y * 2 ^ j - 1) ≡ bit_and y (y - 1) * 2 ^ j
cut_shifted j zero n = absurd (n refl)
cut_shifted j (suc z) n =
    let p : ℕ = 2 ^ j in
    let some : 0 < p = pow_some j in
    let b : suc z * p ≡ z * p + p = suc-mul z p in
    let up : suc z * p ≡ suc z * p + 0 = omega arith in
    let low : suc z * p - 1 ≡ z * p + (p - 1) = omega arith in
    let q : suc z - 1 ≡ z = omega arith in
    (λ l. bit_and (up l) (low l)) ∙ and_block j (suc z) z 0 (p - 1) (omega arith) (omega arith)
    ∙ (λ l. bit_and (suc z) (sym q l) * p + and_zero_l (p - 1) l)
    ∙ omega arith
