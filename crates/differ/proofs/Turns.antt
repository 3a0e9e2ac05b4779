-- A turn of each loop of differ.
use Prim.Native.Nat.{ℕ, ◌+◌, ◌-◌, ◌*◌, ◌≤◌, ◌<◌, min}
use native.Mathlib.Omega.{arith}
use native.Mathlib.Nat.{add-mul}
use native.Mathlib.Decide.{dec_lt}
use mathlib.Core.Path.{◌≡◌, refl, sym, ap, ◌∙◌}
use mathlib.Core.Bool.{Bool, true, false, not, ◌&&◌, ◌||◌, true≢false}
use mathlib.Core.Logic.{◌⊎◌, inl, inr}
use mathlib.Core.List.{List, [], ◌∷◌}
use lib.Dec.{eqb, leb}
use lib.ListN.{length, get_or}
use lib.Pointwise.{pointwise}
use mir.Val.{bool_byte}
use borrow.Author.Tests.{eqb-true, eqb-false, le-leb, lt-leb}
use Rattle.span.specs.Bytes.{same}
use Rattle.differ.specs.Differ.{chunk, next_diff, Same, differs_at, diffs_in, NextChunk, has_chunk}
use Rattle.differ.specs.DifferLaws.{next_skip, diffs_next, has_whole, has_part}

-- no byte is passed yet
pub same_none : (a b : List ℕ) (at to : ℕ) → to ≤ at → Same a b at to
unfolding Same
same_none a b at to h j k m = absurd (omega arith)

-- one equal byte more
pub same_next : (a b : List ℕ) (at to : ℕ) → Same a b at to → get_or a to 0 ≡ get_or b to 0 → Same a b at (to + 1)
unfolding Same
same_next a b at to s e j k m =
    elim (dec_lt j to) [
      | yes h ↦ s j k h
      | no h ↦
          let q : j ≡ to = omega arith in
          ap (λ (p : ℕ). get_or a p 0) q ∙ e ∙ ap (λ (p : ℕ). get_or b p 0) (sym q)
    ]

-- a comparison has passed one byte more
pub seen_same : (a b : List ℕ) (at i : ℕ) (seen : Bool) → (seen ≡ false → Same a b at (at + i))
    → (seen || not (eqb (get_or a (at + i) 0) (get_or b (at + i) 0))) ≡ false → Same a b at (at + (i + 1))
seen_same a b at i true s h = absurd (true≢false h)
seen_same a b at i false s h = go (eqb (get_or a (at + i) 0) (get_or b (at + i) 0)) refl h
  where
    q : at + i + 1 ≡ at + (i + 1)
    q = omega arith

    go : (t : Bool) → eqb (get_or a (at + i) 0) (get_or b (at + i) 0) ≡ t → not t ≡ false → Same a b at (at + (i + 1))
    go true e k = rw q at (same_next a b at (at + i) (s refl) (eqb-true (get_or a (at + i) 0) (get_or b (at + i) 0) e))
    go false e k = absurd (true≢false k)

-- and it has seen a byte that differs
pub seen_unlike : (a b : List ℕ) (at i : ℕ) (seen : Bool) → (seen ≡ true → Same a b at (at + i) → ⊥)
    → (seen || not (eqb (get_or a (at + i) 0) (get_or b (at + i) 0))) ≡ true → Same a b at (at + (i + 1)) → ⊥
unfolding Same
seen_unlike a b at i true u h s = u refl (λ j k m. s j k (omega arith))
seen_unlike a b at i false u h s = go (eqb (get_or a (at + i) 0) (get_or b (at + i) 0)) refl h
  where
    go : (t : Bool) → eqb (get_or a (at + i) 0) (get_or b (at + i) 0) ≡ t → not t ≡ true → ⊥
    go true e k = true≢false (sym k)
    go false e k = eqb-false (get_or a (at + i) 0) (get_or b (at + i) 0) e (s (at + i) (omega arith) (omega arith))

-- how far the grid is passed: whole steps, with equal bytes
pub record Stepped (width : ℕ) (a b : List ℕ) (from end at : ℕ) : Type 0 where
  pub steps : ℕ
  pub on : at ≡ from + steps * width
  pub within : at ≤ end
  pub alike : Same a b from at

pub stepped_none : (width : ℕ) (a b : List ℕ) (from end : ℕ) → from ≤ end → Stepped width a b from end from
stepped_none width a b from end h = record { steps = 0; on = omega arith; within = h; alike = same_none a b from from (omega arith) }

module _ (width : ℕ) (a b : List ℕ) (from end at : ℕ) (p : Stepped width a b from end at) where
  -- a step more
  pub stepped_more : at + width ≤ end → Same a b at (at + width) → Stepped width a b from end (at + width)
  unfolding Same
  stepped_more h s = record {
    steps = p.steps + 1;
    on = omega (arith, p.on, add-mul p.steps 1 width);
    within = h;
    alike =
        λ i k m.
        elim (dec_lt i at) [
          | yes l ↦ p.alike i k l
          | no l ↦ s i (omega arith) m
        ];
  }

  -- where it stops
  pub stepped_all : end ≡ min (length a) (length b) → (at + width ≤ end → Same a b at (at + width) → ⊥) → NextChunk width a b from at
  stepped_all e d = record {
    steps = p.steps;
    on = p.on;
    within = λ h. (omega (arith, p.within), omega (arith, p.within));
    alike = p.alike;
    differ = λ h k s. d (omega arith) s;
  }

-- a place that neither list reaches
pub stepped_past : (width : ℕ) (a b : List ℕ) (from : ℕ) → 1 ≤ width → min (length a) (length b) ≤ from → NextChunk width a b from from
stepped_past width a b from o h = record {
  steps = 0;
  on = omega arith;
  within = λ k. absurd (omega arith);
  alike = same_none a b from from (omega arith);
  differ = λ k l s. omega arith;
}

-- equal bytes are passed over
pub skipped : (a b : List ℕ) (from at to : ℕ) → at ≤ to → to ≤ length a → to ≤ length b → next_diff a b from ≡ next_diff a b at → Same a b at to
    → next_diff a b from ≡ next_diff a b to
skipped a b from at to h la lb e s = e ∙ next_skip a b at to h la lb s

-- a count has passed one byte more
pub counted_next : (a b : List ℕ) (at i count : ℕ) → count ≡ diffs_in a b at i
    → count + bool_byte (not (eqb (get_or a (at + i) 0) (get_or b (at + i) 0))) ≡ diffs_in a b at (i + 1)
unfolding differs_at
counted_next a b at i count e =
    omega (arith, diffs_next a b at i, byte (eqb (get_or a (at + i) 0) (get_or b (at + i) 0)))
  where
    byte : (t : Bool) → bool_byte (not t) ≡ elim t as (λ _. ℕ) [ true ↦ 0 | false ↦ 1 ]
    byte true = refl
    byte false = refl

-- one equal byte more, before the others
pub same_before : (a b : List ℕ) (at to : ℕ) → Same a b at to → get_or a (at - 1) 0 ≡ get_or b (at - 1) 0 → Same a b (at - 1) to
unfolding Same
same_before a b at to s e j k m =
    elim (dec_lt j at) [
      | yes h ↦
          let q : j ≡ at - 1 = omega arith in
          ap (λ (p : ℕ). get_or a p 0) q ∙ e ∙ ap (λ (p : ℕ). get_or b p 0) (sym q)
      | no h ↦ s j (omega arith) m
    ]

-- what the shorter of two lists does not reach, one of them does not
pub shorter_of : (l m n : ℕ) → min l m < n → (l < n) ⊎ (m < n)
shorter_of l m n h =
    elim (dec_lt l n) [
      | yes k ↦ inl k
      | no k ↦ inr (omega arith)
    ]

-- whether the chunk is whole, as the code asks it
pub has_asked : (a b : List ℕ) (at end : ℕ) → end ≡ min (length a) (length b) → leb chunk (end - at) ≡ has_chunk a b at
has_asked a b at end e =
    elim (dec_lt (end - at) chunk) [
      | yes h ↦ lt-leb chunk (end - at) h ∙ sym (has_part a b at (shorter_of (length a) (length b) (at + chunk) (omega arith)))
      | no h ↦ le-leb chunk (end - at) (omega arith) ∙ sym (has_whole a b at (omega arith) (omega arith))
    ]

-- the library's comparison of bytes is `same`
pub same_bytes : (xs ys : List ℕ) → pointwise eqb xs ys ≡ same xs ys
unfolding same
same_bytes [] [] = refl
same_bytes [] (y ∷ ys) = refl
same_bytes (x ∷ xs) [] = refl
same_bytes (x ∷ xs) (y ∷ ys) = ap (λ (t : Bool). eqb x y && t) (same_bytes xs ys)
