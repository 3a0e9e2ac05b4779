-- The numbers of the writer's stream: what one difference, and what several that stand close together, add to them, over plain lists.
use Prim.Native.Nat.{ℕ, zero, suc, ◌+◌, ◌-◌, ◌*◌, ◌≤◌, ◌<◌, min}
use native.Mathlib.Omega.{arith}
use native.Mathlib.Decide.{dec_lt}
use mathlib.Core.Path.{◌≡◌, refl, sym, ap, ◌∙◌, subst}
use mathlib.Core.Bool.{Bool, true, false, cond}
use mathlib.Core.Logic.{◌⊎◌, inl, inr}
use mathlib.Core.List.{List, [], ◌∷◌, ◌++◌}
use lib.Dec.{eqb}
use lib.ListN.{length, take, drop, get_or, length-append, drop_of_length-le}
use lib.Seq.{take-nil}
use lib.IntN.{ℤ}
use borrow.Author.Tests.{lt-ltb, le-ltb, eq-eqb, ne_eqb, eqb-true, eqb-false}
use Rattle.differ.specs.Differ.{next_diff, Same, differs_at, diffs_in}
use Rattle.differ.specs.DifferLaws.{NextAt, next_at, diffs_none, diffs_first, diffs_few, alike_at, unlike_at, Near}
use Rattle.layout.specs.Numbers.{le}
use Rattle.writer.specs.Differences.{Change, diffs, spelled, coded, written, last_place}
use Rattle.writer.specs.Steps.{before, width_of, rest, Counted, Numbers}
use Rattle.writer.specs.declared.Difference.{Difference}
use Rattle.writer.specs.ReadBack.{before_next}
use Rattle.span.specs.Laws.{peel}

-- How wide an entry is

pub width_short : (jump v : ℕ) → jump < 255 → length (spelled jump v) ≡ 2
unfolding spelled
width_short jump v h = ap (λ (t : Bool). length (cond t (jump ∷ v ∷ []) (255 ∷ (le 2 jump ++ (v ∷ []))))) (lt-ltb jump 255 h)

pub width_long : (jump v : ℕ) → 255 ≤ jump → length (spelled jump v) ≡ 4
unfolding spelled le
width_long jump v h = ap (λ (t : Bool). length (cond t (jump ∷ v ∷ []) (255 ∷ (le 2 jump ++ (v ∷ []))))) (le-ltb jump 255 h)

-- its value does not matter
pub width_is : (jump v : ℕ) → length (spelled jump v) ≡ width_of jump
width_is jump v =
    elim (dec_lt jump 255) [
      | yes h ↦ width_short jump v h ∙ sym (width_short jump 0 h)
      | no h ↦ width_long jump v (omega arith) ∙ sym (width_long jump 0 (omega arith))
    ]

width_most : (jump : ℕ) → width_of jump ≤ 2 * (jump + 1)
width_most jump =
    elim (dec_lt jump 255) [
      | yes h ↦ omega (arith, width_short jump 0 h)
      | no h ↦ omega (arith, width_long jump 0 (omega arith))
    ]

pub width_least : (jump : ℕ) → 2 ≤ width_of jump
width_least jump =
    elim (dec_lt jump 255) [
      | yes h ↦ omega (arith, width_short jump 0 h)
      | no h ↦ omega (arith, width_long jump 0 (omega arith))
    ]

-- The differences, from a place on

module _ (base page : List ℕ) (at : ℕ) (l : at < length base) (m : at < length page) where
  rest_at : rest base page at ≡ diffs at (get_or base at 0 ∷ drop (at + 1) base) (get_or page at 0 ∷ drop (at + 1) page)
  rest_at =
      ap (λ (xs : List ℕ). diffs at xs (drop at page)) (peel base at (at + 1) l refl)
      ∙ ap (λ (ys : List ℕ). diffs at (get_or base at 0 ∷ drop (at + 1) base) ys) (peel page at (at + 1) m refl)

  abbrev listed : Bool → List Change
  listed t = elim t as (λ _. List Change) [ true ↦ rest base page (at + 1) | false ↦ record { place = at; value = get_or page at 0 } ∷ rest base page (at + 1) ]

  rest_same : get_or base at 0 ≡ get_or page at 0 → rest base page at ≡ rest base page (at + 1)
  unfolding diffs
  rest_same e = rest_at ∙ ap listed (eq-eqb (get_or base at 0) (get_or page at 0) e)

  rest_other : (get_or base at 0 ≡ get_or page at 0 → ⊥) → rest base page at ≡ record { place = at; value = get_or page at 0 } ∷ rest base page (at + 1)
  unfolding diffs
  rest_other d = rest_at ∙ ap listed (ne_eqb (get_or base at 0) (get_or page at 0) d)

-- equal bytes list none
rest_skip : (base page : List ℕ) (k from : ℕ) → from + k ≤ length base → from + k ≤ length page → Same base page from (from + k)
    → rest base page from ≡ rest base page (from + k)
unfolding Same
rest_skip base page zero from l m s =
    let q : from + 0 ≡ from = omega arith in
    ap (λ (j : ℕ). rest base page j) (sym q)
rest_skip base page (suc k) from l m s =
    let q : from + 1 + k ≡ from + suc k = omega arith in
    rest_same base page from (omega arith) (omega arith) (s from (omega arith) (omega arith))
    ∙ rest_skip base page k (from + 1) (omega arith) (omega arith) (λ i h j. s i (omega arith) (omega arith))
    ∙ ap (λ (j : ℕ). rest base page j) q

diffs_right : (q : ℕ) (xs : List ℕ) → diffs q xs [] ≡ []
unfolding diffs
diffs_right q [] = refl
diffs_right q (x ∷ xs) = refl

diffs_left : (q : ℕ) (ys : List ℕ) → diffs q [] ys ≡ []
unfolding diffs
diffs_left q ys = refl

-- lists that are cut past the shorter one's end have the same differences
pub diffs_cut : (n q : ℕ) (xs ys : List ℕ) → min (length xs) (length ys) ≤ n → diffs q (take n xs) (take n ys) ≡ diffs q xs ys
unfolding diffs
diffs_cut n q [] ys h = ap (λ (l : List ℕ). diffs q l (take n ys)) (take-nil n)
diffs_cut n q (x ∷ xs) [] h = ap (λ (l : List ℕ). diffs q (take n (x ∷ xs)) l) (take-nil n) ∙ diffs_right q (take n (x ∷ xs))
diffs_cut zero q (x ∷ xs) (y ∷ ys) h = absurd (omega arith)
diffs_cut (suc n) q (x ∷ xs) (y ∷ ys) h =
    ap (λ (ds : List Change). elim (eqb x y) as (λ _. List Change) [ true ↦ ds | false ↦ record { place = q; value = y } ∷ ds ])
    (diffs_cut n (q + 1) xs ys (omega arith))

module _ (base page : List ℕ) (from at : ℕ) (e : at ≡ next_diff base page from) where
  n : NextAt base page from at
  n = subst (λ (k : ℕ). NextAt base page from k) (sym e) (next_at base page from)

  pub at_on : from ≤ at
  at_on = n.on

  rest_next : rest base page from ≡ rest base page at
  rest_next =
      elim (dec_lt from at) [
        | yes l ↦
            let w : (at ≤ length base) × (at ≤ length page) = n.within l in
            let q : from + (at - from) ≡ at = omega arith in
            rest_skip base page (at - from) from (omega arith) (omega arith) (rw q n.alike) ∙ ap (λ (j : ℕ). rest base page j) q
        | no l ↦
            let q : from ≡ at = omega (arith, n.on) in
            ap (λ (j : ℕ). rest base page j) q
      ]

  pub rest_ends : (length base ≤ at) ⊎ (length page ≤ at) → rest base page from ≡ []
  rest_ends (inl l) = rest_next ∙ ap (λ (xs : List ℕ). diffs at xs (drop at page)) (drop_of_length-le base l) ∙ diffs_left at (drop at page)
  rest_ends (inr l) = rest_next ∙ ap (λ (ys : List ℕ). diffs at (drop at base) ys) (drop_of_length-le page l) ∙ diffs_right at (drop at base)

  pub rest_more : at < length base → at < length page → rest base page from ≡ record { place = at; value = get_or page at 0 } ∷ rest base page (at + 1)
  rest_more l m = rest_next ∙ rest_other base page at l m (n.differ l m)

-- What is passed on the way from a place to r: these bytes of the stream, and so many entries. The stream's last position before was the
-- one before `last`, and the last that is passed is the one before r.
record Passed (base page : List ℕ) (last from bytes count r : ℕ) : Type 0 where
  size : length (coded last (rest base page from)) ≡ bytes + length (coded r (rest base page r))
  many : length (rest base page from) ≡ count + length (rest base page r)
  final : last_place (before last) (rest base page from) ≡ last_place (before r) (rest base page r)

-- a difference
passed_one : (base page : List ℕ) (last from at : ℕ) → rest base page from ≡ record { place = at; value = get_or page at 0 } ∷ rest base page (at + 1)
    → Passed base page last from (width_of (at - last)) 1 (at + 1)
unfolding coded last_place
passed_one base page last from at e =
    let s : List ℕ = spelled (at - last) (get_or page at 0) in
    let after : List ℕ = coded (at + 1) (rest base page (at + 1)) in
    let x : length (s ++ after) ≡ length s + length after = length-append s after in
    let y : length (rest base page from) ≡ suc (length (rest base page (at + 1))) = ap (λ (ds : List Change). length ds) e in
    let z : length (coded last (rest base page from)) ≡ length (s ++ after) = ap (λ (ds : List Change). length (coded last ds)) e in
    record {
      size = omega (arith, width_is (at - last) (get_or page at 0));
      many = omega arith;
      final = ap (λ (ds : List Change). last_place (before last) ds) e ∙ ap (λ (q : ℤ). last_place q (rest base page (at + 1))) (sym (before_next at));
    }

-- differences that stand within a byte's reach of the last position, up to the last of them
passed_near : (base page : List ℕ) (k last from r : ℕ) → from + k ≡ r → last ≤ from → r ≤ last + 255 → (from ≡ r → last ≡ r)
    → (from < r → (r ≤ length base) × (r ≤ length page) × (get_or base (r - 1) 0 ≡ get_or page (r - 1) 0 → ⊥))
    → Passed base page last from (2 * diffs_in base page from k) (diffs_in base page from k) r
passed_near base page zero last from r q o n e w =
    let d : diffs_in base page from 0 ≡ 0 = diffs_none base page from in
    let f : from ≡ r = omega arith in
    let x : length (coded last (rest base page from)) ≡ length (coded r (rest base page r)) =
    ap (λ (i : ℕ). length (coded i (rest base page from))) (e f) ∙ ap (λ (i : ℕ). length (coded r (rest base page i))) f in
    let y : length (rest base page from) ≡ length (rest base page r) = ap (λ (i : ℕ). length (rest base page i)) f in
    record {
      size = omega arith;
      many = omega arith;
      final = ap (λ (i : ℕ). last_place (before i) (rest base page from)) (e f) ∙ ap (λ (i : ℕ). last_place (before r) (rest base page i)) f;
    }
passed_near base page (suc k) last from r q o n e w =
    go (diffs_in base page (from + 1) k) (diffs_first base page from k) (eqb (get_or base from 0) (get_or page from 0)) refl (w (omega arith))
    (λ f. passed_near base page k last (from + 1) r (omega arith) (omega arith) n f (λ _. w (omega arith)))
    (passed_near base page k (from + 1) (from + 1) r (omega arith) (omega arith) (omega arith) (λ f. f) (λ _. w (omega arith)))
  where
    go : (later : ℕ) → diffs_in base page from (suc k) ≡ differs_at base page from + later
        → (t : Bool) → eqb (get_or base from 0) (get_or page from 0) ≡ t
        → (r ≤ length base) × (r ≤ length page) × (get_or base (r - 1) 0 ≡ get_or page (r - 1) 0 → ⊥)
        → ((from + 1 ≡ r → last ≡ r) → Passed base page last (from + 1) (2 * later) later r)
        → Passed base page (from + 1) (from + 1) (2 * later) later r
        → Passed base page last from (2 * diffs_in base page from (suc k)) (diffs_in base page from (suc k)) r
    go later first true t i same_last here =
        let alike : get_or base from 0 ≡ get_or page from 0 = eqb-true (get_or base from 0) (get_or page from 0) t in
        let none : differs_at base page from ≡ 0 = alike_at base page from alike in
        let s : rest base page from ≡ rest base page (from + 1) = rest_same base page from (omega arith) (omega arith) alike in
        let p : Passed base page last (from + 1) (2 * later) later r =
        same_last
        (λ f.
        let j : r - 1 ≡ from = omega arith in
        absurd (i.2 (ap (λ (x : ℕ). get_or base x 0) j ∙ alike ∙ ap (λ (x : ℕ). get_or page x 0) (sym j)))) in
        let x : length (coded last (rest base page from)) ≡ length (coded last (rest base page (from + 1))) =
        ap (λ (ds : List Change). length (coded last ds)) s in
        let y : length (rest base page from) ≡ length (rest base page (from + 1)) = ap (λ (ds : List Change). length ds) s in
        record {
          size = omega (arith, p.size);
          many = omega (arith, p.many);
          final = ap (λ (ds : List Change). last_place (before last) ds) s ∙ p.final;
        }
    go later first false t i same_last here =
        let unlike : get_or base from 0 ≡ get_or page from 0 → ⊥ = eqb-false (get_or base from 0) (get_or page from 0) t in
        let one : differs_at base page from ≡ 1 = unlike_at base page from unlike in
        let two : width_of (from - last) ≡ 2 = width_short (from - last) 0 (omega arith) in
        let d : Passed base page last from (width_of (from - last)) 1 (from + 1) = passed_one base page last from from
        (rest_other base page from (omega arith) (omega arith) unlike) in
        record {
          size = omega (arith, d.size, here.size);
          many = omega (arith, d.many, here.many);
          final = d.final ∙ here.final;
        }

-- What is known after the differences before a place

pub counted_none : (base page : List ℕ) → Counted base page 0 0 0
unfolding written
counted_none base page = record {
  on = omega arith;
  few = omega arith;
  short = omega arith;
  size = omega arith;
  many = omega arith;
  final = refl;
}

module _ (base page : List ℕ) (next used count : ℕ) (w : Counted base page next used count) where
  counted_on : (r b c used' count' : ℕ) → Passed base page next next b c r → r ≤ length page → next + c ≤ r → b + 2 * next ≤ 2 * r → used' ≡ used + b
      → count' ≡ count + c
      → Counted base page r used' count'
  counted_on r b c used' count' p o f g u n = record {
    on = o;
    few = omega (arith, w.few);
    short = omega (arith, w.short);
    size = omega (arith, w.size, p.size);
    many = omega (arith, w.many, p.many);
    final = w.final ∙ p.final;
  }

  module _ (at : ℕ) (e : at ≡ next_diff base page next) where
    pub counted_more : (used' : ℕ) → at < length base → at < length page → used' ≡ used + width_of (at - next) → Counted base page (at + 1) used' (count + 1)
    counted_more used' l m u =
        let o : next ≤ at = at_on base page next at e in
        counted_on (at + 1) (width_of (at - next)) 1 used' (count + 1) (passed_one base page next next at (rest_more base page next at e l m)) (omega arith)
        (omega arith)
        (omega (arith, width_most (at - next))) u refl

    pub counted_all : (d : Difference) → (length base ≤ at) ⊎ (length page ≤ at) → (d.length ≡ used) × (d.entries ≡ count) × (d.last ≡ before next)
        → Numbers base page d
    unfolding coded last_place
    counted_all d k f =
        let r : rest base page next ≡ [] = rest_ends base page next at e k in
        let x : length (coded next (rest base page next)) ≡ 0 = ap (λ (ds : List Change). length (coded next ds)) r in
        let y : length (rest base page next) ≡ 0 = ap (λ (ds : List Change). length ds) r in
        record {
          length = omega (arith, f.0, w.size);
          entries = omega (arith, f.1, w.many);
          last = f.2 ∙ sym (w.final ∙ ap (λ (ds : List Change). last_place (before next) ds) r);
        }

-- and those that stand close after it
pub counted_near : (base page : List ℕ) (next used count : ℕ) → Counted base page next used count → (r some : ℕ) → Near base page next r some
    → (used' count' : ℕ) → used' ≡ used + 2 * some → count' ≡ count + some → Counted base page r used' count'
counted_near base page next used count w r some m used' count' u n =
    let k : ℕ = r - next in
    let e : some ≡ diffs_in base page next k = m.counted in
    let few : diffs_in base page next k ≤ k = diffs_few base page next k in
    let o : next ≤ r = m.on in
    let on : r ≤ length page =
    elim (dec_lt next r) [
      | yes h ↦ (m.within h).1
      | no h ↦ omega (arith, w.on)
    ] in
    let p : Passed base page next next (2 * diffs_in base page next k) (diffs_in base page next k) r =
    passed_near base page k next next r (omega arith) (omega arith) m.near (λ f. f) (λ h. ((m.within h).0, (m.within h).1, m.differ h)) in
    counted_on base page next used count w r (2 * diffs_in base page next k) (diffs_in base page next k) used' count' p on (omega arith) (omega arith)
    (omega arith) (omega arith)
