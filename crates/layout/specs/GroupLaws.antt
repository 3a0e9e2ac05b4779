-- The order of groups: cut where blocks begin, and the tests that no group is lost.
use Rattle.std.specs.Prelude.{ℕ, suc, Bool, true, false, not, cond, ◌&&◌, ◌⊎◌, eqb, ◌≡◌, refl}
use Rattle.std.proofs.Common.{true≢false, inl, inr, eq-eqb, ne_eqb, sym, ap, ◌∙◌}
use mathlib.Core.List.Memᴰ
use mathlib.Core.List.{List, [], ◌∷◌, ◌++◌, Memᴰ}
use Rattle.std.proofs.lemmas.Bool.{eqb-false}
use Rattle.layout.specs.Refusals.{first_of, or_else}
use Rattle.layout.specs.RefusalLaws.{first_append}
use Rattle.layout.specs.Groups.{Group, rank, opening, inside, Grouped, rows_of, in_order, ordered}
use Rattle.layout.specs.Groups.{pages, lengths, buffers, headers, block, own, slot, full, payload, place, pair}

-- no group is named twice: a computed test, so that no row is lost
abbrev pub names : Group → List Grouped → Bool
names g [] = false
names g (x ∷ xs) = cond (eqb (rank g) (rank x.group)) true (names g xs)

abbrev pub once : List Grouped → Bool
once [] = true
once (x ∷ xs) = not (names x.group xs) && once xs

-- the order, cut where blocks begin
pub in_halves : (gs : List Grouped) → first_of (ordered gs) ≡ or_else (first_of (in_order opening gs)) (first_of (in_order inside gs))
unfolding ordered
in_halves gs = first_append (in_order opening gs) (in_order inside gs)

-- each group stands in the order just once
abbrev times : Group → List Group → ℕ
times g [] = 0
times g (h ∷ hs) = cond (eqb (rank g) (rank h)) (suc (times g hs)) (times g hs)

pub each_once : (g : Group) → times g (opening ++ inside) ≡ 1
each_once pages = refl
each_once lengths = refl
each_once buffers = refl
each_once headers = refl
each_once block = refl
each_once own = refl
each_once slot = refl
each_once full = refl
each_once payload = refl
each_once place = refl
each_once pair = refl

-- where no group is named twice, the rows of each are just those that the call gives it
named : (g : Group) (gs : List Grouped) (x : Grouped) → Memᴰ x gs → names g gs ≡ false → rank g ≡ rank x.group → ⊥
named g [] x m e h = Memᴰ.not-nil m
named g (y ∷ ys) x m e h = go (eqb (rank g) (rank y.group)) refl e (named g ys x) (Memᴰ.cases_cons m)
  where
    go : (t : Bool) → eqb (rank g) (rank y.group) ≡ t → cond t true (names g ys) ≡ false
        → (Memᴰ x ys → names g ys ≡ false → rank g ≡ rank x.group → ⊥) → (x ≡ y) ⊎ Memᴰ x ys → ⊥
    go true p q rest c = true≢false q
    go false p q rest (inl f) = eqb-false (rank g) (rank y.group) p (h ∙ ap (λ (z : Grouped). rank z.group) f)
    go false p q rest (inr n) = rest n q h

pub none_lost : (gs : List Grouped) → once gs ≡ true → (x : Grouped) → Memᴰ x gs → rows_of x.group gs ≡ x.rows
none_lost [] e x m = absurd (Memᴰ.not-nil m)
none_lost (y ∷ ys) e x m = go (names y.group ys) refl e (none_lost ys) (Memᴰ.cases_cons m)
  where
    go : (t : Bool) → names y.group ys ≡ t → (not t && once ys) ≡ true
        → (once ys ≡ true → (x : Grouped) → Memᴰ x ys → rows_of x.group ys ≡ x.rows)
        → (x ≡ y) ⊎ Memᴰ x ys → rows_of x.group (y ∷ ys) ≡ x.rows
    go true p q rest c = absurd (true≢false (sym q))
    go false p q rest (inl f) = rw (eq-eqb (rank x.group) (rank y.group) (ap (λ (z : Grouped). rank z.group) f))
        (ap (λ (z : Grouped). z.rows) (sym f))
    go false p q rest (inr n) =
        rw (ne_eqb (rank x.group) (rank y.group) (λ r. named y.group ys x n p (sym r))) (rest q x n)
