-- The last position, said of places and by no walk: of changes that rise, and of two pages.
use Rattle.std.specs.Prelude.{ℕ, ◌+◌, ◌≤◌, ◌<◌, ◌≡◌, refl, Bool, true, false, List, [], ◌∷◌, ◌↔◌, eqb, length, get_or, pos}
use Rattle.std.proofs.Common.{arith, sym, ap, ◌∙◌, inl, inr, eqb-true}
use Rattle.std.proofs.Math.Decide.{dec_lt}
use Rattle.std.proofs.lemmas.Bool.{eqb-false}
use Rattle.payload.specs.Entries.{start}
use Rattle.writer.specs.Differences.{Change, diffs, last_place}
use Rattle.writer.specs.Writer.{In, Rising, diffs_rising, Differing, diffs_exact}

-- one of the changes stands at i, and none later
pub record LastOf (cs : List Change) (i : ℕ) : Type 0 where
  pub change : Change
  pub listed : In change cs
  pub at : change.place ≡ i
  pub latest : (c : Change) → In c cs → c.place ≤ i

-- place i differs, and no later one does
pub record LastDiffers (base page : List ℕ) (i : ℕ) : Type 0 where
  pub within : i < length page
  pub differ : get_or base i 0 ≡ get_or page i 0 → ⊥
  pub alike : (j : ℕ) → i < j → j < length page → get_or base j 0 ≡ get_or page j 0

-- of changes that rise there is a last one, and the walk finds it
record Reached (c : Change) (cs : List Change) : Type 0 where
  index : ℕ
  found : last_place (pos c.place) cs ≡ pos index
  is_last : LastOf (c ∷ cs) index

reached : (c : Change) (cs : List Change) → Rising (c.place + 1) cs → Reached c cs
unfolding last_place
reached c [] r =
    record {
      index = c.place;
      found = refl;
      is_last = record { change = c; listed = inl refl; at = refl; latest = λ d m. only d m };
    }
  where
    only : (d : Change) → In d (c ∷ []) → d.place ≤ c.place
    only d (inl e) = let q : d.place ≡ c.place = ap (λ (x : Change). x.place) e in omega arith
    only d (inr m) = absurd m
reached c (d ∷ ds) r =
    let rest : Reached d ds = reached d ds r.1 in
    let l : LastOf (d ∷ ds) rest.index = rest.is_last in
    let first : d.place ≤ rest.index = l.latest d (inl refl) in
    record {
      index = rest.index;
      found = rest.found;
      is_last = record { change = l.change; listed = inr l.listed; at = l.at; latest = λ x m. all x rest.index l first m };
    }
  where
    all : (x : Change) (i : ℕ) → LastOf (d ∷ ds) i → d.place ≤ i → In x (c ∷ d ∷ ds) → x.place ≤ i
    all x i l h (inl e) = let q : x.place ≡ c.place = ap (λ (y : Change). y.place) e in omega (arith, r.0)
    all x i l h (inr m) = l.latest x m

last_one : (cs : List Change) (i j : ℕ) → LastOf cs i → LastOf cs j → i ≡ j
last_one cs i j p q = omega (arith, p.latest q.change q.listed, q.at, q.latest p.change p.listed, p.at)

pub last_some : (next : ℕ) (cs : List Change) → Rising next cs → (i : ℕ) → (last_place start cs ≡ pos i) ↔ LastOf cs i
unfolding last_place
last_some next [] r i = (λ e. let z : ◌≡◌ {A = ℕ} 0 1 = cc in absurd (omega arith), λ l. absurd l.listed)
last_some next (c ∷ cs) r i =
    let w : Reached c cs = reached c cs r.1 in (
      λ e. let q : w.index ≡ i = same_pos (sym w.found ∙ e) in carried w.index q w.is_last,
      λ l. w.found ∙ ap pos (last_one (c ∷ cs) w.index i w.is_last l),
    )
  where
    same_pos : {m n : ℕ} → pos m ≡ pos n → m ≡ n
    same_pos e = cc

    carried : (m : ℕ) → m ≡ i → LastOf (c ∷ cs) m → LastOf (c ∷ cs) i
    carried m q l = record { change = l.change; listed = l.listed; at = l.at ∙ q; latest = λ d n. omega (arith, l.latest d n) }

pub last_none : (next : ℕ) (cs : List Change) → Rising next cs → (last_place start cs ≡ start) ↔ (cs ≡ [])
unfolding last_place
last_none next [] r = (λ e. refl, λ e. refl)
last_none next (c ∷ cs) r =
    let w : Reached c cs = reached c cs r.1 in
    let f : last_place (pos c.place) cs ≡ pos w.index = w.found in (
      λ e. let z : ◌≡◌ {A = ℕ} 0 1 = cc in absurd (omega arith),
      λ e. let z : ◌≡◌ {A = ℕ} 0 1 = cc in absurd (omega arith),
    )

-- the change at a place
abbrev change_at : List ℕ → ℕ → Change
change_at page j = record { place = j; value = get_or page j 0 }

-- "the last differing position"
pub last_differs : (base page : List ℕ) → length base ≡ length page → (i : ℕ)
    → (last_place start (diffs 0 base page) ≡ pos i) ↔ LastDiffers base page i
last_differs base page l i = (λ e. there ((last_some 0 (diffs 0 base page) (diffs_rising 0 base page) i).0 e), back)
  where
    listed : (j : ℕ) → j < length page → (get_or base j 0 ≡ get_or page j 0 → ⊥) → In (change_at page j) (diffs 0 base page)
    listed j h d = (diffs_exact base page (change_at page j)).1 (record { in_base = omega arith; within_page = h; differ = d; value = refl })

    there : LastOf (diffs 0 base page) i → LastDiffers base page i
    there w =
        let d : Differing base page w.change = (diffs_exact base page w.change).0 w.listed in
        record {
          within = omega (arith, d.within_page, w.at);
          differ = λ q. d.differ
              (ap (λ (k : ℕ). get_or base k 0) w.at ∙ q ∙ ap (λ (k : ℕ). get_or page k 0) (sym w.at));
          alike = λ j h k. later j h k (eqb (get_or base j 0) (get_or page j 0)) refl;
        }
      where
        later : (j : ℕ) → i < j → j < length page → (t : Bool) → eqb (get_or base j 0) (get_or page j 0) ≡ t → get_or base j 0 ≡ get_or page j 0
        later j h k true e = eqb-true (get_or base j 0) (get_or page j 0) e
        later j h k false e = absurd (omega (arith, w.latest (change_at page j) (listed j k (eqb-false (get_or base j 0) (get_or page j 0) e))))

    back : LastDiffers base page i → last_place start (diffs 0 base page) ≡ pos i
    back w =
        (last_some 0 (diffs 0 base page) (diffs_rising 0 base page) i).1
        (record {
          change = change_at page i;
          listed = listed i w.within w.differ;
          at = refl;
          latest = λ c m. most c m;
        })
      where
        most : (c : Change) → In c (diffs 0 base page) → c.place ≤ i
        most c m =
            let d : Differing base page c = (diffs_exact base page c).0 m in
            elim (dec_lt i c.place) [
              | yes h ↦ absurd (d.differ (w.alike c.place h d.within_page))
              | no h ↦ omega arith
            ]
