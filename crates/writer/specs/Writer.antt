-- The writer's stream, said of places: its entries stand at exactly the differing positions, in rising order, with the modified page's
-- values, each by its jump's own code.
use Rattle.std.specs.Prelude.{ℕ, zero, suc, ◌+◌, ◌-◌, ◌≤◌, ◌<◌, ◌≡◌, refl, Bool, true, false, List, [], ◌∷◌, ◌++◌, ◌↔◌, ◌⊎◌, eqb, ltb, length, get_or}
use Rattle.std.proofs.Common.{arith, sym, ap, ◌∙◌, subst, inl, inr, eqb-true, ltb-true, ltb-false, lt-ltb, le-ltb}
use Rattle.std.proofs.lemmas.Bool.{eqb-false}
use Rattle.writer.specs.Differences.{Change, diffs, spelled, coded, written}
use Rattle.payload.specs.Spelling.{Form, short, long, Spelt, takes, bytes, joined, Coded}

-- a change is one of a list's
abbrev pub In : Change → List Change → Type 0
In c [] = ⊥
In c (d ∷ ds) = (c ≡ d) ⊎ In c ds

-- places that rise, from `next` on
abbrev pub Rising : ℕ → List Change → Type 0
Rising next [] = Unit {0}
Rising next (c ∷ cs) = (next ≤ c.place) × Rising (c.place + 1) cs

abbrev pub Below : ℕ → List Change → Type 0
Below n [] = Unit {0}
Below n (c ∷ cs) = (c.place < n) × Below n cs

-- a byte that differs, and the modified page's value there
pub record Differing (base page : List ℕ) (c : Change) : Type 0 where
  pub in_base : c.place < length base
  pub within_page : c.place < length page
  pub differ : get_or base c.place 0 ≡ get_or page c.place 0 → ⊥
  pub value : c.value ≡ get_or page c.place 0

-- The list of differences: rising, in the page, each of them differs, and each that differs is in it

pub diffs_rising : (q : ℕ) (xs ys : List ℕ) → Rising q (diffs q xs ys)
unfolding diffs
diffs_rising q [] ys = tt {0}
diffs_rising q (x ∷ xs) [] = tt {0}
diffs_rising q (x ∷ xs) (y ∷ ys) = go (eqb x y) (diffs_rising (q + 1) xs ys)
  where
    lower : (ds : List Change) → Rising (q + 1) ds → Rising q ds
    lower [] r = tt {0}
    lower (c ∷ cs) r = (omega (arith, r.0), r.1)

    go : (t : Bool) → Rising (q + 1) (diffs (q + 1) xs ys)
        → Rising q (elim t as (λ _. List Change) [
          | true ↦ diffs (q + 1) xs ys
          | false ↦ record { place = q; value = y }
              ∷ diffs (q + 1) xs ys
        ])
    go true r = lower (diffs (q + 1) xs ys) r
    go false r = (omega arith, r)

pub diffs_below : (n q : ℕ) (xs ys : List ℕ) → q + length ys ≤ n → Below n (diffs q xs ys)
unfolding diffs
diffs_below n q [] ys h = tt {0}
diffs_below n q (x ∷ xs) [] h = tt {0}
diffs_below n q (x ∷ xs) (y ∷ ys) h = go (eqb x y) (diffs_below n (q + 1) xs ys (omega arith))
  where
    go : (t : Bool) → Below n (diffs (q + 1) xs ys)
        → Below n (elim t as (λ _. List Change) [
          | true ↦ diffs (q + 1) xs ys
          | false ↦ record { place = q; value = y }
              ∷ diffs (q + 1) xs ys
        ])
    go true r = r
    go false r = (omega arith, r)

-- the same for lists that stand at place q
record Found (q : ℕ) (xs ys : List ℕ) (c : Change) : Type 0 where
  index : ℕ
  at : c.place ≡ q + index
  in_xs : index < length xs
  in_ys : index < length ys
  differ : get_or xs index 0 ≡ get_or ys index 0 → ⊥
  value : c.value ≡ get_or ys index 0

found : (q : ℕ) (xs ys : List ℕ) (c : Change) → In c (diffs q xs ys) → Found q xs ys c
unfolding diffs
found q [] ys c m = absurd m
found q (x ∷ xs) [] c m = absurd m
found q (x ∷ xs) (y ∷ ys) c m = go (eqb x y) refl (found (q + 1) xs ys c) m
  where
    later : Found (q + 1) xs ys c → Found q (x ∷ xs) (y ∷ ys) c
    later f = record {
      index = suc f.index;
      at = omega (arith, f.at);
      in_xs = omega (arith, f.in_xs);
      in_ys = omega (arith, f.in_ys);
      differ = f.differ;
      value = f.value;
    }

    go : (t : Bool) → eqb x y ≡ t → (In c (diffs (q + 1) xs ys) → Found (q + 1) xs ys c)
        → In c (elim t as (λ _. List Change) [
          | true ↦ diffs (q + 1) xs ys
          | false ↦ record { place = q; value = y }
              ∷ diffs (q + 1) xs ys
        ])
        → Found q (x ∷ xs) (y ∷ ys) c
    go true e rest k = later (rest k)
    go false e rest (inl k) =
        let a : c.place ≡ q = ap (λ (z : Change). z.place) k in
        record {
          index = 0;
          at = omega arith;
          in_xs = omega arith;
          in_ys = omega arith;
          differ = eqb-false x y e;
          value = ap (λ (z : Change). z.value) k;
        }
    go false e rest (inr k) = later (rest k)

listed : (q : ℕ) (xs ys : List ℕ) (i : ℕ) → i < length xs → i < length ys → (get_or xs i 0 ≡ get_or ys i 0 → ⊥)
    → In (record { place = q + i; value = get_or ys i 0 }) (diffs q xs ys)
unfolding diffs
listed q [] ys i h k d = absurd (omega arith)
listed q (x ∷ xs) [] i h k d = absurd (omega arith)
listed q (x ∷ xs) (y ∷ ys) zero h k d = go (eqb x y) refl
  where
    z : q + 0 ≡ q
    z = omega arith

    go : (t : Bool) → eqb x y ≡ t
        → In (record { place = q + 0; value = y })
        (elim t as (λ _. List Change) [ true ↦ diffs (q + 1) xs ys | false ↦ record { place = q; value = y } ∷ diffs (q + 1) xs ys ])
    go true e = absurd (d (eqb-true x y e))
    go false e = inl (λ i. record { place = z i; value = y })
listed q (x ∷ xs) (y ∷ ys) (suc i) h k d = go (eqb x y) (listed (q + 1) xs ys i (omega arith) (omega arith) d)
  where
    z : q + 1 + i ≡ q + suc i
    z = omega arith

    v : ℕ
    v = get_or ys i 0

    move : (ds : List Change) → In (record { place = q + 1 + i; value = v }) ds → In (record { place = q + suc i; value = v }) ds
    move ds m = subst (λ (p : ℕ). In (record { place = p; value = v }) ds) z m

    go : (t : Bool) → In (record { place = q + 1 + i; value = v }) (diffs (q + 1) xs ys)
        → In (record { place = q + suc i; value = v })
        (elim t as (λ _. List Change) [ true ↦ diffs (q + 1) xs ys | false ↦ record { place = q; value = y } ∷ diffs (q + 1) xs ys ])
    go true m = move (diffs (q + 1) xs ys) m
    go false m = inr (move (diffs (q + 1) xs ys) m)

-- "one entry for each byte that differs from the base, in rising order, and no other"
pub diffs_exact : (base page : List ℕ) (c : Change) → In c (diffs 0 base page) ↔ Differing base page c
diffs_exact base page c = (
  λ m.
      let f : Found 0 base page c = found 0 base page c m in
      let e : f.index ≡ c.place = omega (arith, f.at) in
      record {
        in_base = omega (arith, f.in_xs);
        within_page = omega (arith, f.in_ys);
        differ = λ q. f.differ (ap (λ (k : ℕ). get_or base k 0) e ∙ q ∙ sym (ap (λ (k : ℕ). get_or page k 0) e));
        value = f.value ∙ ap (λ (k : ℕ). get_or page k 0) e;
      },
  λ d.
      let z : 0 + c.place ≡ c.place = omega arith in
      let w : ◌≡◌ {A = Change} (record { place = 0 + c.place; value = get_or page c.place 0 }) c = λ i.
      record { place = z i; value = sym d.value i } in
      subst (λ (x : Change). In x (diffs 0 base page)) w (listed 0 base page c.place d.in_base d.within_page d.differ),
)

-- How they are spelled

-- where entries put their values, from `next` on
abbrev pub placed : ℕ → List Spelt → List Change
placed next [] = []
placed next (e ∷ es) = record { place = next + e.jump; value = e.value } ∷ placed (next + e.jump + 1) es

-- The entries of a page's stream. `coded` is "it uses the one-byte code for jumps below 255 and the long code otherwise".
pub record Written (base page : List ℕ) : Type 0 where
  pub entries : List Spelt
  pub spells : written base page ≡ joined entries
  pub coded : Coded entries
  pub places : placed 0 entries ≡ diffs 0 base page

form_for : Bool → Form
form_for true = short
form_for false = long

-- the code that takes a jump, and that the writer spells it so
pub form_of : ℕ → Form
form_of jump = form_for (ltb jump 255)

pub form_takes : (jump : ℕ) → jump ≤ 65535 → takes (form_of jump) jump
unfolding form_of form_for
form_takes jump h = go (ltb jump 255) refl
  where
    go : (t : Bool) → ltb jump 255 ≡ t → takes (form_for t) jump
    go true e =
        let k : jump < 255 = ltb-true jump 255 e in
        omega arith
    go false e = (ltb-false jump 255 e, h)

pub spelled_bytes : (f : Form) (j v : ℕ) → takes f j → spelled j v ≡ bytes f j v
unfolding spelled
spelled_bytes short j v t = rw (lt-ltb j 255 (omega arith))
spelled_bytes long j v t = rw (le-ltb j 255 t.0)

spelt : ℕ → List Change → List Spelt
spelt next [] = []
spelt next (c ∷ cs) = record { jump = c.place - next; value = c.value; form = form_of (c.place - next) }
    ∷ spelt (c.place + 1) cs

spelt_coded : (ds : List Change) (next : ℕ) → Below 65536 ds → Coded (spelt next ds)
unfolding spelt
spelt_coded [] next b = tt {0}
spelt_coded (c ∷ cs) next b = (form_takes (c.place - next) (omega (arith, b.0)), spelt_coded cs (c.place + 1) b.1)

spelt_joined : (ds : List Change) (next : ℕ) → Below 65536 ds → coded next ds ≡ joined (spelt next ds)
unfolding coded spelt
spelt_joined [] next b = refl
spelt_joined (c ∷ cs) next b =
    let j : ℕ = c.place - next in
    λ i. spelled_bytes (form_of j) j c.value (form_takes j (omega (arith, b.0))) i ++ spelt_joined cs (c.place + 1) b.1 i

spelt_placed : (ds : List Change) (next : ℕ) → Rising next ds → placed next (spelt next ds) ≡ ds
unfolding spelt
spelt_placed [] next r = refl
spelt_placed (c ∷ cs) next r =
    let e : next + (c.place - next) ≡ c.place = omega (arith, r.0) in
    ap (λ (k : ℕ). record { place = k; value = c.value } ∷ placed (k + 1) (spelt (c.place + 1) cs)) e
    ∙ ap (λ (l : List Change). c ∷ l) (spelt_placed cs (c.place + 1) r.1)

-- the writer's stream is spelled so, in pages up to 65,536 bytes
pub writer : (base page : List ℕ) → length page ≤ 65536 → Written base page
unfolding written
writer base page h = record {
  entries = spelt 0 (diffs 0 base page);
  spells = spelt_joined (diffs 0 base page) 0 (diffs_below 65536 0 base page (omega arith));
  coded = spelt_coded (diffs 0 base page) 0 (diffs_below 65536 0 base page (omega arith));
  places = spelt_placed (diffs 0 base page) 0 (diffs_rising 0 base page);
}
