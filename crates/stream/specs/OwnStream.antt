-- A sound payload that changes every byte it lists is the writer's own stream of the page it gives, whoever wrote it: base and page have
-- one such payload.
use Rattle.std.specs.Prelude.{ℕ, ◌+◌, ◌-◌, ◌<◌, ◌≡◌, refl, Bool, true, false, List, [], ◌∷◌, ◌++◌, ◌⊎◌, eqb, length, get_or, ℤ, pos, nat_abs, ◌+ℤ◌}
use Rattle.std.proofs.Common.{arith, sym, ap, ◌∙◌, subst, inl, inr, eqb-true}
use Rattle.std.proofs.lemmas.Bool.{eqb-false}
use Rattle.span.specs.Bytes.{zeros}
use Rattle.layout.specs.Sizes.{page_size}
use Rattle.payload.specs.Entries.{stream, in_page, start, payload_stream, whole, sound, put, applied}
use Rattle.payload.specs.Listing.{Listed, listed}
use Rattle.payload.specs.Spelling.{Spelt, joined, Coded, Spelled, Bytes, landed}
use Rattle.payload.specs.Soundness.{sound_spelled, spelled_lists}
use Rattle.writer.specs.Differences.{Change, diffs, spelled, coded, written}
use Rattle.writer.specs.Steps.{before}
use Rattle.writer.specs.Writer.{In, Rising, Below, Differing, diffs_rising, diffs_exact, placed, spelled_bytes}
use Rattle.writer.specs.ReadBack.{moved, pokes}
use Rattle.stream.specs.Landing.{placed_rising, placed_below, spelled_lands, lands_at}
use Rattle.stream.specs.Landing.{pokes_length, pokes_others, from_next, pokes_named}

-- each value that is listed differs from the base's byte there
abbrev pub Changes : List ℕ → List Listed → Type 0
Changes base [] = Unit {0}
Changes base (e ∷ es) = (get_or base (nat_abs e.position) 0 ≡ e.value → ⊥) × Changes base es

-- Two rising lists of the same changes are one list

without_first : (c : Change) (cs : List Change) (x : Change) → Rising (c.place + 1) cs → In x cs → x ≡ c → ⊥
without_first c cs x r m e =
    let q : x.place ≡ c.place = ap (λ (z : Change). z.place) e in
    omega (arith, from_next cs (c.place + 1) x r m)

rising_one : (cs ds : List Change) (next : ℕ) → Rising next cs → Rising next ds → ((x : Change) → In x cs → In x ds)
    → ((x : Change) → In x ds → In x cs) → cs ≡ ds
rising_one [] [] next r s f g = refl
rising_one [] (d ∷ ds) next r s f g = absurd (g d (inl refl))
rising_one (c ∷ cs) [] next r s f g = absurd (f c (inl refl))
rising_one (c ∷ cs) (d ∷ ds) next r s f g =
    let e : c ≡ d = firsts (f c (inl refl)) (g d (inl refl)) in
    let s' : Rising (c.place + 1) ds = subst (λ (x : Change). Rising (x.place + 1) ds) (sym e) s.1 in
    let rest : cs ≡ ds =
    rising_one cs ds (c.place + 1) r.1 s' (λ x m. later_in e x m (f x (inr m))) (λ x m. later_from e x m (g x (inr m))) in
    λ i. e i ∷ rest i
  where
    firsts : In c (d ∷ ds) → In d (c ∷ cs) → c ≡ d
    firsts (inl e) k = e
    firsts (inr m) (inl e) = sym e
    firsts (inr m) (inr k) = absurd (omega (arith, from_next ds (d.place + 1) c s.1 m, from_next cs (c.place + 1) d r.1 k))

    later_in : c ≡ d → (x : Change) → In x cs → In x (d ∷ ds) → In x ds
    later_in e x m (inl q) = absurd (without_first c cs x r.1 m (q ∙ sym e))
    later_in e x m (inr k) = k

    later_from : c ≡ d → (x : Change) → In x ds → In x (c ∷ cs) → In x cs
    later_from e x m (inl q) = absurd (without_first d ds x s.1 m (q ∙ e))
    later_from e x m (inr k) = k

-- The differences between a base and the base with changes made are those changes, if each of them changes its byte

-- a change at this place, or none
record At (cs : List Change) (i : ℕ) : Type 0 where
  change : Change
  listed_in : In change cs
  at : change.place ≡ i

at_or_none : (cs : List Change) (i : ℕ) → At cs i ⊎ ((c : Change) → In c cs → c.place ≡ i → ⊥)
at_or_none [] i = inr (λ c m. absurd m)
at_or_none (d ∷ cs) i = go (eqb d.place i) refl (at_or_none cs i)
  where
    neither : (d.place ≡ i → ⊥) → ((c : Change) → In c cs → c.place ≡ i → ⊥) → (c : Change) → In c (d ∷ cs) → c.place ≡ i → ⊥
    neither n none c (inl e) q = n (sym (ap (λ (x : Change). x.place) e) ∙ q)
    neither n none c (inr m) q = none c m q

    go : (t : Bool) → eqb d.place i ≡ t → At cs i ⊎ ((c : Change) → In c cs → c.place ≡ i → ⊥)
        → At (d ∷ cs) i ⊎ ((c : Change) → In c (d ∷ cs) → c.place ≡ i → ⊥)
    go true e rest = inl (record { change = d; listed_in = inl refl; at = eqb-true d.place i e })
    go false e (inl a) = inl (record { change = a.change; listed_in = inr a.listed_in; at = a.at })
    go false e (inr none) = inr (neither (eqb-false d.place i e) none)

module _ (base : List ℕ) (cs : List Change) (rising : Rising 0 cs) (below : Below (length base) cs)
    (changes : (c : Change) → In c cs → get_or base c.place 0 ≡ c.value → ⊥) where
  abbrev page : List ℕ
  page = pokes base cs

  below_in : (ds : List Change) (n : ℕ) → Below n ds → (c : Change) → In c ds → c.place < n
  below_in [] n b c m = absurd m
  below_in (d ∷ ds) n b c (inl e) =
      let q : c.place ≡ d.place = ap (λ (x : Change). x.place) e in
      omega (arith, b.0)
  below_in (d ∷ ds) n b c (inr m) = below_in ds n b.1 c m

  named : (c : Change) → In c cs → get_or page c.place 0 ≡ c.value
  named c m = pokes_named cs base 0 c rising below m

  made_differs : (c : Change) → In c cs → Differing base page c
  made_differs c m =
      let l : length page ≡ length base = pokes_length cs base in
      let h : c.place < length base = below_in cs (length base) below c m in
      record { in_base = h; within_page = omega arith; differ = λ e. changes c m (e ∙ named c m); value = sym (named c m) }

  differing_made : (c : Change) → Differing base page c → In c cs
  differing_made c d = go (at_or_none cs c.place)
    where
      go : At cs c.place ⊎ ((x : Change) → In x cs → x.place ≡ c.place → ⊥) → In c cs
      go (inl a) =
          let v : a.change.value ≡ c.value =
          sym (named a.change a.listed_in) ∙ ap (λ (i : ℕ). get_or page i 0) a.at ∙ sym d.value in
          let e : a.change ≡ c = λ i. record { place = a.at i; value = v i } in
          subst (λ (x : Change). In x cs) e a.listed_in
      go (inr none) = absurd (d.differ (sym (pokes_others cs base c.place none)))

  made : diffs 0 base page ≡ cs
  made =
      rising_one (diffs 0 base page) cs 0 (diffs_rising 0 base page) rising
      (λ c m. differing_made c ((diffs_exact base page c).0 m))
      (λ c m. (diffs_exact base page c).1 (made_differs c m))

-- The writer spells those changes as the entries did

coded_placed : (es : List Spelt) (next : ℕ) → Coded es → coded next (placed next es) ≡ joined es
unfolding coded
coded_placed [] next c = refl
coded_placed (e ∷ es) next c =
    let j : next + e.jump - next ≡ e.jump = omega arith in
    (λ i. spelled (j i) e.value ++ coded (next + e.jump + 1) (placed (next + e.jump + 1) es))
    ∙ (λ i. spelled_bytes e.form e.jump e.value c.0 i ++ coded_placed es (next + e.jump + 1) c.1 i)

-- what is listed as a change is one
changes_placed : (base : List ℕ) (es : List Spelt) (next : ℕ) → Changes base (landed (before next) es) → (c : Change)
    → In c (placed next es) → get_or base c.place 0 ≡ c.value → ⊥
changes_placed base [] next h c m q = m
changes_placed base (e ∷ es) next h c (inl k) q =
    let at : nat_abs (before next +ℤ pos (e.jump + 1)) ≡ next + e.jump = ap nat_abs (moved next e.jump) in
    h.0 (ap (λ (i : ℕ). get_or base i 0) (at ∙ sym (ap (λ (x : Change). x.place) k)) ∙ q ∙ ap (λ (x : Change). x.value) k)
changes_placed base (e ∷ es) next h c (inr m) q =
    changes_placed base es (next + e.jump + 1) (subst (λ (z : ℤ). Changes base (landed z es)) (lands_at next e.jump) h.1) c m q

-- in pages of any size
pub own_stream : (n : ℕ) (base payload : List ℕ) → length base ≡ n → Bytes payload → sound n payload ≡ true
    → Changes base (listed (payload_stream n payload)) → payload ≡ written base (applied base (payload_stream n payload))
unfolding written
own_stream n base payload l h s ch =
    let w : Spelled n start payload = ((sound_spelled n payload h).0 s).2 in
    let es : List Spelt = w.entries in
    let c : Changes base (landed start es) = subst (λ (x : List Listed). Changes base x) (spelled_lists n payload w) ch in
    let b : Below (length base) (placed 0 es) = subst (λ (k : ℕ). Below k (placed 0 es)) (sym l) (placed_below n es 0 w.stays) in
    let p : applied base (payload_stream n payload) ≡ pokes base (placed 0 es) = (spelled_lands n payload w).page base in
    w.spells ∙ sym (coded_placed es 0 w.coded)
    ∙ ap (λ (cs : List Change). coded 0 cs) (sym (made base (placed 0 es) (placed_rising es 0) b (changes_placed base es 0 c)))
    ∙ ap (λ (x : List ℕ). coded 0 (diffs 0 base x)) (sym p)

-- so two such payloads that give one page over one base are the same bytes
pub own_one : (n : ℕ) (base a b : List ℕ) → length base ≡ n → Bytes a → Bytes b → sound n a ≡ true → sound n b ≡ true
    → Changes base (listed (payload_stream n a)) → Changes base (listed (payload_stream n b))
    → applied base (payload_stream n a) ≡ applied base (payload_stream n b) → a ≡ b
own_one n base a b l h k s t c d e =
    own_stream n base a l h s c ∙ ap (λ (x : List ℕ). written base x) e ∙ sym (own_stream n base b l k t d)

-- An entry that changes nothing is sound, so without `Changes` two payloads may give one page: `00 07`, and `00 07 00 00`, whose second
-- entry writes a zero over a zero.
pub record TwoSpellings (a b : List ℕ) : Type 0 where
  pub both : (sound page_size a ≡ true) × (sound page_size b ≡ true)
  pub one_page : applied (zeros page_size) (payload_stream page_size a) ≡ applied (zeros page_size) (payload_stream page_size b)
  pub differ : a ≡ b → ⊥

pub two_spellings : TwoSpellings (0 ∷ 7 ∷ []) (0 ∷ 7 ∷ 0 ∷ 0 ∷ [])
unfolding sound whole stream in_page put applied zeros
two_spellings = record { both = (refl, refl); one_page = refl; differ = λ e. omega (arith, ap (λ (l : List ℕ). length l) e) }
