-- The numbers that carrying out gives, from the rows of the definitions to the words of the demands and back.
use Rattle.std.specs.Prelude.{ℕ, ◌≤◌, ◌<◌, ◌≡◌, Bool, ◌&&◌, ◌↔◌, eqb, ltb, length}
use Rattle.std.proofs.Common.{arith, sym, ◌∙◌, subst, eq-eqb, ne_eqb, eqb-true, leb-true, leb-false, le-leb, lt-ltb, le-ltb, ltb-true, ltb-false}
use Rattle.std.proofs.Math.Path.{refl, ap}
use Rattle.std.proofs.Math.Bool.{true, false, not, cond}
use mathlib.Core.List.{List, [], ◌∷◌, ◌++◌}
use Rattle.std.proofs.Math.Dec.{leb}
use Rattle.std.proofs.lemmas.Bool.{eqb-false, lt-leb}
use Rattle.layout.specs.Refusals.{◌⇐◌, first_of, or_else, decided}
use Rattle.layout.specs.RefusalLaws.{or_some, or_skip}
use Rattle.layout.specs.Groups.{ordered}
use Rattle.layout.specs.Lengths.{length_rows}
use Rattle.headers.specs.Headers.{header_rows}
use Rattle.payload.specs.Entries.{sound}
use Rattle.payload.specs.EntryLaws.{sound_parts}
use Rattle.blockmap.specs.Pairs.{map_bytes}
use Rattle.store.specs.Block.{block_rows}
use Rattle.store.specs.Frame.{frame_rows}
use Rattle.store.specs.FrameLaws.{lengths_fit}
use Rattle.carrying.specs.Puts.{Decision, all}
use Rattle.carrying.specs.Parts.{decision_rows}
use Rattle.carrying.specs.CarryOut.{carry_rows, carry_done, carry_refused, carry_by, carry_told, carry_outcome}
use Rattle.carrying.specs.Mapped.{carry_mapped_rows, carry_mapped_told, carry_mapped_outcome}
use Rattle.carrying.specs.CarryLaws.{carry_rows_is, carry_number, carry_mapped_number}
use Rattle.promises.specs.Words.{blocks, places, LengthsFit, AreasRefuse, AreasFit, MapFits}
use Rattle.promises.specs.FrameLaws.{tells_no, no_tells, tells_lengths}
use Rattle.promises.specs.AreaLaws.{areas_number, areas_number_is, AreasAre, areas_refused, areas_right, areas_are, areas_gives, areas_zero}
use Rattle.promises.specs.AreaLaws.{areas_some}
use Rattle.promises.specs.Decisions.{Fit}
use Rattle.promises.specs.CarryWords.{PageFits, CarryGives, CarryMappedGives}

-- The tests of a decision

-- the page that is looked at has another length
abbrev pub page_wrong : ℕ → Decision → Bool
page_wrong P d = eqb d.kind 2 && not (eqb (length d.page) P)

-- what is wrong first with a decision for a block below n
abbrev pub decision_number : ℕ → List ℕ → ℕ → Decision → ℕ
decision_number P full b d =
    cond (ltb 2 d.kind) 6
    (cond (eqb d.kind 2 && leb (places P full) b) 8 (cond (eqb d.kind 1 && not (sound P d.payload)) 7 0))

page_fits : (P : ℕ) (d : Decision) → page_wrong P d ≡ false → PageFits P d
page_fits P d e k = eqb-true (length d.page) P (go (eqb (length d.page) P) (rw (eq-eqb d.kind 2 k) at e))
  where
    go : (t : Bool) → not t ≡ false → t ≡ true
    go true e = refl
    go false e = sym e

page_wrong_is : (P : ℕ) (d : Decision) → page_wrong P d ≡ true → (d.kind ≡ 2) × (length d.page ≡ P → ⊥)
page_wrong_is P d e = go (eqb d.kind 2) refl (eqb (length d.page) P) refl e
  where
    go : (s : Bool) → eqb d.kind 2 ≡ s → (t : Bool) → eqb (length d.page) P ≡ t → (s && not t) ≡ true
        → (d.kind ≡ 2) × (length d.page ≡ P → ⊥)
    go true p true q e = let z : ◌≡◌ {A = ℕ} 0 1 = cc in absurd (omega arith)
    go true p false q e = (eqb-true d.kind 2 p, eqb-false (length d.page) P q)
    go false p t q e = let z : ◌≡◌ {A = ℕ} 0 1 = cc in absurd (omega arith)

fits_page : (P : ℕ) (d : Decision) → PageFits P d → page_wrong P d ≡ false
fits_page P d h = go (eqb d.kind 2) refl
  where
    go : (s : Bool) → eqb d.kind 2 ≡ s → (s && not (eqb (length d.page) P)) ≡ false
    go true p = rw (eq-eqb (length d.page) P (h (eqb-true d.kind 2 p)))
    go false p = refl

-- a decision that can be carried out has the page that it needs
pub fit_page : (P : ℕ) (d : Decision) → Fit P d → PageFits P d
fit_page P d (Fit.empty e) k = absurd (omega arith)
fit_page P d (Fit.patch e low high u) k = absurd (omega arith)
fit_page P d (Fit.full e l) k = l

-- Carrying out

module _ (P : ℕ) (patch full : List ℕ) (b : ℕ) (d : Decision) where
  pub carry_by_frame : first_of (carry_rows P [] patch full b d)
      ≡ or_else (cond (page_wrong P d) 1 (areas_number P patch full)) (cond (leb (blocks patch) b) 5 (decision_number P full b d))
  unfolding frame_rows first_of or_else length_rows
  carry_by_frame =
      carry_rows_is P [] patch full b d
      ∙ (λ i. or_else (opened (page_wrong P d) i) (inside (leb (blocks patch) b) (ltb 2 d.kind) (eqb d.kind 2 && leb (places P full) b)
      (eqb d.kind 1 && not (sound P d.payload)) i))
    where
      opened : (t : Bool) → first_of (frame_rows P ((1 ⇐ t) ∷ []) [] patch full) ≡ cond t 1 (areas_number P patch full)
      opened true = refl
      opened false = areas_number_is P patch full

      inside : (x y z w : Bool) → first_of ((5 ⇐ x) ∷ (6 ⇐ y) ∷ (8 ⇐ z) ∷ (7 ⇐ w) ∷ []) ≡ cond x 5 (cond y 6 (cond z 8 (cond w 7 0)))
      inside true y z w = refl
      inside false true z w = refl
      inside false false true w = refl
      inside false false false true = refl
      inside false false false false = refl

  rows : PageFits P d → AreasFit P patch full
      → first_of (carry_rows P [] patch full b d) ≡ cond (leb (blocks patch) b) 5 (decision_number P full b d)
  rows f h =
      carry_by_frame ∙ rw (fits_page P d f)
      (or_skip (areas_number P patch full) (cond (leb (blocks patch) b) 5 (decision_number P full b d)) (areas_zero P patch full h))

  pub carry_given : CarryGives P patch full b d (first_of (carry_rows P [] patch full b d))
  carry_given = go (page_wrong P d) refl
    where
      -- the decision, where frame and block are sound
      decision : PageFits P d → AreasFit P patch full → b < blocks patch → CarryGives P patch full b d (decision_number P full b d)
      decision f h n = by (ltb 2 d.kind) refl (eqb d.kind 2) refl (eqb d.kind 1) refl
        where
          payload : d.kind ≡ 1 → (t : Bool) → sound P d.payload ≡ t → CarryGives P patch full b d (cond (not t) 7 0)
          payload k true u =
              let p = sound_parts P d.payload u in
              CarryGives.done h n (Fit.patch k p.some p.few u) (λ q. absurd (omega arith))
          payload k false u = CarryGives.payload h n k u

          room_for : d.kind ≡ 2 → (t : Bool) → leb (places P full) b ≡ t → CarryGives P patch full b d (cond t 8 0)
          room_for k true u = CarryGives.no_room h n k (f k) (leb-true (places P full) b u)
          room_for k false u = CarryGives.done h n (Fit.full k (f k)) (λ q. leb-false (places P full) b u)

          by : (x : Bool) → ltb 2 d.kind ≡ x → (y : Bool) → eqb d.kind 2 ≡ y → (z : Bool) → eqb d.kind 1 ≡ z
              → CarryGives P patch full b d (cond x 6 (cond (y && leb (places P full) b) 8 (cond (z && not (sound P d.payload)) 7 0)))
          by true p y q z r = CarryGives.kind h n (ltb-true 2 d.kind p)
          by false p true q true r =
              let k : d.kind ≡ 2 = eqb-true d.kind 2 q in
              let l : d.kind ≡ 1 = eqb-true d.kind 1 r in
              absurd (omega arith)
          by false p true q false r = room_for (eqb-true d.kind 2 q) (leb (places P full) b) refl
          by false p false q true r = payload (eqb-true d.kind 1 r) (sound P d.payload) refl
          by false p false q false r =
              let high : d.kind ≤ 2 = ltb-false 2 d.kind p in
              let k : d.kind ≡ 2 → ⊥ = eqb-false d.kind 2 q in
              let l : d.kind ≡ 1 → ⊥ = eqb-false d.kind 1 r in
              let e : d.kind ≡ 0 = zero_left d.kind high k l in
              CarryGives.done h n (Fit.empty e) (λ q. absurd (omega arith))
            where
              zero_left : (n : ℕ) → n ≤ 2 → (n ≡ 2 → ⊥) → (n ≡ 1 → ⊥) → n ≡ 0
              zero_left n h k l = omega arith

      within : PageFits P d → AreasFit P patch full → (t : Bool) → leb (blocks patch) b ≡ t
          → CarryGives P patch full b d (cond t 5 (decision_number P full b d))
      within f h true e = CarryGives.block f h (leb-true (blocks patch) b e)
      within f h false e = decision f h (leb-false (blocks patch) b e)

      areas : PageFits P d → (k : ℕ) → areas_number P patch full ≡ k → AreasAre P patch full k
          → CarryGives P patch full b d (first_of (carry_rows P [] patch full b d))
      areas f k e (areas_refused r) =
          rw (carry_by_frame, fits_page P d f, e, or_some k (cond (leb (blocks patch) b) 5 (decision_number P full b d)) (areas_some P patch full r))
          (CarryGives.frame f r)
      areas f k e (areas_right h) = rw (rows f h) (within f h (leb (blocks patch) b) refl)

      go : (t : Bool) → page_wrong P d ≡ t → CarryGives P patch full b d (first_of (carry_rows P [] patch full b d))
      go true e =
          rw (carry_by_frame, e, or_some 1 (cond (leb (blocks patch) b) 5 (decision_number P full b d)) (λ q. omega arith))
          (CarryGives.page (page_wrong_is P d e).0 (page_wrong_is P d e).1)
      go false e = areas (page_fits P d e) (areas_number P patch full) refl (areas_are P patch full)

  pub gives_carry : (k : ℕ) → CarryGives P patch full b d k → first_of (carry_rows P [] patch full b d) ≡ k
  gives_carry k (CarryGives.page e l) =
      carry_by_frame ∙ rw (eq-eqb d.kind 2 e, ne_eqb (length d.page) P l) (or_some 1 _ (λ q. omega arith))
  gives_carry k (CarryGives.frame f r) =
      carry_by_frame ∙ rw (fits_page P d f, areas_gives P patch full r) (or_some k _ (areas_some P patch full r))
  gives_carry k (CarryGives.block f h n) = rows f h ∙ rw (le-leb (blocks patch) b n)
  gives_carry k (CarryGives.kind h n l) =
      rows (λ e. absurd (omega arith)) h ∙ rw (lt-leb (blocks patch) b n, lt-ltb 2 d.kind l)
  gives_carry k (CarryGives.no_room h n e l m) =
      rows (λ q. l) h ∙ rw (lt-leb (blocks patch) b n, e, le-leb (places P full) b m)
  gives_carry k (CarryGives.payload h n e u) = rows (λ q. absurd (omega arith)) h ∙ rw (lt-leb (blocks patch) b n, e, u)
  gives_carry k (CarryGives.done h n (Fit.empty e) m) = rows (λ q. absurd (omega arith)) h ∙ rw (lt-leb (blocks patch) b n, e)
  gives_carry k (CarryGives.done h n (Fit.patch e low high u) m) =
      rows (λ q. absurd (omega arith)) h ∙ rw (lt-leb (blocks patch) b n, e, u)
  gives_carry k (CarryGives.done h n (Fit.full e l) m) =
      rows (λ q. l) h ∙ rw (lt-leb (blocks patch) b n, e, lt-leb (places P full) b (m e))

  pub carry_table : (k : ℕ) → ((carry_outcome P patch full b d).number ≡ k) ↔ CarryGives P patch full b d k
  carry_table k = (
    λ e. subst (λ (j : ℕ). CarryGives P patch full b d j) (sym (carry_number P [] patch full b d all) ∙ e) carry_given,
    λ g. carry_number P [] patch full b d all ∙ gives_carry k g,
  )

-- what an accepted one tells of what it was lent
pub record Accepted (P : ℕ) (patch full : List ℕ) (b : ℕ) (d : Decision) : Type 0 where
  pub fits : AreasFit P patch full
  pub below : b < blocks patch
  pub fit : Fit P d
  pub room_for : d.kind ≡ 2 → b < places P full

pub accepted : (P : ℕ) (patch full : List ℕ) (b : ℕ) (d : Decision) → (carry_outcome P patch full b d).number ≡ 0 → Accepted P patch full b d
accepted P patch full b d e = go ((carry_table P patch full b d 0).0 e)
  where
    go : CarryGives P patch full b d 0 → Accepted P patch full b d
    go (CarryGives.frame f r) = absurd (areas_some P patch full r refl)
    go (CarryGives.done h n f m) = record { fits = h; below = n; fit = f; room_for = m }

-- With a lent map

module _ (P : ℕ) (patch full map : List ℕ) (b : ℕ) (d : Decision) where
  -- with a map that fits there is no further row
  long_rows : MapFits patch map → first_of (carry_mapped_rows P patch full map b d) ≡ first_of (carry_rows P [] patch full b d)
  unfolding carry_mapped_rows carry_rows ordered length_rows first_of or_else
  long_rows h = rw (le-ltb (length map) (map_bytes (blocks patch)) h)

  pub mapped_as_told : MapFits patch map → (k : ℕ) → (carry_mapped_told P patch full map b d k).areas ≡ carry_told P patch full b d k
  unfolding carry_mapped_told carry_by carry_mapped_rows
  mapped_as_told h k = ap (λ (n : ℕ). decided n (carry_done P patch full b d k) (λ (n : ℕ). carry_refused n patch full)) (long_rows h)

  pub mapped_as_carry : MapFits patch map → (carry_mapped_outcome P patch full map b d).areas ≡ carry_outcome P patch full b d
  mapped_as_carry h = mapped_as_told h all

  -- and with one that does not, 1, 2 or 9
  short_rows : length map < map_bytes (blocks patch)
      → first_of (carry_mapped_rows P patch full map b d) ≡ cond (page_wrong P d) 1 (cond (lengths_fit P patch full) 9 2)
  unfolding carry_mapped_rows carry_rows ordered length_rows first_of or_else
  short_rows h =
      rw (lt-ltb (length map) (map_bytes (blocks patch)) h)
      (go (page_wrong P d) (lengths_fit P patch full)
      (first_of (header_rows P patch full ++ (block_rows patch b ++ decision_rows P full b d.kind d.payload))))
    where
      go : (s t : Bool) (rest : ℕ) → or_else (cond s 1 0) (or_else (cond (not t) 2 0) (or_else 9 rest)) ≡ cond s 1 (cond t 9 2)
      go true t rest = refl
      go false true rest = refl
      go false false rest = refl

  pub carry_short : PageFits P d → LengthsFit P patch full → length map < map_bytes (blocks patch)
      → (carry_mapped_outcome P patch full map b d).areas.number ≡ 9
  carry_short f l h = carry_mapped_number P patch full map b d all ∙ short_rows h ∙ rw (fits_page P d f, (tells_lengths P patch full).1 l)

  given : CarryMappedGives P patch full map b d (first_of (carry_mapped_rows P patch full map b d))
  given = go (ltb (length map) (map_bytes (blocks patch))) refl
    where
      short : length map < map_bytes (blocks patch) → (s : Bool) → page_wrong P d ≡ s → (t : Bool) → lengths_fit P patch full ≡ t
          → CarryMappedGives P patch full map b d (cond s 1 (cond t 9 2))
      short h true e t q = CarryMappedGives.page (page_wrong_is P d e).0 (page_wrong_is P d e).1
      short h false e true q = CarryMappedGives.short (page_fits P d e) ((tells_lengths P patch full).0 q) h
      short h false e false q = CarryMappedGives.lengths (page_fits P d e) (tells_no _ (tells_lengths P patch full) q)

      go : (t : Bool) → ltb (length map) (map_bytes (blocks patch)) ≡ t
          → CarryMappedGives P patch full map b d (first_of (carry_mapped_rows P patch full map b d))
      go true e =
          let h : length map < map_bytes (blocks patch) = ltb-true (length map) (map_bytes (blocks patch)) e in
          rw (short_rows h) (short h (page_wrong P d) refl (lengths_fit P patch full) refl)
      go false e =
          let h : MapFits patch map = ltb-false (length map) (map_bytes (blocks patch)) e in
          rw (long_rows h) (CarryMappedGives.inside h (carry_given P patch full b d))

  -- 1 and 2 come before 9
  early : (k : ℕ) → (length map < map_bytes (blocks patch) → first_of (carry_mapped_rows P patch full map b d) ≡ k) → CarryGives P patch full b d k
      → first_of (carry_mapped_rows P patch full map b d) ≡ k
  early k short g = go (ltb (length map) (map_bytes (blocks patch))) refl
    where
      go : (t : Bool) → ltb (length map) (map_bytes (blocks patch)) ≡ t → first_of (carry_mapped_rows P patch full map b d) ≡ k
      go true e = short (ltb-true (length map) (map_bytes (blocks patch)) e)
      go false e = long_rows (ltb-false (length map) (map_bytes (blocks patch)) e) ∙ gives_carry P patch full b d k g

  gives : (k : ℕ) → CarryMappedGives P patch full map b d k → first_of (carry_mapped_rows P patch full map b d) ≡ k
  gives k (CarryMappedGives.page e l) =
      early 1 (λ h. short_rows h ∙ rw (eq-eqb d.kind 2 e, ne_eqb (length d.page) P l)) (CarryGives.page e l)
  gives k (CarryMappedGives.lengths f l) =
      early 2 (λ h. short_rows h ∙ rw (fits_page P d f, no_tells _ (tells_lengths P patch full) l)) (CarryGives.frame f (AreasRefuse.lengths l))
  gives k (CarryMappedGives.short f l h) = short_rows h ∙ rw (fits_page P d f, (tells_lengths P patch full).1 l)
  gives k (CarryMappedGives.inside h g) = long_rows h ∙ gives_carry P patch full b d k g

  pub carry_mapped_table : (k : ℕ) → ((carry_mapped_outcome P patch full map b d).areas.number ≡ k) ↔ CarryMappedGives P patch full map b d k
  carry_mapped_table k = (
    λ e. subst (λ (j : ℕ). CarryMappedGives P patch full map b d j) (sym (carry_mapped_number P patch full map b d all) ∙ e) given,
    λ g. carry_mapped_number P patch full map b d all ∙ gives k g,
  )

  -- an accepted one had a map that fits
  pub carry_fitting : (carry_mapped_outcome P patch full map b d).areas.number ≡ 0 → MapFits patch map
  carry_fitting e = go ((carry_mapped_table 0).0 e)
    where
      go : CarryMappedGives P patch full map b d 0 → MapFits patch map
      go (CarryMappedGives.inside h g) = h
