-- A refused outcome leaves every lent byte as it was, call by call, over the definitions.
use Rattle.std.specs.Prelude.{ℕ, zero, suc, ◌≡◌, refl, Bool, true, false, not, ◌&&◌, ◌⊎◌, List, [], ◌∷◌, eqb, leb, ltb, length}
use Rattle.std.proofs.Common.{arith, ap, ◌∙◌, inl, inr}
use Rattle.span.specs.Bytes.{zeros, part, splice, same}
use Rattle.span.specs.Laws.{part_none}
use Rattle.layout.specs.Refusals.{◌⇐◌, first_of, or_else, decided}
use Rattle.layout.specs.RefusalLaws.{decided_refused}
use Rattle.layout.specs.Groups.{ordered}
use Rattle.layout.specs.FirstFaultLaws.{number_among}
use Rattle.slots.specs.Slots.{slot_numbers, payload_of}
use Rattle.layout.specs.Lengths.{blocks_in, pages_in}
use Rattle.payload.specs.Entries.{sound, offset_with}
use Rattle.stream.specs.Calls.{compare_rows, compare_numbers, compare_buffer, apply_rows, apply_numbers, apply_page}
use Rattle.stream.specs.Laws.{compare_not, apply_not}
use Rattle.stream.specs.Kinds.{compare_gives}
use Rattle.stream.specs.Given.{apply_gives}
use Rattle.store.specs.Block.{slot_of, place_of, slot_rows, full_rows, payload_rows}
use Rattle.store.specs.Format.{FormatOutcome, format_rows, format_outcome}
use Rattle.store.specs.Show.{show_rows, show_place}
use Rattle.reading.specs.Read.{ReadOutcome, read_rows, read_outcome}
use Rattle.reading.specs.Mapped.{read_mapped_rows, read_mapped_outcome}
use Rattle.carrying.specs.Puts.{Decision}
use Rattle.carrying.specs.CarryOut.{CarryOutcome, carry_told}
use Rattle.carrying.specs.Mapped.{carry_mapped_told}
use Rattle.carrying.specs.CarryLaws.{carry_not, map_not as carry_map_not}
use Rattle.cutting.specs.Cut.{CutOutcome}
use Rattle.cutting.specs.Mapped.{cut_mapped_outcome}
use Rattle.cutting.specs.CutLaws.{cut_not, map_not}
use Rattle.building.specs.Build.{place_rows, block_fault, build_fault, BuildOutcome, build_rows, built_map, build_outcome, build_done}
use Rattle.building.specs.Build.{build_refused}
use Rattle.store.specs.declared.Place.{Place}
use Rattle.promises.specs.Words.{OfBlock, slot_6, payload_7, page_8, place_10}

-- what every refusal of some rows gives back, any refusal of theirs gives back
kept : {A B : Type 0} (number : A → ℕ) (field : A → B) (d : A) (r : ℕ → A) (x : B) → number d ≡ 0 → ((k : ℕ) → field (r k) ≡ x)
    → (k : ℕ) → (number (decided k d r) ≡ 0 → ⊥) → field (decided k d r) ≡ x
unfolding decided
kept number field d r x e f zero h = absurd (h e)
kept number field d r x e f (suc k) h = f (suc k)

pub format_kept : (P : ℕ) (patch full : List ℕ) → ((format_outcome P patch full).number ≡ 0 → ⊥)
    → ((format_outcome P patch full).patch ≡ patch) × ((format_outcome P patch full).full ≡ full)
unfolding format_outcome
format_kept P patch full h = (
  kept (λ (o : FormatOutcome). o.number) (λ (o : FormatOutcome). o.patch) _ _ patch refl (λ k. refl) (first_of (format_rows P patch full))
      h,
  kept (λ (o : FormatOutcome). o.number) (λ (o : FormatOutcome). o.full) _ _ full refl (λ k. refl) (first_of (format_rows P patch full))
      h,
)

pub compare_kept : (P : ℕ) (base page buffer : List ℕ) → ((compare_numbers P base page buffer).number ≡ 0 → ⊥)
    → compare_buffer P base page buffer ≡ buffer
compare_kept P base page buffer h = go (first_of (compare_rows P base page buffer)) refl
  where
    go : (k : ℕ) → first_of (compare_rows P base page buffer) ≡ k → compare_buffer P base page buffer ≡ buffer
    go zero e = absurd (h (compare_gives P base page buffer ∙ e))
    go (suc m) e = (compare_not P base page buffer m e).1

pub apply_kept : (P : ℕ) (base payload page : List ℕ) → ((apply_numbers P base payload page).number ≡ 0 → ⊥)
    → apply_page P base payload page ≡ page
apply_kept P base payload page h = go (first_of (apply_rows P base payload page)) refl
  where
    go : (k : ℕ) → first_of (apply_rows P base payload page) ≡ k → apply_page P base payload page ≡ page
    go zero e = absurd (h (apply_gives P base payload page ∙ e))
    go (suc m) e = (apply_not P base payload page m e).1

pub show_kept : (P : ℕ) (patch : List ℕ) (b : ℕ) → (first_of (show_rows P patch b) ≡ 0 → ⊥)
    → part (show_place P patch b).at (show_place P patch b).len patch ≡ []
unfolding show_place
show_kept P patch b h = ap (λ (x : Place). part x.at x.len patch) (decided_refused _ _ (first_of (show_rows P patch b)) _ refl h)
    ∙ part_none 0 patch

pub read_kept : (P : ℕ) (patch full : List ℕ) (b : ℕ) (base page : List ℕ) → ((read_outcome P patch full b base page).number ≡ 0 → ⊥)
    → (read_outcome P patch full b base page).page ≡ page
unfolding read_outcome
read_kept P patch full b base page h =
    kept (λ (o : ReadOutcome). o.number) (λ (o : ReadOutcome). o.page) _ _ page refl (λ k. refl)
    (first_of (read_rows P patch full b base page)) h

-- whatever number of stores is told
pub carry_kept : (P : ℕ) (patch full : List ℕ) (b : ℕ) (d : Decision) (k : ℕ) → ((carry_told P patch full b d k).number ≡ 0 → ⊥)
    → ((carry_told P patch full b d k).patch ≡ patch) × ((carry_told P patch full b d k).full ≡ full)
carry_kept P patch full b d k h =
    let e = carry_not P [] patch full b d k h in
    (ap (λ (o : CarryOutcome). o.patch) e, ap (λ (o : CarryOutcome). o.full) e)

-- with a lent map: the map too
pub carry_mapped_kept : (P : ℕ) (patch full map : List ℕ) (b : ℕ) (d : Decision) (k : ℕ)
    → ((carry_mapped_told P patch full map b d k).areas.number ≡ 0 → ⊥)
    → ((carry_mapped_told P patch full map b d k).areas.patch ≡ patch) × ((carry_mapped_told P patch full map b d k).areas.full ≡ full)
    × ((carry_mapped_told P patch full map b d k).map ≡ map)
unfolding carry_mapped_told
carry_mapped_kept P patch full map b d k h =
    let e = carry_not P _ patch full b d k h in
    (ap (λ (o : CarryOutcome). o.patch) e, ap (λ (o : CarryOutcome). o.full) e, carry_map_not P patch full map b d k h)

pub read_mapped_kept : (P : ℕ) (patch full map : List ℕ) (b : ℕ) (base page : List ℕ)
    → ((read_mapped_outcome P patch full map b base page).number ≡ 0 → ⊥) → (read_mapped_outcome P patch full map b base page).page ≡ page
unfolding read_mapped_outcome
read_mapped_kept P patch full map b base page h =
    kept (λ (o : ReadOutcome). o.number) (λ (o : ReadOutcome). o.page) _ _ page refl (λ k. refl)
    (first_of (read_mapped_rows P patch full map b base page)) h

-- Cut with a lent map; Cut without one is `CutLaws.cut_kept`
pub cut_mapped_kept : (P : ℕ) (patch full map : List ℕ) (K : ℕ) → ((cut_mapped_outcome P patch full map K).areas.number ≡ 0 → ⊥)
    → ((cut_mapped_outcome P patch full map K).areas.patch ≡ patch) × ((cut_mapped_outcome P patch full map K).areas.full ≡ full)
    × ((cut_mapped_outcome P patch full map K).map ≡ map)
unfolding cut_mapped_outcome
cut_mapped_kept P patch full map K h =
    let e = cut_not P _ patch full K h in
    (ap (λ (o : CutOutcome). o.patch) e, ap (λ (o : CutOutcome). o.full) e, map_not P patch full map K h)

-- Build, and the numbers with which it gives a block

block_number : (P : ℕ) (patch full : List ℕ) (b : ℕ) → (block_fault P patch full b ≡ 0) ⊎ OfBlock (block_fault P patch full b)
unfolding block_fault ordered slot_rows full_rows payload_rows place_rows first_of or_else
block_number P patch full b =
    let s = slot_of patch b in
    go (not (eqb (slot_numbers s).number 0)) (eqb (slot_numbers s).kind 2 && leb (pages_in P (length full)) b)
    (eqb (slot_numbers s).kind 1 && not (sound P (payload_of s)))
    (not (eqb (slot_numbers s).kind 2) && (ltb b (pages_in P (length full)) && not (same (place_of P full b) (zeros P))))
  where
    go : (x y z w : Bool) → (first_of ((6 ⇐ x) ∷ (8 ⇐ y) ∷ (7 ⇐ z) ∷ (10 ⇐ w) ∷ []) ≡ 0)
        ⊎ OfBlock (first_of ((6 ⇐ x) ∷ (8 ⇐ y) ∷ (7 ⇐ z) ∷ (10 ⇐ w) ∷ []))
    go true y z w = inr slot_6
    go false true z w = inr page_8
    go false false true w = inr payload_7
    go false false false true = inr place_10
    go false false false false = inl refl

fault_number_is : (P : ℕ) (patch full : List ℕ) → ((build_fault P patch full).number ≡ 0) ⊎ OfBlock (build_fault P patch full).number
fault_number_is P patch full =
    number_among (block_fault P patch full) (λ n. (n ≡ 0) ⊎ OfBlock n) (inl refl) (block_number P patch full) 0 (blocks_in (length patch))

pub build_kept : (P : ℕ) (patch full map : List ℕ) → ((build_outcome P patch full map).number ≡ 0 → ⊥)
    → ((build_outcome P patch full map).map ≡ map)
    × (((build_outcome P patch full map).block ≡ 0) ⊎ OfBlock (build_outcome P patch full map).number)
unfolding build_outcome decided
build_kept P patch full map h =
    let fault = build_fault P patch full in
    go (first_of (build_rows P patch full map)) fault.number fault.block (splice map 0 (built_map patch)) (fault_number_is P patch full) h
  where
    built : ℕ → ℕ → ℕ → List ℕ → BuildOutcome
    built k n b done =
        decided k (decided n (build_done done) (λ n. build_refused n b (offset_with n P (payload_of (slot_of patch b))) map))
        (λ n. build_refused n 0 0 map)

    go : (k n b : ℕ) (done : List ℕ) → (n ≡ 0) ⊎ OfBlock n → ((built k n b done).number ≡ 0 → ⊥)
        → ((built k n b done).map ≡ map) × (((built k n b done).block ≡ 0) ⊎ OfBlock (built k n b done).number)
    go zero zero b done f h = absurd (h refl)
    go zero (suc n) b done (inl f) h = absurd (omega arith)
    go zero (suc n) b done (inr f) h = (refl, inr f)
    go (suc k) n b done f h = (refl, inl refl)
