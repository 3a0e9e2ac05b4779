-- What the parts of both reads owe: a block below n over a base that is there, a payload over one, a place.
use Rattle.std.specs.Prelude.{ℕ, ◌≡◌, cond, List, ◌++◌, ltb, length, Result}
use Rattle.layout.specs.Sizes.{patch_kind}
use Rattle.layout.specs.Lengths.{pages_in}
use Rattle.layout.specs.Refusals.{first_of, decided}
use Rattle.slots.specs.Slots.{slot_numbers, payload_of}
use Rattle.payload.specs.Entries.{payload_stream, sound, breaks_at, offset_with, applied}
use Rattle.store.specs.Block.{slot_of, place_of, slot_rows, full_rows, payload_rows}
use Rattle.layout.specs.declared.Kind.{Kind}
use Rattle.layout.specs.declared.RefusedAt.{RefusedAt}
use Rattle.reading.specs.Read.{contents_as, contents, ReadOutcome, reading_numbers, read_numbers, read_done, read_refused}
use Rattle.reading.specs.Mapped.{patch_rows, page_row, sound_rows}

-- what a read finds once the frame and the block number are sound
unfoldable pub slot_outcome : ℕ → List ℕ → List ℕ → ℕ → List ℕ → List ℕ → ReadOutcome
slot_outcome P patch full b base page =
    let s = slot_of patch b in
    decided (first_of (slot_rows s ++ (full_rows P s full b ++ payload_rows P s)))
    (read_done (slot_numbers s).kind (contents P patch full b base))
    (λ k. read_refused k (offset_with k P (payload_of s)) page)

-- the same of the code's parts: a block below n over a base that is there, and a payload over one
pub record BlockRead (P : ℕ) (patch full : List ℕ) (b : ℕ) (base page : List ℕ) (answer : Result Kind RefusedAt) (page' : List ℕ) : Type 0 where
  pub numbers : reading_numbers answer ≡ read_numbers (slot_outcome P patch full b base page)
  pub bytes : page' ≡ (slot_outcome P patch full b base page).page

pub record PatchRead (P : ℕ) (base payload page : List ℕ) (answer : Result Kind RefusedAt) (page' : List ℕ) : Type 0 where
  pub numbers : reading_numbers answer
      ≡ cond (sound P payload) (record { number = 0; kind = 1; offset = 0 }) (record { number = 7; kind = 0; offset = breaks_at P payload })
  pub bytes : page' ≡ cond (sound P payload) (applied base (payload_stream P payload)) page

-- a block's place in the full area, if it has one
pub record PlaceRead (P : ℕ) (full : List ℕ) (b : ℕ) (page : List ℕ) (answer : Result Kind RefusedAt) (page' : List ℕ) : Type 0 where
  pub numbers : reading_numbers answer
      ≡ cond (ltb b (pages_in P (length full))) (record { number = 0; kind = 2; offset = 0 }) (record { number = 8; kind = 0; offset = 0 })
  pub bytes : page' ≡ cond (ltb b (pages_in P (length full))) (place_of P full b) page

-- what a read by the map finds once the block's pair is known to stand for this kind
unfoldable pub kind_outcome : ℕ → ℕ → List ℕ → List ℕ → ℕ → List ℕ → List ℕ → ReadOutcome
kind_outcome kind P patch full b base page =
    let s = slot_of patch b in
    decided (first_of (patch_rows kind s ++ (page_row kind P full b ++ sound_rows kind P s)))
    (read_done kind (contents_as P kind patch full b base))
    (λ k. read_refused k (offset_with k P (payload_of s)) page)

pub record KindRead (kind P : ℕ) (patch full : List ℕ) (b : ℕ) (base page : List ℕ) (answer : Result Kind RefusedAt) (page' : List ℕ) : Type 0 where
  pub numbers : reading_numbers answer ≡ read_numbers (kind_outcome kind P patch full b base page)
  pub bytes : page' ≡ (kind_outcome kind P patch full b base page).page

-- so of a block whose pair says PATCH, whatever the full area is
abbrev pub SlotRead : ℕ → List ℕ → ℕ → List ℕ → List ℕ → Result Kind RefusedAt → List ℕ → Type 0
SlotRead P patch b base page answer page' = (full : List ℕ) → KindRead patch_kind P patch full b base page answer page'
