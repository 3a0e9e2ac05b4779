-- Read a block: base, patched base or full page.
use Rattle.std.specs.Prelude.{ℕ, ◌≡◌, cond, List, [], ◌∷◌, eqb, length, Result, Ok, Err}
use Rattle.layout.specs.Sizes.{empty_kind, patch_kind}
use Rattle.layout.specs.Numbers.{kind_number, refusal_number}
use Rattle.layout.specs.Refusals.{Row, first_of, decided}
use Rattle.layout.specs.Groups.{Grouped, ordered, ◌▸◌}
use Rattle.layout.specs.Groups as group
use Rattle.headers.specs.Headers.{header_rows}
use Rattle.layout.specs.Lengths.{length_rows}
use Rattle.slots.specs.Slots.{slot_numbers, payload_of}
use Rattle.payload.specs.Entries.{payload_stream, offset_with, applied}
use Rattle.stream.specs.Calls.{page_of, page_rows}
use Rattle.store.specs.Block.{slot_of, place_of, block_rows, slot_rows, full_rows, payload_rows}
use Rattle.layout.specs.declared.Kind.{Kind}
use Rattle.layout.specs.declared.RefusedAt.{RefusedAt}

abbrev pub read_groups : ℕ → List ℕ → List ℕ → ℕ → List ℕ → List ℕ → List Grouped
read_groups P patch full b base page =
    (group.pages ▸ page_rows P base page)
    ∷ (group.lengths ▸ length_rows P (length patch) (length full))
    ∷ (group.headers ▸ header_rows P patch full)
    ∷ (group.block ▸ block_rows patch b)
    ∷ (group.slot ▸ slot_rows (slot_of patch b))
    ∷ (group.full ▸ full_rows P (slot_of patch b) full b)
    ∷ (group.payload ▸ payload_rows P (slot_of patch b))
    ∷ []

unfoldable pub read_rows : ℕ → List ℕ → List ℕ → ℕ → List ℕ → List ℕ → List Row
read_rows P patch full b base page = ordered (read_groups P patch full b base page)

-- what a block of this kind holds: base, patched base or full page
abbrev pub contents_as : ℕ → ℕ → List ℕ → List ℕ → ℕ → List ℕ → List ℕ
contents_as P kind patch full b base =
    cond (eqb kind empty_kind) (page_of P base)
    (cond (eqb kind patch_kind) (applied (page_of P base) (payload_stream P (payload_of (slot_of patch b)))) (place_of P full b))

-- the kind is the slot's
unfoldable pub contents : ℕ → List ℕ → List ℕ → ℕ → List ℕ → List ℕ
contents P patch full b base = contents_as P (slot_numbers (slot_of patch b)).kind patch full b base

pub record ReadOutcome : Type 0 where
  pub number : ℕ
  pub kind : ℕ
  pub offset : ℕ
  pub page : List ℕ

-- done, and refused: the page keeps every byte, the kind is 0, and the offset goes with 7 alone
abbrev pub read_done : ℕ → List ℕ → ReadOutcome
read_done kind page = record { number = 0; kind = kind; offset = 0; page = page }

abbrev pub read_refused : ℕ → ℕ → List ℕ → ReadOutcome
read_refused number offset page = record { number = number; kind = 0; offset = offset; page = page }

unfoldable pub read_outcome : ℕ → List ℕ → List ℕ → ℕ → List ℕ → List ℕ → ReadOutcome
read_outcome P patch full b base page =
    decided (first_of (read_rows P patch full b base page))
    (read_done (slot_numbers (slot_of patch b)).kind (contents P patch full b base))
    (λ k. read_refused k (offset_with k P (payload_of (slot_of patch b))) page)

-- the paper's numbers for each case of the answer
pub record ReadNumbers : Type 0 where
  pub number : ℕ
  pub kind : ℕ
  pub offset : ℕ

abbrev pub reading_numbers : Result Kind RefusedAt → ReadNumbers
reading_numbers (Ok k) = record { number = 0; kind = kind_number k; offset = 0 }
reading_numbers (Err r) = record { number = refusal_number r.refusal; kind = 0; offset = r.offset }

abbrev pub read_numbers : ReadOutcome → ReadNumbers
read_numbers o = record { number = o.number; kind = o.kind; offset = o.offset }

pub record Read (P : ℕ) (patch full : List ℕ) (b : ℕ) (base page : List ℕ) (answer : Result Kind RefusedAt) (page' : List ℕ) : Type 0 where
  pub numbers : reading_numbers answer ≡ read_numbers (read_outcome P patch full b base page)
  pub bytes : page' ≡ (read_outcome P patch full b base page).page
