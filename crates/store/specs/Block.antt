-- A block's own bytes in both areas, and what is looked at there.
use Rattle.std.specs.Prelude.{ℕ, ◌+◌, ◌≤◌, ◌<◌, not, ◌&&◌, List, [], ◌∷◌, leb, eqb, length}
use Rattle.span.specs.Bytes.{part}
use Rattle.layout.specs.Sizes.{slot_size, slot_at, page_at, patch_kind, full_kind}
use Rattle.layout.specs.Refusals.{Row, ◌⇐◌}
use Rattle.layout.specs.Lengths.{blocks_in, pages_in}
use Rattle.slots.specs.Slots.{slot_numbers, payload_of}
use Rattle.payload.specs.Entries.{sound}
use Rattle.payload.specs.Steps.{farthest}

-- the slot of block b, and its place in the full area
unfoldable pub slot_of : List ℕ → ℕ → List ℕ
slot_of patch b = part (slot_at b) slot_size patch

unfoldable pub place_of : ℕ → List ℕ → ℕ → List ℕ
place_of P full b = part (page_at P b) P full

-- "block not below n"
abbrev pub block_rows : List ℕ → ℕ → List Row
block_rows patch b = (5 ⇐ leb (blocks_in (length patch)) b) ∷ []

-- a page size that the calls can work with: not 0, and no place of a page out of the stream's reach
abbrev pub Sized : ℕ → Type 0
Sized P = (0 < P) × (P ≤ farthest)

-- every place below m lies in the full area
abbrev pub Places : ℕ → List ℕ → Type 0
Places P full = (b : ℕ) → b < pages_in P (length full) → page_at P b + P ≤ length full

-- what is looked at in a block's slot
unfoldable pub slot_rows : List ℕ → List Row
slot_rows s = (6 ⇐ not (eqb (slot_numbers s).number 0)) ∷ []

unfoldable pub full_rows : ℕ → List ℕ → List ℕ → ℕ → List Row
full_rows P s full b = (8 ⇐ eqb (slot_numbers s).kind full_kind && leb (pages_in P (length full)) b) ∷ []

unfoldable pub payload_rows : ℕ → List ℕ → List Row
payload_rows P s = (7 ⇐ eqb (slot_numbers s).kind patch_kind && not (sound P (payload_of s))) ∷ []
