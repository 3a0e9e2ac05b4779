-- Sweep: "A sweep zeroes every place whose slot is not FULL_REF." No payload is looked at, and the patch area is only read.
use Rattle.std.specs.Prelude.{ℕ, zero, suc, ◌≡◌, Bool, cond, List, [], ◌∷◌, ◌++◌, eqb, length, Result, ⊤}
use Rattle.span.specs.Bytes.{zeros, splice}
use Rattle.layout.specs.Sizes.{page_at, full_kind}
use Rattle.layout.specs.Numbers.{answer_number}
use Rattle.layout.specs.declared.Refusal.{Refusal}
use Rattle.layout.specs.Refusals.{Row, first_of, decided}
use Rattle.layout.specs.Groups.{Grouped, ordered, ◌▸◌}
use Rattle.layout.specs.Groups as group
use Rattle.layout.specs.FirstFault.{rows_from}
use Rattle.layout.specs.Lengths.{blocks_in, pages_in, length_rows}
use Rattle.headers.specs.Headers.{header_rows}
use Rattle.slots.specs.Slots.{slot_numbers}
use Rattle.store.specs.Block.{slot_of, slot_rows, full_rows}

-- "2, headers"
abbrev pub sweep_groups : ℕ → List ℕ → List ℕ → List Grouped
sweep_groups P patch full =
    (group.lengths ▸ length_rows P (length patch) (length full))
    ∷ (group.headers ▸ header_rows P patch full)
    ∷ []

-- "then 6 or 8": what may be wrong with one block
abbrev pub slot_groups : ℕ → List ℕ → List ℕ → ℕ → List Grouped
slot_groups P patch full b =
    let s = slot_of patch b in
    (group.slot ▸ slot_rows s)
    ∷ (group.full ▸ full_rows P s full b)
    ∷ []

abbrev pub slot_faults : ℕ → List ℕ → List ℕ → ℕ → List Row
slot_faults P patch full b = ordered (slot_groups P patch full b)

-- "at the lowest block": the frame's rows, and then each block's, in rising order
unfoldable pub sweep_rows : ℕ → List ℕ → List ℕ → List Row
sweep_rows P patch full = ordered (sweep_groups P patch full) ++ rows_from (slot_faults P patch full) 0 (blocks_in (length patch))

-- the first k places become zeros, but for those of the blocks that are kept
unfoldable pub zeroed_but : (ℕ → Bool) → ℕ → ℕ → List ℕ → List ℕ
zeroed_but keeps P zero full = full
zeroed_but keeps P (suc b) full =
    let rest = zeroed_but keeps P b full in
    cond (keeps b) rest (splice rest (page_at P b) (zeros P))

-- a block whose slot is FULL_REF
abbrev pub refers : List ℕ → ℕ → Bool
refers patch b = eqb (slot_numbers (slot_of patch b)).kind full_kind

pub record SweepOutcome : Type 0 where
  pub number : ℕ
  pub full : List ℕ

-- done: every place of the full area whose slot is not FULL_REF is zeros
abbrev pub sweep_done : ℕ → List ℕ → List ℕ → SweepOutcome
sweep_done P patch full = record { number = 0; full = zeroed_but (refers patch) P (pages_in P (length full)) full }

-- refused: "changing nothing"
abbrev pub sweep_refused : ℕ → List ℕ → SweepOutcome
sweep_refused number full = record { number = number; full = full }

unfoldable pub sweep_outcome : ℕ → List ℕ → List ℕ → SweepOutcome
sweep_outcome P patch full = decided (first_of (sweep_rows P patch full)) (sweep_done P patch full) (λ k. sweep_refused k full)

pub record Sweep (P : ℕ) (patch full : List ℕ) (answer : Result ⊤ Refusal) (full' : List ℕ) : Type 0 where
  pub numbers : answer_number answer ≡ (sweep_outcome P patch full).number
  pub full_bytes : full' ≡ (sweep_outcome P patch full).full
