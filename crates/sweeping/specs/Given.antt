-- "Each refusal is given when its condition holds and no earlier one does, and at no other time": Sweep.
use Rattle.std.specs.Prelude.{ℕ, ◌≡◌, refl, true, List, length}
use Rattle.layout.specs.RefusalLaws.{Exactly, exactly, Numbered, no_row, row, both}
use Rattle.layout.specs.Groups.{ordered}
use Rattle.layout.specs.GroupLaws.{once}
use Rattle.layout.specs.FirstFaultLaws.{rows_numbered}
use Rattle.layout.specs.Lengths.{blocks_in, length_rows}
use Rattle.headers.specs.HeaderLaws.{headers_numbered}
use Rattle.store.specs.Block.{slot_rows, full_rows}
use Rattle.sweeping.specs.Sweep.{sweep_groups, slot_groups, slot_faults, sweep_rows, sweep_outcome}
use Rattle.sweeping.specs.SweepLaws.{sweep_number}

module _ (P : ℕ) (patch full : List ℕ) where
  slot_numbered : (b : ℕ) → Numbered (slot_faults P patch full b)
  unfolding ordered slot_rows full_rows
  slot_numbered b = row (row no_row)

  pub sweep_exactly : Exactly (sweep_rows P patch full) (sweep_outcome P patch full).number
  unfolding sweep_rows ordered length_rows
  sweep_exactly =
      exactly (sweep_rows P patch full) _ (sweep_number P patch full)
      (both (row (both (headers_numbered P patch full) no_row)) (rows_numbered (slot_faults P patch full) slot_numbered 0 (blocks_in (length patch))))

pub sweep_once : (P : ℕ) (patch full : List ℕ) → once (sweep_groups P patch full) ≡ true
sweep_once P patch full = refl

pub slot_once : (P : ℕ) (patch full : List ℕ) (b : ℕ) → once (slot_groups P patch full b) ≡ true
slot_once P patch full b = refl
