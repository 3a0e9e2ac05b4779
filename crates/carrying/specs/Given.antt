-- "Each refusal is given when its condition holds and no earlier one does, and at no other time": carrying out, alone and with a lent map,
-- whatever number of stores is told.
use Rattle.std.specs.Prelude.{ℕ, ◌≡◌, refl, true, List, []}
use Rattle.layout.specs.Refusals.{Row}
use Rattle.layout.specs.RefusalLaws.{Exactly, exactly, no_row, row, both}
use Rattle.layout.specs.Groups.{ordered}
use Rattle.headers.specs.HeaderLaws.{headers_numbered}
use Rattle.layout.specs.Lengths.{length_rows}
use Rattle.layout.specs.GroupLaws.{once}
use Rattle.carrying.specs.Puts.{Decision}
use Rattle.carrying.specs.CarryOut.{carry_groups, carry_rows, carry_told}
use Rattle.carrying.specs.Mapped.{carry_mapped_rows, carry_mapped_told}
use Rattle.carrying.specs.CarryLaws.{carry_number, carry_mapped_number}

pub carry_exactly : (P : ℕ) (patch full : List ℕ) (b : ℕ) (d : Decision) (stores : ℕ)
    → Exactly (carry_rows P [] patch full b d) (carry_told P patch full b d stores).number
unfolding carry_rows ordered length_rows
carry_exactly P patch full b d stores =
    exactly (carry_rows P [] patch full b d) _ (carry_number P [] patch full b d stores)
    (row (row (both (headers_numbered P patch full) (row (row (row (row no_row)))))))

pub carry_once : (P : ℕ) (buffers : List Row) (patch full : List ℕ) (b : ℕ) (d : Decision)
    → once (carry_groups P buffers patch full b d) ≡ true
carry_once P buffers patch full b d = refl

pub carry_mapped_exactly : (P : ℕ) (patch full map : List ℕ) (b : ℕ) (d : Decision) (stores : ℕ)
    → Exactly (carry_mapped_rows P patch full map b d) (carry_mapped_told P patch full map b d stores).areas.number
unfolding carry_mapped_rows carry_rows ordered length_rows
carry_mapped_exactly P patch full map b d stores =
    exactly (carry_mapped_rows P patch full map b d) _ (carry_mapped_number P patch full map b d stores)
    (row (row (row (both (headers_numbered P patch full) (row (row (row (row no_row))))))))
