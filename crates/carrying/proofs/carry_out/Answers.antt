use Rattle.layout.specs.Sizes.{page_size}
use Rattle.carrying.proofs.CarryTold.{told_alone}
use Rattle.carrying.proofs.carry_out.Goals as goal

pub returns : goal.returns
returns c =
    let a = c.args in
    told_alone page_size a.patch.now a.full.now a.block (record { kind = a.kind; payload = a.payload.now; page = a.page.now })
    a.stores _ _ _ c.carry_with.ensures
