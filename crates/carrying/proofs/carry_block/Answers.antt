use Rattle.layout.specs.Exits.{left_with}
use Rattle.carrying.specs.Parts.{decision_asked}
use Rattle.carrying.proofs.Decisions.{decision_refused, decision_carried}
use Rattle.carrying.proofs.carry_block.Goals as goal

pub returns-in_err-stored : goal.returns-in_err-stored
returns-in_err-stored c =
    let a = c.args in
    rw (left_with c.from_residual.ensures)
    (decision_refused a.frame.size a.frame.m a.patch.now a.full.now a.block (decision_asked a.asked) a.stores c.requires.full_area.0
    c.in_err-stored.field-0.0 c.in_err-stored.ensures)

pub returns : goal.returns
returns c =
    let a = c.args in
    decision_carried a.frame.size a.frame.m a.patch.now a.full.now a.block (decision_asked a.asked) a.stores c.requires.full_area.0
    c.in_ok-stored.stored c.in_ok-stored.ensures.0 c.in_ok-stored.ensures.1 _ _ c.store_first.ensures
