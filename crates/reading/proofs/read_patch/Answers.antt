use Rattle.layout.specs.Exits.{left_with}
use Rattle.reading.proofs.Pages.{apply_reads, apply_refuses}
use Rattle.reading.proofs.read_patch.Goals as goal

pub returns-in_err-apply_to : goal.returns-in_err-apply_to
returns-in_err-apply_to c =
    let a = c.args in
    rw (left_with c.from_residual.ensures)
    (apply_refuses a.base.now a.payload.now a.page.now c.apply_to.new.page c.requires.0 c.requires.1 c.in_err-apply_to.field-0.0
    c.in_err-apply_to.ensures)

pub returns : goal.returns
returns c =
    let a = c.args in
    apply_reads a.base.now a.payload.now a.page.now c.apply_to.new.page c.requires.0 c.requires.1 c.in_ok-apply_to.field-0 c.in_ok-apply_to.ensures
