use Rattle.std.proofs.Common.{eqb-true, ne_eqb}
use Rattle.std.specs.Prelude.{length}
use Rattle.std.proofs.Math.Path.{sym, ◌∙◌}
use Rattle.std.proofs.lemmas.Bool.{eqb-false}
use Rattle.stream.specs.Laws.{fits_other, fits_none, fits_some}
use Rattle.stream.proofs.pages_fit.Goals as goal

pub returns-then-is_empty : goal.returns-then-is_empty
returns-then-is_empty c =
    let a = c.args in
    c.if-is_empty.true
    ∙ sym (fits_none a.size a.base.now a.page.now c.if-page-size.true (eqb-true (length a.base.now) 0 (sym c.is_empty.ensures ∙ c.if-is_empty.true)))

pub returns-else-is_empty : goal.returns-else-is_empty
returns-else-is_empty c =
    let a = c.args in
    sym (fits_some a.size a.base.now a.page.now c.if-page-size.true (eqb-false (length a.base.now) 0 (sym c.is_empty.ensures ∙ c.if-is_empty.false)))

pub returns-else-page-size : goal.returns-else-page-size
returns-else-page-size c =
    let a = c.args in
    ne_eqb (length a.page.now) a.size c.if-page-size.false ∙ sym (fits_other a.size a.base.now a.page.now c.if-page-size.false)
