use Rattle.std.proofs.lemmas.Bool.{eqb-false}
use Rattle.std.specs.Prelude.{length}
use Rattle.std.proofs.Math.Path.{sym, ◌∙◌}
use native.Mathlib.Omega.{arith}
use Rattle.span.specs.Bytes.{zeros}
use Rattle.layout.specs.Sizes.{page_size}
use Rattle.stream.specs.Laws.{page_length, base_length, tested_none, base_some}
use Rattle.stream.proofs.Answers.{apply_refused_is, apply_over}
use Rattle.stream.proofs.apply.Goals as goal

pub returns-then-not-pages_fit : goal.returns-then-not-pages_fit
returns-then-not-pages_fit c =
    let a = c.args in
    rw c.into.ensures (apply_refused_is page_size a.base.now a.payload.now a.page.now (sym c.pages_fit.ensures ∙ c.if-not-pages_fit.true))

pub returns-then-is_empty : goal.returns-then-is_empty
unfolding zeros
returns-then-is_empty c =
    let a = c.args in
    let f = sym c.pages_fit.ensures ∙ c.if-not-pages_fit.false in
    apply_over page_size a.base.now (zeros page_size) a.payload.now a.page.now c.apply_to.new.page c.apply_to.result f (omega arith)
    (sym (page_length page_size a.base.now a.page.now f))
    (tested_none page_size a.base.now (sym c.is_empty.ensures ∙ c.if-is_empty.true)) c.apply_to.ensures

pub returns : goal.returns
returns c =
    let a = c.args in
    let f = sym c.pages_fit.ensures ∙ c.if-not-pages_fit.false in
    let some = eqb-false (length a.base.now) 0 (sym c.is_empty.ensures ∙ c.if-is_empty.false) in
    apply_over page_size a.base.now a.base.now a.payload.now a.page.now c.apply_to-2.new.page c.apply_to-2.result f (omega arith)
    (base_length page_size a.base.now a.page.now f some ∙ sym (page_length page_size a.base.now a.page.now f))
    (base_some page_size a.base.now some) c.apply_to-2.ensures
