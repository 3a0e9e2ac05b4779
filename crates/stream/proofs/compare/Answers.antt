use Rattle.std.specs.Prelude.{length}
use Rattle.std.proofs.Math.Path.{◌≡◌, sym, ◌∙◌}
use native.Mathlib.Omega.{arith}
use Rattle.layout.specs.Sizes.{page_size}
use Rattle.span.specs.Bytes.{zeros}
use Rattle.stream.specs.Laws.{page_length, tested_none, tested_some}
use Rattle.stream.proofs.Answers.{compare_refused_page, compare_refused_buffer, compare_with}
use Rattle.stream.proofs.compare.Goals as goal

pub returns-then-not-pages_fit : goal.returns-then-not-pages_fit
returns-then-not-pages_fit c =
    let a = c.args in
    compare_refused_page page_size a.base.now a.page.now a.payload.now (sym c.pages_fit.ensures ∙ c.if-not-pages_fit.true)

pub returns-then-payload-lt-ROOM : goal.returns-then-payload-lt-ROOM
returns-then-payload-lt-ROOM c =
    let a = c.args in
    compare_refused_buffer page_size a.base.now a.page.now a.payload.now (sym c.pages_fit.ensures ∙ c.if-not-pages_fit.false)
    c.if-payload-lt-ROOM.true

pub compare_to-requires : goal.compare_to-requires
compare_to-requires c =
    let a = c.args in
    let g : length a.page.now ≡ 8192 = page_length page_size a.base.now a.page.now (sym c.pages_fit.ensures ∙ c.if-not-pages_fit.false) in
    (omega arith, c.if-payload-lt-ROOM.false)

pub returns-then-is_empty : goal.returns-then-is_empty
unfolding zeros
returns-then-is_empty c =
    let a = c.args in
    compare_with page_size a.base.now (zeros page_size) a.page.now a.payload.now c.compare_to.new.payload c.compare_to.result
    (sym c.pages_fit.ensures ∙ c.if-not-pages_fit.false) c.if-payload-lt-ROOM.false
    (tested_none page_size a.base.now (sym c.is_empty.ensures ∙ c.if-is_empty.true)) c.compare_to.ensures

pub compare_to-requires-2 : goal.compare_to-requires-2
compare_to-requires-2 c =
    let a = c.args in
    let g : length a.page.now ≡ 8192 = page_length page_size a.base.now a.page.now (sym c.pages_fit.ensures ∙ c.if-not-pages_fit.false) in
    (omega arith, c.if-payload-lt-ROOM.false)

pub returns : goal.returns
returns c =
    let a = c.args in
    compare_with page_size a.base.now a.base.now a.page.now a.payload.now c.compare_to-2.new.payload c.compare_to-2.result
    (sym c.pages_fit.ensures ∙ c.if-not-pages_fit.false) c.if-payload-lt-ROOM.false
    (tested_some page_size a.base.now (sym c.is_empty.ensures ∙ c.if-is_empty.false)) c.compare_to-2.ensures
