use native.Mathlib.Omega.{arith}
use Rattle.layout.specs.Exits.{left_with}
use Rattle.layout.specs.Sizes.{page_size}
use Rattle.carrying.specs.Parts.{decision_asked}
use Rattle.carrying.proofs.CarryTold.{told_refused, told_block, told_lent, told_within}
use Rattle.carrying.proofs.carry_with.Goals as goal

pub returns-in_err-frame : goal.returns-in_err-frame
returns-in_err-frame c =
    let a = c.args in
    let f = c.page_fits-page_fits in
    rw (left_with c.from_residual.ensures)
    (told_refused page_size f.result a.buffer_fits a.patch.now a.full.now a.block (decision_asked a.asked) a.stores f.ensures
    c.in_err-frame.field-0.0 c.in_err-frame.ensures)

pub returns-then-frame-block : goal.returns-then-frame-block
returns-then-frame-block c =
    let a = c.args in
    let f = c.page_fits-page_fits in
    told_block page_size f.result a.buffer_fits a.patch.now a.full.now a.block (decision_asked a.asked) a.stores f.ensures c.in_ok-frame.frame
    c.in_ok-frame.ensures c.if-frame-block.true

pub carry_block-requires : goal.carry_block-requires
carry_block-requires c =
    let a = c.args in
    let f = c.page_fits-page_fits in
    told_lent page_size f.result a.buffer_fits a.patch.now a.full.now a.block (decision_asked a.asked) a.stores f.ensures c.in_ok-frame.frame
    c.in_ok-frame.ensures c.if-frame-block.false (omega arith, omega arith)

pub returns : goal.returns
returns c =
    let a = c.args in
    let f = c.page_fits-page_fits in
    told_within page_size f.result a.buffer_fits a.patch.now a.full.now a.block (decision_asked a.asked) a.stores f.ensures c.in_ok-frame.frame
    c.in_ok-frame.ensures c.if-frame-block.false c.carry_block.result c.carry_block.new.patch c.carry_block.new.full c.carry_block.ensures
