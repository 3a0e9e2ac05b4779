use native.Mathlib.Omega.{arith}
use Rattle.layout.specs.Exits.{left_with}
use Rattle.layout.specs.NumberLaws.{refusal_some}
use Rattle.cutting.proofs.HighestTold.{walk_starts, walk_goes, walk_stops, walk_ends}
use Rattle.cutting.proofs.highest.scan.Goals as goal

pub loop-block-init : goal.loop-block-init
loop-block-init c = walk_starts _ _

pub returns-in_err-blocks : goal.returns-in_err-blocks
returns-in_err-blocks c =
    let a = c.args in
    let l = c.loop-block in
    rw (left_with c.from_residual.ensures)
    (walk_stops a.patch.now a.n l.blocks l.block l.invariant _ (refusal_some c.in_err-blocks.field-0.0) c.loop-block-test.true
    c.in_err-blocks.ensures)

pub loop-block-preserved : goal.loop-block-preserved
loop-block-preserved c =
    let a = c.args in
    let l = c.loop-block in
    walk_goes a.patch.now a.n l.blocks l.block l.invariant _ c.loop-block-test.true c.in_ok-blocks.ensures

pub returns : goal.returns
returns c =
    let a = c.args in
    let l = c.loop-block in
    walk_ends a.patch.now a.n l.blocks l.block l.invariant (omega (arith, c.loop-block-test.false, c.loop-block.auto.block-end))
