use native.Mathlib.Omega.{arith}
use Rattle.differ.proofs.Turns.{stepped_none, stepped_more, stepped_past}
use Rattle.differ.proofs.next_unlike.Goals as goal

pub returns-then-this-eq0-clause-steps : goal.returns-then-this-eq0-clause-steps
returns-then-this-eq0-clause-steps g c =
    let a = c.args in
    λ some. stepped_past g.row.WIDTH a.a.now a.b.now a.from some (omega arith)

pub loop-at-init : goal.loop-at-init
loop-at-init g c =
    let a = c.args in
    stepped_none g.row.WIDTH a.a.now a.b.now a.from c.min-end.result (omega arith)

pub loop-at-preserved : goal.loop-at-preserved
loop-at-preserved g c =
    let a = c.args in
    let l = c.loop-at in
    stepped_more g.row.WIDTH a.a.now a.b.now a.from c.min-end.result l.at l.invariant (omega (arith, l.invariant.within))
    (c.differs.ensures.0 c.if-differs.false)
