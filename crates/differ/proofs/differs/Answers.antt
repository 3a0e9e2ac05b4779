use Rattle.differ.proofs.Turns.{same_none, seen_same, seen_unlike}
use Prim.Native.Nat.{◌+◌}
use native.Mathlib.Omega.{arith}
use mathlib.Core.Bool.{false≢true}
use Rattle.differ.proofs.differs.Goals as goal

pub loop-i-init : goal.loop-i-init
loop-i-init g c = (λ e. same_none c.args.a.now c.args.b.now c.args.at (c.args.at + 0) (omega arith), λ e. absurd (false≢true e))

pub loop-i-preserved : goal.loop-i-preserved
loop-i-preserved g c =
    let a = c.args in
    let l = c.loop-i in
    (seen_same a.a.now a.b.now a.at l.i l.seen l.invariant.0, seen_unlike a.a.now a.b.now a.at l.i l.seen l.invariant.1)
