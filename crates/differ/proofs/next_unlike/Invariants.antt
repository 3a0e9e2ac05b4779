use Prim.Native.Nat.{◌-◌}
use Rattle.differ.proofs.Turns.{Stepped}
use Rattle.differ.proofs.next_unlike.Given as goal

abbrev pub invariant-loop-at : goal.invariant-loop-at
invariant-loop-at g l = Stepped g.row.WIDTH l.a l.b l.from l.end l.at

abbrev pub decreases-loop-at : goal.decreases-loop-at
decreases-loop-at g l = l.end - l.at
