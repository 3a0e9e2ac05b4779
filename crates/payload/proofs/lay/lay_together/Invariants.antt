use Prim.Native.Nat.{◌-◌}
use lib.ListN.{length}
use Rattle.payload.specs.Steps.{Lays}
use Rattle.payload.proofs.lay.lay_together.Given as goal

abbrev pub invariant-loop-next : goal.invariant-loop-next
invariant-loop-next l = Lays (length l.initial.page) l.payload l.initial.page l.fn.from l.page l.reached

abbrev pub decreases-loop-next : goal.decreases-loop-next
decreases-loop-next l = length l.payload - l.reached.place
