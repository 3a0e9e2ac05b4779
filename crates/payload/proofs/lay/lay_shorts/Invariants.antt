use Prim.Native.Nat.{◌-◌}
use lib.ListN.{length}
use Rattle.payload.specs.Steps.{Lays}
use Rattle.payload.proofs.lay.lay_shorts.Given as goal

abbrev pub invariant-loop-reached : goal.invariant-loop-reached
invariant-loop-reached l = Lays (length l.initial.page) l.payload l.initial.page l.fn.from l.page l.reached

abbrev pub decreases-loop-reached : goal.decreases-loop-reached
decreases-loop-reached l = length l.payload - l.reached.place
