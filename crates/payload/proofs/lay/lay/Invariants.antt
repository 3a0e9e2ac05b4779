use Prim.Native.Nat.{◌-◌}
use lib.ListN.{length}
use Rattle.payload.specs.Positions.{before}
use Rattle.payload.specs.Steps.{Laid}
use Rattle.payload.proofs.lay.lay.Given as goal

abbrev pub invariant-loop-reached : goal.invariant-loop-reached
invariant-loop-reached l = Laid (length l.initial.page) l.initial.page l.payload l.page l.reached.place (before l.reached.next)

abbrev pub decreases-loop-reached : goal.decreases-loop-reached
decreases-loop-reached l = length l.payload - l.reached.place
