use Prim.Native.Nat.{◌-◌}
use mathlib.Core.Path.{◌≡◌}
use lib.ListN.{length}
use Rattle.payload.specs.Positions.{before}
use Rattle.payload.specs.Steps.{reach}
use Rattle.payload.proofs.Turns.{Passed}
use Rattle.payload.proofs.walk.check_entries.Given as goal

abbrev pub invariant-loop-next : goal.invariant-loop-next
invariant-loop-next l = (l.end ≡ reach l.size) × Passed (reach l.size) l.payload l.reached.place (before l.reached.next) l.entries

abbrev pub decreases-loop-next : goal.decreases-loop-next
decreases-loop-next l = length l.payload - l.reached.place
