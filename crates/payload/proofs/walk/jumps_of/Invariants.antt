use mathlib.Core.Path.{◌≡◌}
use Rattle.payload.specs.Steps.{jumps_of}
use Rattle.payload.proofs.walk.jumps_of.Given as goal

abbrev pub invariant-loop-i : goal.invariant-loop-i
invariant-loop-i l = l.sum ≡ jumps_of l.payload l.place l.i
