use mathlib.Core.Path.{◌≡◌}
use Rattle.payload.specs.Steps.{long_among}
use Rattle.payload.proofs.walk.long_among.Given as goal

abbrev pub invariant-loop-i : goal.invariant-loop-i
invariant-loop-i l = l.seen ≡ long_among l.payload l.place l.i
