use mathlib.Core.Path.{◌≡◌}
use Rattle.sweeping.specs.Sweep.{zeroed_but}
use Rattle.sweeping.specs.Parts.{marked}
use Rattle.sweeping.proofs.sweep_places.Given as goal

abbrev pub invariant-loop-block : goal.invariant-loop-block
invariant-loop-block l = l.full ≡ zeroed_but (marked l.patch) l.frame.size l.block l.initial.full
