use mathlib.Core.Path.{◌≡◌}
use Rattle.differ.specs.Differ.{diffs_in}
use Rattle.differ.proofs.count_whole.Given as goal

abbrev pub invariant-loop-i : goal.invariant-loop-i
invariant-loop-i l = l.count ≡ diffs_in l.a l.b l.at l.i
