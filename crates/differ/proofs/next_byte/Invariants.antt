use mathlib.Core.Path.{◌≡◌}
use Rattle.differ.specs.Differ.{next_diff}
use Rattle.differ.proofs.next_byte.Given as goal

abbrev pub invariant-loop-at : goal.invariant-loop-at
invariant-loop-at l = next_diff l.a l.b l.from ≡ next_diff l.a l.b l.at
