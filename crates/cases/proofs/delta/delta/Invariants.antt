use Rattle.differ.specs.Differ.{next_diff}
use mathlib.Core.Path.{◌≡◌}
use Prim.Native.Nat.{◌-◌, ◌≤◌}
use Rattle.cases.proofs.delta.delta.Given as goal

abbrev pub invariant-loop-at : goal.invariant-loop-at
invariant-loop-at l = (l.told ≤ 16) × (l.told ≡ 0 → l.at ≡ next_diff l.before l.after 0)

abbrev pub decreases-loop-at : goal.decreases-loop-at
decreases-loop-at l = l.end - l.at
