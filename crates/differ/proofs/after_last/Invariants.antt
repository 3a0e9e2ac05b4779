use Prim.Native.Nat.{◌≤◌}
use Rattle.differ.specs.Differ.{Same}
use Rattle.differ.proofs.after_last.Given as goal

abbrev pub invariant-loop-at : goal.invariant-loop-at
invariant-loop-at l = (l.from ≤ l.at) × Same l.a l.b l.at l.to
