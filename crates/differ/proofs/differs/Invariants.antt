use Prim.Native.Nat.{◌+◌}
use mathlib.Core.Path.{◌≡◌}
use mathlib.Core.Bool.{true, false}
use Rattle.differ.specs.Differ.{Same}
use Rattle.differ.proofs.differs.Given as goal

abbrev pub invariant-loop-i : goal.invariant-loop-i
invariant-loop-i g l = (l.seen ≡ false → Same l.a l.b l.at (l.at + l.i)) × (l.seen ≡ true → Same l.a l.b l.at (l.at + l.i) → ⊥)
