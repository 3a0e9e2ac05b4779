use Rattle.differ.specs.Differ.{next_diff}
use native.Mathlib.Omega.{arith}
use Rattle.cases.proofs.delta.delta.Goals as goal

pub loop-at-smaller : goal.loop-at-smaller
unfolding next_diff
loop-at-smaller c = omega arith
