use Rattle.std.proofs.Common.{◌-◌, ◌≤◌, ◌≡◌}
use Rattle.blockmap.specs.Pack.{clear_pairs}
use Rattle.blockmap.proofs.clear_each.Given as goal

abbrev pub invariant-loop-block : goal.invariant-loop-block
invariant-loop-block l = (l.block - l.from ≤ l.to - l.from) × (l.map ≡ clear_pairs l.initial.map l.from (l.block - l.from))
