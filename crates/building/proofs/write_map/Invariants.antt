use Rattle.std.specs.Prelude.{◌≡◌}
use Rattle.span.specs.Bytes.{splice}
use Rattle.blockmap.specs.Pack.{packed_first}
use Rattle.building.specs.Steps.{kind_pair}
use Rattle.building.proofs.write_map.Given as goal

abbrev pub invariant-loop-at : goal.invariant-loop-at
invariant-loop-at l = l.byte-items ≡ splice l.initial.byte-items 0 (packed_first (kind_pair l.areas.patch.now) l.areas.frame.n l.at)
