use lib.ListN.{take}
use Rattle.bits.proofs.Chunks.{Reached}
use Rattle.bits.proofs.count.Given as goal

abbrev pub invariant-loop-part : goal.invariant-loop-part
invariant-loop-part l =
    (goal.iterator-loop-part).can_next l.part-iterator ×
    (goal.iterator-loop-part).is_finite l.part-iterator × Reached (take l.end l.map) l.part-iterator l.sum
