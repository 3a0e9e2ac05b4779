use Rattle.std.proofs.Common.{arith}
use Rattle.building.proofs.BuildTold.{slot_start}
use Rattle.building.proofs.pair_at.Goals as goal

pub bounds-areas-at : goal.bounds-areas-at
bounds-areas-at c = omega (arith, slot_start c.args.areas c.args.block (omega (arith, c.if-areas-block.false)), c.slot_at-at.ensures)
