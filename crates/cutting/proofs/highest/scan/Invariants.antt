use Rattle.cutting.proofs.HighestTold.{Walked}
use Rattle.cutting.proofs.highest.scan.Given as goal

abbrev pub invariant-loop-block : goal.invariant-loop-block
invariant-loop-block l = Walked l.patch l.n l.blocks l.block
