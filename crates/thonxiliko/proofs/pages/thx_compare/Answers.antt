use Rattle.thonxiliko.specs.Widths.{compare_fits}
use Rattle.thonxiliko.proofs.pages.thx_compare.Goals as goal

pub of-requires-clause-lengths : goal.of-requires-clause-lengths
of-requires-clause-lengths c = (compare_fits _ _ _ c.compare.ensures).0

pub of-requires-clause-counts : goal.of-requires-clause-counts
of-requires-clause-counts c = (compare_fits _ _ _ c.compare.ensures).1
