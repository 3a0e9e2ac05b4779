use Rattle.thonxiliko.specs.Widths.{apply_fits, apply_offset_fits}
use Rattle.thonxiliko.proofs.pages.thx_apply.Goals as goal

pub of-requires-clause-counts : goal.of-requires-clause-counts
of-requires-clause-counts c = apply_fits _ _ _ c.apply.ensures

pub of-requires-clause-offsets : goal.of-requires-clause-offsets
of-requires-clause-offsets c = apply_offset_fits c.apply.ensures
