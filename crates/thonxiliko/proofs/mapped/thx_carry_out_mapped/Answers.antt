use Rattle.thonxiliko.specs.Widths.{carry_mapped_fits}
use Rattle.thonxiliko.proofs.mapped.thx_carry_out_mapped.Goals as goal

pub of-requires : goal.of-requires
of-requires c = carry_mapped_fits _ _ _ _ _ c.carry_out_mapped.ensures
