use Rattle.thonxiliko.specs.Widths.{carry_fits}
use Rattle.thonxiliko.proofs.areas.thx_carry_out.Goals as goal

pub of-requires : goal.of-requires
of-requires c = carry_fits _ _ _ _ _ c.carry_out.ensures
