use Rattle.thonxiliko.specs.Widths.{build_offset_fits}
use Rattle.thonxiliko.proofs.areas.thx_build.Goals as goal

pub of-requires : goal.of-requires
of-requires c = build_offset_fits c.build.ensures
