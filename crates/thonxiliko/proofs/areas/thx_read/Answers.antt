use Rattle.thonxiliko.specs.Widths.{read_offset_fits}
use Rattle.thonxiliko.proofs.areas.thx_read.Goals as goal

pub of-requires : goal.of-requires
of-requires c = read_offset_fits c.read.ensures
