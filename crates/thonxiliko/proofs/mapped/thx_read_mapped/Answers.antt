use Rattle.thonxiliko.specs.Widths.{read_mapped_offset_fits}
use Rattle.thonxiliko.proofs.mapped.thx_read_mapped.Goals as goal

pub of-requires : goal.of-requires
of-requires c = read_mapped_offset_fits c.read_mapped.ensures
