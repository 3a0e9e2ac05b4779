use Rattle.bits.specs.Bits.{high_bits}
use Rattle.bits.proofs.high_bits.Goals as goal

pub returns : goal.returns
unfolding high_bits
returns c = c.low_bits.ensures
