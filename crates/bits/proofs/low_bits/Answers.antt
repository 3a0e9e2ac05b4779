use mathlib.Core.Path.{refl}
use lib.Bits.{bit_and}
use Rattle.bits.specs.Bits.{low_bits}
use Rattle.bits.specs.BitLaws.{at_each_byte}
use Rattle.bits.proofs.low_bits.Goals as goal

pub returns : goal.returns
unfolding low_bits
returns c = at_each_byte (λ x. bit_and x 0x55) low_bits refl c.args.byte c.ranges.byte.fits
