use Prim.Native.Nat.{ℕ}
use mathlib.Core.Path.{ap₂}
use lib.Bits.{bit_and}
use Rattle.bits.specs.Bits.{threes}
use Rattle.bits.proofs.threes.Goals as goal

pub returns : goal.returns
unfolding threes
returns c = ap₂ (λ (a b : ℕ). bit_and a b) c.low_bits.ensures c.high_bits.ensures
