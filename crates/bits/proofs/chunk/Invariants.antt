use mathlib.Core.Path.{◌≡◌}
use mathlib.Core.Bool.{not}
use lib.Dec.{eqb}
use Rattle.bits.specs.Bits.{highs, lows, some_three}
use Rattle.bits.proofs.chunk.Given as goal

abbrev pub invariant-loop-byte : goal.invariant-loop-byte
invariant-loop-byte l =
    (l.high ≡ highs l.bytes 0 l.byte-index) × (l.low ≡ lows l.bytes 0 l.byte-index) × (eqb l.met 0 ≡ not (some_three l.bytes 0 l.byte-index))
