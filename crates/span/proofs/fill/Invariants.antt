use Prim.Native.Nat.{◌*◌}
use mathlib.Core.Path.{◌≡◌}
use lib.ListN.{length}
use Rattle.span.specs.Bytes.{zeros, splice}
use Rattle.span.proofs.fill.Given as goal

abbrev pub invariant-loop-i : goal.invariant-loop-i
invariant-loop-i l =
    (length l.dst ≡ length l.initial.dst) × (l.dst ≡ splice l.initial.dst 0 (zeros (4096 * l.i)))
