use Prim.Native.Nat.{◌+◌, ◌*◌}
use mathlib.Core.Path.{◌≡◌}
use lib.ListN.{length}
use Rattle.payload.specs.Steps.{jumps_of, LaysTo}
use Rattle.payload.proofs.lay.lay_each.Given as goal

abbrev pub invariant-loop-i : goal.invariant-loop-i
invariant-loop-i l =
    (l.next ≡ l.from.next + l.i + jumps_of l.payload l.from.place l.i)
    × LaysTo (length l.initial.page) l.payload l.initial.page l.from l.page (l.from.place + 2 * l.i) l.next
