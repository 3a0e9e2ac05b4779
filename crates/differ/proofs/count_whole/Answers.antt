use Prim.Native.Nat.{◌+◌}
use native.Mathlib.Omega.{arith}
use mathlib.Core.Path.{◌≡◌, sym}
use mathlib.Core.Bool.{not}
use lib.Dec.{eqb}
use lib.ListN.{get_or}
use mir.Val.{bool_byte}
use Rattle.differ.specs.Differ.{diffs_in}
use Rattle.differ.specs.DifferLaws.{diffs_none, diffs_few}
use Rattle.differ.proofs.Turns.{counted_next}
use Rattle.differ.proofs.count_whole.Goals as goal

pub loop-i-init : goal.loop-i-init
loop-i-init c = sym (diffs_none c.args.a.now c.args.b.now c.args.at)

pub overflow_add-count : goal.overflow_add-count
overflow_add-count c =
    let a = c.args in
    let l = c.loop-i in
    let e : l.count + bool_byte (not (eqb (get_or a.a.now (a.at + l.i) 0) (get_or a.b.now (a.at + l.i) 0)))
    ≡ diffs_in a.a.now a.b.now a.at (l.i + 1) =
    counted_next a.a.now a.b.now a.at l.i l.count l.invariant in
    record { fits = omega (arith, diffs_few a.a.now a.b.now a.at (l.i + 1)) }

pub loop-i-preserved : goal.loop-i-preserved
loop-i-preserved c =
    let a = c.args in
    let l = c.loop-i in
    rw c.from-count.ensures (counted_next a.a.now a.b.now a.at l.i l.count l.invariant)
