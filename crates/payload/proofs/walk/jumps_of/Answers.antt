use Prim.Native.Nat.{◌+◌, ◌*◌}
use native.Mathlib.Omega.{arith}
use mathlib.Core.Path.{sym}
use Rattle.payload.proofs.Together.{jumps_none, jumps_next, jumps_few}
use Rattle.payload.proofs.walk.jumps_of.Goals as goal

pub loop-i-init : goal.loop-i-init
loop-i-init c = sym (jumps_none c.args.payload.now c.args.place)

pub overflow_add-sum : goal.overflow_add-sum
overflow_add-sum c =
    let a = c.args in
    let l = c.loop-i in
    let known = c.type_inv.payload in
    omega (arith, l.invariant, known (a.place + 2 * l.i), jumps_few a.payload.now a.place (λ i. (known i).fits) l.i)

pub loop-i-preserved : goal.loop-i-preserved
loop-i-preserved c =
    let a = c.args in
    let l = c.loop-i in
    omega (arith, l.invariant, jumps_next a.payload.now a.place l.i)
