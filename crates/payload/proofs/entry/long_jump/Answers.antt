use Prim.Native.Nat.{◌+◌}
use native.Mathlib.Omega.{arith}
use Rattle.payload.proofs.Reading.{jumped_cut, jumped_below, jumped_on}
use Rattle.payload.proofs.entry.long_jump.Goals as goal

pub returns-then-payload-place-lt-LONG_WIDTH : goal.returns-then-payload-place-lt-LONG_WIDTH
returns-then-payload-place-lt-LONG_WIDTH c =
    let a = c.args in
    jumped_cut a.payload.now a.place c.if-payload-place-lt-LONG_WIDTH.true c.requires

pub returns-then-jump-lt-LONG_FROM : goal.returns-then-jump-lt-LONG_FROM
returns-then-jump-lt-LONG_FROM c =
    let a = c.args in
    jumped_below a.payload.now a.place (omega arith) c.from_le_bytes-jump.result (omega (arith, c.from_le_bytes-jump.ensures)) (omega arith)

pub returns : goal.returns
returns c =
    let a = c.args in
    let known = c.type_inv.payload in
    jumped_on a.payload.now a.place (omega arith) c.from_le_bytes-jump.result (omega (arith, c.from_le_bytes-jump.ensures)) (omega arith)
    (omega (arith, known (a.place + 1), known (a.place + 2)))
