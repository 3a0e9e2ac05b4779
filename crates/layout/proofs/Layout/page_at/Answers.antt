use Prim.Native.Nat.{◌*◌, ◌≤◌}
use native.Mathlib.Omega.{arith}
use native.Mathlib.Nat.{mul-le-mul_left}
use Rattle.layout.proofs.Layout.page_at.Goals as goal

pub overflow_mul-result : goal.overflow_mul-result
overflow_mul-result c =
    let h : c.args.size * c.args.block ≤ c.args.size * 4294967295 = mul-le-mul_left c.args.size (omega arith) in
    omega (arith, h)

pub overflow_add-result : goal.overflow_add-result
overflow_add-result c =
    let h : c.args.size * c.args.block ≤ c.args.size * 4294967295 = mul-le-mul_left c.args.size (omega arith) in
    omega (arith, h)
