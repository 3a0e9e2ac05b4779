use Prim.Native.Nat.{◌-◌}
use native.Mathlib.Omega.{arith}
use Rattle.writer.proofs.Counting.{at_on, width_least}
use Rattle.writer.proofs.pages.Pages.excess.Goals as goal

pub overflow_sub-next_diff : goal.overflow_sub-next_diff
overflow_sub-next_diff c =
    let a = c.args in
    omega (arith, c.requires, at_on a.self.base.now a.self.page.now a.at c.next_diff.result c.next_diff.ensures)

pub overflow_sub-result : goal.overflow_sub-result
overflow_sub-result c = omega (arith, c.entry_width.ensures, width_least (c.next_diff.result - c.args.next))
