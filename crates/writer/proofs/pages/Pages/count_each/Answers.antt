use Prim.Native.Nat.{ℕ, ◌+◌}
use native.Mathlib.Omega.{arith}
use mathlib.Core.Path.{refl, ap}
use mathlib.Core.Logic.{inr}
use Rattle.writer.specs.Steps.{Reached}
use Rattle.writer.specs.declared.Spelled.{Spelled}
use Rattle.writer.proofs.Counting.{at_on}
use Rattle.writer.proofs.Spelling.{reached_next, reached_end}
use Rattle.writer.proofs.pages.Pages.count_each.Goals as goal
use Rattle.writer.proofs.pages.Pages.count_each.Goals.{After-entry_width}

pub returns-then-self-at : goal.returns-then-self-at
returns-then-self-at c =
    let a = c.args in
    let l = c.loop-s in
    let at = c.next_diff-at in
    let e = at.ensures in
    reached_end a.self.base.now a.self.page.now l.past l.s l.invariant c.found.result c.found.ensures (inr (omega (arith, e)))

-- what is known after one difference more
more : (c : After-entry_width)
    → let a = c.args in
    let s = c.loop-s.s in
    let at = c.next_diff-at.result in
    Reached a.self.base.now a.self.page.now (at + 1) (record { used = s.used + c.entry_width.result; entries = s.entries + 1; next = at + 1 })
more c =
    let a = c.args in
    let l = c.loop-s in
    let at = c.next_diff-at in
    let width = c.entry_width in
    let r : Spelled = record { used = l.s.used + width.result; entries = l.s.entries + 1; next = at.result + 1 } in
    reached_next a.self.base.now a.self.page.now l.past l.s l.invariant at.result at.ensures (omega arith) (omega arith) r
    (ap (λ (n : ℕ). l.s.used + n) width.ensures) refl refl

pub overflow_sub-at : goal.overflow_sub-at
overflow_sub-at c =
    let a = c.args in
    let l = c.loop-s in
    let at = c.next_diff-at in
    omega (arith, l.invariant.on, at_on a.self.base.now a.self.page.now l.past at.result at.ensures)

pub overflow_add-s : goal.overflow_add-s
overflow_add-s c =
    let t = more (goal.at.overflow_add-s c).After-entry_width in
    omega (arith, t.counted.short, t.counted.on)

pub loop-s-smaller : goal.loop-s-smaller
loop-s-smaller c =
    let a = c.args in
    let l = c.loop-s in
    let at = c.next_diff-at in
    omega (arith, at_on a.self.base.now a.self.page.now l.past at.result at.ensures)

pub loop-s-preserved : goal.loop-s-preserved
loop-s-preserved c = more (goal.at.loop-s-preserved c).After-entry_width
