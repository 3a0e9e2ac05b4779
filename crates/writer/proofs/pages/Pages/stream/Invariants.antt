use Prim.Native.Nat.{◌-◌, ◌≤◌}
use Rattle.writer.specs.Steps.{Reached, Stored}
use Rattle.writer.proofs.pages.Pages.stream.Given as goal

abbrev pub invariant-loop-at : goal.invariant-loop-at
invariant-loop-at l =
    (l.at ≤ l.end) × Reached l.self.base.now l.self.page.now l.at l.s × Stored l.self.base.now l.self.page.now l.initial.room l.room l.s.next l.s.used

abbrev pub decreases-loop-at : goal.decreases-loop-at
decreases-loop-at l = l.end - l.at
