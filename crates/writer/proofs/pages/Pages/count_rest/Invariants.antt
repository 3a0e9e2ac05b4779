use Prim.Native.Nat.{◌-◌}
use Rattle.writer.proofs.Chunks.{Marked}
use Rattle.writer.proofs.pages.Pages.count_rest.Given as goal

abbrev pub invariant-loop-next : goal.invariant-loop-next
invariant-loop-next l = Marked l.self.base.now l.self.page.now l.mark l.used l.entries

abbrev pub decreases-loop-next : goal.decreases-loop-next
decreases-loop-next l = l.end - l.mark
