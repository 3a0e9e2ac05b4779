use Prim.Native.Nat.{◌-◌}
use lib.ListN.{length as length_of}
use Rattle.writer.specs.Steps.{Reached}
use Rattle.writer.proofs.pages.Pages.count_each.Given as goal

abbrev pub invariant-loop-s : goal.invariant-loop-s
invariant-loop-s l = Reached l.self.base.now l.self.page.now l.past l.s

abbrev pub decreases-loop-s : goal.decreases-loop-s
decreases-loop-s l = length_of l.self.page.now - l.past
