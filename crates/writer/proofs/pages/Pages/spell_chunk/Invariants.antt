use Rattle.writer.specs.Steps.{Spells}
use Rattle.writer.proofs.Marks.{Passed}
use Rattle.writer.proofs.pages.Pages.spell_chunk.Given as goal

abbrev pub invariant-loop-left : goal.invariant-loop-left
invariant-loop-left l =
    Passed l.self.base.now l.self.page.now l.at l.left l.s
    × Spells l.self.base.now l.self.page.now l.initial.room l.initial.s l.room l.s

abbrev pub decreases-loop-left : goal.decreases-loop-left
decreases-loop-left l = l.left
