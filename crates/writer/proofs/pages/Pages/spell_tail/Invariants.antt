use Rattle.writer.specs.Steps.{Reached, Spells}
use Rattle.writer.proofs.pages.Pages.spell_tail.Given as goal

abbrev pub invariant-loop-at : goal.invariant-loop-at
invariant-loop-at l =
    Reached l.self.base.now l.self.page.now l.at l.s × Spells l.self.base.now l.self.page.now l.initial.room l.initial.s l.room l.s
