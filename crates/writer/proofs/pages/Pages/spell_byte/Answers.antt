use native.Mathlib.Omega.{arith}
use mathlib.Core.Path.{sym}
use Rattle.differ.specs.DifferLaws.{next_here}
use Rattle.writer.proofs.Spelling.{spells_none, reached_alike}
use Rattle.writer.proofs.pages.Pages.spell_byte.Goals as goal

pub returns-then-self-at : goal.returns-then-self-at
returns-then-self-at c =
    let a = c.args in
    let most = c.requires in (
      reached_alike a.self.base.now a.self.page.now a.at a.before most.1 (omega arith) most.0 c.if-self-at.true,
      spells_none a.self.base.now a.self.page.now a.room.now a.before,
    )

pub spell_one-requires : goal.spell_one-requires
spell_one-requires c =
    let a = c.args in
    (c.requires.0, sym (next_here a.self.base.now a.self.page.now a.at (λ h k. c.if-self-at.false)), c.requires.1)
