use mathlib.Core.Path.{◌≡◌}
use Rattle.writer.specs.Words.{marks}
use Rattle.writer.proofs.pages.Pages.marks_of.Given as goal

abbrev pub invariant-loop-i : goal.invariant-loop-i
invariant-loop-i l = l.seen ≡ marks l.self.base.now l.self.page.now l.at l.i
