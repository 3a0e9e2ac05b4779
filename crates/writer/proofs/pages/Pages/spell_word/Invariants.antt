use Prim.Native.Nat.{◌+◌, ◌-◌, ◌≤◌}
use mathlib.Core.Path.{◌≡◌}
use Rattle.writer.specs.Steps.{Reached, Spells}
use Rattle.writer.specs.Words.{word_bytes, unlike}
use Rattle.writer.proofs.pages.Pages.spell_word.Given as goal

abbrev pub invariant-loop-left : goal.invariant-loop-left
invariant-loop-left l =
    (l.at ≤ l.from) × (l.from ≤ l.at + word_bytes) × (l.left ≡ unlike l.self.base.now l.self.page.now l.from (l.at + word_bytes - l.from))
    × Reached l.self.base.now l.self.page.now l.from l.s
    × Spells l.self.base.now l.self.page.now l.initial.room l.initial.s
    l.room l.s

abbrev pub decreases-loop-left : goal.decreases-loop-left
decreases-loop-left l = l.at + word_bytes - l.from
