use Prim.Native.Nat.{◌+◌, ◌≤◌}
use native.Mathlib.Omega.{arith}
use lib.Count.{count_trailing_zeros}
use Rattle.differ.specs.Differ.{stride}
use Rattle.writer.specs.WordLaws.{Bytes}
use Rattle.writer.proofs.Spelling.{spells_then}
use Rattle.writer.proofs.Marks.{NextWord, all_passed, next_word}
use Rattle.writer.proofs.pages.Pages.spell_chunk.Goals as goal
use Rattle.writer.proofs.pages.Pages.spell_chunk.Goals.{In-loop-left}

-- the next word that differs, as each turn finds it
found : (c : In-loop-left)
    → let a = c.args in
    let l = c.loop-left in
    NextWord a.self.base.now a.self.page.now a.at l.left (count_trailing_zeros 64 l.left) l.s × (a.at + stride ≤ 65536)
found c =
    let a = c.args in
    let l = c.loop-left in
    let most = c.requires in
    let wb : Bytes a.self.base.now = a.self.bytes.0 in
    let wp : Bytes a.self.page.now = a.self.bytes.1 in (
      next_word a.self.base.now a.self.page.now wb wp a.at l.left (omega arith) most.0 l.s l.invariant.0 c.loop-left-test.true,
      omega arith,
    )

pub spell_word-s-requires : goal.spell_word-s-requires
spell_word-s-requires c =
    let most = c.requires in
    let next = (found (goal.at.spell_word-s-requires c).In-loop-left).0 in
    (omega (arith, most.0, next.within), next.reached)

pub loop-left-preserved : goal.loop-left-preserved
loop-left-preserved c =
    let a = c.args in
    let l = c.loop-left in
    let word = c.spell_word-s in (
      (found (goal.at.loop-left-preserved c).In-loop-left).0.on word.result word.ensures.0,
      spells_then a.self.base.now a.self.page.now a.room.now a.before l.room l.s word.new.room word.result l.invariant.1
          word.ensures.1,
    )

pub returns : goal.returns
returns c =
    let a = c.args in
    let l = c.loop-left in
    let most = c.requires in
    let wb : Bytes a.self.base.now = a.self.bytes.0 in
    let wp : Bytes a.self.page.now = a.self.bytes.1 in
    (all_passed a.self.base.now a.self.page.now wb wp a.at l.left (omega arith) most.0 l.s l.invariant.0 c.loop-left-test.false, l.invariant.1)
