use Prim.Native.Nat.{ℕ, ◌+◌, ◌/◌, ◌≤◌}
use native.Mathlib.Omega.{arith}
use lib.Count.{count_trailing_zeros}
use Rattle.writer.proofs.Spelling.{spells_then, differs_here, reached_here, word_done, NextIn, next_in_word}
use Rattle.writer.specs.Words.{word_bytes}
use Rattle.writer.proofs.pages.Pages.spell_word.Goals as goal
use Rattle.writer.proofs.pages.Pages.spell_word.Goals.{In-loop-left}

-- where the next difference is, as each turn finds it
found : (c : In-loop-left)
    → let a = c.args in
    let l = c.loop-left in
    NextIn a.self.base.now a.self.page.now l.from (a.at + word_bytes) l.left (count_trailing_zeros 64 l.left / 8) × (a.at + word_bytes ≤ 65536)
found c =
    let a = c.args in
    let l = c.loop-left in (
      next_in_word a.self.base.now a.self.page.now a.self.bytes.0 a.self.bytes.1 l.from (a.at + word_bytes) l.left (omega arith) c.requires.0
          l.invariant.1 l.invariant.2 l.s l.invariant.3 (omega arith) c.loop-left-test.true,
      omega arith,
    )

pub spell_one-s-requires : goal.spell_one-s-requires
spell_one-s-requires c =
    let a = c.args in
    let l = c.loop-left in
    let next = (found (goal.at.spell_one-s-requires c).In-loop-left).0 in
    let at : ℕ = l.from + count_trailing_zeros 64 l.left / 8 in (
      omega (arith, next.within),
      differs_here a.self.base.now a.self.page.now l.from l.s l.invariant.3 at next.place (omega (arith, next.within)) (omega (arith, next.within)),
      reached_here a.self.base.now a.self.page.now l.from l.s l.invariant.3 at next.place (omega (arith, next.within)) (omega (arith, next.within)),
    )

pub loop-left-smaller : goal.loop-left-smaller
loop-left-smaller c =
    let g = goal.at.loop-left-smaller c in
    omega (arith, (found g.In-loop-left).0.within, (found g.In-loop-left).1)

pub loop-left-preserved : goal.loop-left-preserved
loop-left-preserved c =
    let a = c.args in
    let l = c.loop-left in
    let next = (found (goal.at.loop-left-preserved c).In-loop-left).0 in
    let one = c.spell_one-s in (
      omega arith,
      omega (arith, next.within),
      next.left,
      one.ensures.0,
      spells_then a.self.base.now a.self.page.now a.room.now a.before l.room l.s one.new.room one.result l.invariant.4 one.ensures.1,
    )

pub returns : goal.returns
returns c =
    let a = c.args in
    let l = c.loop-left in (
      word_done a.self.base.now a.self.page.now a.self.bytes.0 a.self.bytes.1 l.from (a.at + word_bytes) l.left (omega arith) c.requires.0
          l.invariant.1 l.invariant.2 l.s l.invariant.3 c.loop-left-test.false,
      l.invariant.4,
    )
