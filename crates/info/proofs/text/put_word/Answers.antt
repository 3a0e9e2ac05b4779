use Rattle.info.proofs.Words.{word_turn, word_whole}
use native.Mathlib.Omega.{arith}
use mathlib.Core.Path.{◌∙◌}
use Rattle.info.proofs.text.put_word.Goals as goal

pub loop-i-preserved : goal.loop-i-preserved
loop-i-preserved c =
    let a = c.args in
    let l = c.loop-i in
    c.put.ensures ∙ word_turn a.out.now l.out a.word.now a.at l.i c.loop-i-test.true l.invariant

pub returns : goal.returns
returns c =
    let a = c.args in
    let l = c.loop-i in
    word_whole a.out.now l.out a.word.now a.at l.i (omega (arith, c.loop-i-test.false, l.auto.i-end)) l.invariant
