use native.Mathlib.Omega.{arith}
use mathlib.Core.Path.{refl, ◌∙◌}
use borrow.Author.Rules.{rules}
use Rattle.replay.specs.Laws.{begin, go_on, countable, ended}
use Rattle.replay.proofs.Turns.{made_marked}
use Rattle.replay.proofs.run.Goals as goal

pub loop-i-init : goal.loop-i-init
loop-i-init g c = (begin, refl, refl)

pub overflow_add-accepted : goal.overflow_add-accepted
overflow_add-accepted g c =
    let t = made_marked c.turn-answer.result c.is_ok.ensures.value c.from-mark.ensures c.turn-answer.ensures.made in
    let h = countable c.loop-i.invariant.0 c.loop-i-test.true t in
    record { fits = omega (arith, h, c.from-accepted.ensures, c.well_formed) }

pub loop-i-preserved : goal.loop-i-preserved
loop-i-preserved g c =
    let t = made_marked c.turn-answer.result c.is_ok.ensures.value c.from-mark.ensures c.turn-answer.ensures.made in (
      rw c.from-accepted.ensures
          (go_on c.loop-i.invariant.0 c.loop-i-test.true c.cut_at-cut.ensures c.nth_page-base.ensures c.nth_page-page.ensures t c.put.ensures),
      c.turn-answer.ensures.named ∙ c.loop-i.invariant.1,
      search rules,
    )

pub returns-clause-ran : goal.returns-clause-ran
returns-clause-ran g c = ended c.loop-i.invariant.0 c.loop-i-test.false
