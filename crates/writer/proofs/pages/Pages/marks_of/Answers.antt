use native.Mathlib.Omega.{arith}
use Rattle.writer.proofs.Marks.{marks_zero, marks_next}
use Rattle.writer.proofs.pages.Pages.marks_of.Goals as goal

pub loop-i-init : goal.loop-i-init
loop-i-init c = marks_zero c.args.self.base.now c.args.self.page.now c.args.at

pub loop-i-preserved : goal.loop-i-preserved
loop-i-preserved c =
    let a = c.args in
    let l = c.loop-i in
    rw c.from.ensures
    (marks_next a.self.base.now a.self.page.now a.at l.i l.seen c.word.result c.word-in-loop-i.result (omega arith) l.invariant c.word.ensures
    c.word-in-loop-i.ensures)
