use Rattle.differ.proofs.Turns.{same_none, same_next, skipped}
use Prim.Native.Nat.{◌+◌}
use native.Mathlib.Omega.{arith}
use mathlib.Core.Path.{◌≡◌, sym, ◌∙◌}
use Rattle.differ.specs.DifferLaws.{next_here}
use Rattle.differ.proofs.next_byte.Goals as goal

pub returns-then-a-at : goal.returns-then-a-at
returns-then-a-at c =
    let a = c.args in
    let l = c.loop-at in
    sym (l.invariant ∙ next_here a.a.now a.b.now l.at (λ h k e. c.if-a-at.true e))

pub loop-at-preserved : goal.loop-at-preserved
loop-at-preserved c =
    let a = c.args in
    let l = c.loop-at in
    skipped a.a.now a.b.now a.from l.at (l.at + 1) (omega arith) (omega arith) (omega arith) l.invariant
    (same_next a.a.now a.b.now l.at l.at (same_none a.a.now a.b.now l.at l.at (omega arith)) c.if-a-at.false)

pub returns : goal.returns
returns c =
    let a = c.args in
    let l = c.loop-at in
    let e : l.at ≡ a.end = omega arith in
    sym (rw e at l.invariant ∙ next_here a.a.now a.b.now a.end (λ h k e. omega arith))
