use Prim.Native.Nat.{◌+◌, ◌-◌}
use native.Mathlib.Omega.{arith}
use Rattle.differ.proofs.Turns.{same_none, same_before}
use Rattle.differ.specs.DifferLaws.{AfterLast, after_last_is}
use borrow.Author.Rules.{rules}
use mathlib.Core.Path.{◌≡◌}
use Rattle.differ.proofs.after_last.Goals as goal

pub loop-at-init : goal.loop-at-init
loop-at-init c = (search rules, same_none c.args.a.now c.args.b.now c.args.to c.args.to (omega arith))

pub returns-then-a-at : goal.returns-then-a-at
returns-then-a-at c =
    let a = c.args in
    let l = c.loop-at in
    let e : l.at - 1 + 1 ≡ l.at = omega arith in
    let w : AfterLast a.a.now a.b.now a.from a.to l.at = search rules in
    rw e (after_last_is a.a.now a.b.now a.from a.to l.at w)

pub loop-at-preserved : goal.loop-at-preserved
loop-at-preserved c =
    let a = c.args in
    let l = c.loop-at in
    (omega arith, same_before a.a.now a.b.now l.at a.to l.invariant.1 c.if-a-at.false)

pub returns : goal.returns
returns c =
    let a = c.args in
    let l = c.loop-at in
    let e : l.at ≡ a.from = omega arith in
    let w : AfterLast a.a.now a.b.now a.from a.to a.from = record {
      on = omega arith;
      within = omega arith;
      alike = rw e at l.invariant.1;
      differ = λ h. absurd (omega arith);
    } in
    after_last_is a.a.now a.b.now a.from a.to a.from w
