use Prim.Native.Nat.{◌+◌}
use native.Mathlib.Omega.{arith}
use mathlib.Core.Path.{sym, ◌∙◌}
use Rattle.differ.specs.Differ.{chunk}
use Rattle.differ.specs.DifferLaws.{next_here, next_skip, chunk_ahead}
use Rattle.differ.proofs.next_diff.Goals as goal

pub returns-then-end-from : goal.returns-then-end-from
returns-then-end-from c =
    let a = c.args in
    sym (next_here a.a.now a.b.now a.from (λ h k e. omega arith))

pub returns-then-a-from : goal.returns-then-a-from
returns-then-a-from c =
    let a = c.args in
    sym (next_here a.a.now a.b.now a.from (λ h k e. c.if-a-from.true e))

pub returns : goal.returns
returns c =
    let a = c.args in
    let wide = c.next_unlike-wide in
    let near = c.next_unlike-near in
    let word = c.differs.ensures.0 c.if-differs.false in
    c.next_byte-2.ensures
    ∙ sym
    (next_skip a.a.now a.b.now a.from (a.from + 8) (omega arith) (omega arith) (omega arith) word
    ∙ chunk_ahead chunk a.a.now a.b.now (a.from + 8) wide.result (wide.ensures.steps (omega arith))
    ∙ chunk_ahead 8 a.a.now a.b.now wide.result near.result (near.ensures.steps (omega arith)))
