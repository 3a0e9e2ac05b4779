use Prim.Native.Nat.{ℕ, ◌+◌, ◌-◌, min}
use native.Mathlib.Omega.{arith}
use mathlib.Core.Path.{◌≡◌, sym, ap, ◌∙◌}
use lib.ListN.{length, take, drop}
use Rattle.span.specs.Bytes.{part}
use Rattle.span.specs.Laws.{part_past, part_clamped}
use Rattle.span.proofs.part.Goals as goal

pub returns-then-s-at-clause-bytes : goal.returns-then-s-at-clause-bytes
returns-then-s-at-clause-bytes c =
    let a = c.args in
    sym (part_past a.at a.n a.s.now c.if-s-at.true)

pub returns-clause-bytes : goal.returns-clause-bytes
unfolding part
returns-clause-bytes c =
    let a = c.args in
    let e : a.at + c.min.result - a.at ≡ min a.n (length a.s.now - a.at) = omega arith in
    ap (λ (k : ℕ). take k (drop a.at a.s.now)) e ∙ part_clamped a.at a.n a.s.now
