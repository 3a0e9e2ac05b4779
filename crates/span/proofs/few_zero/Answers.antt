use Prim.Native.Nat.{ℕ, ◌-◌}
use native.Mathlib.Omega.{arith}
use mathlib.Core.Path.{ap, ◌∙◌}
use lib.Dec.{eqb}
use lib.ListN.{length}
use Rattle.span.proofs.Zeros.{bits_blank, by_end}
use Rattle.span.proofs.few_zero.Goals as goal

pub returns-in_default : goal.returns-in_default
returns-in_default c = ap (λ (b : ℕ). eqb b 0) c.bits_in.ensures ∙ bits_blank c.args.s.now

pub returns-then-parts_zero : goal.returns-then-parts_zero
returns-then-parts_zero c =
    let s = c.args.s.now in
    let end = c.in-Some.ensures in
    ap (λ (b : ℕ). eqb b 0) c.bits_in-then-parts_zero.ensures
    ∙ by_end (length s - 8) 8 s _ c.parts_zero.ensures c.if-parts_zero.true (omega arith) c.in-Some.end.now end.cases.1.same
