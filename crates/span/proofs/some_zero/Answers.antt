use Prim.Native.Nat.{ℕ, ◌-◌}
use native.Mathlib.Omega.{arith}
use mathlib.Core.Path.{ap, ◌∙◌}
use lib.Dec.{eqb}
use lib.ListN.{length}
use Rattle.span.proofs.Zeros.{by_end, by_whole}
use Rattle.span.proofs.some_zero.Goals as goal

pub returns-then-parts_zero : goal.returns-then-parts_zero
returns-then-parts_zero c =
    let s = c.args.s.now in
    ap (λ (b : ℕ). eqb b 0) c.bits_in.ensures
    ∙ by_end (length s - 32) 32 s _ c.parts_zero.ensures c.if-parts_zero.true (omega arith) c.in-Some.piece.now c.in-Some.ensures.cases.1.same

pub returns-then-rest-eq0 : goal.returns-then-rest-eq0
returns-then-rest-eq0 c = by_whole 256 c.args.s.now _ c.parts_zero-then-rest-eq0.ensures c.if-rest-eq0.true

pub returns-then-parts_zero-2 : goal.returns-then-parts_zero-2
returns-then-parts_zero-2 c =
    let s = c.args.s.now in
    ap (λ (b : ℕ). eqb b 0) c.bits_in-then-parts_zero-2.ensures
    ∙ by_end (length s - 32) 256 s _ c.parts_zero-then-rest-le-PIECE.ensures c.if-parts_zero-2.true (omega (arith, c.if-rest-le-PIECE.true))
    c.in-Some.piece.now c.in-Some.ensures.cases.1.same

pub returns-then-parts_zero-3 : goal.returns-then-parts_zero-3
returns-then-parts_zero-3 c =
    let s = c.args.s.now in
    ap (λ (b : ℕ). eqb b 0) c.bits_in-then-parts_zero-3.ensures
    ∙ by_end (length s - 256) 256 s _ c.parts_zero-2.ensures c.if-parts_zero-3.true (omega arith) c.in-Some-last_chunk.stretch.now
    c.in-Some-last_chunk.ensures.cases.1.same
