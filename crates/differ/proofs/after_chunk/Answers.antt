use Prim.Native.Nat.{◌+◌, ◌-◌}
use native.Mathlib.Omega.{arith}
use mathlib.Core.Path.{◌≡◌, refl, sym, ap, ◌∙◌}
use mathlib.Core.Bool.{false}
use Rattle.differ.specs.Differ.{chunk, after_last, has_chunk, chunk_after}
use Rattle.differ.specs.DifferLaws.{has_true, chunk_after_is}
use Rattle.differ.proofs.after_chunk.Goals as goal

pub returns-then-has_chunk : goal.returns-then-has_chunk
returns-then-has_chunk c =
    let a = c.args in
    let w = has_true a.a.now a.b.now a.at (sym c.has_chunk.ensures ∙ c.if-has_chunk.true) in
    let q : a.at + chunk - a.at ≡ chunk = omega arith in
    c.after_last.ensures ∙ ap (after_last a.a.now a.b.now a.at) q ∙ sym (chunk_after_is a.a.now a.b.now a.at w.0 w.1)

pub returns-else-has_chunk : goal.returns-else-has_chunk
unfolding chunk_after
returns-else-has_chunk c =
    let a = c.args in
    let e : has_chunk a.a.now a.b.now a.at ≡ false = sym c.has_chunk.ensures ∙ c.if-has_chunk.false in
    rw e refl
