use mathlib.Core.Path.{◌≡◌, refl, sym, ◌∙◌}
use mathlib.Core.Bool.{false}
use Rattle.differ.specs.Differ.{has_chunk, chunk_diffs}
use Rattle.differ.specs.DifferLaws.{has_true, chunk_diffs_is}
use Rattle.differ.proofs.count_chunk.Goals as goal

pub returns-then-has_chunk : goal.returns-then-has_chunk
returns-then-has_chunk c =
    let a = c.args in
    let w = has_true a.a.now a.b.now a.at (sym c.has_chunk.ensures ∙ c.if-has_chunk.true) in
    c.from.ensures ∙ c.count_whole.ensures ∙ sym (chunk_diffs_is a.a.now a.b.now a.at w.0 w.1)

pub returns-else-has_chunk : goal.returns-else-has_chunk
unfolding chunk_diffs
returns-else-has_chunk c =
    let a = c.args in
    let e : has_chunk a.a.now a.b.now a.at ≡ false = sym c.has_chunk.ensures ∙ c.if-has_chunk.false in
    rw e refl
