use native.Mathlib.Omega.{arith}
use mathlib.Core.Path.{ap, ◌∙◌}
use Rattle.differ.specs.Differ.{chunk}
use Rattle.differ.specs.DifferLaws.{after_last_tells, chunk_after_is}
use Rattle.writer.specs.Steps.{excess_of}
use Rattle.writer.proofs.Chunks.{excess_none}
use Rattle.writer.proofs.pages.Pages.excess_after.Goals as goal

pub returns-then-at-mark : goal.returns-then-at-mark
returns-then-at-mark c =
    let a = c.args in
    let most = c.requires in
    excess_none a.self.base.now a.self.page.now a.mark a.at most.1 most.2 (omega (arith, most.0, c.if-at-mark.true))

pub excess-requires : goal.excess-requires
excess-requires c =
    let a = c.args in
    let most = c.requires in
    let after = c.after_chunk.ensures ∙ chunk_after_is a.self.base.now a.self.page.now a.mark most.1.in_base most.1.within_page in
    omega (arith, most.0, after, (after_last_tells a.self.base.now a.self.page.now a.mark chunk).within)

pub returns : goal.returns
returns c =
    let a = c.args in
    let most = c.requires in
    let after = c.after_chunk.ensures ∙ chunk_after_is a.self.base.now a.self.page.now a.mark most.1.in_base most.1.within_page in
    c.excess.ensures ∙ ap (excess_of a.self.base.now a.self.page.now a.at) after
