use mathlib.Core.Path.{ap, ◌∙◌}
use Rattle.layout.specs.Sizes.{page_size}
use Rattle.cutting.specs.Cut.{CutOutcome}
use Rattle.cutting.specs.CutLaws.{cut_alone}
use Rattle.cutting.proofs.cut.Goals as goal

pub returns : goal.returns
returns c =
    let a = c.args in
    let w = c.cut_with.ensures in
    let e = cut_alone page_size a.patch.now a.full.now a.k in
    record {
      numbers = w.numbers ∙ ap (λ (o : CutOutcome). o.number) e;
      patch_bytes = w.patch_bytes ∙ ap (λ (o : CutOutcome). o.patch) e;
      full_bytes = w.full_bytes ∙ ap (λ (o : CutOutcome). o.full) e;
    }
