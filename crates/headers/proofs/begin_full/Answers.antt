use Rattle.std.proofs.Common.{ℕ, List, refl, sym, ap, ◌∙◌, ◌++◌, ◌-◌, length, take}
use Rattle.span.specs.Bytes.{zeros}
use Rattle.layout.specs.Sizes.{full_head}
use Rattle.headers.specs.FreshLaws.{fresh_full_taken}
use Rattle.headers.proofs.Images.{full_image}
use Rattle.headers.proofs.begin_full.Goals as goal

pub returns : goal.returns
returns c =
    let a = c.args in
    let n : ℕ = length a.full.now in
    c.begin.ensures
    ∙ ap (λ (l : List ℕ). take n (l ++ zeros (n - full_head))) (full_image _ refl refl refl refl a.size)
    ∙ sym (fresh_full_taken a.size n)
