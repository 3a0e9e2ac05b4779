use Rattle.std.proofs.Common.{ℕ, List, refl, ap, ◌∙◌, ◌++◌, ◌-◌, length, take}
use Rattle.span.specs.Bytes.{zeros}
use Rattle.layout.specs.Sizes.{patch_head}
use Rattle.headers.specs.Fresh.{fresh_patch}
use Rattle.headers.proofs.Images.{patch_image}
use Rattle.headers.proofs.begin_patch.Goals as goal

pub returns : goal.returns
unfolding fresh_patch
returns c =
    let a = c.args in
    let n : ℕ = length a.patch.now in
    c.begin.ensures ∙ ap (λ (l : List ℕ). take n (l ++ zeros (n - patch_head))) (patch_image _ refl refl refl refl a.size)
