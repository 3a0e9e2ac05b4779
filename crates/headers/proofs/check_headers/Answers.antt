use Rattle.std.proofs.Common.{ℕ, List, refl, sym, ap, ◌∙◌}
use Rattle.layout.specs.Exits.{left_with}
use Rattle.layout.specs.Sizes.{patch_head}
use Rattle.layout.specs.Numbers.{refusal_number}
use Rattle.layout.specs.NumberLaws.{refusal_some}
use Rattle.layout.specs.Refusals.{first_of}
use Rattle.layout.specs.RefusalLaws.{or_skip}
use Rattle.headers.specs.Headers.{head_rows, patch_head_rows, full_head_rows}
use Rattle.headers.specs.HeaderLaws.{headers_are, headers_patch}
use Rattle.headers.proofs.Images.{patch_image}
use Rattle.headers.proofs.check_headers.Goals as goal

pub returns-in_err-check : goal.returns-in_err-check
unfolding patch_head_rows
returns-in_err-check c =
    let a = c.args in
    let r = c.in_err-check.field-0.0 in
    rw (left_with c.from_residual.ensures)
    (sym (headers_patch a.size (refusal_number r) a.patch.now a.full.now
    (ap (λ (l : List ℕ). first_of (head_rows l patch_head a.patch.now)) (sym (patch_image _ refl refl refl refl a.size)) ∙ sym c.in_err-check.ensures)
    (refusal_some r)))

pub returns : goal.returns
unfolding patch_head_rows
returns c =
    let a = c.args in
    c.check_full.ensures
    ∙ sym (headers_are a.size a.patch.now a.full.now
    ∙ or_skip (first_of (patch_head_rows a.size a.patch.now)) (first_of (full_head_rows a.size a.full.now))
    (ap (λ (l : List ℕ). first_of (head_rows l patch_head a.patch.now)) (sym (patch_image _ refl refl refl refl a.size)) ∙ sym c.in_ok-check.ensures))
