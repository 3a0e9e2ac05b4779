use Rattle.std.proofs.Common.{sym, ◌∙◌}
use Rattle.layout.specs.Exits.{left_with}
use mathlib.Core.Path.{refl}
use Rattle.std.proofs.lemmas.Bool.{not-false}
use Rattle.carrying.proofs.KindTests.{is_patch}
use Rattle.carrying.proofs.Decisions.{unsound_told, sound_told}
use Rattle.carrying.proofs.check.stored_payload.Goals as goal

pub returns-in_err-check : goal.returns-in_err-check
returns-in_err-check c =
    let a = c.args in
    let k = sym (is_patch a.kind) ∙ not-false _ (sym c.ne.ensures ∙ c.if-ne.false) in
    rw (left_with c.from_residual.ensures)
    (refl, rw (k, unsound_told a.size a.payload.now c.requires.1 c.in_err-check.field-0.0 c.in_err-check.ensures) refl)

pub returns : goal.returns
returns c =
    let a = c.args in
    let k = sym (is_patch a.kind) ∙ not-false _ (sym c.ne.ensures ∙ c.if-ne.false) in
    (rw (k, sound_told a.size a.payload.now c.requires.1 c.in_ok-check.field-0 c.in_ok-check.ensures) refl, rw k refl)
