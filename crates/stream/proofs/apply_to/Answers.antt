use Rattle.std.specs.Prelude.{length}
use Rattle.layout.specs.Exits.{left_with}
use Rattle.payload.specs.Steps.{reach}
use Rattle.payload.specs.StepLaws.{judged}
use Rattle.stream.proofs.Answers.{applies_unsound, applies_sound}
use Rattle.std.specs.Prelude.{Ok, Err}
use Rattle.stream.proofs.apply_to.Goals as goal

pub returns-in_err-sound : goal.returns-in_err-sound
returns-in_err-sound c =
    let a = c.args in
    let k = reach (length a.page.now) in
    rw (left_with c.from_residual.ensures)
    (applies_unsound k a.base.now a.payload.now a.page.now c.in_err-sound.field-0.0.offset
    (judged k a.payload.now (Err c.in_err-sound.field-0.0) c.in_err-sound.ensures))

pub returns : goal.returns
returns c =
    let a = c.args in
    let k = reach (length a.page.now) in
    let s = c.in_ok-sound.sound in
    applies_sound a.base.now a.payload.now a.page.now c.copy.new.dst c.overlay.new.page s
    (judged k a.payload.now (Ok s) c.in_ok-sound.ensures) c.copy.ensures c.overlay.ensures
