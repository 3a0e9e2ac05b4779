-- What a negated test of a call's result tells of what the call ensures: `if !f(..) { .. }`.
use Rattle.std.specs.Prelude.{◌≡◌, Bool, true, false, not}
use Rattle.std.proofs.Common.{sym, ◌∙◌}
use Rattle.std.proofs.lemmas.Bool.{not-true, not-false}

pub off : (r : Bool) {t : Bool} → r ≡ t → not r ≡ true → t ≡ false
off r e h = sym e ∙ not-true r h

pub on : (r : Bool) {t : Bool} → r ≡ t → not r ≡ false → t ≡ true
on r e h = sym e ∙ not-false r h
