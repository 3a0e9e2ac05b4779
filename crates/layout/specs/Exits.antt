-- What the exit of a `?` returns.
use Rattle.std.specs.Prelude.{◌≡◌, Result, Ok, Err, IsErr, IsErrAnd}
use Rattle.std.proofs.Common.{ap}

-- the error that `From` gives, which is the same one where its type stays
pub left_with : {A E : Type 0} {r : Result A E} {e : E} → IsErr r × IsErrAnd r (λ x. x ≡ e) → r ≡ Err e
left_with {r = Ok x} h = absurd h.1
left_with {r = Err x} h = ap Err h.1
