use Rattle.layout.specs.Exits.{left_with}
use Rattle.replay.proofs.Turns.{carried_out}
use Rattle.replay.proofs.lent.AloneLent.carry.Goals as goal

pub returns-in_err-carry_out-clause-made : goal.returns-in_err-carry_out-clause-made
returns-in_err-carry_out-clause-made c =
    rw (left_with c.from_residual.ensures) (carried_out c.from.ensures c.in_err-carry_out.ensures)

pub returns-clause-made : goal.returns-clause-made
returns-clause-made c = carried_out c.from.ensures c.in_ok-carry_out.ensures
