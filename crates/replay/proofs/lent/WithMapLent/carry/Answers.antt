use Rattle.layout.specs.Exits.{left_with}
use Rattle.replay.proofs.Turns.{carried_out_mapped}
use Rattle.replay.proofs.lent.WithMapLent.carry.Goals as goal

pub returns-in_err-carry_out_mapped-clause-made : goal.returns-in_err-carry_out_mapped-clause-made
returns-in_err-carry_out_mapped-clause-made c =
    rw (left_with c.from_residual.ensures) (carried_out_mapped c.from.ensures c.in_err-carry_out_mapped.ensures)

pub returns-clause-made : goal.returns-clause-made
returns-clause-made c = carried_out_mapped c.from.ensures c.in_ok-carry_out_mapped.ensures
