use Rattle.layout.specs.Exits.{left_with}
use Rattle.span.specs.Bytes.{zeros}
use Rattle.replay.proofs.Turns.{write_refused, made_decided}
use Rattle.replay.proofs.write_turn.Goals as goal

pub returns-in_err-decided-clause-made : goal.returns-in_err-decided-clause-made
unfolding zeros
returns-in_err-decided-clause-made g c =
    rw (left_with c.from_residual.ensures) (write_refused _ c.in_err-decided.ensures)

pub returns-clause-made : goal.returns-clause-made
unfolding zeros
returns-clause-made g c = made_decided c.in_ok-decided.ensures c.payload-payload.ensures c.carry.ensures.made
