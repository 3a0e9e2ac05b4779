use Rattle.replay.proofs.Turns.{cut_made}
use Rattle.replay.proofs.lent.AloneLent.cut.Goals as goal

pub returns-clause-made : goal.returns-clause-made
returns-clause-made c = cut_made c.cut.ensures
