use Rattle.replay.proofs.Turns.{cut_mapped_made}
use Rattle.replay.proofs.lent.WithMapLent.cut.Goals as goal

pub returns-clause-made : goal.returns-clause-made
returns-clause-made c = cut_mapped_made c.cut_mapped.ensures
