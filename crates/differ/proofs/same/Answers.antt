use mathlib.Core.Path.{◌∙◌}
use Rattle.differ.proofs.Turns.{same_bytes}
use Rattle.differ.proofs.same.Goals as goal

pub returns : goal.returns
returns c = c.eq.ensures ∙ same_bytes c.args.a.now c.args.b.now
