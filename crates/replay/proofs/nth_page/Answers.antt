use native.Mathlib.Omega.{arith}
use mathlib.Core.Path.{◌∙◌}
use Rattle.replay.proofs.Turns.{part_within}
use Rattle.replay.proofs.nth_page.Goals as goal

pub returns : goal.returns
returns c = rw c.saturating_mul.ensures at c.part.ensures.bytes ∙ part_within _ _ _ c.args.pages.now (omega (arith, c.well_formed))
