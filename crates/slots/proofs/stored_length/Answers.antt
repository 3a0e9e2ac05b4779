use native.Mathlib.Omega.{arith}
use mathlib.Core.Path.{sym, ◌∙◌}
use Rattle.slots.specs.SlotLaws.{length_at_is}
use Rattle.slots.proofs.stored_length.Goals as goal

pub returns : goal.returns
returns c = sym (length_at_is c.args.slot.now c.requires ∙ omega (arith, c.from_le_bytes-size.ensures))
