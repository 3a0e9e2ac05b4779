use Rattle.std.proofs.Common.{ap, ◌∙◌}
use Rattle.slots.specs.Slots.{slot_numbers}
use Rattle.store.proofs.block.state.Goals as goal

pub returns : goal.returns
returns c = c.slot_state.ensures ∙ ap slot_numbers c.slot.ensures
