use Rattle.slots.specs.SlotLaws.{patch_length_some}
use Rattle.slots.proofs.payload_length.Goals as goal

pub returns-in-Ok-Patch : goal.returns-in-Ok-Patch
returns-in-Ok-Patch c =
    let a = c.in-Ok-Patch in
    patch_length_some c.args.slot.now a.n (rw a.field-0-is at a.ensures)
