use Rattle.carrying.specs.PutLaws.{slot_stored}
use Rattle.layout.specs.Numbers.{kind_number}
use Rattle.carrying.proofs.stores.store_slot.Goals as goal

pub returns : goal.returns
returns c =
    let a = c.args in
    slot_stored a.patch.now a.block c.slot_at-at.result (kind_number a.stored.kind) a.stored.payload.now
    c.put_slot.new.slot c.slot_at-at.ensures c.requires a.stored.few c.put_slot.ensures
