use Rattle.carrying.specs.Parts.{decision_stored}
use Rattle.carrying.proofs.Making.{place_made, slot_made}
use Rattle.carrying.proofs.stores.one_store.Goals as goal

pub returns-then-of_place : goal.returns-then-of_place
returns-then-of_place c =
    let a = c.args in
    place_made a.frame.size a.block (decision_stored a.stored) a.patch.now a.full.now a.of_place _ c.if-of_place.true c.store_place.ensures

pub returns : goal.returns
returns c =
    let a = c.args in
    slot_made a.frame.size a.block (decision_stored a.stored) a.patch.now a.full.now a.of_place _ c.if-of_place.false c.store_slot.ensures
