use Rattle.std.specs.Prelude.{ℕ, ◌≡◌, List, Ok}
use Rattle.std.proofs.Common.{ap, ◌∙◌}
use Rattle.layout.specs.Exits.{left_with}
use Rattle.span.specs.Bytes.{part}
use Rattle.layout.specs.Sizes.{payload_at}
use Rattle.slots.specs.Slots.{slot_numbers, state_numbers}
use Rattle.slots.specs.declared.SlotState.TheVariants.{Patch}
use Rattle.store.specs.Block.{slot_of}
use Rattle.building.proofs.BuildTold.{told_refused, told_payload, told_patched}
use Rattle.building.proofs.check_block.Goals as goal
use Rattle.building.proofs.check_block.Goals.{After-part-payload}

-- the state and the payload are those of the block's own slot
state : (c : After-part-payload) → state_numbers (Ok (Patch c.in-Patch.n)) ≡ slot_numbers (slot_of c.args.areas.patch.now c.args.block)
state c = (rw c.in-Patch.is at c.in_ok-slot_state.ensures) ∙ ap slot_numbers c.slot-slot.ensures

payload : (c : After-part-payload) → c.part-payload.result.now ≡ part payload_at c.in-Patch.n (slot_of c.args.areas.patch.now c.args.block)
payload c = c.part-payload.ensures.bytes ∙ ap (λ (l : List ℕ). part payload_at c.in-Patch.n l) c.slot-slot.ensures

pub returns-in_err-slot_state : goal.returns-in_err-slot_state
returns-in_err-slot_state c =
    let s = c.args.areas in
    let r = c.in_err-slot_state in
    rw (left_with c.from_residual.ensures)
    (told_refused s.frame.size s.patch.now s.full.now c.args.block r.field-0.0 (r.ensures ∙ ap slot_numbers c.slot-slot.ensures))

pub returns-in_err-check-in-Patch : goal.returns-in_err-check-in-Patch
returns-in_err-check-in-Patch c =
    let s = c.args.areas in
    let g = (goal.at.returns-in_err-check-in-Patch c).After-part-payload in
    let e = c.in_err-check-in-Patch in
    rw (left_with c.from_residual-in_err-check-in-Patch.ensures)
    (told_payload s.frame.size s.patch.now s.full.now c.args.block c.in-Patch.n c.part-payload.result.now (state g) (payload g) s.sized
    e.field-0.0 e.ensures)

pub returns-in_ok-check-in-Patch : goal.returns-in_ok-check-in-Patch
returns-in_ok-check-in-Patch c =
    let s = c.args.areas in
    let g = (goal.at.returns-in_ok-check-in-Patch c).After-part-payload in
    let w = c.in_ok-check-in-Patch in
    c.check_place-in-Patch.ensures
    ∙ told_patched s.frame.size s.patch.now s.full.now c.args.block c.in-Patch.n c.part-payload.result.now (state g) (payload g) s.sized
    w.field-0 w.ensures
