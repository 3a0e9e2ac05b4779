-- The laws of a block's own bytes.
use Rattle.std.specs.Prelude.{ℕ, ◌+◌, ◌≤◌, ◌≡◌, List, length, get_or, Result}
use Rattle.std.proofs.Common.{arith, sym, ap, ◌∙◌, subst}
use Rattle.span.specs.Bytes.{part}
use Rattle.span.specs.Laws.{part_at}
use Rattle.layout.specs.Sizes.{slot_size, slot_at, payload_at, room}
use Rattle.slots.specs.Slots.{patch_slot, payload_length, payload_of, slot_numbers, state_numbers}
use Rattle.slots.specs.Meaning.{payload_of_is, kind_first}
use Rattle.layout.specs.declared.Refusal.{Refusal}
use Rattle.slots.specs.declared.SlotState.{SlotState}
use Rattle.payload.specs.Spelling.{Bytes, bytes_part}
use Rattle.store.specs.Block.{slot_of}

-- what a block's slot was found to be, where it was looked at as a part of the area
pub slot_state : (patch : List ℕ) (b at : ℕ) (slot : List ℕ) (r x : Result SlotState Refusal) → at ≡ slot_at b → slot ≡ part at slot_size patch
    → state_numbers r ≡ slot_numbers slot → r ≡ x → slot_numbers (slot_of patch b) ≡ state_numbers x
unfolding slot_of
slot_state patch b at slot r x e f g q =
    sym (ap slot_numbers (f ∙ ap (λ (k : ℕ). part k slot_size patch) e)) ∙ sym g ∙ ap state_numbers q

-- a sound one's first byte is its kind
pub kind_at_is : (patch : List ℕ) (b : ℕ) → (slot_numbers (slot_of patch b)).number ≡ 0
    → (slot_numbers (slot_of patch b)).kind ≡ get_or patch (slot_at b) 0
unfolding slot_of
kind_at_is patch b e =
    let q : slot_at b + 0 ≡ slot_at b = omega arith in
    kind_first (slot_of patch b) e ∙ part_at (slot_at b) slot_size patch 0 (omega arith) ∙ ap (λ (k : ℕ). get_or patch k 0) q

pub payload_bytes : (s payload : List ℕ) → Bytes s → s ≡ patch_slot payload → length payload ≤ room → Bytes payload
unfolding payload_of
payload_bytes s payload h e l = subst (λ (x : List ℕ). Bytes x) (ap payload_of e ∙ payload_of_is payload l)
    (bytes_part payload_at (payload_length s) s h)
