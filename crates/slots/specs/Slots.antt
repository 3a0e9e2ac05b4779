-- The three sound slots, each as its image.
use Rattle.std.specs.Prelude.{ℕ, ◌-◌, Bool, ◌&&◌, cond, List, ◌∷◌, ◌++◌, leb, eqb, length, Result, Ok, Err}
use Rattle.span.specs.Bytes.{zeros, part, same}
use Rattle.layout.specs.Sizes.{slot_size, short_width, length_at, reserved_at, payload_at, room}
use Rattle.layout.specs.Sizes.{empty_kind, patch_kind, full_kind, patch_flags}
use Rattle.layout.specs.Numbers.{refusal_number, number, le}
use Rattle.layout.specs.declared.Refusal.{Refusal}
use Rattle.slots.specs.declared.SlotState.{SlotState}
use Rattle.slots.specs.declared.SlotState.TheVariants.{Empty, Patch, Full}

-- EMPTY: all bytes zero
unfoldable pub empty_slot : List ℕ
empty_slot = zeros slot_size

-- PATCH: kind 1, flags 1, payload length, four zero bytes, the payload, zeros
unfoldable pub patch_slot : List ℕ → List ℕ
patch_slot payload =
    (patch_kind ∷ patch_flags ∷ le short_width (length payload))
    ++ (zeros (payload_at - reserved_at) ++ (payload ++ zeros (room - length payload)))

-- FULL_REF: kind 2, every other byte zero
unfoldable pub full_slot : List ℕ
full_slot = full_kind ∷ zeros (slot_size - 1)

-- what a slot says of its payload
unfoldable pub payload_length : List ℕ → ℕ
payload_length s = number (part length_at short_width s)

unfoldable pub payload_of : List ℕ → List ℕ
payload_of s = part payload_at (payload_length s) s

-- a sound PATCH slot: the length is 1 to 504, and the slot is the image of its own payload
unfoldable pub is_patch : List ℕ → Bool
is_patch s = leb 1 (payload_length s) && leb (payload_length s) room && same s (patch_slot (payload_of s))

-- a slot's number (0 if it is sound, else 6), kind and payload length
pub record SlotNumbers : Type 0 where
  pub number : ℕ
  pub kind : ℕ
  pub length : ℕ

abbrev pub sound_slot : ℕ → ℕ → SlotNumbers
sound_slot k n = record { number = 0; kind = k; length = n }

abbrev pub unsound_slot : SlotNumbers
unsound_slot = record { number = 6; kind = 0; length = 0 }

unfoldable pub slot_numbers : List ℕ → SlotNumbers
slot_numbers s =
    cond (same s empty_slot) (sound_slot empty_kind 0)
    (cond (is_patch s) (sound_slot patch_kind (payload_length s))
    (cond (same s full_slot) (sound_slot full_kind 0) unsound_slot))

-- the paper's numbers for each case of the code's answer
abbrev pub state_numbers : Result SlotState Refusal → SlotNumbers
state_numbers (Ok Empty) = sound_slot empty_kind 0
state_numbers (Ok (Patch n)) = sound_slot patch_kind n
state_numbers (Ok Full) = sound_slot full_kind 0
state_numbers (Err r) = record { number = refusal_number r; kind = 0; length = 0 }

-- the sound slot of a kind, by its number
unfoldable pub slot_image : ℕ → List ℕ → List ℕ
slot_image k payload = cond (eqb k empty_kind) empty_slot (cond (eqb k patch_kind) (patch_slot payload) full_slot)
