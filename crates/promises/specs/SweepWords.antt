-- The words of the statements about Sweep, each as the request has it. P is the page size, 8,192 in the calls.
use Rattle.std.specs.Prelude.{ℕ, ◌≤◌, ◌<◌, ◌≡◌, List, length}
use Rattle.span.specs.Bytes.{zeros, part}
use Rattle.layout.specs.Sizes.{full_head}
use Rattle.slots.specs.Slots.{full_slot}
use Rattle.store.specs.Block.{slot_of, place_of}
use Rattle.promises.specs.Words.{blocks, places, AreasRefuse, AreasFit, SoundSlot}

-- what is wrong with a block: its slot is none of the sound ones, or it is FULL_REF and not below m
pub data SlotWrong (P : ℕ) (patch full : List ℕ) (b : ℕ) : ℕ → Type 0 where
  unsound : (SoundSlot (slot_of patch b) → ⊥) → SlotWrong P patch full b 6
  missing : slot_of patch b ≡ full_slot → places P full ≤ b → SlotWrong P patch full b 8

-- and that nothing is
pub record SlotRight (P : ℕ) (patch full : List ℕ) (b : ℕ) : Type 0 where
  pub sound : SoundSlot (slot_of patch b)
  pub there : slot_of patch b ≡ full_slot → b < places P full

-- "sweep gives 2, headers, then 6 or 8 at the lowest block"
pub data SweepGives (P : ℕ) (patch full : List ℕ) : ℕ → Type 0 where
  frame : {k : ℕ} → AreasRefuse P patch full k → SweepGives P patch full k
  lowest : {k : ℕ} → AreasFit P patch full → (b : ℕ) → b < blocks patch → SlotWrong P patch full b k
      → ((i : ℕ) → i < b → SlotRight P patch full i)
      → SweepGives P patch full k
  done : AreasFit P patch full → ((b : ℕ) → b < blocks patch → SlotRight P patch full b) → SweepGives P patch full 0

-- full' is full with "every place whose slot is not FULL_REF" zeroed, and no other byte changed
pub record SweptFrom (P : ℕ) (patch full full' : List ℕ) : Type 0 where
  pub same_length : length full' ≡ length full
  pub same_header : part 0 full_head full' ≡ part 0 full_head full
  pub zeroed : (b : ℕ) → b < places P full → (slot_of patch b ≡ full_slot → ⊥) → place_of P full' b ≡ zeros P
  pub kept : (b : ℕ) → b < places P full → slot_of patch b ≡ full_slot → place_of P full' b ≡ place_of P full b
