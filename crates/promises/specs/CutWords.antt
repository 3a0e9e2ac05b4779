-- The words of the statements about Cut and Highest, each as the request has it. P is the page size, 8,192 in the calls.
use Rattle.std.specs.Prelude.{ℕ, ◌≤◌, ◌<◌, ◌≡◌, List, length}
use Rattle.span.specs.Bytes.{zeros, part}
use Rattle.layout.specs.Sizes.{blocks_at_most, patch_head, slot_at}
use Rattle.headers.specs.Headers.{patch_header}
use Rattle.slots.specs.Slots.{empty_slot}
use Rattle.blockmap.specs.Pairs.{map_bytes}
use Rattle.store.specs.Block.{slot_of, place_of}
use Rattle.promises.specs.Words.{blocks, places, LengthsFit, HeadRefuses, AreasRefuse, AreasFit, SameFrame, SoundSlot, MapFits}

-- "Refusals: 2, 9, headers, 5 for K above n (K equal to n changes nothing)"
pub data CutGives (P : ℕ) (patch full : List ℕ) (K : ℕ) : ℕ → Type 0 where
  frame : {k : ℕ} → AreasRefuse P patch full k → CutGives P patch full K k
  above : AreasFit P patch full → blocks patch < K → CutGives P patch full K 5
  done : AreasFit P patch full → K ≤ blocks patch → CutGives P patch full K 0

pub data CutMappedGives (P : ℕ) (patch full map : List ℕ) (K : ℕ) : ℕ → Type 0 where
  lengths : (LengthsFit P patch full → ⊥) → CutMappedGives P patch full map K 2
  short : LengthsFit P patch full → length map < map_bytes (blocks patch) → CutMappedGives P patch full map K 9
  -- with a map that fits, as Cut does
  inside : {k : ℕ} → MapFits patch map → CutGives P patch full K k → CutMappedGives P patch full map K k

-- patch' and full' are patch and full with blocks K and up dropped: "their slots, full pages ... become zero, blocks below K keep every
-- byte"
pub record Dropped (P : ℕ) (patch full : List ℕ) (K : ℕ) (patch' full' : List ℕ) : Type 0 where
  pub frame : SameFrame patch full patch' full'
  pub no_slots : (b : ℕ) → K ≤ b → b < blocks patch → slot_of patch' b ≡ empty_slot
  pub no_places : (b : ℕ) → K ≤ b → b < places P full → place_of P full' b ≡ zeros P
  pub same_slots : (b : ℕ) → b < K → slot_of patch' b ≡ slot_of patch b
  pub same_places : (b : ℕ) → b < K → place_of P full' b ≡ place_of P full b

-- Highest: "takes the patch area alone and gives 2, its header's, then 6 if any slot is unsound"

pub record PatchSized (P : ℕ) (patch : List ℕ) : Type 0 where
  pub patch_length : length patch ≡ slot_at (blocks patch)
  pub not_above : blocks patch ≤ blocks_at_most P

pub data HighestGives (P : ℕ) (patch : List ℕ) : ℕ → Type 0 where
  area : (PatchSized P patch → ⊥) → HighestGives P patch 2
  header : {k : ℕ} → PatchSized P patch → HeadRefuses (patch_header P) patch_head patch k → HighestGives P patch k
  slot : PatchSized P patch → part 0 patch_head patch ≡ patch_header P → (b : ℕ) → b < blocks patch → (SoundSlot (slot_of patch b) → ⊥)
      → HighestGives P patch 6
  done : PatchSized P patch → part 0 patch_head patch ≡ patch_header P → ((b : ℕ) → b < blocks patch → SoundSlot (slot_of patch b))
      → HighestGives P patch 0

-- a block whose slot is not EMPTY
abbrev pub NonEmpty : List ℕ → ℕ → Type 0
NonEmpty patch b = slot_of patch b ≡ empty_slot → ⊥
