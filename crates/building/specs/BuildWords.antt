-- The words in which Build's meaning is told: what a frame, a slot and a block may be, and what the pairs of a map stand for.
use Rattle.std.specs.Prelude.{ℕ, ◌*◌, ◌≤◌, ◌<◌, ◌≡◌, ◌↔◌, ◌⊎◌, List, length}
use Rattle.span.specs.Bytes.{zeros, part}
use Rattle.layout.specs.Sizes.{blocks_at_most, patch_head, full_head, room, slot_at, page_at}
use Rattle.layout.specs.Lengths.{blocks_in, pages_in}
use Rattle.headers.specs.Headers.{patch_header, full_header}
use Rattle.slots.specs.Slots.{empty_slot, patch_slot, full_slot}
use Rattle.payload.specs.Entries.{start}
use Rattle.payload.specs.Spelling.{Spelled}
use Rattle.payload.specs.Breaking.{Breaks}
use Rattle.blockmap.specs.Pairs.{map_bytes, pair_at, patch_pair, full_pair}
use Rattle.blockmap.specs.Calls.{tally_numbers}
use Rattle.blockmap.specs.Meaning.{JustThose}
use Rattle.store.specs.Block.{slot_of, place_of}

-- n and m of these areas
abbrev pub blocks : List ℕ → ℕ
blocks patch = blocks_in (length patch)

abbrev pub places : ℕ → List ℕ → ℕ
places P full = pages_in P (length full)

-- lengths, the map's buffer, and both headers
pub record SoundFrame (P : ℕ) (patch full map : List ℕ) : Type 0 where
  pub patch_length : length patch ≡ slot_at (blocks patch)
  pub most : blocks patch ≤ blocks_at_most P
  pub full_length : (length full ≡ 0) ⊎ ((length full ≡ page_at P (places P full)) × (places P full ≤ blocks patch))
  pub buffer : map_bytes (blocks patch) ≤ length map
  pub patch_header_is : part 0 patch_head patch ≡ patch_header P
  pub full_header_is : (length full ≡ 0) ⊎ (part 0 full_head full ≡ full_header P)

-- The sound slots

abbrev pub IsEmpty : List ℕ → Type 0
IsEmpty s = s ≡ empty_slot

-- PATCH of this payload, which has room in a slot
pub record PatchOf (s payload : List ℕ) : Type 0 where
  pub image : s ≡ patch_slot payload
  pub some : 1 ≤ length payload
  pub room_for : length payload ≤ room

abbrev pub IsPatch : List ℕ → Type 0
IsPatch s = (payload : List ℕ) × PatchOf s payload

abbrev pub IsFull : List ℕ → Type 0
IsFull s = s ≡ full_slot

-- EMPTY, or PATCH of a payload that entries spell: it wants no page in the full area
pub data Placeless (P : ℕ) (s : List ℕ) : Type 0 where
  blank : IsEmpty s → Placeless P s
  spelt : (payload : List ℕ) → PatchOf s payload → Spelled P start payload → Placeless P s

-- Blocks

-- "a block whose slot is not FULL_REF has an all-zero place in the full area", if it has one
abbrev pub CleanPlace : ℕ → List ℕ → ℕ → Type 0
CleanPlace P full b = b < places P full → place_of P full b ≡ zeros P

-- a block's number, and just when: its first fault in the order 6, 8, 7, 10, and 0 where it has none; and the offset that goes with 7
pub data BlockGives (P : ℕ) (patch full : List ℕ) (b : ℕ) : ℕ → ℕ → Type 0 where
  -- the slot is none of the sound ones
  slot_6 : (IsEmpty (slot_of patch b) → ⊥) → (IsPatch (slot_of patch b) → ⊥) → (IsFull (slot_of patch b) → ⊥)
      → BlockGives P patch full b 6 0
  -- FULL_REF, and not below m
  page_8 : IsFull (slot_of patch b) → places P full ≤ b → BlockGives P patch full b 8 0
  -- PATCH of a payload that no entries spell, and where they break off
  payload_7 : (payload : List ℕ) → PatchOf (slot_of patch b) payload → (Spelled P start payload → ⊥) → (at : ℕ) → Breaks P payload at
      → BlockGives P patch full b 7 at
  -- none of these and not FULL_REF, and its place lies in the full area and is not zero
  place_10 : Placeless P (slot_of patch b) → b < places P full → (place_of P full b ≡ zeros P → ⊥) → BlockGives P patch full b 10 0
  placeless_0 : Placeless P (slot_of patch b) → CleanPlace P full b → BlockGives P patch full b 0 0
  full_0 : IsFull (slot_of patch b) → b < places P full → BlockGives P patch full b 0 0

abbrev pub SoundBlock : ℕ → List ℕ → List ℕ → ℕ → Type 0
SoundBlock P patch full b = BlockGives P patch full b 0 0

-- b is the lowest block with a fault, k is its first, and `at` is the offset that goes with it
pub record LowestFault (P : ℕ) (patch full : List ℕ) (b k at : ℕ) : Type 0 where
  pub below : b < blocks patch
  pub gives : BlockGives P patch full b k at
  pub lower : (i : ℕ) → i < b → SoundBlock P patch full i

-- Maps

-- "0 EMPTY, 2 PATCH, 1 full", and "unused pairs are 0"
pub record PairsOf (patch map : List ℕ) : Type 0 where
  pub empties : (b : ℕ) → b < blocks patch → (pair_at map b ≡ 0) ↔ IsEmpty (slot_of patch b)
  pub patches : (b : ℕ) → b < blocks patch → (pair_at map b ≡ patch_pair) ↔ IsPatch (slot_of patch b)
  pub fulls : (b : ℕ) → b < blocks patch → (pair_at map b ≡ full_pair) ↔ IsFull (slot_of patch b)
  pub unused : (b : ℕ) → blocks patch ≤ b → b < 4 * map_bytes (blocks patch) → pair_at map b ≡ 0

-- Tally's numbers are the lengths of the lists of just the blocks with a PATCH and with a FULL_REF slot, in rising order
pub record Tallies (P : ℕ) (patch map : List ℕ) : Type 0 where
  pub patches : List ℕ
  pub fulls : List ℕ
  pub just_patches : JustThose (λ b. (b < blocks patch) × IsPatch (slot_of patch b)) patches
  pub just_fulls : JustThose (λ b. (b < blocks patch) × IsFull (slot_of patch b)) fulls
  pub numbers : tally_numbers P map (blocks patch) ≡ record { number = 0; patch = length patches; full = length fulls }
