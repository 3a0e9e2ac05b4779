-- Build the block map: every slot, payload and place is checked, block by block.
use Rattle.std.specs.Prelude.{ℕ, ◌≡◌, not, ◌&&◌, List, [], ◌∷◌, eqb, ltb, length, Result, Ok, Err, ⊤}
use Rattle.span.specs.Bytes.{zeros, same, splice}
use Rattle.layout.specs.Sizes.{full_kind}
use Rattle.layout.specs.Numbers.{refusal_number}
use Rattle.layout.specs.declared.Refusal.{Refusal}
use Rattle.layout.specs.Refusals.{Row, ◌⇐◌, first_of, decided}
use Rattle.layout.specs.Groups.{Grouped, ordered, ◌▸◌}
use Rattle.layout.specs.Groups as group
use Rattle.layout.specs.FirstFault.{BlockFault, first_fault}
use Rattle.layout.specs.Lengths.{blocks_in, pages_in, length_rows}
use Rattle.headers.specs.Headers.{header_rows}
use Rattle.slots.specs.Slots.{slot_numbers, payload_of}
use Rattle.payload.specs.Entries.{offset_with}
use Rattle.blockmap.specs.Calls.{short_map}
use Rattle.blockmap.specs.Pack.{pair_of, packed}
use Rattle.store.specs.Block.{slot_of, place_of, slot_rows, full_rows, payload_rows}
use Rattle.building.specs.declared.RefusedIn.{RefusedIn}

-- "place in the full area not zero, slot not FULL_REF"
unfoldable pub place_rows : ℕ → List ℕ → List ℕ → ℕ → List Row
place_rows P s full b =
    (10 ⇐ not (eqb (slot_numbers s).kind full_kind) && (ltb b (pages_in P (length full)) && not (same (place_of P full b) (zeros P)))) ∷ []

-- what may be wrong with one block, and what is
abbrev pub fault_groups : ℕ → List ℕ → List ℕ → ℕ → List Grouped
fault_groups P patch full b =
    let s = slot_of patch b in
    (group.slot ▸ slot_rows s)
    ∷ (group.full ▸ full_rows P s full b)
    ∷ (group.payload ▸ payload_rows P s)
    ∷ (group.place ▸ place_rows P s full b)
    ∷ []

abbrev pub fault_rows : ℕ → List ℕ → List ℕ → ℕ → List Row
fault_rows P patch full b = ordered (fault_groups P patch full b)

unfoldable pub block_fault : ℕ → List ℕ → List ℕ → ℕ → ℕ
block_fault P patch full b = first_of (fault_rows P patch full b)

-- and where its payload breaks, if that is what is wrong first
abbrev pub block_offset : ℕ → List ℕ → List ℕ → ℕ → ℕ
block_offset P patch full b = offset_with (block_fault P patch full b) P (payload_of (slot_of patch b))

-- "Build takes blocks in rising order and stops at the first fault"
abbrev pub build_fault : ℕ → List ℕ → List ℕ → BlockFault
build_fault P patch full = first_fault (block_fault P patch full) 0 (blocks_in (length patch))

abbrev pub build_groups : ℕ → List ℕ → List ℕ → List ℕ → List Grouped
build_groups P patch full map =
    (group.lengths ▸ length_rows P (length patch) (length full))
    ∷ (group.buffers ▸ short_map map (blocks_in (length patch)))
    ∷ (group.headers ▸ header_rows P patch full)
    ∷ []

unfoldable pub build_rows : ℕ → List ℕ → List ℕ → List ℕ → List Row
build_rows P patch full map = ordered (build_groups P patch full map)

-- the map of a store: each block's pair is its slot's kind
unfoldable pub built_map : List ℕ → List ℕ
built_map patch = packed (λ b. pair_of (slot_numbers (slot_of patch b)).kind) (blocks_in (length patch))

pub record BuildOutcome : Type 0 where
  pub number : ℕ
  pub block : ℕ
  pub offset : ℕ
  pub map : List ℕ

-- done, and refused: the map keeps every byte, and the offset goes with 7 alone
abbrev pub build_done : List ℕ → BuildOutcome
build_done map = record { number = 0; block = 0; offset = 0; map = map }

abbrev pub build_refused : ℕ → ℕ → ℕ → List ℕ → BuildOutcome
build_refused number block offset map = record { number = number; block = block; offset = offset; map = map }

unfoldable pub build_outcome : ℕ → List ℕ → List ℕ → List ℕ → BuildOutcome
build_outcome P patch full map =
    let fault = build_fault P patch full in
    decided (first_of (build_rows P patch full map))
    (decided fault.number
    (build_done (splice map 0 (built_map patch)))
    (λ k. build_refused k fault.block (offset_with k P (payload_of (slot_of patch fault.block))) map))
    (λ k. build_refused k 0 0 map)

-- refused, with a block and an offset
abbrev pub refused_in : {A : Type 0} → Refusal → ℕ → ℕ → Result A RefusedIn
refused_in refusal block offset = Err (record { refusal = refusal; block = block; offset = offset })

-- this refusal, and neither block nor offset
abbrev pub IsRefusedIn : Refusal → RefusedIn → Type 0
IsRefusedIn refusal r = r ≡ record { refusal = refusal; block = 0; offset = 0 }

-- the paper's numbers for each case of the answer
pub record BuildNumbers : Type 0 where
  pub number : ℕ
  pub block : ℕ
  pub offset : ℕ

abbrev pub built_numbers : Result ⊤ RefusedIn → BuildNumbers
built_numbers (Ok _) = record { number = 0; block = 0; offset = 0 }
built_numbers (Err r) = record { number = refusal_number r.refusal; block = r.block; offset = r.offset }

abbrev pub build_numbers : BuildOutcome → BuildNumbers
build_numbers o = record { number = o.number; block = o.block; offset = o.offset }

pub record Build (P : ℕ) (patch full map : List ℕ) (answer : Result ⊤ RefusedIn) (map' : List ℕ) : Type 0 where
  pub numbers : built_numbers answer ≡ build_numbers (build_outcome P patch full map)
  pub bytes : map' ≡ (build_outcome P patch full map).map
