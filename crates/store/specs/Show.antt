-- Show a block's payload, handed out as a part of the patch area itself.
use Rattle.std.specs.Prelude.{ℕ, ◌+◌, ◌≡◌, not, List, [], ◌∷◌, leb, length, Result, Ok, Err}
use Rattle.span.specs.Bytes.{part}
use Rattle.layout.specs.Sizes.{payload_at, slot_at}
use Rattle.layout.specs.Refusals.{Row, ◌⇐◌, first_of, decided}
use Rattle.layout.specs.Groups.{Grouped, ordered, ◌▸◌}
use Rattle.layout.specs.Groups as group
use Rattle.headers.specs.Headers.{patch_head_rows}
use Rattle.layout.specs.Lengths.{blocks_in, patch_fits}
use Rattle.slots.specs.Slots.{is_patch, payload_length}
use Rattle.store.specs.Block.{slot_of}
use Rattle.layout.specs.declared.Refusal.{Refusal}
use Rattle.store.specs.declared.Place.{Place}

-- "It looks at the patch area alone."
abbrev pub show_groups : ℕ → List ℕ → ℕ → List Grouped
show_groups P patch b =
    (group.lengths ▸ (2 ⇐ not (patch_fits P (length patch))) ∷ [])
    ∷ (group.headers ▸ patch_head_rows P patch)
    ∷ (group.block ▸ (5 ⇐ leb (blocks_in (length patch)) b) ∷ [])
    ∷ (group.slot ▸ (6 ⇐ not (is_patch (slot_of patch b))) ∷ [])
    ∷ []

unfoldable pub show_rows : ℕ → List ℕ → ℕ → List Row
show_rows P patch b = ordered (show_groups P patch b)

-- an empty part
abbrev pub nowhere : Place
nowhere = record { at = 0; len = 0 }

-- where the part begins and how long it is; an empty one where anything would be refused
unfoldable pub show_place : ℕ → List ℕ → ℕ → Place
show_place P patch b =
    decided (first_of (show_rows P patch b)) (record { at = slot_at b + payload_at; len = payload_length (slot_of patch b) })
    (λ _. nowhere)

-- the part that was found; an empty one where that is refused
abbrev pub found_place : Result Place Refusal → Place
found_place (Ok p) = p
found_place (Err _) = nowhere

-- what is handed out: its bytes, and where they lie. An address is a block of memory and an offset in it.
pub record Show (P : ℕ) (patch : List ℕ) (b : ℕ) (lent : ℕ × ℕ) (shown : List ℕ) (handed : ℕ × ℕ) : Type 0 where
  pub bytes : shown ≡ part (show_place P patch b).at (show_place P patch b).len patch
  pub memory : handed.0 ≡ lent.0
  pub place : handed.1 ≡ lent.1 + (show_place P patch b).at
