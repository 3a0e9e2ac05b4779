-- What the parts of Sweep owe.
use Rattle.std.specs.Prelude.{ℕ, Bool, ◌&&◌, List, [], ◌∷◌, ◌++◌, eqb, leb, get_or}
use Rattle.layout.specs.Sizes.{slot_at, full_kind}
use Rattle.layout.specs.Refusals.{◌⇐◌, first_of}
use Rattle.slots.specs.Slots.{slot_numbers}
use Rattle.store.specs.Block.{slot_of, slot_rows}

-- what is wrong with one block's slot beside m pages: 6, 8
unfoldable pub slot_fault : ℕ → List ℕ → ℕ → ℕ
slot_fault m patch b =
    let s = slot_of patch b in
    first_of (slot_rows s ++ ((8 ⇐ eqb (slot_numbers s).kind full_kind && leb m b) ∷ []))

-- a block whose slot has FULL_REF's first byte
abbrev pub marked : List ℕ → ℕ → Bool
marked patch b = eqb (get_or patch (slot_at b) 0) full_kind
