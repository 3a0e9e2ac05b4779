-- Highest: "one more than the highest non-EMPTY block, or 0". It takes the patch area alone.
use Rattle.std.specs.Prelude.{ℕ, zero, suc, ◌≡◌, Bool, not, cond, List, [], ◌∷◌, length, Result, Ok, Err}
use Rattle.span.specs.Bytes.{same}
use Rattle.layout.specs.Numbers.{refusal_number}
use Rattle.layout.specs.declared.Refusal.{Refusal}
use Rattle.layout.specs.Refusals.{Row, ◌⇐◌, first_of, decided}
use Rattle.layout.specs.Groups.{Grouped, ordered, ◌▸◌}
use Rattle.layout.specs.Groups as group
use Rattle.layout.specs.FirstFault.{rows_from}
use Rattle.layout.specs.Lengths.{blocks_in, patch_fits}
use Rattle.headers.specs.Headers.{patch_head_rows}
use Rattle.slots.specs.Slots.{empty_slot}
use Rattle.store.specs.Block.{slot_of, slot_rows}

-- "2, its header's, then 6 if any slot is unsound"
abbrev pub highest_groups : ℕ → List ℕ → List Grouped
highest_groups P patch =
    (group.lengths ▸ (2 ⇐ not (patch_fits P (length patch))) ∷ [])
    ∷ (group.headers ▸ patch_head_rows P patch)
    ∷ (group.slot ▸ rows_from (λ b. slot_rows (slot_of patch b)) 0 (blocks_in (length patch)))
    ∷ []

unfoldable pub highest_rows : ℕ → List ℕ → List Row
highest_rows P patch = ordered (highest_groups P patch)

-- one more than the highest of the blocks below n that passes a test, or 0
unfoldable pub extent : (ℕ → Bool) → ℕ → ℕ
extent test zero = 0
extent test (suc b) = cond (test b) (suc b) (extent test b)

-- a block whose slot is not EMPTY
abbrev pub non_empty : List ℕ → ℕ → Bool
non_empty patch b = not (same (slot_of patch b) empty_slot)

pub record HighestNumbers : Type 0 where
  pub number : ℕ
  pub blocks : ℕ

unfoldable pub highest_numbers : ℕ → List ℕ → HighestNumbers
highest_numbers P patch =
    decided (first_of (highest_rows P patch)) (record { number = 0; blocks = extent (non_empty patch) (blocks_in (length patch)) })
    (λ k. record { number = k; blocks = 0 })

-- the paper's numbers for each case of the answer
abbrev pub extent_numbers : Result ℕ Refusal → HighestNumbers
extent_numbers (Ok blocks) = record { number = 0; blocks = blocks }
extent_numbers (Err r) = record { number = refusal_number r; blocks = 0 }

pub record Highest (P : ℕ) (patch : List ℕ) (answer : Result ℕ Refusal) : Type 0 where
  pub numbers : extent_numbers answer ≡ highest_numbers P patch
