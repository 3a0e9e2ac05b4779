-- Cut at K: "their slots, full pages ... become zero, blocks below K keep every byte". No slot, payload or place is looked at.
use Rattle.std.specs.Prelude.{ℕ, ◌≡◌, List, [], ◌∷◌, ltb, length, Result, ⊤}
use Rattle.span.specs.Bytes.{emptied}
use Rattle.layout.specs.Sizes.{slot_at, page_at}
use Rattle.layout.specs.Numbers.{answer_number}
use Rattle.layout.specs.declared.Refusal.{Refusal}
use Rattle.layout.specs.Refusals.{Row, ◌⇐◌, first_of, decided}
use Rattle.layout.specs.Groups.{Grouped, ordered, ◌▸◌}
use Rattle.layout.specs.Groups as group
use Rattle.layout.specs.Lengths.{blocks_in, length_rows}
use Rattle.headers.specs.Headers.{header_rows}

-- "2, 9, headers, 5 for K above n": the rows of the lent map, or none
abbrev pub cut_groups : ℕ → List Row → List ℕ → List ℕ → ℕ → List Grouped
cut_groups P buffers patch full K =
    (group.lengths ▸ length_rows P (length patch) (length full))
    ∷ (group.buffers ▸ buffers)
    ∷ (group.headers ▸ header_rows P patch full)
    ∷ (group.block ▸ (5 ⇐ ltb (blocks_in (length patch)) K) ∷ [])
    ∷ []

unfoldable pub cut_rows : ℕ → List Row → List ℕ → List ℕ → ℕ → List Row
cut_rows P buffers patch full K = ordered (cut_groups P buffers patch full K)

pub record CutOutcome : Type 0 where
  pub number : ℕ
  pub patch : List ℕ
  pub full : List ℕ

-- done: both areas are zero from the slot and from the place of block K on
abbrev pub cut_done : ℕ → List ℕ → List ℕ → ℕ → CutOutcome
cut_done P patch full K = record { number = 0; patch = emptied (slot_at K) patch; full = emptied (page_at P K) full }

-- refused: both areas keep every byte
abbrev pub cut_refused : ℕ → List ℕ → List ℕ → CutOutcome
cut_refused number patch full = record { number = number; patch = patch; full = full }

unfoldable pub cut_by : ℕ → List Row → List ℕ → List ℕ → ℕ → CutOutcome
cut_by P buffers patch full K =
    decided (first_of (cut_rows P buffers patch full K)) (cut_done P patch full K) (λ n. cut_refused n patch full)

-- without a map
abbrev pub cut_outcome : ℕ → List ℕ → List ℕ → ℕ → CutOutcome
cut_outcome P patch full K = cut_by P [] patch full K

pub record Cut (P : ℕ) (patch full : List ℕ) (K : ℕ) (answer : Result ⊤ Refusal) (patch' full' : List ℕ) : Type 0 where
  pub numbers : answer_number answer ≡ (cut_outcome P patch full K).number
  pub patch_bytes : patch' ≡ (cut_outcome P patch full K).patch
  pub full_bytes : full' ≡ (cut_outcome P patch full K).full
