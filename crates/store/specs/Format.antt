-- Format both areas: headers, then zeros.
use Rattle.std.specs.Prelude.{ℕ, ◌≡◌, List, [], ◌∷◌, length, Result, ⊤}
use Rattle.layout.specs.Numbers.{answer_number}
use Rattle.layout.specs.declared.Refusal.{Refusal}
use Rattle.layout.specs.Refusals.{Row, first_of, decided}
use Rattle.layout.specs.Groups.{Grouped, ordered, ◌▸◌}
use Rattle.layout.specs.Groups as group
use Rattle.layout.specs.Lengths.{length_rows}
use Rattle.headers.specs.Fresh.{fresh_patch, fresh_full}

pub record FormatOutcome : Type 0 where
  pub number : ℕ
  pub patch : List ℕ
  pub full : List ℕ

-- "Format checks only 2."
abbrev pub format_groups : ℕ → List ℕ → List ℕ → List Grouped
format_groups P patch full =
    (group.lengths ▸ length_rows P (length patch) (length full))
    ∷ []

unfoldable pub format_rows : ℕ → List ℕ → List ℕ → List Row
format_rows P patch full = ordered (format_groups P patch full)

unfoldable pub format_outcome : ℕ → List ℕ → List ℕ → FormatOutcome
format_outcome P patch full =
    decided (first_of (format_rows P patch full))
    (record { number = 0; patch = fresh_patch P (length patch); full = fresh_full P (length full) })
    (λ n. record { number = n; patch = patch; full = full })

pub record Format (P : ℕ) (patch full : List ℕ) (answer : Result ⊤ Refusal) (patch' full' : List ℕ) : Type 0 where
  pub numbers : answer_number answer ≡ (format_outcome P patch full).number
  pub patch_bytes : patch' ≡ (format_outcome P patch full).patch
  pub full_bytes : full' ≡ (format_outcome P patch full).full
