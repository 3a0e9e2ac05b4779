-- "Each refusal is given when its condition holds and no earlier one does, and at no other time": Compare and Apply.
use Rattle.std.specs.Prelude.{ℕ, ◌≡◌, refl, List, true}
use Rattle.layout.specs.Refusals.{first_of}
use Rattle.layout.specs.RefusalLaws.{decided_number, decided_beside, Exactly, exactly, no_row, row}
use Rattle.layout.specs.Groups.{ordered}
use Rattle.payload.specs.Entries.{offset_with}
use Rattle.stream.specs.Calls.{compare_rows, compare_numbers, AppliedNumbers, apply_rows, apply_numbers, compare_groups, apply_groups}
use Rattle.stream.specs.Kinds.{compare_gives}
use Rattle.layout.specs.GroupLaws.{once}

pub compare_exactly : (P : ℕ) (base page buffer : List ℕ)
    → Exactly (compare_rows P base page buffer) (compare_numbers P base page buffer).number
unfolding compare_rows ordered
compare_exactly P base page buffer = exactly (compare_rows P base page buffer) _ (compare_gives P base page buffer) (row (row no_row))

-- the number that Apply gives is that of the first refusal
pub apply_gives : (P : ℕ) (base payload page : List ℕ)
    → (apply_numbers P base payload page).number ≡ first_of (apply_rows P base payload page)
unfolding apply_numbers
apply_gives P base payload page = decided_number (λ (x : AppliedNumbers). x.number) _ _ (first_of (apply_rows P base payload page)) refl
    (λ k. refl)

pub apply_exactly : (P : ℕ) (base payload page : List ℕ)
    → Exactly (apply_rows P base payload page) (apply_numbers P base payload page).number
unfolding apply_rows ordered
apply_exactly P base payload page = exactly (apply_rows P base payload page) _ (apply_gives P base payload page) (row (row no_row))

-- the offset goes with 7 alone
pub apply_told : (P : ℕ) (base payload page : List ℕ)
    → (apply_numbers P base payload page).offset ≡ offset_with (apply_numbers P base payload page).number P payload
unfolding apply_numbers
apply_told P base payload page =
    decided_beside (λ (x : AppliedNumbers). x.number) (λ (x : AppliedNumbers). x.offset) (λ k. offset_with k P payload) _ _
    (first_of (apply_rows P base payload page)) refl refl (λ k. refl) (λ k. refl) refl

pub compare_once : (P : ℕ) (base page buffer : List ℕ) → once (compare_groups P base page buffer) ≡ true
compare_once P base page buffer = refl

pub apply_once : (P : ℕ) (base payload page : List ℕ) → once (apply_groups P base payload page) ≡ true
apply_once P base payload page = refl
