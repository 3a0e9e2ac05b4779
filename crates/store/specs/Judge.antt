-- Judge one 512-byte slot: its kind and payload length.
use Rattle.std.specs.Prelude.{ℕ, ◌≡◌, not, List, [], ◌∷◌, eqb, length, Result, Ok, Err}
use Rattle.layout.specs.Sizes.{slot_size}
use Rattle.layout.specs.Numbers.{kind_number, refusal_number}
use Rattle.layout.specs.Refusals.{Row, ◌⇐◌, first_of, decided}
use Rattle.layout.specs.Groups.{Grouped, ordered, ◌▸◌}
use Rattle.layout.specs.Groups as group
use Rattle.slots.specs.Slots.{slot_numbers}
use Rattle.store.specs.declared.Judged.{Judged}
use Rattle.layout.specs.declared.Refusal.{Refusal}

abbrev pub judge_groups : List ℕ → List Grouped
judge_groups slot =
    (group.lengths ▸ (2 ⇐ not (eqb (length slot) slot_size)) ∷ [])
    ∷ (group.slot ▸ (6 ⇐ not (eqb (slot_numbers slot).number 0)) ∷ [])
    ∷ []

unfoldable pub judge_rows : List ℕ → List Row
judge_rows slot = ordered (judge_groups slot)

pub record JudgedNumbers : Type 0 where
  pub number : ℕ
  pub kind : ℕ
  pub length : ℕ

unfoldable pub judge_numbers : List ℕ → JudgedNumbers
judge_numbers slot =
    decided (first_of (judge_rows slot)) (record { number = 0; kind = (slot_numbers slot).kind; length = (slot_numbers slot).length })
    (λ n. record { number = n; kind = 0; length = 0 })

abbrev pub judged_numbers : Result Judged Refusal → JudgedNumbers
judged_numbers (Ok j) = record { number = 0; kind = kind_number j.kind; length = j.length }
judged_numbers (Err r) = record { number = refusal_number r; kind = 0; length = 0 }

pub record Judge (slot : List ℕ) (answer : Result Judged Refusal) : Type 0 where
  pub numbers : judged_numbers answer ≡ judge_numbers slot
