-- "Each refusal is given when its condition holds and no earlier one does, and at no other time": Look up and Tally.
use Rattle.std.specs.Prelude.{ℕ, refl, ◌≡◌, List, true}
use Rattle.layout.specs.Refusals.{Row, first_of}
use Rattle.layout.specs.RefusalLaws.{decided_number, Exactly, exactly, no_row, row}
use Rattle.layout.specs.Groups.{ordered}
use Rattle.blockmap.specs.Calls.{map_rows, LookedNumbers, look_up_rows, look_up_numbers, TalliedNumbers, tally_rows, tally_numbers}
use Rattle.blockmap.specs.Calls.{map_groups}
use Rattle.layout.specs.GroupLaws.{once}

pub look_up_exactly : (P : ℕ) (map : List ℕ) (n b : ℕ) → Exactly (look_up_rows P map n b) (look_up_numbers P map n b).number
unfolding look_up_numbers look_up_rows map_rows ordered
look_up_exactly P map n b =
    exactly (look_up_rows P map n b) _ (decided_number (λ (x : LookedNumbers). x.number) _ _ (first_of (look_up_rows P map n b)) refl
    (λ k. refl))
    (row (row (row (row no_row))))

pub tally_exactly : (P : ℕ) (map : List ℕ) (n : ℕ) → Exactly (tally_rows P map n) (tally_numbers P map n).number
unfolding tally_numbers tally_rows map_rows ordered
tally_exactly P map n =
    exactly (tally_rows P map n) _ (decided_number (λ (x : TalliedNumbers). x.number) _ _ (first_of (tally_rows P map n)) refl (λ k. refl))
    (row (row (row no_row)))

pub map_once : (P : ℕ) (map : List ℕ) (n : ℕ) (block pair : List Row) → once (map_groups P map n block pair) ≡ true
map_once P map n block pair = refl
