-- Look up and Tally: one total function a call, and one predicate a call, which its contract cites whole.
use Rattle.std.specs.Prelude.{ℕ, ◌≤◌, ◌<◌, ◌≡◌, ◌⊎◌, List, [], ◌∷◌, eqb, leb, ltb, length, Result, Ok, Err}
use Rattle.layout.specs.Sizes.{blocks_at_most}
use Rattle.layout.specs.Numbers.{kind_number, refusal_number}
use Rattle.layout.specs.declared.Kind.{Kind}
use Rattle.layout.specs.declared.Refusal.{Refusal}
use Rattle.layout.specs.declared.Refusal.TheVariants.{Length, Buffer}
use Rattle.layout.specs.Refusals.{Row, ◌⇐◌, first_of, decided}
use Rattle.layout.specs.Groups.{Grouped, ordered, ◌▸◌}
use Rattle.layout.specs.Groups as group
use Rattle.blockmap.specs.Pairs.{map_bytes, pair_at, pairs, patch_pair, full_pair, reserved_pair, bad_pairs}
use Rattle.blockmap.specs.Pack.{pair_of}
use Rattle.blockmap.specs.declared.Tallied.{Tallied}

-- 9: the map of n blocks does not fit
abbrev pub short_map : List ℕ → ℕ → List Row
short_map map n = (9 ⇐ ltb (length map) (map_bytes n)) ∷ []

-- both are told n
abbrev pub map_groups : ℕ → List ℕ → ℕ → List Row → List Row → List Grouped
map_groups P map n block pair =
    (group.lengths ▸ (2 ⇐ ltb (blocks_at_most P) n) ∷ [])
    ∷ (group.buffers ▸ short_map map n)
    ∷ (group.block ▸ block)
    ∷ (group.pair ▸ pair)
    ∷ []

unfoldable pub map_rows : ℕ → List ℕ → ℕ → List Row → List Row → List Row
map_rows P map n block pair = ordered (map_groups P map n block pair)

-- what both test first: n, and then the map's length
abbrev pub Held : ℕ → List ℕ → ℕ → Result ℕ Refusal → Type 0
Held P map n (Ok bytes) = (n ≤ blocks_at_most P) × (map_bytes n ≤ length map) × (bytes ≡ map_bytes n)
Held P map n (Err r) =
    ((blocks_at_most P < n) × (r ≡ Length)) ⊎ ((n ≤ blocks_at_most P) × (length map < map_bytes n) × (r ≡ Buffer))

-- Look up

pub record LookedNumbers : Type 0 where
  pub number : ℕ
  pub pair : ℕ

unfoldable pub look_up_rows : ℕ → List ℕ → ℕ → ℕ → List Row
look_up_rows P map n b = map_rows P map n ((5 ⇐ leb n b) ∷ []) ((11 ⇐ eqb (pair_at map b) reserved_pair) ∷ [])

unfoldable pub look_up_numbers : ℕ → List ℕ → ℕ → ℕ → LookedNumbers
look_up_numbers P map n b =
    decided (first_of (look_up_rows P map n b)) (record { number = 0; pair = pair_at map b }) (λ k. record { number = k; pair = 0 })

-- the answer is the pair, by the kind that it stands for
abbrev pub looked_numbers : Result Kind Refusal → LookedNumbers
looked_numbers (Ok kind) = record { number = 0; pair = pair_of (kind_number kind) }
looked_numbers (Err r) = record { number = refusal_number r; pair = 0 }

pub record LookUp (P : ℕ) (map : List ℕ) (n b : ℕ) (answer : Result Kind Refusal) : Type 0 where
  pub numbers : looked_numbers answer ≡ look_up_numbers P map n b

-- Tally

pub record TalliedNumbers : Type 0 where
  pub number : ℕ
  pub patch : ℕ
  pub full : ℕ

unfoldable pub tally_rows : ℕ → List ℕ → ℕ → List Row
tally_rows P map n = map_rows P map n [] ((11 ⇐ bad_pairs map n) ∷ [])

unfoldable pub tally_numbers : ℕ → List ℕ → ℕ → TalliedNumbers
tally_numbers P map n =
    decided (first_of (tally_rows P map n)) (record { number = 0; patch = pairs patch_pair map n; full = pairs full_pair map n })
    (λ k. record { number = k; patch = 0; full = 0 })

abbrev pub tallied_numbers : Result Tallied Refusal → TalliedNumbers
tallied_numbers (Ok t) = record { number = 0; patch = t.patch; full = t.full }
tallied_numbers (Err r) = record { number = refusal_number r; patch = 0; full = 0 }

pub record Tally (P : ℕ) (map : List ℕ) (n : ℕ) (answer : Result Tallied Refusal) : Type 0 where
  pub numbers : tallied_numbers answer ≡ tally_numbers P map n
