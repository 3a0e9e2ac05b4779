-- The order of the paper: a call names its rows by group, and nothing but the two lists below decides which group comes first.
use Rattle.std.specs.Prelude.{ℕ, cond, List, [], ◌∷◌, ◌++◌, eqb}
use Rattle.layout.specs.Refusals.{Row}

pub data Group : Type 0 where
  pages lengths buffers headers block own slot full payload place pair : Group

abbrev pub rank : Group → ℕ
rank pages = 0
rank lengths = 1
rank buffers = 2
rank headers = 3
rank block = 4
rank own = 5
rank slot = 6
rank full = 7
rank payload = 8
rank place = 9
rank pair = 10

-- what is decided before any block is looked at: 1, 2, 9, headers
abbrev pub opening : List Group
opening = pages ∷ lengths ∷ buffers ∷ headers ∷ []

-- and what is decided of blocks: 5, 6, 8, 7, 10, 11. A read by the map looks at the block's own pair first: there 11 comes straight after 5
abbrev pub inside : List Group
inside = block ∷ own ∷ slot ∷ full ∷ payload ∷ place ∷ pair ∷ []

-- the rows of a group, as `group ▸ rows`
pub record Grouped : Type 0 where
  pub group : Group
  pub rows : List Row

infix 25 ◌▸◌
abbrev pub ◌▸◌ : Group → List Row → Grouped
g ▸ rs = record { group = g; rows = rs }

-- a group that a call does not name has no rows
abbrev pub rows_of : Group → List Grouped → List Row
rows_of g [] = []
rows_of g (x ∷ xs) = cond (eqb (rank g) (rank x.group)) x.rows (rows_of g xs)

abbrev pub in_order : List Group → List Grouped → List Row
in_order [] gs = []
in_order (g ∷ []) gs = rows_of g gs
in_order (g ∷ h ∷ rest) gs = rows_of g gs ++ in_order (h ∷ rest) gs

unfoldable pub ordered : List Grouped → List Row
ordered gs = in_order opening gs ++ in_order inside gs
