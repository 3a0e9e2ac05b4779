-- The lengths of both areas.
use Rattle.std.specs.Prelude.{ℕ, ◌-◌, ◌/◌, Bool, not, ◌&&◌, ◌||◌, List, [], ◌∷◌, eqb, leb}
use Rattle.layout.specs.Sizes.{blocks_at_most, patch_head, full_head, slot_size, slot_at, page_at}
use Rattle.layout.specs.Refusals.{Row, ◌⇐◌}

-- n and m of areas of these lengths. An absent full area has m = 0.
unfoldable pub blocks_in : ℕ → ℕ
blocks_in patch_length = (patch_length - patch_head) / slot_size

unfoldable pub pages_in : ℕ → ℕ → ℕ
pages_in P full_length = (full_length - full_head) / P

-- 512 + 512·n bytes, n from 0 to 131,072 at a page size of 8,192
unfoldable pub patch_fits : ℕ → ℕ → Bool
patch_fits P patch_length = eqb patch_length (slot_at (blocks_in patch_length)) && leb (blocks_in patch_length) (blocks_at_most P)

-- 0 bytes, or 4,096 + 8,192·m, m from 0 to n
unfoldable pub full_fits : ℕ → ℕ → ℕ → Bool
full_fits P n full_length = eqb full_length 0 || (eqb full_length (page_at P (pages_in P full_length)) && leb (pages_in P full_length) n)

unfoldable pub length_rows : ℕ → ℕ → ℕ → List Row
length_rows P patch_length full_length = (2 ⇐ not (patch_fits P patch_length && full_fits P (blocks_in patch_length) full_length)) ∷ []
