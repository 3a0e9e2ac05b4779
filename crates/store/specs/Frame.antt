-- What the calls on both areas look at before they look at a block.
use Rattle.std.specs.Prelude.{ℕ, List, [], ◌∷◌, length}
use Rattle.layout.specs.Refusals.{Row}
use Rattle.layout.specs.Groups.{opening, in_order, ◌▸◌}
use Rattle.layout.specs.Groups as group
use Rattle.headers.specs.Headers.{header_rows}
use Rattle.layout.specs.Lengths.{length_rows}

-- 1, 2, 9 and headers: what is decided before any block is looked at
unfoldable pub frame_rows : ℕ → List Row → List Row → List ℕ → List ℕ → List Row
frame_rows P pages buffers patch full =
    in_order opening
    ((group.pages ▸ pages) ∷ (group.lengths ▸ length_rows P (length patch) (length full)) ∷ (group.buffers ▸ buffers)
    ∷ (group.headers ▸ header_rows P patch full) ∷ [])
