-- What a header says of itself, and the check of a header by its own image: compared with the image of the page size that it gives,
-- and that size then with the call's. `StoredLaws` has that this is the check by the call's size.
use Rattle.std.specs.Prelude.{ℕ, not, List, [], ◌∷◌, eqb}
use Rattle.span.specs.Bytes.{part}
use Rattle.layout.specs.Sizes.{patch_head, full_head, page_size_at, size_width}
use Rattle.layout.specs.Numbers.{number}
use Rattle.layout.specs.Refusals.{Row, ◌⇐◌}
use Rattle.headers.specs.Headers.{patch_header, full_header, head_rows}

-- the page size that a header gives; bytes past the area's end count as zeros
unfoldable pub stored_size : List ℕ → ℕ
stored_size area = number (part page_size_at size_width area)

unfoldable pub patch_image_rows : List ℕ → List Row
patch_image_rows patch = head_rows (patch_header (stored_size patch)) patch_head patch

unfoldable pub full_image_rows : List ℕ → List Row
full_image_rows full = head_rows (full_header (stored_size full)) full_head full

-- a size that is not the call's is a wrong header
unfoldable pub size_rows : ℕ → List ℕ → List Row
size_rows P area = (3 ⇐ not (eqb (stored_size area) P)) ∷ []
