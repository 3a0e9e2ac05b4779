-- "Bytes of both areas": a header is its fields and then zeros.
use Rattle.std.specs.Prelude.{ℕ, ◌-◌, Bool, not, cond, List, [], ◌∷◌, ◌++◌, eqb, length}
use Rattle.span.specs.Bytes.{zeros, part, same}
use Rattle.layout.specs.Sizes.{patch_head, full_head, slot_size, version_at, rest_at, short_width, size_width}
use Rattle.layout.specs.Sizes.{patch_magic, full_magic, patch_version, full_version, header_flags}
use Rattle.layout.specs.Numbers.{le}
use Rattle.layout.specs.Refusals.{Row, ◌⇐◌}

-- magic, version, flags, page size, slot size
unfoldable pub patch_fields : ℕ → List ℕ
patch_fields P =
    patch_magic ++ (le short_width patch_version ++ (le short_width header_flags ++ (le size_width P ++ le size_width slot_size)))

-- magic, version, flags, page size
unfoldable pub full_fields : ℕ → List ℕ
full_fields P = full_magic ++ (le short_width full_version ++ (le short_width header_flags ++ le size_width P))

-- a header of a size: its fields, the rest zero
unfoldable pub header : List ℕ → ℕ → List ℕ
header fields size = fields ++ zeros (size - length fields)

unfoldable pub patch_header : ℕ → List ℕ
patch_header P = header (patch_fields P) patch_head

unfoldable pub full_header : ℕ → List ℕ
full_header P = header (full_fields P) full_head

-- the n bytes from `at` on are not those of the header
abbrev pub unlike : List ℕ → List ℕ → ℕ → ℕ → Bool
unlike area head at n = not (same (part at n area) (part at n head))

-- "magic, version, then the rest"
unfoldable pub head_rows : List ℕ → ℕ → List ℕ → List Row
head_rows head size area =
    (3 ⇐ unlike area head 0 version_at) ∷ (4 ⇐ unlike area head version_at (rest_at - version_at))
    ∷ (3 ⇐ unlike area head rest_at (size - rest_at)) ∷ []

unfoldable pub patch_head_rows : ℕ → List ℕ → List Row
patch_head_rows P patch = head_rows (patch_header P) patch_head patch

-- "A full area of length 0 has no header to check."
unfoldable pub full_head_rows : ℕ → List ℕ → List Row
full_head_rows P full = cond (eqb (length full) 0) [] (head_rows (full_header P) full_head full)

-- "patch before full"
unfoldable pub header_rows : ℕ → List ℕ → List ℕ → List Row
header_rows P patch full = patch_head_rows P patch ++ full_head_rows P full
