-- The header of either area: its magic, version, slot size and length are its own, and the full header has a slot size of 0.
use Rattle.std.specs.Prelude.{ℕ, List, ◌++◌}
use Rattle.layout.specs.Sizes.{short_width, size_width, header_flags}
use Rattle.layout.specs.Numbers.{le}
use Rattle.headers.specs.Headers.{header}
use Rattle.headers.specs.declared.head.Head.{Head}

-- magic, version, flags, page size, slot size
unfoldable pub fields : Head → ℕ → List ℕ
fields h P = h.magic ++ (le short_width h.version ++ (le short_width header_flags ++ (le size_width P ++ le size_width h.slot_size)))

-- the header for pages of a size
unfoldable pub image : Head → ℕ → List ℕ
image h P = header (fields h P) h.length
