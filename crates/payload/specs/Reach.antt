-- How far the pieces of the reader look.
use Rattle.std.specs.Prelude.{ℕ, min}

-- the most bytes of a page that 16-bit jumps are made for: the pieces look no further
abbrev pub farthest : ℕ
farthest = 65536

abbrev pub reach : ℕ → ℕ
reach n = min n farthest
