-- The bits of a map's bytes. A pair is its low bit plus twice its high bit: 1 has the low bit alone, 2 the high bit alone, 3 both.
use Rattle.std.specs.Prelude.{ℕ, zero, suc, ◌+◌, ◌*◌, ◌/◌, ◌%◌, ◌≡◌, Bool, false, not, ◌||◌, List, eqb, get_or}
use Rattle.std.specs.Int.Bits.{bit_and}
use Rattle.std.specs.Int.Count.{ones}
use Rattle.bits.specs.declared.Counted.{Counted}

-- the low bit of each of a byte's four pairs, at its own place
unfoldable pub low_bits : ℕ → ℕ
low_bits x = x % 2 + 4 * (x / 4 % 2) + 16 * (x / 16 % 2) + 64 * (x / 64 % 2)

-- the high bit of each, at the place of its low bit
unfoldable pub high_bits : ℕ → ℕ
high_bits x = low_bits (x / 2)

-- the pairs that have both
unfoldable pub threes : ℕ → ℕ
threes x = bit_and (low_bits x) (high_bits x)

-- k bytes of a map from byte i on: a number for each, added up
unfoldable pub added : (ℕ → ℕ) → List ℕ → ℕ → ℕ → ℕ
added f map i zero = 0
added f map i (suc k) = added f map i k + f (get_or map (i + k) 0)

-- how many high bits are set, and how many low bits
abbrev pub highs : List ℕ → ℕ → ℕ → ℕ
highs = added (λ x. ones (high_bits x))

abbrev pub lows : List ℕ → ℕ → ℕ → ℕ
lows = added (λ x. ones (low_bits x))

-- and whether a pair has both
unfoldable pub some_three : List ℕ → ℕ → ℕ → Bool
some_three map i zero = false
some_three map i (suc k) = some_three map i k || not (eqb (threes (get_or map (i + k) 0)) 0)

pub record Counts (map : List ℕ) (i k : ℕ) (r : Counted) : Type 0 where
  pub high : r.high ≡ highs map i k
  pub low : r.low ≡ lows map i k
  pub three : r.three ≡ some_three map i k

-- the counts of two parts together
abbrev pub together : Counted → Counted → Counted
together r s = record { high = r.high + s.high; low = r.low + s.low; three = r.three || s.three }
