-- Bytes as a number, the first in its lowest digits, the lowest byte in which two such numbers differ, and which words of a chunk differ.
use Rattle.std.specs.Prelude.{ℕ, zero, suc, ◌+◌, ◌-◌, ◌*◌, ◌/◌, ◌^◌, ◌<◌, ◌≡◌, Bool, true, false, List, eqb, get_or}
use Rattle.std.specs.Int.Bits.{bit_and, bit_xor}
use Rattle.differ.specs.Differ.{Same}

-- every item is a byte
abbrev pub Bytes : List ℕ → Type 0
Bytes s = (i : ℕ) → get_or s i 0 < 256

-- how many bytes a word has
abbrev pub word_bytes : ℕ
word_bytes = 8

-- the k bytes of s from `at` on as a number, the first in its lowest digits
unfoldable pub numeral : List ℕ → ℕ → ℕ → ℕ
numeral s at zero = 0
numeral s at (suc k) = numeral s (at + 1) k * 2 ^ 8 + get_or s at 0

-- the bits in which k bytes of a and b differ
abbrev pub unlike : List ℕ → List ℕ → ℕ → ℕ → ℕ
unlike a b at k = bit_xor (numeral a at k) (numeral b at k)

-- what the lowest byte is in which k bytes of a and b differ, told by x: the bits in which they differ
pub record FirstIn (a b : List ℕ) (at k x i : ℕ) : Type 0 where
  pub within : i < k
  pub alike : Same a b at (at + i)
  pub differ : get_or a (at + i) 0 ≡ get_or b (at + i) 0 → ⊥
  pub left : x / 2 ^ (8 * i) / 2 ^ 8 ≡ unlike a b (at + i + 1) (k - (i + 1))

-- how many words a chunk of the grid has
abbrev pub stride_words : ℕ
stride_words = 16

-- one where the word from `at` on is another in b than in a, or none
abbrev pub one_unless : Bool → ℕ
one_unless true = 0
one_unless false = 1

unfoldable pub marked : List ℕ → List ℕ → ℕ → ℕ
marked a b at = one_unless (eqb (numeral a at word_bytes) (numeral b at word_bytes))

-- the marks of k words from `at` on as a number, the first in its lowest digit
unfoldable pub marks : List ℕ → List ℕ → ℕ → ℕ → ℕ
marks a b at zero = 0
marks a b at (suc k) = marks a b (at + word_bytes) k * 2 + marked a b at

-- what the lowest of k marks tells, where x is their number and i the zeros below that mark: which words are alike before its word, and what
-- marks are left without it
pub record FirstMark (a b : List ℕ) (at k x i : ℕ) : Type 0 where
  pub within : i < k
  pub alike : Same a b at (at + word_bytes * i)
  pub left : bit_and x (x - 1) ≡ marks a b (at + word_bytes * (i + 1)) (k - (i + 1)) * 2 ^ (i + 1)
