-- Where two lists differ next, and in how many places.
use Rattle.std.specs.Prelude.{ℕ, zero, suc, ◌+◌, ◌*◌, ◌≤◌, ◌<◌, ◌≡◌, Bool, true, false, cond, ◌&&◌, List, [], ◌∷◌, eqb, leb, length, drop, get_or}

-- the steps of the two grids: how many bytes the code compares, and how many it counts, at one go
abbrev pub stride : ℕ
stride = 128

abbrev pub chunk : ℕ
chunk = 64

-- how many bytes two lists have in common from their start on
unfoldable pub agree : List ℕ → List ℕ → ℕ
agree [] ys = 0
agree (x ∷ xs) [] = 0
agree (x ∷ xs) (y ∷ ys) = elim (eqb x y) [ true ↦ suc (agree xs ys) | false ↦ 0 ]

-- the first place, from `from` on, at which a and b differ or one of them ends
unfoldable pub next_diff : List ℕ → List ℕ → ℕ → ℕ
next_diff a b from = from + agree (drop from a) (drop from b)

-- a and b hold the same bytes from `from` up to `to`
unfoldable pub Same : List ℕ → List ℕ → ℕ → ℕ → Type 0
Same a b from to = (i : ℕ) → from ≤ i → i < to → get_or a i 0 ≡ get_or b i 0

-- one where a and b differ at a place, or none
unfoldable pub differs_at : List ℕ → List ℕ → ℕ → ℕ
differs_at a b i = elim (eqb (get_or a i 0) (get_or b i 0)) [ true ↦ 0 | false ↦ 1 ]

-- how many of the n places from `from` on differ
unfoldable pub diffs_in : List ℕ → List ℕ → ℕ → ℕ → ℕ
diffs_in a b from zero = 0
diffs_in a b from (suc n) = diffs_in a b from n + differs_at a b (from + n)

-- the place after the last difference among the n places from `from` on, or `from` where there is none
unfoldable pub after_last : List ℕ → List ℕ → ℕ → ℕ → ℕ
after_last a b from zero = from
after_last a b from (suc n) = elim (eqb (get_or a (from + n) 0) (get_or b (from + n) 0)) [ true ↦ after_last a b from n | false ↦ from + n + 1 ]

-- a and b have the whole chunk from `at` on
abbrev pub has_chunk : List ℕ → List ℕ → ℕ → Bool
has_chunk a b at = leb (at + chunk) (length a) && leb (at + chunk) (length b)

-- how many places of it differ, and the place after the last of them. None are told of a chunk that a or b has not whole.
unfoldable pub chunk_diffs : List ℕ → List ℕ → ℕ → ℕ
chunk_diffs a b at = cond (has_chunk a b at) (diffs_in a b at chunk) 0

unfoldable pub chunk_after : List ℕ → List ℕ → ℕ → ℕ
chunk_after a b at = cond (has_chunk a b at) (after_last a b at chunk) at

-- the first place from `from` on, in steps of this width, whose bytes up to the next place differ, or that has no next place in a or b
pub record NextChunk (width : ℕ) (a b : List ℕ) (from r : ℕ) : Type 0 where
  pub steps : ℕ
  pub on : r ≡ from + steps * width
  pub within : from < r → (r ≤ length a) × (r ≤ length b)
  pub alike : Same a b from r
  pub differ : r + width ≤ length a → r + width ≤ length b → Same a b r (r + width) → ⊥
