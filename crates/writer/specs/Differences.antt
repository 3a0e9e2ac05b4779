-- The writer's stream: which bytes differ, and how they are spelled.
use Rattle.std.specs.Prelude.{ℕ, ◌+◌, ◌-◌, true, false, cond, List, [], ◌∷◌, ◌++◌, eqb, ltb, ℤ, pos}
use Rattle.layout.specs.Sizes.{short_width}
use Rattle.layout.specs.Numbers.{le}
use Rattle.payload.specs.Entries.{long_code}

-- a byte of the modified page that is not its base's
pub record Change : Type 0 where
  pub place : ℕ
  pub value : ℕ

-- the bytes that differ, in rising order; the lists stand at place q
unfoldable pub diffs : ℕ → List ℕ → List ℕ → List Change
diffs q [] ys = []
diffs q (x ∷ xs) [] = []
diffs q (x ∷ xs) (y ∷ ys) = elim (eqb x y) [ true ↦ diffs (q + 1) xs ys | false ↦ record { place = q; value = y } ∷ diffs (q + 1) xs ys ]

-- one entry: the one-byte code for jumps below 255, the long code otherwise
unfoldable pub spelled : ℕ → ℕ → List ℕ
spelled jump v = cond (ltb jump long_code) (jump ∷ v ∷ []) (long_code ∷ (le short_width jump ++ (v ∷ [])))

-- the entries of these changes, where `next` is the place after the last position
unfoldable pub coded : ℕ → List Change → List ℕ
coded next [] = []
coded next (c ∷ cs) = spelled (c.place - next) c.value ++ coded (c.place + 1) cs

unfoldable pub written : List ℕ → List ℕ → List ℕ
written base page = coded 0 (diffs 0 base page)

-- the last differing position, or the one before
unfoldable pub last_place : ℤ → List Change → ℤ
last_place p [] = p
last_place p (c ∷ cs) = last_place (pos c.place) cs
