-- Bytes in a list: a run of zeros, a part, a part laid over, a list emptied from some place on, and whether two lists are the same.
-- All but `same` are shut: proofs go by the laws of `Laws.antt`.
use Rattle.std.specs.Prelude.{ℕ, ◌+◌, ◌-◌, Bool, true, false, ◌&&◌, cond, List, [], ◌∷◌, ◌++◌, eqb, leb, length, take, drop, replicate, ◌≡◌}
use Rattle.std.proofs.lemmas.List.Edits.{sets}

-- n zero bytes
unfoldable pub zeros : ℕ → List ℕ
zeros n = replicate n 0

-- the n bytes of xs from `at` on
unfoldable pub part : ℕ → ℕ → List ℕ → List ℕ
part at n xs = take n (drop at xs)

-- where a part begins of a list of l bytes: one that begins past the end is empty, and begins at 0
abbrev pub part_from : ℕ → ℕ → ℕ
part_from at l = cond (leb l at) 0 at

-- xs with ys laid over it from `at` on
unfoldable pub splice : List ℕ → ℕ → List ℕ → List ℕ
splice xs at ys = take at xs ++ (ys ++ drop (at + length ys) xs)

-- xs with zeros from `at` on
unfoldable pub emptied : ℕ → List ℕ → List ℕ
emptied at xs = part 0 at xs ++ zeros (length xs - at)

-- whether two lists hold the same bytes
unfoldable pub same : List ℕ → List ℕ → Bool
same [] [] = true
same [] (y ∷ ys) = false
same (x ∷ xs) [] = false
same (x ∷ xs) (y ∷ ys) = eqb x y && same xs ys

-- bytes stored from `at` on, as far as there is room, and the place after them
pub record Put (room : List ℕ) (at : ℕ) (ys : List ℕ) (r : ℕ) (after : List ℕ) : Type 0 where
  pub next : r ≡ at + length ys
  pub bytes : after ≡ sets room at ys
