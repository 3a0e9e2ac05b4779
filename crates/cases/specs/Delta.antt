-- What the number of told runs says.
use Rattle.std.specs.Prelude.{ℕ, ◌≤◌, min, ◌≡◌, List, length}
use Rattle.differ.specs.Differ.{next_diff}

-- no run is told only where no byte that both have differs
abbrev pub Kept : List ℕ → List ℕ → ℕ → Type 0
Kept before after told = told ≡ 0 → min (length before) (length after) ≤ next_diff before after 0
