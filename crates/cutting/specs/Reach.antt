-- What "one more than the highest ..., or 0" means, with no walk over blocks: of any sort of block.
use Rattle.std.specs.Prelude.{ℕ, ◌+◌, ◌≤◌, ◌<◌, ◌≡◌, ◌⊎◌}

-- h is one more than the highest block below n that is of the sort Q, or 0 if there is none
pub record OneMore (Q : ℕ → Type 0) (n h : ℕ) : Type 0 where
  pub none_from : (b : ℕ) → h ≤ b → b < n → Q b → ⊥
  pub highest : (h ≡ 0) ⊎ ((b : ℕ) × (h ≡ b + 1) × (b < n) × Q b)

-- h is the least number such that no block from it on, below n, is of the sort Q
pub record LeastFree (Q : ℕ → Type 0) (n h : ℕ) : Type 0 where
  pub none_from : (b : ℕ) → h ≤ b → b < n → Q b → ⊥
  pub least : (k : ℕ) → ((b : ℕ) → k ≤ b → b < n → Q b → ⊥) → h ≤ k
