-- What setting one pair comes to, with none of its arithmetic: the pair, every other pair, and every byte that is not the block's. The same
-- of clearing some pairs.
use Rattle.std.specs.Prelude.{ℕ, ◌*◌, ◌/◌, ◌≤◌, ◌<◌, ◌≡◌, ◌⊎◌, List, length, get_or}
use Rattle.blockmap.specs.Pairs.{pair_at}

pub record PairSet (map : List ℕ) (b v : ℕ) (map' : List ℕ) : Type 0 where
  pub here : pair_at map' b ≡ v
  pub others : (c : ℕ) → (c ≡ b → ⊥) → pair_at map' c ≡ pair_at map c
  pub bytes : (i : ℕ) → (i ≡ b / 4 → ⊥) → get_or map' i 0 ≡ get_or map i 0
  pub size : length map' ≡ length map

-- the pairs of blocks `from` and up, below `to`, are 0
pub record PairsCleared (map : List ℕ) (from to : ℕ) (map' : List ℕ) : Type 0 where
  pub gone : (c : ℕ) → from ≤ c → c < to → pair_at map' c ≡ 0
  pub others : (c : ℕ) → (c < from) ⊎ (to ≤ c) → pair_at map' c ≡ pair_at map c
  -- a byte that has none of them
  pub bytes : (i : ℕ) → (i < from / 4) ⊎ (to ≤ 4 * i) → get_or map' i 0 ≡ get_or map i 0
  pub size : length map' ≡ length map
