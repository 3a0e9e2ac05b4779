-- The block map: two bits for each block, block b in bits 2·(b mod 4) and up of byte b/4.
use Rattle.std.specs.Prelude.{ℕ, zero, suc, ◌+◌, ◌-◌, ◌*◌, ◌/◌, ◌%◌, ◌^◌, Bool, false, not, ◌||◌, cond, List, eqb, get_or}

-- "at least n/4 bytes, rounded up"
unfoldable pub map_bytes : ℕ → ℕ
map_bytes n = (n + 3) / 4

-- the pair of block b
unfoldable pub pair_at : List ℕ → ℕ → ℕ
pair_at map b = get_or map (b / 4) 0 / 4 ^ (b % 4) % 4

-- 0 EMPTY, 2 PATCH, 1 full, 3 reserved
abbrev pub patch_pair : ℕ
patch_pair = 2

abbrev pub full_pair : ℕ
full_pair = 1

abbrev pub reserved_pair : ℕ
reserved_pair = 3

-- how many of the first n blocks have this pair
unfoldable pub pairs : ℕ → List ℕ → ℕ → ℕ
pairs v map zero = 0
pairs v map (suc b) = pairs v map b + cond (eqb (pair_at map b) v) 1 0

-- whether one of the first n blocks has the reserved pair
unfoldable pub some_reserved : List ℕ → ℕ → Bool
some_reserved map zero = false
some_reserved map (suc b) = some_reserved map b || eqb (pair_at map b) reserved_pair

-- whether one of the k pairs from block b on is not 0
unfoldable pub some_used : List ℕ → ℕ → ℕ → Bool
some_used map b zero = false
some_used map b (suc k) = some_used map b k || not (eqb (pair_at map (b + k)) 0)

-- "pair 3 met, or a pair past n not 0": the n pairs, and the unused pairs of the last byte
unfoldable pub bad_pairs : List ℕ → ℕ → Bool
bad_pairs map n = some_reserved map n || some_used map n (4 * map_bytes n - n)

-- how many of the four pairs of a byte are v
unfoldable pub in_byte : ℕ → ℕ → ℕ
in_byte v x = cond (eqb (x % 4) v) 1 0 + (cond (eqb (x / 4 % 4) v) 1 0 + (cond (eqb (x / 16 % 4) v) 1 0 + cond (eqb (x / 64 % 4) v) 1 0))
