-- Making a map: the pair of a kind, four pairs in a byte, the map of n blocks with given pairs, one pair set, and some pairs cleared.
use Rattle.std.specs.Prelude.{ℕ, zero, suc, ◌+◌, ◌*◌, ◌/◌, ◌%◌, cond, List, [], ◌∷◌, ◌++◌, eqb, ltb, get_or, set}
use Rattle.layout.specs.Sizes.{empty_kind, patch_kind, full_kind}
use Rattle.blockmap.specs.Pairs.{map_bytes, patch_pair, full_pair}

-- of the kind numbers 0 EMPTY, 1 PATCH and 2 FULL_REF
unfoldable pub pair_of : ℕ → ℕ
pair_of zero = 0
pair_of (suc zero) = patch_pair
pair_of (suc (suc k)) = full_pair

-- and back: the kind that a pair stands for (3, which no block may have, stands for none)
unfoldable pub kind_of : ℕ → ℕ
kind_of v = cond (eqb v patch_pair) patch_kind (cond (eqb v full_pair) full_kind empty_kind)

-- a byte of four pairs, the first in its lowest bits
unfoldable pub byte_of : ℕ → ℕ → ℕ → ℕ → ℕ
byte_of p q r s = p % 4 + (4 * (q % 4) + (16 * (r % 4) + 64 * (s % 4)))

-- the pair of block b in a map of n blocks: unused pairs are 0
unfoldable pub pair_in : (ℕ → ℕ) → ℕ → ℕ → ℕ
pair_in f n b = cond (ltb b n) (f b) 0

-- byte i of the map of n blocks whose pair at b is f b
unfoldable pub packed_byte : (ℕ → ℕ) → ℕ → ℕ → ℕ
packed_byte f n i = byte_of (pair_in f n (4 * i)) (pair_in f n (4 * i + 1)) (pair_in f n (4 * i + 2)) (pair_in f n (4 * i + 3))

-- its first k bytes
unfoldable pub packed_first : (ℕ → ℕ) → ℕ → ℕ → List ℕ
packed_first f n zero = []
packed_first f n (suc i) = packed_first f n i ++ (packed_byte f n i ∷ [])

-- the map of n blocks whose pair at b is f b
unfoldable pub packed : (ℕ → ℕ) → ℕ → List ℕ
packed f n = packed_first f n (map_bytes n)

-- One pair set

-- a byte with pair k set to v, the other three as they are
unfoldable pub with_pair : ℕ → ℕ → ℕ → ℕ
with_pair x k v =
    byte_of (cond (eqb k 0) v (x % 4)) (cond (eqb k 1) v (x / 4 % 4)) (cond (eqb k 2) v (x / 16 % 4)) (cond (eqb k 3) v (x / 64 % 4))

-- a map with the pair of block b set to v; one that does not reach to block b stays as it is
unfoldable pub set_pair : List ℕ → ℕ → ℕ → List ℕ
set_pair map b v = set map (b / 4) (with_pair (get_or map (b / 4) 0) (b % 4) v)

-- Some pairs cleared

-- a map with the pairs of `count` blocks from block b on set to 0
unfoldable pub clear_pairs : List ℕ → ℕ → ℕ → List ℕ
clear_pairs map b zero = map
clear_pairs map b (suc count) = set_pair (clear_pairs map b count) (b + count) 0
