-- Cut with a lent map: Cut's outcome on both areas, and "pairs in a lent map become zero" of the blocks that it drops.
use Rattle.std.specs.Prelude.{ℕ, ◌-◌, ◌≡◌, List, length, Result, ⊤}
use Rattle.layout.specs.Numbers.{answer_number}
use Rattle.layout.specs.declared.Refusal.{Refusal}
use Rattle.layout.specs.Refusals.{Row, first_of, decided}
use Rattle.layout.specs.Lengths.{blocks_in}
use Rattle.blockmap.specs.Pack.{clear_pairs}
use Rattle.blockmap.specs.Calls.{short_map}
use Rattle.cutting.specs.Cut.{cut_rows, CutOutcome, cut_by}

-- Cut's rows, and 9 for a short map
unfoldable pub cut_mapped_rows : ℕ → List ℕ → List ℕ → List ℕ → ℕ → List Row
cut_mapped_rows P patch full map K = cut_rows P (short_map map (blocks_in (length patch))) patch full K

-- Cut's number and areas, and the map
pub record MappedCut : Type 0 where
  pub areas : CutOutcome
  pub map : List ℕ

-- accepted: the pairs of blocks K to n − 1, and no other; refused: the map too keeps every byte
unfoldable pub cut_mapped_outcome : ℕ → List ℕ → List ℕ → List ℕ → ℕ → MappedCut
cut_mapped_outcome P patch full map K =
    let n = blocks_in (length patch) in
    record {
      areas = cut_by P (short_map map n) patch full K;
      map = decided (first_of (cut_mapped_rows P patch full map K)) (clear_pairs map K (n - K)) (λ _. map);
    }

pub record CutMapped (P : ℕ) (patch full map : List ℕ) (K : ℕ) (answer : Result ⊤ Refusal) (patch' full' map' : List ℕ) : Type 0 where
  pub numbers : answer_number answer ≡ (cut_mapped_outcome P patch full map K).areas.number
  pub patch_bytes : patch' ≡ (cut_mapped_outcome P patch full map K).areas.patch
  pub full_bytes : full' ≡ (cut_mapped_outcome P patch full map K).areas.full
  pub map_bytes_is : map' ≡ (cut_mapped_outcome P patch full map K).map
