-- What the exported calls that cut a table short owe: the struct's numbers and every lent byte afterwards are those of the call's definition.
use Rattle.std.specs.Prelude.{ℕ, ◌≡◌, List}
use Rattle.cutting.specs.Cut.{cut_outcome}
use Rattle.cutting.specs.Mapped.{cut_mapped_outcome}
use Rattle.cutting.specs.Highest.{HighestNumbers, highest_numbers}
use Rattle.thonxiliko.specs.declared.thx_done.{thx_done}
use Rattle.thonxiliko.specs.declared.thx_extent.{thx_extent}

-- Cut

pub record ThxCut (P : ℕ) (patch full : List ℕ) (K : ℕ) (r : thx_done) (patch' full' : List ℕ) : Type 0 where
  pub numbers : r.number ≡ (cut_outcome P patch full K).number
  pub patch_bytes : patch' ≡ (cut_outcome P patch full K).patch
  pub full_bytes : full' ≡ (cut_outcome P patch full K).full

-- Cut with a lent map

pub record ThxCutMapped (P : ℕ) (patch full map : List ℕ) (K : ℕ) (r : thx_done) (patch' full' map' : List ℕ) : Type 0 where
  pub numbers : r.number ≡ (cut_mapped_outcome P patch full map K).areas.number
  pub patch_bytes : patch' ≡ (cut_mapped_outcome P patch full map K).areas.patch
  pub full_bytes : full' ≡ (cut_mapped_outcome P patch full map K).areas.full
  pub map_bytes_is : map' ≡ (cut_mapped_outcome P patch full map K).map

-- Highest

abbrev pub extent_members : thx_extent → HighestNumbers
extent_members r = record { number = r.number; blocks = r.blocks }

pub record ThxHighest (P : ℕ) (patch : List ℕ) (r : thx_extent) : Type 0 where
  pub numbers : extent_members r ≡ highest_numbers P patch
