-- Carry out a decision and keep a lent map: the same outcome on both areas, and the block's own pair if all stores are made.
use Rattle.std.specs.Prelude.{ℕ, ◌≡◌, cond, List, length, Result}
use Rattle.layout.specs.declared.Refusal.{Refusal}
use Rattle.layout.specs.Refusals.{Row, first_of, decided}
use Rattle.layout.specs.Lengths.{blocks_in}
use Rattle.blockmap.specs.Pack.{pair_of, set_pair}
use Rattle.blockmap.specs.Calls.{short_map}
use Rattle.carrying.specs.declared.Written.{Written}
use Rattle.carrying.specs.Puts.{Decision, all, told_all}
use Rattle.carrying.specs.CarryOut.{carry_rows, CarryOutcome, carry_by, written_numbers, carry_numbers}

-- the rows of carrying out, and "9 for a short map in 01's place"
unfoldable pub carry_mapped_rows : ℕ → List ℕ → List ℕ → List ℕ → ℕ → Decision → List Row
carry_mapped_rows P patch full map b d = carry_rows P (short_map map (blocks_in (length patch))) patch full b d

-- the answer and both areas, and the map
pub record MappedCarry : Type 0 where
  pub areas : CarryOutcome
  pub map : List ℕ

-- accepted: "its own pair only", and "a lent map is updated only when told all"; refused: the map too keeps every byte
unfoldable pub carry_mapped_told : ℕ → List ℕ → List ℕ → List ℕ → ℕ → Decision → ℕ → MappedCarry
carry_mapped_told P patch full map b d stores =
    record {
      areas = carry_by P (short_map map (blocks_in (length patch))) patch full b d stores;
      map =
          decided (first_of (carry_mapped_rows P patch full map b d)) (cond (told_all stores) (set_pair map b (pair_of d.kind)) map) (λ _. map);
    }

-- told all
abbrev pub carry_mapped_outcome : ℕ → List ℕ → List ℕ → List ℕ → ℕ → Decision → MappedCarry
carry_mapped_outcome P patch full map b d = carry_mapped_told P patch full map b d all

pub record CarryOutMapped (P : ℕ) (patch full map : List ℕ) (b : ℕ) (d : Decision) (stores : ℕ) (answer : Result Written Refusal)
    (patch' full' map' : List ℕ) : Type 0 where
  pub numbers : written_numbers answer ≡ carry_numbers (carry_mapped_told P patch full map b d stores).areas
  pub patch_bytes : patch' ≡ (carry_mapped_told P patch full map b d stores).areas.patch
  pub full_bytes : full' ≡ (carry_mapped_told P patch full map b d stores).areas.full
  pub map_bytes_is : map' ≡ (carry_mapped_told P patch full map b d stores).map
