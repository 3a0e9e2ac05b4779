-- What the exported calls on areas and a lent map owe: the struct's numbers and every lent byte afterwards are those of the call's
-- definition.
use Rattle.std.specs.Prelude.{ℕ, ◌≡◌, List}
use Rattle.reading.specs.Read.{read_numbers}
use Rattle.reading.specs.Mapped.{read_mapped_outcome}
use Rattle.carrying.specs.Puts.{Decision}
use Rattle.carrying.specs.CarryOut.{carry_numbers}
use Rattle.carrying.specs.Mapped.{carry_mapped_told}
use Rattle.thonxiliko.specs.declared.thx_reading.{thx_reading}
use Rattle.thonxiliko.specs.declared.thx_written.{thx_written}
use Rattle.thonxiliko.specs.Areas.{read_members, written_members}

pub record ThxCarryOutMapped (P : ℕ) (patch full map : List ℕ) (b : ℕ) (d : Decision) (stores : ℕ) (r : thx_written)
    (patch' full' map' : List ℕ) : Type 0 where
  pub numbers : written_members r ≡ carry_numbers (carry_mapped_told P patch full map b d stores).areas
  pub patch_bytes : patch' ≡ (carry_mapped_told P patch full map b d stores).areas.patch
  pub full_bytes : full' ≡ (carry_mapped_told P patch full map b d stores).areas.full
  pub map_bytes_is : map' ≡ (carry_mapped_told P patch full map b d stores).map

pub record ThxReadMapped (P : ℕ) (patch full map : List ℕ) (b : ℕ) (base page : List ℕ) (r : thx_reading) (page' : List ℕ)
    : Type 0 where
  pub numbers : read_members r ≡ read_numbers (read_mapped_outcome P patch full map b base page)
  pub bytes : page' ≡ (read_mapped_outcome P patch full map b base page).page
