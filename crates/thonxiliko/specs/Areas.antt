-- What the exported calls on areas and slots owe: the struct's numbers and every lent byte afterwards are those of the call's definition.
use Rattle.std.specs.Prelude.{ℕ, ◌≡◌, List}
use Rattle.store.specs.Show.{show_place}
use Rattle.store.specs.declared.Place.{Place}
use Rattle.store.specs.Format.{format_outcome}
use Rattle.store.specs.Judge.{JudgedNumbers, judge_numbers}
use Rattle.reading.specs.Read.{ReadNumbers, read_numbers, read_outcome}
use Rattle.carrying.specs.Puts.{Decision}
use Rattle.carrying.specs.CarryOut.{CarryNumbers, carry_numbers, carry_told}
use Rattle.building.specs.Build.{BuildNumbers, build_numbers, build_outcome}
use Rattle.thonxiliko.specs.declared.thx_done.{thx_done}
use Rattle.thonxiliko.specs.declared.thx_judged.{thx_judged}
use Rattle.thonxiliko.specs.declared.thx_part.{thx_part}
use Rattle.thonxiliko.specs.declared.thx_reading.{thx_reading}
use Rattle.thonxiliko.specs.declared.thx_written.{thx_written}
use Rattle.thonxiliko.specs.declared.thx_built.{thx_built}

-- Format

pub record ThxFormat (P : ℕ) (patch full : List ℕ) (r : thx_done) (patch' full' : List ℕ) : Type 0 where
  pub numbers : r.number ≡ (format_outcome P patch full).number
  pub patch_bytes : patch' ≡ (format_outcome P patch full).patch
  pub full_bytes : full' ≡ (format_outcome P patch full).full

-- Judge

abbrev pub judged_members : thx_judged → JudgedNumbers
judged_members r = record { number = r.number; kind = r.kind; length = r.length }

pub record ThxJudge (slot : List ℕ) (r : thx_judged) : Type 0 where
  pub numbers : judged_members r ≡ judge_numbers slot

-- Show

abbrev pub part_members : thx_part → Place
part_members r = record { at = r.at; len = r.len }

pub record ThxShow (P : ℕ) (patch : List ℕ) (b : ℕ) (r : thx_part) : Type 0 where
  pub place : part_members r ≡ show_place P patch b

-- Read

abbrev pub read_members : thx_reading → ReadNumbers
read_members r = record { number = r.number; kind = r.kind; offset = r.offset }

pub record ThxRead (P : ℕ) (patch full : List ℕ) (b : ℕ) (base page : List ℕ) (r : thx_reading) (page' : List ℕ) : Type 0 where
  pub numbers : read_members r ≡ read_numbers (read_outcome P patch full b base page)
  pub bytes : page' ≡ (read_outcome P patch full b base page).page

-- Carry out

abbrev pub written_members : thx_written → CarryNumbers
written_members r = record { number = r.number; kind = r.kind; length = r.length }

pub record ThxCarryOut (P : ℕ) (patch full : List ℕ) (b : ℕ) (d : Decision) (stores : ℕ) (r : thx_written) (patch' full' : List ℕ)
    : Type 0 where
  pub numbers : written_members r ≡ carry_numbers (carry_told P patch full b d stores)
  pub patch_bytes : patch' ≡ (carry_told P patch full b d stores).patch
  pub full_bytes : full' ≡ (carry_told P patch full b d stores).full

-- Build

abbrev pub built_members : thx_built → BuildNumbers
built_members r = record { number = r.number; block = r.block; offset = r.offset }

pub record ThxBuild (P : ℕ) (patch full map : List ℕ) (r : thx_built) (map' : List ℕ) : Type 0 where
  pub numbers : built_members r ≡ build_numbers (build_outcome P patch full map)
  pub bytes : map' ≡ (build_outcome P patch full map).map
