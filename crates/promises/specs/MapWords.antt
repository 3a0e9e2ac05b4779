-- The words that the demands about a lent map are written with. A run with a map is any list of operations, each lent both areas and the
-- map whole, as the ones before it left them.
use Rattle.std.specs.Prelude.{ℕ, ◌≤◌, ◌<◌, ◌≡◌, Bool, ◌↔◌, ◌⊎◌, eqb, length, get_or}
use Rattle.std.proofs.Math.Option.{some}
use mathlib.Core.List.{List, Memᴰ}
use Rattle.span.specs.Bytes.{part}
use Rattle.blockmap.specs.Pairs.{map_bytes}
use Rattle.stream.specs.Calls.{page_of}
use Rattle.reading.specs.Read.{ReadOutcome}
use Rattle.reading.specs.Mapped.{read_mapped_outcome}
use Rattle.carrying.specs.Mapped.{MappedCarry, carry_mapped_outcome}
use Rattle.cutting.specs.Mapped.{MappedCut, cut_mapped_outcome}
use Rattle.building.specs.Build.{BuildOutcome, build_outcome}
use Rattle.promises.specs.Words.{blocks}
use Rattle.promises.specs.Decisions.{ComparedBy}
use Rattle.promises.specs.Runs.{run, taking, write, wipe}
use Rattle.promises.specs.RunWords.{Areas, Lent, Cut, Operation, last_to, Follows, Decided, FreshAreas}

-- both areas, and the map that is lent with them
pub record Mapped : Type 0 where
  pub areas : Areas
  pub map : List ℕ

-- the bytes that the map of a store takes
abbrev pub map_room : Areas → ℕ
map_room s = map_bytes (blocks s.patch)

abbrev pub Long : Areas → List ℕ → Type 0
Long s map = map_room s ≤ length map

-- those bytes of a map
abbrev pub map_part : Areas → List ℕ → List ℕ
map_part s map = part 0 (map_room s) map

-- Build of both areas, into a map, and Read of a block by a map
abbrev pub build_into : ℕ → Areas → List ℕ → BuildOutcome
build_into P s map = build_outcome P s.patch s.full map

abbrev pub read_by_map : ℕ → Mapped → ℕ → List ℕ → List ℕ → ReadOutcome
read_by_map P x b base page = read_mapped_outcome P x.areas.patch x.areas.full x.map b base page

-- Programs: what comes of a write, and of a cut, on both areas and a map. The right ones are `mapped P` and `cut_mapped P`; `MapsWrong` and
-- `CutsWrong` have others.

abbrev pub MappedProgram : Type 0
MappedProgram = Mapped → Lent → MappedCarry

abbrev pub mapped : ℕ → MappedProgram
mapped P x w = carry_mapped_outcome P x.areas.patch x.areas.full x.map w.block w.decision

abbrev pub MappedCutProgram : Type 0
MappedCutProgram = Mapped → Cut → MappedCut

abbrev pub cut_mapped : ℕ → MappedCutProgram
cut_mapped P x K = cut_mapped_outcome P x.areas.patch x.areas.full x.map K

abbrev pub takes_with_by : MappedProgram → MappedCutProgram → Mapped → Operation → Bool
takes_with_by writes drops x (write w) = eqb (writes x w).areas.number 0
takes_with_by writes drops x (wipe K) = eqb (drops x K).areas.number 0

abbrev pub does_with_by : MappedProgram → MappedCutProgram → Mapped → Operation → Mapped
does_with_by writes drops x (write w) = record {
  areas = record { patch = (writes x w).areas.patch; full = (writes x w).areas.full };
  map = (writes x w).map;
}
does_with_by writes drops x (wipe K) = record {
  areas = record { patch = (drops x K).areas.patch; full = (drops x K).areas.full };
  map = (drops x K).map;
}

-- all three after a run, and those of its operations that were accepted when their turn came
abbrev pub after_with_by : MappedProgram → MappedCutProgram → Mapped → List Operation → Mapped
after_with_by writes drops x os = run (does_with_by writes drops) x os

abbrev pub accepted_with_by : MappedProgram → MappedCutProgram → Mapped → List Operation → List Operation
accepted_with_by writes drops x os = taking (takes_with_by writes drops) (does_with_by writes drops) x os

abbrev pub after_with : ℕ → Mapped → List Operation → Mapped
after_with P x os = after_with_by (mapped P) (cut_mapped P) x os

abbrev pub accepted_with : ℕ → Mapped → List Operation → List Operation
accepted_with P x os = accepted_with_by (mapped P) (cut_mapped P) x os

-- ls holds each block's last accepted write that no later accepted cut covers, and nothing else, in any order
abbrev pub JustLastsWith : ℕ → Mapped → List Operation → List Lent → Type 0
JustLastsWith P x os ls = (w : Lent) → Memᴰ w ls ↔ (last_to w.block (accepted_with P x os) ≡ some (write w))

-- "only the blocks it covers may have another base after it"
abbrev pub FollowsBasesWith : ℕ → (ℕ → List ℕ) → Mapped → List Operation → (ℕ → List ℕ) → Type 0
FollowsBasesWith P start x os end = Follows P start (accepted_with P x os) end

-- each accepted write was decided by a Compare over its block's base: "each block always with the same base page"
abbrev pub KeepsBasesWith : ℕ → (ℕ → List ℕ) → Mapped → List Operation → Type 0
KeepsBasesWith P bases x os =
    (w : Lent) → Memᴰ (write w) (accepted_with P x os) → ComparedBy P (bases w.block) w.decision

-- what is needed of either: the write that stands at a block at the end was decided over the block's base page then
abbrev pub OverBasesWith : ℕ → (ℕ → List ℕ) → Mapped → List Operation → Type 0
OverBasesWith P bases x os =
    (b : ℕ) → b < blocks x.areas.patch → (w : Lent) → last_to b (accepted_with P x os) ≡ some (write w) → Decided P (page_of P (bases b)) w

-- fresh areas and a zero map: its bytes that count are zero, however many of them there are, and later bytes are any
pub record FreshWith (P : ℕ) (x : Mapped) : Type 0 where
  pub fresh : FreshAreas P x.areas
  pub zero : (i : ℕ) → i < map_room x.areas → get_or x.map i 0 ≡ 0

-- two maps for stores of these lengths: of one length, or both long enough
abbrev pub SameRoom : Areas → List ℕ → List ℕ → Type 0
SameRoom s map map' = (length map ≡ length map') ⊎ (Long s map × Long s map')

-- the same bytes in both areas, and in the map those that count
pub record Alike (x y : Mapped) : Type 0 where
  pub areas : x.areas ≡ y.areas
  pub pairs : map_part x.areas x.map ≡ map_part y.areas y.map
