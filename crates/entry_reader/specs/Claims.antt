-- Request 01's own words on the entry reader, said of any step program: what it gives from the beginning of a payload, and where it
-- stops.
use Rattle.std.specs.Prelude.{ℕ, ◌≤◌, ◌≡◌, true, false, List, [], ℤ}
use Rattle.layout.specs.Sizes.{page_size}
use Rattle.payload.specs.Entries.{payload_stream, sound, breaks_at, entries}
use Rattle.payload.specs.Listing.{Listed, listed}
use Rattle.entry_reader.specs.Turns.{roomy, Turned}
use Rattle.entry_reader.specs.Walk.{StepProgram, standing_by, finds_by, given_by}
use Rattle.entry_reader.specs.declared.Found.TheVariants.{Stopped}

-- the entries of a payload up to its end or its first unsound entry, and how many they are
abbrev pub before : List ℕ → List Listed
before payload = listed (payload_stream page_size payload)

abbrev pub many : List ℕ → ℕ
many payload = entries (payload_stream page_size payload)

-- after k steps it has given just these entries, stands at this offset, and says there that it stops
pub record StopsAt (step : StepProgram) (payload : List ℕ) (offset : ℕ) (gave : List Listed) (k : ℕ) : Type 0 where
  pub given : given_by step page_size payload k ≡ gave
  pub stands : (standing_by step page_size payload k).at ≡ offset
  pub says : finds_by step page_size payload k ≡ Stopped offset

-- "Its entries, joined, are those Apply uses": once it has made as many steps as a sound payload has entries
abbrev pub JoinedAsApplied : StepProgram → Type 0
JoinedAsApplied step = (payload : List ℕ) (k : ℕ) → sound page_size payload ≡ true → many payload ≤ k
    → given_by step page_size payload k ≡ before payload

-- "on an unsound payload it stops at that offset": a payload of 1 to 504 bytes, and the same after any further step
abbrev pub StopsThere : StepProgram → Type 0
StopsThere step = (payload : List ℕ) (k : ℕ) → roomy payload ≡ true → sound page_size payload ≡ false → many payload ≤ k
    → StopsAt step payload (breaks_at page_size payload) (before payload) k

-- and "0 for an empty or overlong payload", of which it gives no entry
abbrev pub StopsAtOnce : StepProgram → Type 0
StopsAtOnce step = (payload : List ℕ) (k : ℕ) → roomy payload ≡ false → StopsAt step payload 0 [] k

pub record Keeps (step : StepProgram) : Type 0 where
  pub joined : JoinedAsApplied step
  pub there : StopsThere step
  pub once : StopsAtOnce step

-- what the contract of `step_at` says of a step program
abbrev pub Right : StepProgram → Type 0
Right step = (payload : List ℕ) (at : ℕ) (position : ℤ) → Turned page_size payload at position (step page_size payload at position)
