-- A reader that goes on from the beginning of a payload: where it stands after k steps, what the next one finds, and what it gave so far.
use Rattle.std.specs.Prelude.{ℕ, zero, suc, cond, List, [], ◌∷◌, ◌++◌, ℤ}
use Rattle.payload.specs.Entries.{start, payload_stream, sound, breaks_at}
use Rattle.payload.specs.Listing.{Listed, listed}
use Rattle.entry_reader.specs.Turns.{roomy, turn_at}
use Rattle.entry_reader.specs.Reader.{moved}
use Rattle.entry_reader.specs.declared.Found.{Found}
use Rattle.entry_reader.specs.declared.Found.TheVariants.{Entry, End, Stopped}
use Rattle.entry_reader.specs.declared.Turn.{Turn}
use Rattle.entry_reader.specs.declared.EntryReader.{EntryReader}

pub record Standing : Type 0 where
  pub at : ℕ
  pub position : ℤ

abbrev pub entry_of : Found → List Listed
entry_of (Entry q v) = record { position = q; value = v } ∷ []
entry_of End = []
entry_of (Stopped offset) = []

-- any program that makes one step, right or wrong
abbrev pub StepProgram : Type 0
StepProgram = ℕ → List ℕ → ℕ → ℤ → Turn

module _ (step : StepProgram) (n : ℕ) (payload : List ℕ) where
  -- a step from where the reader stands, and where it stands after it
  abbrev pub turn_by : Standing → Turn
  turn_by s = step n payload s.at s.position

  abbrev pub onward_by : Standing → Standing
  onward_by s = record { at = (turn_by s).at; position = (turn_by s).position }

  unfoldable pub standing_by : ℕ → Standing
  standing_by zero = record { at = 0; position = start }
  standing_by (suc k) = onward_by (standing_by k)

  -- what step k finds
  abbrev pub finds_by : ℕ → Found
  finds_by k = (turn_by (standing_by k)).found

  -- the entries that the first k steps gave
  unfoldable pub given_by : ℕ → List Listed
  given_by zero = []
  given_by (suc k) = given_by k ++ entry_of (finds_by k)

-- the reader's own step
abbrev pub turn_from : ℕ → List ℕ → Standing → Turn
turn_from = turn_by turn_at

abbrev pub onward : ℕ → List ℕ → Standing → Standing
onward = onward_by turn_at

abbrev pub standing : ℕ → List ℕ → ℕ → Standing
standing = standing_by turn_at

abbrev pub finds : ℕ → List ℕ → ℕ → Found
finds = finds_by turn_at

abbrev pub given : ℕ → List ℕ → ℕ → List Listed
given = given_by turn_at

-- the entries of a payload of 1 to 504 bytes, up to its end or its first unsound entry
unfoldable pub shown : ℕ → List ℕ → List Listed
shown n payload = cond (roomy payload) (listed (payload_stream n payload)) []

-- what comes after them
unfoldable pub ending : ℕ → List ℕ → Found
ending n payload = cond (sound n payload) End (Stopped (breaks_at n payload))

-- a reader moved k times
abbrev pub moved_times : ℕ → EntryReader → EntryReader
moved_times zero r = r
moved_times (suc k) r = moved (moved_times k r)
