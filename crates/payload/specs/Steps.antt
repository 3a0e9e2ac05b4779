-- What the pieces of the reader owe their callers: the step, the check of a whole payload, and the overlay.
use Rattle.std.specs.Prelude.{ℕ, zero, suc, ◌+◌, ◌-◌, ◌*◌, ◌<◌, ◌≤◌, ◌≡◌, Bool, true, false, ◌||◌, cond, List, eqb, ltb, length, drop, get_or, ℤ, pos}
use Rattle.std.specs.Prelude.{Option, Some, None, Result, Ok, Err}
use Rattle.payload.specs.Entries.{long_code, short_entry, long_entry, Stream, done, unsound, entry, code, low, value, in_page}
use Rattle.payload.specs.Entries.{stream, start, payload_stream, sound, breaks_at}
use Rattle.payload.specs.Entries.{applied, entries as entries_of, last as last_of}
use Rattle.payload.specs.Positions.{before}
use Rattle.payload.specs.declared.Step.{Step}
use Rattle.payload.specs.declared.Step.TheVariants.{End, Broken, Entry}
use Rattle.payload.specs.declared.Sound.{Sound}
use Rattle.payload.specs.declared.Unsound.{Unsound}
use Rattle.payload.specs.declared.reached.Reached.{Reached}
pub use Rattle.payload.specs.Reach.{farthest, reach}

-- The reader's step

-- an entry of the stream at `place`: its position, its value, and where the payload goes on
pub record Entered (n : ℕ) (payload : List ℕ) (place : ℕ) (s : Stream) (q : ℤ) (v next : ℕ) : Type 0 where
  pub on : place < next
  pub within : next ≤ length payload
  pub lands : in_page n q ≡ true
  pub is : s ≡ entry (next - place) q v (stream n q code (drop next payload))

-- how the stream s, which stands at `place` of the payload, begins
abbrev pub Follows : ℕ → List ℕ → ℕ → Stream → Step → Type 0
Follows n payload place s End = s ≡ done
Follows n payload place s Broken = s ≡ unsound
Follows n payload place s (Entry q v next) = Entered n payload place s q v next

abbrev pub landing : Bool → ℤ → ℕ → ℕ → Step
landing true q v next = Entry q v next
landing false q v next = Broken

-- the jump of the entry at `place` whose code is the long one: the stream after that code, up to its value
pub record Jumps (payload : List ℕ) (place jump : ℕ) : Type 0 where
  pub few : jump < farthest
  pub within : place + long_entry ≤ length payload
  pub is : (n : ℕ) (p : ℤ) → stream n p low (drop (place + 1) payload) ≡ stream n p (value long_entry jump) (drop (place + 3) payload)

-- or none, if the entry is cut off or its jump is below 255
abbrev pub Jumped : List ℕ → ℕ → Option ℕ → Type 0
Jumped payload place None = (n : ℕ) (p : ℤ) → stream n p low (drop (place + 1) payload) ≡ unsound
Jumped payload place (Some jump) = Jumps payload place jump

-- the entry at `place`, read from before `after`, is sound and takes this many bytes, and `to` is the place after its position
pub record Passes (n : ℕ) (payload : List ℕ) (place after width to : ℕ) : Type 0 where
  pub value : ℕ
  pub some : 1 ≤ to
  pub within_page : to ≤ n
  pub entered : Entered n payload place (stream n (before after) code (drop place payload)) (pos (to - 1)) value (place + width)

-- Short entries that are taken together

abbrev pub together : ℕ
together = 8

-- whether one of k entries of two bytes each from `place` on starts with the long code, and the sum of their jumps
unfoldable pub long_among : List ℕ → ℕ → ℕ → Bool
long_among payload place zero = false
long_among payload place (suc k) = long_among payload place k || eqb (get_or payload (place + short_entry * k) 0) long_code

unfoldable pub jumps_of : List ℕ → ℕ → ℕ → ℕ
jumps_of payload place zero = 0
jumps_of payload place (suc k) = jumps_of payload place k + get_or payload (place + short_entry * k) 0

-- the place after the last of them, where the first jumps from `after`; none if they are cut off, not all short, or leave a page of n bytes
unfoldable pub after_together : ℕ → List ℕ → ℕ → ℕ → Option ℕ
after_together n payload place after =
    let to = after + together + jumps_of payload place together in
    cond (ltb (length payload - place) (short_entry * together)) None
    (cond (long_among payload place together) None (cond (ltb n to) None (Some to)))

-- The check of a whole payload: the paper's numbers for each case of its answer, 7 where the payload is not sound, and where it breaks

pub record CheckedNumbers : Type 0 where
  pub number : ℕ
  pub entries : ℕ
  pub last : ℤ
  pub offset : ℕ

abbrev pub checked_numbers : Result Sound Unsound → CheckedNumbers
checked_numbers (Err u) = record { number = 7; entries = 0; last = pos 0; offset = u.offset }
checked_numbers (Ok s) = record { number = 0; entries = s.entries; last = s.last; offset = 0 }

unfoldable pub check_numbers : ℕ → List ℕ → CheckedNumbers
check_numbers n payload =
    cond (sound n payload)
    (record { number = 0; entries = entries_of (payload_stream n payload); last = last_of start (payload_stream n payload); offset = 0 })
    (record { number = 7; entries = 0; last = pos 0; offset = breaks_at n payload })

-- The overlay

-- what is known after the entries before `place` are laid over a page
pub record Laid (n : ℕ) (page₀ payload page : List ℕ) (place : ℕ) (p : ℤ) : Type 0 where
  pub on : place ≤ length payload
  pub same : length page ≡ length page₀
  pub still : applied page₀ (payload_stream n payload) ≡ applied page (stream n p code (drop place payload))

-- what was laid before the entries from `from` up to this place is laid after them, whatever the page was at first
pub record LaysTo (n : ℕ) (payload page : List ℕ) (from : Reached) (after : List ℕ) (place next : ℕ) : Type 0 where
  pub on : from.place ≤ place
  pub within : place ≤ length payload
  pub same : length after ≡ length page
  pub still : place ≡ from.place → next ≡ from.next
  pub laid : (page₀ : List ℕ) → Laid n page₀ payload page from.place (before from.next) → Laid n page₀ payload after place (before next)

abbrev pub Lays : ℕ → List ℕ → List ℕ → Reached → List ℕ → Reached → Type 0
Lays n payload page from after r = LaysTo n payload page from after r.place r.next

-- the first byte of the entry that comes next
abbrev pub code_at : List ℕ → Reached → ℕ
code_at payload r = get_or payload r.place 0

-- from there on the stream lays nothing more
abbrev pub Over : ℕ → List ℕ → Reached → Type 0
Over n payload r = (page : List ℕ) → applied page (stream n (before r.next) code (drop r.place payload)) ≡ page
