-- Wrong readers, each shut out by a proved input: there it breaks the request's own words, and its step gives a turn that does not meet
-- the predicate of `step_at`.
use Rattle.std.specs.Prelude.{ℕ, ◌+◌, ◌≡◌, refl, cond, List, [], ◌∷◌, eqb, length, replicate, ℤ, pos}
use Rattle.std.proofs.Common.{arith, sym, ap, ◌∙◌, lit<}
use Rattle.layout.specs.Sizes.{page_size}
use Rattle.layout.specs.Refusals.{or_else, first_of, decided}
use Rattle.layout.specs.Groups.{ordered}
use Rattle.payload.specs.Entries.{in_page, stream, start, whole, sound, used, breaks_at, entries}
use Rattle.payload.specs.Listing.{listed}
use Rattle.entry_reader.specs.Turns.{roomy, stands, left, begins, next_rows, stays, turn_of, turn_at, Turned}
use Rattle.entry_reader.specs.TurnLaws.{room_long, turn_unfit}
use Rattle.entry_reader.specs.Walk.{StepProgram, standing_by, given_by}
use Rattle.entry_reader.specs.Claims.{JoinedAsApplied, StopsThere, StopsAtOnce}
use Rattle.entry_reader.specs.declared.Found.{Found}
use Rattle.entry_reader.specs.declared.Found.TheVariants.{Entry, End, Stopped}
use Rattle.entry_reader.specs.declared.Turn.{Turn}

abbrev pub ShutOut : StepProgram → List ℕ → ℕ → ℤ → Type 0
ShutOut wrong payload at position = Turned page_size payload at position (wrong page_size payload at position) → ⊥

-- One that goes on by a byte where it stops: after `00`, which is cut, it would stand at the payload's end, and say that it ends.
abbrev further : Found → Turn → Turn
further (Entry q v) t = t
further End t = t
further (Stopped offset) t = record { found = t.found; at = t.at + 1; position = t.position }

unfoldable pub going_on : StepProgram
going_on n payload at position = further (turn_at n payload at position).found (turn_at n payload at position)

pub going_on_is : ShutOut going_on (0 ∷ []) 0 start
unfolding going_on turn_at next_rows ordered first_of or_else decided roomy stands begins turn_of stream
going_on_is h =
    let e : ◌≡◌ {A = ℕ} 1 0 = ap (λ (t : Turn). t.at) h.turn in
    omega arith

-- by the request's words: it does not stop at offset 0
moves_on : (standing_by going_on page_size (0 ∷ []) 1).at ≡ 1
unfolding going_on turn_at next_rows ordered first_of or_else decided roomy stands begins turn_of stream standing_by
moves_on = refl

pub going_on_stops : StopsThere going_on → ⊥
unfolding roomy sound whole stream breaks_at used entries
going_on_stops claim =
    let e : ◌≡◌ {A = ℕ} 1 0 = sym moves_on ∙ (claim (0 ∷ []) 1 refl refl (omega arith)).stands in
    omega arith

-- One that leaves out the first entry: from the beginning it gives the second.
abbrev after : ℕ → List ℕ → Turn → Turn
after n payload t = turn_at n payload t.at t.position

unfoldable pub leaving_out_first : StepProgram
leaving_out_first n payload at position =
    cond (eqb at 0) (after n payload (turn_at n payload at position)) (turn_at n payload at position)

-- of `00 07 00 09` it gives 9 at 1 and not 7 at 0
pub leaving_out_first_is : ShutOut leaving_out_first (0 ∷ 7 ∷ 0 ∷ 9 ∷ []) 0 start
unfolding leaving_out_first turn_at next_rows ordered first_of or_else decided roomy stands begins turn_of stream in_page
leaving_out_first_is h =
    let e : ◌≡◌ {A = ℕ} 4 2 = ap (λ (t : Turn). t.at) h.turn in
    omega arith

-- by the request's words: it gives one entry, and Apply uses two
gives_one : length (given_by leaving_out_first page_size (0 ∷ 7 ∷ 0 ∷ 9 ∷ []) 2) ≡ 1
unfolding leaving_out_first turn_at next_rows ordered first_of or_else decided roomy stands begins turn_of stream in_page standing_by given_by
gives_one = refl

pub leaving_out_first_joined : JoinedAsApplied leaving_out_first → ⊥
unfolding sound whole stream in_page entries listed
leaving_out_first_joined claim =
    let e : ◌≡◌ {A = ℕ} 1 2 = sym gives_one ∙ ap length (claim (0 ∷ 7 ∷ 0 ∷ 9 ∷ []) 2 refl (omega arith)) in
    omega arith

-- One that does not look at the payload's length: of 506 zero bytes, 253 whole entries, it gives the first.
unfoldable pub reading_overlong : StepProgram
reading_overlong n payload at position = turn_of at position (left n payload at position)

pub reading_overlong_is : ShutOut reading_overlong (replicate 506 0) 0 start
unfolding reading_overlong turn_of stream in_page
reading_overlong_is h =
    let e : record { found = Entry (pos 0) 0; at = 2; position = pos 0 } ≡ stays (Stopped 0) 0 start =
    h.turn ∙ turn_unfit page_size (replicate 506 0) 0 start (room_long (replicate 506 0) (lit< tt)) in
    let f : ◌≡◌ {A = ℕ} 2 0 = ap (λ (t : Turn). t.at) e in
    omega arith

-- by the request's words: an overlong payload gives no entry
pub reading_overlong_gives : StopsAtOnce reading_overlong → ⊥
unfolding reading_overlong turn_of stream in_page standing_by given_by
reading_overlong_gives claim =
    let e : ◌≡◌ {A = ℕ} 1 0 = ap length (claim (replicate 506 0) 1 (room_long (replicate 506 0) (lit< tt))).given in
    omega arith
