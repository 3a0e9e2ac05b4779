-- One step of the entry reader: what stands at a place of a payload, read from this position in a page of n bytes.
use Rattle.std.specs.Prelude.{ℕ, zero, suc, ◌+◌, ◌≡◌, Bool, true, false, not, ◌&&◌, List, [], ◌∷◌, ltb, leb, length, drop, ℤ, pos, negsuc}
use Rattle.layout.specs.Sizes.{room}
use Rattle.layout.specs.Refusals.{Row, ◌⇐◌, first_of, decided}
use Rattle.layout.specs.Groups.{Grouped, ordered, ◌▸◌}
use Rattle.layout.specs.Groups as group
use Rattle.payload.specs.Entries.{Stream, done, unsound, entry, code, stream}
use Rattle.entry_reader.specs.declared.Found.{Found}
use Rattle.entry_reader.specs.declared.Found.TheVariants.{Entry, End, Stopped}
use Rattle.entry_reader.specs.declared.Turn.{Turn}

-- 1 to 504 bytes
unfoldable pub roomy : List ℕ → Bool
roomy payload = leb 1 (length payload) && leb (length payload) room

-- a position "-1 to 8,191"
unfoldable pub stands : ℕ → ℤ → Bool
stands n (pos q) = ltb q n
stands n (negsuc zero) = true
stands n (negsuc (suc k)) = false

-- what is left of the payload at a place
abbrev pub left : ℕ → List ℕ → ℕ → ℤ → Stream
left n payload at position = stream n position code (drop at payload)

-- it ends here, or a sound entry begins here
unfoldable pub begins : Stream → Bool
begins done = true
begins unsound = false
begins (entry w q v rest) = true

-- "an empty or overlong payload is 7 whatever `at` is; an `at` at or past the payload's length is its end; a `position` outside -1 to
-- 8,191 is 7; then the entry itself"
abbrev pub next_groups : ℕ → List ℕ → ℕ → ℤ → List Grouped
next_groups n payload at position =
    (group.payload
    ▸ (7 ⇐ not (roomy payload))
    ∷ (7 ⇐ ltb at (length payload) && not (stands n position))
    ∷ (7 ⇐ not (begins (left n payload at position)))
    ∷ [])
    ∷ []

unfoldable pub next_rows : ℕ → List ℕ → ℕ → ℤ → List Row
next_rows n payload at position = ordered (next_groups n payload at position)

-- the reader stands where it stood
abbrev pub stays : Found → ℕ → ℤ → Turn
stays found at position = record { found = found; at = at; position = position }

-- by what is left: its first entry and the place after that, or the end
unfoldable pub turn_of : ℕ → ℤ → Stream → Turn
turn_of at position done = stays End at position
turn_of at position unsound = stays (Stopped at) at position
turn_of at position (entry w q v rest) = record { found = Entry q v; at = at + w; position = q }

unfoldable pub turn_at : ℕ → List ℕ → ℕ → ℤ → Turn
turn_at n payload at position =
    decided (first_of (next_rows n payload at position)) (turn_of at position (left n payload at position))
    (λ _. stays (Stopped at) at position)

-- the paper's numbers for each case of the answer
pub record TurnNumbers : Type 0 where
  pub number : ℕ
  pub found : ℕ
  pub at : ℕ
  pub position : ℤ
  pub value : ℕ

abbrev pub found_numbers : Found → ℕ → ℤ → TurnNumbers
found_numbers (Entry q v) at position = record { number = 0; found = 1; at = at; position = position; value = v }
found_numbers End at position = record { number = 0; found = 0; at = at; position = position; value = 0 }
found_numbers (Stopped offset) at position = record { number = 7; found = 0; at = at; position = position; value = 0 }

abbrev pub turn_numbers : Turn → TurnNumbers
turn_numbers t = found_numbers t.found t.at t.position

pub record Turned (n : ℕ) (payload : List ℕ) (at : ℕ) (position : ℤ) (answer : Turn) : Type 0 where
  pub turn : answer ≡ turn_at n payload at position
