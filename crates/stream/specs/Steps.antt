-- What Compare and Apply owe over a base that is there.
use Rattle.std.specs.Prelude.{ℕ, ◌≡◌, Bool, true, false, cond, List, eqb, length, take, length as length_of, Result, Ok}
use Rattle.span.specs.Bytes.{splice}
use Rattle.writer.specs.Differences.{diffs, written}
use Rattle.payload.specs.Entries.{start, payload_stream, sound, breaks_at, entries as entries_of, last as last_of, applied}
use Rattle.stream.specs.Calls.{kind_for, comparison, compared_numbers, AppliedNumbers, applied_numbers, apply_done, apply_refused}
use Rattle.stream.specs.declared.Compared.{Compared}
use Rattle.layout.specs.declared.RefusedAt.{RefusedAt}
use Rattle.payload.specs.declared.Sound.{Sound}

-- Apply to a base that is there: it is laid over the page as far as both go, and the payload over that

abbrev pub application : Bool → ℕ → List ℕ → AppliedNumbers
application true n payload = apply_done (entries_of (payload_stream n payload)) (last_of start (payload_stream n payload))
application false n payload = apply_refused 7 (breaks_at n payload)

pub record Applies (n : ℕ) (base payload page : List ℕ) (answer : Result Sound RefusedAt) (after : List ℕ) : Type 0 where
  pub numbers : applied_numbers answer ≡ application (sound n payload) n payload
  pub bytes : after ≡ cond (sound n payload) (applied (splice page 0 (take (length page) base)) (payload_stream n payload)) page

-- Compare with a base that is there

pub record Compares (base page buffer : List ℕ) (answer : Compared) (after : List ℕ) : Type 0 where
  pub numbers : compared_numbers (Ok answer) ≡ comparison (diffs 0 base page)
  pub bytes : after ≡ cond (eqb (kind_for (length_of (written base page))) 1) (splice buffer 0 (written base page)) buffer
