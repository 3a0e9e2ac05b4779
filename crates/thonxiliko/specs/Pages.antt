-- What the exported calls on pages and payloads owe: the numbers and the lent bytes afterwards are those of the call's definition.
use Rattle.std.specs.Prelude.{ℕ, ◌≡◌, List, ℤ}
use Rattle.stream.specs.Calls.{ComparedNumbers, compare_numbers, compare_buffer, AppliedNumbers, apply_numbers, apply_page}
use Rattle.entry_reader.specs.Turns.{TurnNumbers, turn_numbers, turn_at}
use Rattle.thonxiliko.specs.declared.thx_compared.{thx_compared}
use Rattle.thonxiliko.specs.declared.thx_applied.{thx_applied}
use Rattle.thonxiliko.specs.declared.thx_entry.{thx_entry}

-- Compare

abbrev pub compared_members : thx_compared → ComparedNumbers
compared_members r = record { number = r.number; kind = r.kind; length = r.length; entries = r.entries; last = r.last }

pub record ThxCompare (P : ℕ) (base page buffer : List ℕ) (r : thx_compared) (after : List ℕ) : Type 0 where
  pub numbers : compared_members r ≡ compare_numbers P base page buffer
  pub bytes : after ≡ compare_buffer P base page buffer

-- Apply

abbrev pub applied_members : thx_applied → AppliedNumbers
applied_members r = record { number = r.number; entries = r.entries; last = r.last; offset = r.offset }

pub record ThxApply (P : ℕ) (base payload page : List ℕ) (r : thx_applied) (after : List ℕ) : Type 0 where
  pub numbers : applied_members r ≡ apply_numbers P base payload page
  pub bytes : after ≡ apply_page P base payload page

-- A step of the entry reader

abbrev pub entry_members : thx_entry → TurnNumbers
entry_members r = record { number = r.number; found = r.found; at = r.at; position = r.position; value = r.value }

pub record ThxNext (P : ℕ) (payload : List ℕ) (at : ℕ) (position : ℤ) (r : thx_entry) : Type 0 where
  pub numbers : entry_members r ≡ turn_numbers (turn_at P payload at position)
