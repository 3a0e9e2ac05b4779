-- What `slotinfo` tells of one slot: its kind, its payload's length, its number of entries and its last position.
use Rattle.std.specs.Prelude.{ℕ, ◌≡◌, not, ◌&&◌, List, [], ◌∷◌, eqb, length as length_of, ℤ, pos, Result, Ok, Err}
use Rattle.span.specs.Bytes.{part}
use Rattle.layout.specs.Sizes.{slot_size, payload_at, patch_kind}
use Rattle.layout.specs.Numbers.{kind_number, refusal_number}
use Rattle.layout.specs.declared.Refusal.{Refusal}
use Rattle.layout.specs.Refusals.{Row, ◌⇐◌, first_of, decided}
use Rattle.layout.specs.Groups.{Grouped, ordered, ◌▸◌}
use Rattle.layout.specs.Groups as group
use Rattle.slots.specs.Slots.{slot_numbers}
use Rattle.payload.specs.Entries.{start, payload_stream, sound, entries as entries_of, last as last_of}
use Rattle.info.specs.declared.Info.{Info}

-- a slot's payload: as many bytes of its room as its numbers say, so none of EMPTY and FULL_REF
unfoldable pub payload_in : List ℕ → List ℕ
payload_in slot = part payload_at (slot_numbers slot).length slot

-- "other than 512 bytes gives `refused 2`, a sound slot with an unsound payload `refused 7`"
abbrev pub info_groups : ℕ → List ℕ → List Grouped
info_groups P bytes =
    (group.lengths ▸ (2 ⇐ not (eqb (length_of bytes) slot_size)) ∷ [])
    ∷ (group.slot ▸ (6 ⇐ not (eqb (slot_numbers bytes).number 0)) ∷ [])
    ∷ (group.payload ▸ (7 ⇐ eqb (slot_numbers bytes).kind patch_kind && not (sound P (payload_in bytes))) ∷ [])
    ∷ []

unfoldable pub info_rows : ℕ → List ℕ → List Row
info_rows P bytes = ordered (info_groups P bytes)

pub record InfoNumbers : Type 0 where
  pub number : ℕ
  pub kind : ℕ
  pub length : ℕ
  pub entries : ℕ
  pub last : ℤ

-- a slot with no payload has no entry, and so −1 as its last position
unfoldable pub slot_info : ℕ → List ℕ → InfoNumbers
slot_info P bytes =
    record {
      number = 0;
      kind = (slot_numbers bytes).kind;
      length = (slot_numbers bytes).length;
      entries = entries_of (payload_stream P (payload_in bytes));
      last = last_of start (payload_stream P (payload_in bytes));
    }

abbrev pub refused_info : ℕ → InfoNumbers
refused_info n = record { number = n; kind = 0; length = 0; entries = 0; last = pos 0 }

unfoldable pub info_numbers : ℕ → List ℕ → InfoNumbers
info_numbers P bytes = decided (first_of (info_rows P bytes)) (slot_info P bytes) (λ n. refused_info n)

-- the paper's numbers for each case of the answer
abbrev pub told_numbers : Result Info Refusal → InfoNumbers
told_numbers (Ok i) = record { number = 0; kind = kind_number i.kind; length = i.length; entries = i.entries; last = i.last }
told_numbers (Err r) = refused_info (refusal_number r)

pub record Inspect (P : ℕ) (bytes : List ℕ) (answer : Result Info Refusal) : Type 0 where
  pub numbers : told_numbers answer ≡ info_numbers P bytes
