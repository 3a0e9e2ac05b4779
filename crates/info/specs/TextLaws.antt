-- The paper's examples of what `slotinfo` prints, whole.
use Rattle.std.specs.Prelude.{ℕ, ◌-◌, ◌≡◌, refl, List, [], ◌∷◌, length}
use Rattle.std.proofs.Common.{ap}
use Rattle.span.specs.Ascii.{ascii}
use Rattle.span.specs.Bytes.{zeros, part, same}
use Rattle.layout.specs.Sizes.{page_size, slot_size}
use Rattle.layout.specs.Numbers.{number, le}
use Rattle.layout.specs.Refusals.{first_of, or_else, decided}
use Rattle.layout.specs.Groups.{ordered}
use Rattle.slots.specs.Slots.{empty_slot, patch_slot, full_slot, payload_length, payload_of, is_patch, slot_numbers}
use Rattle.payload.specs.Entries.{stream, in_page, whole, sound, entries, last}
use Rattle.info.specs.Info.{payload_in, info_rows, slot_info, info_numbers}
use Rattle.info.specs.InfoLaws.{info_length}
use Rattle.info.specs.Text.{decimal_in, number_line, kind_line, last_line, slot_text, text}

abbrev pub printed : List ℕ → List ℕ
printed bytes = text (info_numbers page_size bytes)

pub record Examples : Type 0 where
  -- P1's slot
  pub patch : printed (patch_slot (0 ∷ 7 ∷ [])) ≡ ascii "kind patch\nlength 2\nentries 1\nlast 0\n"
  pub empty : printed empty_slot ≡ ascii "kind empty\nlength 0\nentries 0\nlast -1\n"
  pub full : printed full_slot ≡ ascii "kind full\nlength 0\nentries 0\nlast -1\n"
  -- kind 3
  pub no_slot : printed (3 ∷ zeros (slot_size - 1)) ≡ ascii "refused 6\n"
  -- P9's payload
  pub no_payload : printed (patch_slot (0 ∷ [])) ≡ ascii "refused 7\n"
  pub no_length : (bytes : List ℕ) → (length bytes ≡ slot_size → ⊥) → printed bytes ≡ ascii "refused 2\n"

pub examples : Examples
unfolding zeros part same number le first_of or_else decided ordered empty_slot patch_slot full_slot payload_length payload_of is_patch slot_numbers
    stream in_page whole sound entries last payload_in info_rows slot_info info_numbers
    decimal_in number_line kind_line last_line slot_text text
examples =
    record {
      patch = refl;
      empty = refl;
      full = refl;
      no_slot = refl;
      no_payload = refl;
      no_length = λ bytes h. ap text (info_length page_size bytes h);
    }
