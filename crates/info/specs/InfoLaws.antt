-- What `slotinfo` tells is one answer, refused just as the rows say; and what is told, by what the slot is.
use Rattle.std.specs.Prelude.{ℕ, ◌≡◌, refl, true, false, List, eqb, length as length_of, negsuc, Result, Ok, Err}
use Rattle.std.proofs.Common.{arith, sym, ap, ◌∙◌, eq-eqb, ne_eqb}
use Rattle.span.specs.Bytes.{part}
use Rattle.layout.specs.Sizes.{slot_size, payload_at}
use Rattle.layout.specs.NumberLaws.{kind_one, refusal_one, refusal_some}
use Rattle.layout.specs.Refusals.{first_of, or_else}
use Rattle.layout.specs.RefusalLaws.{decided_done, decided_refused, Exactly, exactly, decided_number, no_row, row}
use Rattle.layout.specs.Groups.{ordered}
use Rattle.layout.specs.GroupLaws.{once}
use Rattle.slots.specs.Slots.{slot_numbers, sound_slot, unsound_slot}
use Rattle.payload.specs.Entries.{stream, start, payload_stream, sound, entries as entries_of, last as last_of}
use Rattle.layout.specs.declared.Refusal.{Refusal}
use Rattle.info.specs.declared.Info.{Info}
use Rattle.info.specs.Info.{payload_in, info_groups, info_rows, InfoNumbers, slot_info, refused_info, info_numbers, told_numbers, Inspect}

-- No second answer meets it.

pub told_one : (a b : Result Info Refusal) → told_numbers a ≡ told_numbers b → a ≡ b
told_one (Ok a) (Ok b) q =
    let k : a.kind ≡ b.kind = kind_one a.kind b.kind (ap (λ (x : InfoNumbers). x.kind) q) in
    λ i. Ok (record { kind = k i; length = (q i).length; entries = (q i).entries; last = (q i).last })
told_one (Ok a) (Err r) q = absurd (refusal_some r (sym (ap (λ (x : InfoNumbers). x.number) q)))
told_one (Err r) (Ok b) q = absurd (refusal_some r (ap (λ (x : InfoNumbers). x.number) q))
told_one (Err r) (Err r') q = ap Err (refusal_one r r' (ap (λ (x : InfoNumbers). x.number) q))

pub inspect_only : (P : ℕ) (bytes : List ℕ) (a b : Result Info Refusal) → Inspect P bytes a → Inspect P bytes b → a ≡ b
inspect_only P bytes a b x y = told_one a b (x.numbers ∙ sym y.numbers)

-- "Each refusal is given when its condition holds and no earlier one does, and at no other time."
pub inspect_exactly : (P : ℕ) (bytes : List ℕ) (a : Result Info Refusal) → Inspect P bytes a → Exactly (info_rows P bytes) (told_numbers a).number
unfolding info_numbers info_rows ordered slot_info
inspect_exactly P bytes a x =
    exactly (info_rows P bytes) _
    (ap (λ (n : InfoNumbers). n.number) x.numbers
    ∙ decided_number (λ (n : InfoNumbers). n.number) _ _ (first_of (info_rows P bytes)) refl (λ k. refl))
    (row (row (row no_row)))

-- Laws: what is told, by what the slot is

module _ (P : ℕ) (bytes : List ℕ) where
  pub info_length : (length_of bytes ≡ slot_size → ⊥) → info_numbers P bytes ≡ refused_info 2
  unfolding info_numbers info_rows ordered first_of or_else
  info_length h = decided_refused _ _ (first_of (info_rows P bytes)) 2 (rw (ne_eqb (length_of bytes) slot_size h)) (λ q. omega arith)

  module _ (l : length_of bytes ≡ slot_size) where
    pub info_slot : slot_numbers bytes ≡ unsound_slot → info_numbers P bytes ≡ refused_info 6
    unfolding info_numbers info_rows ordered first_of or_else
    info_slot e = decided_refused _ _ (first_of (info_rows P bytes)) 6 (rw (eq-eqb (length_of bytes) slot_size l, e)) (λ q. omega arith)

    pub info_bare : (k : ℕ) → slot_numbers bytes ≡ sound_slot k 0 → eqb k 1 ≡ false
        → info_numbers P bytes ≡ record { number = 0; kind = k; length = 0; entries = 0; last = negsuc 0 }
    unfolding info_numbers info_rows ordered first_of or_else slot_info payload_in part stream entries_of last_of
    info_bare k e f = decided_done _ _ (first_of (info_rows P bytes)) (rw (eq-eqb (length_of bytes) slot_size l, e, f)) ∙ rw e

    module _ (n : ℕ) (e : slot_numbers bytes ≡ sound_slot 1 n) where
      pub info_broken : sound P (part payload_at n bytes) ≡ false → info_numbers P bytes ≡ refused_info 7
      unfolding info_numbers info_rows ordered first_of or_else payload_in
      info_broken h = decided_refused _ _ (first_of (info_rows P bytes)) 7 (rw (eq-eqb (length_of bytes) slot_size l, e, h)) (λ q. omega arith)

      pub info_patch : sound P (part payload_at n bytes) ≡ true
          → info_numbers P bytes
          ≡ record {
            number = 0;
            kind = 1;
            length = n;
            entries = entries_of (payload_stream P (part payload_at n bytes));
            last = last_of start (payload_stream P (part payload_at n bytes));
          }
      unfolding info_numbers info_rows ordered first_of or_else slot_info payload_in
      info_patch h = decided_done _ _ (first_of (info_rows P bytes)) (rw (eq-eqb (length_of bytes) slot_size l, e, h)) ∙ rw e

pub info_once : (P : ℕ) (bytes : List ℕ) → once (info_groups P bytes) ≡ true
info_once P bytes = refl
