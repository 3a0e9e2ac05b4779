-- The laws of Judge.
use Rattle.std.specs.Prelude.{ℕ, ◌≡◌, List, length}
use Rattle.std.proofs.Common.{arith, ap, ◌∙◌, eq-eqb, ne_eqb}
use Rattle.layout.specs.Sizes.{slot_size}
use Rattle.layout.specs.Refusals.{first_of, or_else}
use Rattle.layout.specs.RefusalLaws.{decided_done, decided_refused}
use Rattle.layout.specs.Groups.{ordered}
use Rattle.slots.specs.Slots.{SlotNumbers, slot_numbers, sound_slot, unsound_slot}
use Rattle.store.specs.Judge.{judge_rows, judge_numbers}

pub judge_length : (slot : List ℕ) → (length slot ≡ slot_size → ⊥) → judge_numbers slot ≡ record { number = 2; kind = 0; length = 0 }
unfolding judge_numbers judge_rows ordered first_of or_else
judge_length slot h = decided_refused _ _ (first_of (judge_rows slot)) 2 (rw (ne_eqb (length slot) slot_size h)) (λ q. omega arith)

pub judge_slot : (slot : List ℕ) → length slot ≡ slot_size → slot_numbers slot ≡ unsound_slot
    → judge_numbers slot ≡ record { number = 6; kind = 0; length = 0 }
unfolding judge_numbers judge_rows ordered first_of or_else
judge_slot slot h e = decided_refused _ _ (first_of (judge_rows slot)) 6 (rw (eq-eqb (length slot) slot_size h, e)) (λ q. omega arith)

pub judge_done : (slot : List ℕ) (k n : ℕ) → length slot ≡ slot_size → slot_numbers slot ≡ sound_slot k n
    → judge_numbers slot ≡ record { number = 0; kind = k; length = n }
unfolding judge_numbers judge_rows ordered first_of or_else
judge_done slot k n h e =
    decided_done _ _ (first_of (judge_rows slot)) (rw (eq-eqb (length slot) slot_size h, e))
    ∙ ap (λ (x : SlotNumbers). record { number = 0; kind = x.kind; length = x.length }) e
