-- The laws of Sweep: its outcome by what is wrong first, and a block's slot by what it is found to be.
use Prim.Native.Nat.{ℕ, ◌≤◌, ◌<◌}
use Rattle.std.proofs.Common.{arith, ◌∙◌, append-nil}
use Rattle.std.specs.Prelude.{◌≡◌, false, not, cond, List, eqb, length}
use Rattle.std.proofs.Math.Path.{refl, sym, ap}
use Rattle.std.proofs.Math.Bool.{true}
use borrow.Author.Tests.{le-leb, lt-leb, eqb-true, not-false}
use Rattle.layout.specs.Sizes.{full_kind}
use Rattle.layout.specs.Refusals.{first_of, or_else}
use Rattle.layout.specs.RefusalLaws.{first_append, or_none, or_skip, or_some, row_off, decided_number, decided_done, decided_refused}
use Rattle.layout.specs.Groups.{opening, in_order, ordered}
use Rattle.layout.specs.FirstFault.{BlockFault, first_fault, rows_from}
use Rattle.layout.specs.FirstFaultLaws.{none_below, same_tests, first_by_rows}
use Rattle.layout.specs.Lengths.{blocks_in, pages_in, length_rows}
use Rattle.slots.specs.Slots.{slot_numbers, sound_slot, unsound_slot}
use Rattle.store.specs.Block.{slot_of, slot_rows, full_rows}
use Rattle.store.specs.BlockLaws.{kind_at_is}
use Rattle.store.specs.Frame.{frame_rows}
use Rattle.store.specs.Open.{open_rows}
use Rattle.sweeping.specs.Sweep.{sweep_groups, slot_faults, sweep_rows, zeroed_but, refers, SweepOutcome, sweep_outcome, sweep_done, sweep_refused}
use Rattle.sweeping.specs.Parts.{slot_fault, marked}
use Rattle.sweeping.specs.ZeroedLaws.{zeroed_same}

-- One slot beside m pages, by what it is found to be

module _ (m : ℕ) (patch : List ℕ) (b : ℕ) where
  pub fault_unsound : slot_numbers (slot_of patch b) ≡ unsound_slot → 6 ≡ slot_fault m patch b
  unfolding slot_fault slot_rows first_of or_else
  fault_unsound e = rw e

  pub fault_none : slot_numbers (slot_of patch b) ≡ sound_slot 2 0 → m ≤ b → 8 ≡ slot_fault m patch b
  unfolding slot_fault slot_rows first_of or_else
  fault_none e h = rw (e, le-leb m b h)

  pub fault_full : slot_numbers (slot_of patch b) ≡ sound_slot 2 0 → b < m → 0 ≡ slot_fault m patch b
  unfolding slot_fault slot_rows first_of or_else
  fault_full e h = rw (e, lt-leb m b h)

  pub fault_other : (k n : ℕ) → slot_numbers (slot_of patch b) ≡ sound_slot k n → eqb k full_kind ≡ false → 0 ≡ slot_fault m patch b
  unfolding slot_fault slot_rows first_of or_else
  fault_other k n e h = rw (e, h)

  -- nothing is wrong with it: it is sound
  pub fault_sound : slot_fault m patch b ≡ 0 → (slot_numbers (slot_of patch b)).number ≡ 0
  unfolding slot_fault slot_rows first_of
  fault_sound e =
      let n : ℕ = (slot_numbers (slot_of patch b)).number in
      eqb-true n 0 (not-false (eqb n 0) (row_off 5 (not (eqb n 0)) (or_none (cond (not (eqb n 0)) 6 0) _ e).0))

-- where nothing is wrong with n slots, a place is kept by its slot's first byte, which is its kind
pub kept_marked : (m : ℕ) (patch : List ℕ) (n P k : ℕ) (full : List ℕ) → (first_fault (slot_fault m patch) 0 n).number ≡ 0 → k ≤ n
    → zeroed_but (marked patch) P k full ≡ zeroed_but (refers patch) P k full
kept_marked m patch n P k full e h =
    zeroed_same (marked patch) (refers patch) P k full
    (λ b l. ap (λ (x : ℕ). eqb x full_kind)
    (sym (kind_at_is patch b (fault_sound m patch b ((none_below (slot_fault m patch) n).0 e b (omega arith))))))

-- The whole call

module _ (P : ℕ) (patch full : List ℕ) where
  blocks : ℕ
  blocks = first_of (rows_from (slot_faults P patch full) 0 (blocks_in (length patch)))

  pub frame_rows_is : first_of (ordered (sweep_groups P patch full)) ≡ first_of (open_rows P true true patch full)
  unfolding ordered frame_rows length_rows first_of or_else
  frame_rows_is = ap first_of (append-nil (in_order opening (sweep_groups P patch full)))

  -- the frame's rows, and then the blocks'
  pub sweep_rows_is : first_of (sweep_rows P patch full)
      ≡ or_else (first_of (open_rows P true true patch full)) (first_of (rows_from (slot_faults P patch full) 0 (blocks_in (length patch))))
  unfolding sweep_rows
  sweep_rows_is =
      first_append (ordered (sweep_groups P patch full)) (rows_from (slot_faults P patch full) 0 (blocks_in (length patch)))
      ∙ ap (λ (k : ℕ). or_else k (first_of (rows_from (slot_faults P patch full) 0 (blocks_in (length patch))))) frame_rows_is

  -- which are what is wrong first with the slots
  slot_rows_is : (b : ℕ) → slot_fault (pages_in P (length full)) patch b ≡ first_of (slot_faults P patch full b)
  unfolding slot_fault ordered slot_rows full_rows
  slot_rows_is b = refl

  pub sweep_slots : (first_fault (slot_fault (pages_in P (length full)) patch) 0 (blocks_in (length patch))).number
      ≡ first_of (rows_from (slot_faults P patch full) 0 (blocks_in (length patch)))
  sweep_slots =
      let n : ℕ = blocks_in (length patch) in
      ap (λ (f : BlockFault). f.number)
      (same_tests (slot_fault (pages_in P (length full)) patch) (λ b. first_of (slot_faults P patch full b)) 0 n (λ b l h. slot_rows_is b))
      ∙ first_by_rows (slot_faults P patch full) 0 n

  pub sweep_number : (sweep_outcome P patch full).number ≡ first_of (sweep_rows P patch full)
  unfolding sweep_outcome
  sweep_number = decided_number (λ (o : SweepOutcome). o.number) _ _ (first_of (sweep_rows P patch full)) refl (λ k. refl)

  -- the outcome by its number
  pub sweep_done_is : (sweep_outcome P patch full).number ≡ 0 → sweep_outcome P patch full ≡ sweep_done P patch full
  unfolding sweep_outcome
  sweep_done_is e = decided_done _ _ (first_of (sweep_rows P patch full)) (sym sweep_number ∙ e)

  pub sweep_not : ((sweep_outcome P patch full).number ≡ 0 → ⊥)
      → sweep_outcome P patch full ≡ sweep_refused (sweep_outcome P patch full).number full
  unfolding sweep_outcome
  sweep_not h = decided_refused _ _ (first_of (sweep_rows P patch full)) _ (sym sweep_number) h

  -- and by what is wrong first: the frame's refusal is the call's
  pub sweep_frame : (k : ℕ) → first_of (open_rows P true true patch full) ≡ k → (k ≡ 0 → ⊥) → sweep_outcome P patch full ≡ sweep_refused k full
  unfolding sweep_outcome blocks
  sweep_frame k e h =
      decided_refused _ _ (first_of (sweep_rows P patch full)) k (sweep_rows_is ∙ ap (λ (n : ℕ). or_else n blocks) e ∙ or_some k blocks h) h

  module _ (e : first_of (open_rows P true true patch full) ≡ 0) where
    pub by_slots : first_of (sweep_rows P patch full)
        ≡ (first_fault (slot_fault (pages_in P (length full)) patch) 0 (blocks_in (length patch))).number
    unfolding blocks
    by_slots = sweep_rows_is ∙ or_skip (first_of (open_rows P true true patch full)) blocks e ∙ sym sweep_slots

    pub sweep_faulty : (k : ℕ) → (first_fault (slot_fault (pages_in P (length full)) patch) 0 (blocks_in (length patch))).number ≡ k → (k ≡ 0 → ⊥)
        → sweep_outcome P patch full ≡ sweep_refused k full
    unfolding sweep_outcome
    sweep_faulty k f h = decided_refused _ _ (first_of (sweep_rows P patch full)) k (by_slots ∙ f) h

    pub sweep_sound : (first_fault (slot_fault (pages_in P (length full)) patch) 0 (blocks_in (length patch))).number ≡ 0
        → sweep_outcome P patch full ≡ sweep_done P patch full
    unfolding sweep_outcome
    sweep_sound f = decided_done _ _ (first_of (sweep_rows P patch full)) (by_slots ∙ f)
