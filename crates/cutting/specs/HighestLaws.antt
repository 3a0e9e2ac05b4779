-- The laws of Highest: one slot more, and the whole call by what is wrong first.
use Prim.Native.Nat.{ℕ, suc, ◌+◌}
use Rattle.std.proofs.Common.{arith, add-one, ◌∙◌, append-nil}
use Rattle.std.specs.Prelude.{◌≡◌, Bool, cond, List, [], length}
use Rattle.std.proofs.Math.Path.{sym, ap}
use Rattle.std.proofs.Math.Bool.{true}
use Rattle.span.specs.Laws.{same_true, same_false}
use Rattle.layout.specs.Refusals.{Row, first_of, or_else, decided}
use Rattle.layout.specs.RefusalLaws.{or_skip, or_some, decided_refused}
use Rattle.layout.specs.GroupLaws.{in_halves}
use Rattle.layout.specs.FirstFault.{rows_from}
use Rattle.layout.specs.Lengths.{blocks_in}
use Rattle.slots.specs.Slots.{SlotNumbers, empty_slot, slot_numbers, sound_slot, unsound_slot}
use Rattle.slots.specs.Meaning.{empty_numbers, slot_means}
use Rattle.store.specs.Block.{slot_of, slot_rows}
use Rattle.store.specs.Open.{open_rows}
use Rattle.store.specs.ShowLaws.{alone}
use Rattle.cutting.specs.Highest.{highest_rows, extent, non_empty, highest_numbers}
use Rattle.cutting.specs.Parts.{slot_extent, scan_numbers}

pub extent_more : (test : ℕ → Bool) (b : ℕ) → extent test (b + 1) ≡ cond (test b) (suc b) (extent test b)
unfolding extent
extent_more test b = ap (extent test) (add-one b)

-- One slot, by what it is found to be

module _ (patch : List ℕ) (b before : ℕ) where
  pub slot_unsound : slot_numbers (slot_of patch b) ≡ unsound_slot → record { number = 6; blocks = 0 } ≡ slot_extent patch b before
  unfolding slot_extent slot_rows first_of or_else decided
  slot_unsound e = rw e

  pub slot_empty : slot_numbers (slot_of patch b) ≡ sound_slot 0 0 → record { number = 0; blocks = before } ≡ slot_extent patch b before
  unfolding slot_extent slot_rows first_of or_else decided
  slot_empty e = rw (e, same_true (slot_of patch b) empty_slot ((slot_means (slot_of patch b)).empty.0 e))

  pub slot_used : (k l : ℕ) → slot_numbers (slot_of patch b) ≡ sound_slot (suc k) l
      → record { number = 0; blocks = suc b } ≡ slot_extent patch b before
  unfolding slot_extent slot_rows first_of or_else decided
  slot_used k l e =
      rw (
        e,
        same_false (slot_of patch b) empty_slot (λ q.
            let z : 0 ≡ suc k = ap (λ (x : SlotNumbers). x.kind) (sym (ap slot_numbers q ∙ empty_numbers) ∙ e) in
            omega arith),
      )

-- The whole call

module _ (P : ℕ) (patch : List ℕ) where
  slots : List Row
  slots = rows_from (λ b. slot_rows (slot_of patch b)) 0 (blocks_in (length patch))

  pub highest_rows_is : first_of (highest_rows P patch)
      ≡ or_else (first_of (open_rows P true true patch [])) (first_of (rows_from (λ b. slot_rows (slot_of patch b)) 0 (blocks_in (length patch))))
  unfolding highest_rows first_of slots
  highest_rows_is = in_halves _ ∙ (λ i. or_else (sym (alone P patch) i) (first_of (append-nil slots i)))

  pub highest_refused : (k : ℕ) → first_of (open_rows P true true patch []) ≡ k → (k ≡ 0 → ⊥)
      → record { number = k; blocks = 0 } ≡ highest_numbers P patch
  unfolding highest_numbers slots
  highest_refused k e h =
      sym
      (decided_refused _ _ (first_of (highest_rows P patch)) k
      (highest_rows_is ∙ ap (λ (n : ℕ). or_else n (first_of slots)) e ∙ or_some k (first_of slots) h) h)

  pub highest_scanned : first_of (open_rows P true true patch []) ≡ 0 → scan_numbers patch (blocks_in (length patch)) ≡ highest_numbers P patch
  unfolding highest_numbers scan_numbers slots
  highest_scanned e =
      ap (λ (k : ℕ). decided k (record { number = 0; blocks = extent (non_empty patch) (blocks_in (length patch)) })
      (λ (k : ℕ). record { number = k; blocks = 0 }))
      (sym (highest_rows_is ∙ or_skip (first_of (open_rows P true true patch [])) (first_of slots) e))
