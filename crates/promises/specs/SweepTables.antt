-- The number that Sweep gives, from the rows of the definition to the words of the request and back.
use Prim.Native.Nat.{ℕ, zero, suc, ◌<◌}
use Rattle.std.proofs.Common.{arith, sym, ◌∙◌, leb-true, leb-false}
use Rattle.std.specs.Prelude.{◌≡◌, refl, Bool, true, false, not, ◌&&◌, ◌↔◌, List, [], ◌∷◌, eqb, leb}
use Rattle.std.proofs.Math.Path.{ap, subst}
use Rattle.layout.specs.Refusals.{◌⇐◌, first_of, or_else}
use Rattle.layout.specs.RefusalLaws.{or_some, or_skip}
use Rattle.layout.specs.FirstFault.{BlockFault, first_fault}
use Rattle.layout.specs.FirstFaultLaws.{FirstIn, none_below, first_in, lowest_iff}
use Rattle.layout.specs.Lengths.{length_rows}
use Rattle.slots.specs.Slots.{full_slot, SlotNumbers}
use Rattle.store.specs.Block.{slot_of, slot_rows}
use Rattle.store.specs.Frame.{frame_rows}
use Rattle.store.specs.Open.{open_rows}
use Rattle.sweeping.specs.Sweep.{sweep_rows, sweep_outcome}
use Rattle.sweeping.specs.Parts.{slot_fault}
use Rattle.sweeping.specs.SweepLaws.{sweep_rows_is, sweep_slots, sweep_number}
use Rattle.promises.specs.Words.{blocks, places, AreasFit, SoundSlot}
use Rattle.promises.specs.SlotLaws.{Sort, of_empty, of_patch, of_full, of_none, sort_of, empty_not_full, patch_not_full}
use Rattle.promises.specs.AreaLaws.{areas_number, areas_number_is, AreasAre, areas_refused, areas_right, areas_are, areas_gives, areas_zero, areas_some}
use Rattle.promises.specs.SweepWords.{SlotWrong, SlotRight, SweepGives}

-- a fault has a number
pub wrong_some : {P b k : ℕ} {patch full : List ℕ} → SlotWrong P patch full b k → k ≡ 0 → ⊥
wrong_some (SlotWrong.unsound u) q = omega arith
wrong_some (SlotWrong.missing e h) q = omega arith

module _ (P : ℕ) (patch full : List ℕ) where
  test : ℕ → ℕ
  test = slot_fault (places P full) patch

  fault : BlockFault
  fault = first_fault test 0 (blocks patch)

  -- One block

  data SlotIs (b : ℕ) : ℕ → Type 0 where
    slot_right : SlotRight P patch full b → SlotIs b 0
    slot_wrong : {k : ℕ} → SlotWrong P patch full b k → SlotIs b k

  slot_is : (b : ℕ) → SlotIs b (slot_fault (places P full) patch b)
  unfolding slot_fault slot_rows first_of or_else
  slot_is b = go (sort_of (slot_of patch b))
    where
      other : SoundSlot (slot_of patch b) → (slot_of patch b ≡ full_slot → ⊥) → SlotIs b 0
      other s n = slot_right (record { sound = s; there = λ q. absurd (n q) })

      go : {x : SlotNumbers} → Sort (slot_of patch b) x
          → SlotIs b (first_of ((6 ⇐ not (eqb x.number 0)) ∷ (8 ⇐ eqb x.kind 2 && leb (places P full) b) ∷ []))
      go (of_empty e) = other (SoundSlot.empty e) (empty_not_full (slot_of patch b) e)
      go (of_patch p e q) = other (SoundSlot.patch p e) (patch_not_full (slot_of patch b) p e)
      go (of_full e) = place (leb (places P full) b) refl
        where
          place : (t : Bool) → leb (places P full) b ≡ t → SlotIs b (first_of ((6 ⇐ false) ∷ (8 ⇐ t) ∷ []))
          place true q = slot_wrong (SlotWrong.missing e (leb-true (places P full) b q))
          place false q = slot_right (record { sound = SoundSlot.full e; there = λ z. leb-false (places P full) b q })
      go (of_none u) = slot_wrong (SlotWrong.unsound u)

  right_zero : (b : ℕ) → SlotRight P patch full b → slot_fault (places P full) patch b ≡ 0
  right_zero b r = go (slot_is b)
    where
      go : {k : ℕ} → SlotIs b k → k ≡ 0
      go (slot_right q) = refl
      go (slot_wrong (SlotWrong.unsound u)) = absurd (u r.sound)
      go (slot_wrong (SlotWrong.missing e h)) = absurd (omega (arith, h, r.there e))

  zero_right : (b : ℕ) → slot_fault (places P full) patch b ≡ 0 → SlotRight P patch full b
  zero_right b e = go (slot_fault (places P full) patch b) e (slot_is b)
    where
      go : (k : ℕ) → k ≡ 0 → SlotIs b k → SlotRight P patch full b
      go k q (slot_right r) = r
      go k q (slot_wrong (SlotWrong.unsound u)) = absurd (omega arith)
      go k q (slot_wrong (SlotWrong.missing e h)) = absurd (omega arith)

  wrong_number : (b : ℕ) {k : ℕ} → SlotWrong P patch full b k → slot_fault (places P full) patch b ≡ k
  wrong_number b (SlotWrong.unsound u) = go (slot_is b)
    where
      go : {k : ℕ} → SlotIs b k → k ≡ 6
      go (slot_right q) = absurd (u q.sound)
      go (slot_wrong (SlotWrong.unsound v)) = refl
      go (slot_wrong (SlotWrong.missing e h)) = absurd (u (SoundSlot.full e))
  wrong_number b (SlotWrong.missing e h) = go (slot_is b)
    where
      go : {k : ℕ} → SlotIs b k → k ≡ 8
      go (slot_right q) = absurd (omega (arith, h, q.there e))
      go (slot_wrong (SlotWrong.unsound v)) = absurd (v (SoundSlot.full e))
      go (slot_wrong (SlotWrong.missing f g)) = refl

  -- The call

  -- a call that is lent neither page nor buffer has none that does not fit
  pub frame_number_is : first_of (open_rows P true true patch full) ≡ areas_number P patch full
  unfolding frame_rows first_of or_else length_rows
  frame_number_is = areas_number_is P patch full

  sweep_by : first_of (sweep_rows P patch full) ≡ or_else (areas_number P patch full) fault.number
  unfolding fault test
  sweep_by =
      sweep_rows_is P patch full
      ∙ (λ i. or_else (frame_number_is i) (sym (sweep_slots P patch full) i))

  slots_given : AreasFit P patch full → (k : ℕ) → fault.number ≡ k → SweepGives P patch full k
  unfolding fault test
  slots_given h zero e = SweepGives.done h (λ b l. zero_right b ((none_below (slot_fault (places P full) patch) (blocks patch)).0 e b l))
  slots_given h (suc k) e =
      let w : FirstIn (slot_fault (places P full) patch) 0 (blocks patch) fault =
      first_in (slot_fault (places P full) patch) 0 (blocks patch) (λ q. omega (arith, e, q)) in
      go (slot_fault (places P full) patch fault.block) (w.fault ∙ e) (omega (arith, w.within))
      (λ i l. zero_right i (w.lower i (omega arith) l)) (slot_is fault.block)
    where
      go : (j : ℕ) → j ≡ suc k → fault.block < blocks patch → ((i : ℕ) → i < fault.block → SlotRight P patch full i)
          → SlotIs fault.block j → SweepGives P patch full (suc k)
      go j q l lower (slot_right r) = absurd (omega arith)
      go j q l lower (slot_wrong x) = subst (λ (i : ℕ). SweepGives P patch full i) q (SweepGives.lowest h fault.block l x lower)

  sweep_given : SweepGives P patch full (first_of (sweep_rows P patch full))
  sweep_given = rw sweep_by (go (areas_number P patch full) (areas_are P patch full))
    where
      go : (k : ℕ) → AreasAre P patch full k → SweepGives P patch full (or_else k fault.number)
      go k (areas_refused r) = rw (or_some k fault.number (areas_some P patch full r)) (SweepGives.frame r)
      go k (areas_right h) = rw (or_skip 0 fault.number refl) (slots_given h fault.number refl)

  gives_sweep : (k : ℕ) → SweepGives P patch full k → first_of (sweep_rows P patch full) ≡ k
  unfolding fault test
  gives_sweep k (SweepGives.frame r) = sweep_by ∙ rw (areas_gives P patch full r) (or_some k fault.number (areas_some P patch full r))
  gives_sweep k (SweepGives.lowest h b l x lower) =
      sweep_by ∙ or_skip (areas_number P patch full) fault.number (areas_zero P patch full h)
      ∙ ap (λ (f : BlockFault). f.number)
      ((lowest_iff (slot_fault (places P full) patch) (blocks patch) b k (wrong_some x)).1
      (record { below = l; fault = wrong_number b x; lower = λ i o. right_zero i (lower i o) }))
  gives_sweep k (SweepGives.done h right) =
      sweep_by ∙ or_skip (areas_number P patch full) fault.number (areas_zero P patch full h)
      ∙ (none_below (slot_fault (places P full) patch) (blocks patch)).1 (λ b l. right_zero b (right b l))

  pub sweep_table : (k : ℕ) → ((sweep_outcome P patch full).number ≡ k) ↔ SweepGives P patch full k
  sweep_table k = (
    λ e. subst (λ (j : ℕ). SweepGives P patch full j) (sym (sweep_number P patch full) ∙ e) sweep_given,
    λ g. sweep_number P patch full ∙ gives_sweep k g,
  )
