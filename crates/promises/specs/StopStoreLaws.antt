-- Both areas, with stopped writes and sweeps, keep the laws of `Stops`.
use Rattle.std.specs.Prelude.{ℕ, zero, suc, ◌<◌, ◌≡◌, refl, Bool, true, false, cond, List, [], ◌∷◌, eqb, ltb, length, take}
use Rattle.std.proofs.Common.{arith, sym, ap, ◌∙◌, subst, true≢false, eq-eqb, ne_eqb, ltb-true, ltb-false, eqb-true}
use Rattle.std.proofs.lemmas.Bool.{eqb-false}
use Rattle.span.specs.Bytes.{zeros}
use Rattle.span.specs.Laws.{same_true, same_false, same_is}
use Rattle.layout.specs.Sizes.{patch_head}
use Rattle.span.specs.EmptiedLaws.{emptied_length}
use Rattle.slots.specs.Slots.{empty_slot, full_slot}
use Rattle.store.specs.Block.{slot_of, place_of}
use Rattle.carrying.specs.Puts.{Put, slot, place, order}
use Rattle.carrying.specs.CarryOut.{CarryOutcome}
use Rattle.carrying.specs.CarryLaws.{carry_not}
use Rattle.carrying.specs.Told.{first_page, first_slot, both_told}
use Rattle.promises.specs.Words.{blocks, places, SoundSlot}
use Rattle.promises.specs.SlotLaws.{image_empty, image_patch, image_full, empty_not_full, patch_not_full}
use Rattle.promises.specs.StoreLaws.{image_of, slot_after, place_after, StoredAt, slot_anew, place_anew, told_number, told_stored}
use Rattle.promises.specs.Decisions.{Cell, cell_for, Fit}
use Rattle.promises.specs.SweepWords.{SlotRight, SweepGives}
use Rattle.promises.specs.SweepTables.{sweep_table}
use Rattle.promises.specs.SweptLaws.{sweeps, sweep_kept}
use Rattle.promises.specs.Runs.{Left}
use Rattle.promises.specs.Stops.{StopLaws}
use Rattle.promises.specs.RunWords.{Decision, Areas, Lent, outcome, taken}
use Rattle.promises.specs.RunStore.{cell_at, frame_of, store}
use Rattle.promises.specs.RunStoreLaws.{frame_is, taken_frame, accepted_write, good_frame}
use Rattle.promises.specs.RunReads.{Held}
use Rattle.promises.specs.RunReadLaws.{left_held}
use Rattle.promises.specs.StopWords.{stopped, sweeping, swept}
use Rattle.promises.specs.StopStore.{is_full, half_cell, tidy_cell, takes_hold, stopping}

-- Slots

-- the slot of a decision that can be carried out refers to its place just for FULL_REF
pub image_is_full : (P : ℕ) (d : Decision) → Fit P d → is_full (image_of d) ≡ eqb d.kind 2
image_is_full P d (Fit.empty e) =
    same_false (image_of d) full_slot (empty_not_full (image_of d) (rw e (image_empty d.payload))) ∙ sym (ne_eqb d.kind 2 (λ q. omega arith))
image_is_full P d (Fit.patch e low high u) =
    same_false (image_of d) full_slot
    (patch_not_full (image_of d) d.payload (record { image = rw e (image_patch d.payload); some = low; room_for = high }))
    ∙ sym (ne_eqb d.kind 2 (λ q. omega arith))
image_is_full P d (Fit.full e l) =
    same_true (image_of d) full_slot (rw e (image_full d.payload)) ∙ sym (eq-eqb d.kind 2 e)

-- Cells

pub tidy_decided : (P : ℕ) (d : Decision) → Fit P d → tidy_cell P (cell_for P d) ≡ cell_for P d
tidy_decided P d f = λ i. record { slot = image_of d; place = go (eqb d.kind 2) (image_is_full P d f) i }
  where
    go : (t : Bool) → is_full (image_of d) ≡ t → cond (is_full (image_of d)) (cond t d.page (zeros P)) (zeros P) ≡ cond t d.page (zeros P)
    go true e = rw e
    go false e = rw e

-- told 0, nothing; told any number but 0 and 1, the whole write
half_none : (P : ℕ) (d : Decision) (c : Cell) → half_cell P 0 d c ≡ c
unfolding slot_after place_after
half_none P d c = refl

half_all : (P k : ℕ) (d : Decision) (c : Cell) → 1 < k → half_cell P k d c ≡ cell_for P d
half_all P k d c h =
    ap (λ (xs : List Put). record { slot = slot_after d xs c.slot; place = place_after P d xs c.place }) (both_told d.kind k h)
    ∙ (λ i. record { slot = slot_anew d c.slot i; place = place_anew P d c.place i })

-- told 1, the page for FULL_REF and the slot for the other kinds
half_page : (P : ℕ) (d : Decision) (c : Cell) → d.kind ≡ 2 → half_cell P 1 d c ≡ record { slot = c.slot; place = d.page }
unfolding slot_after place_after
half_page P d c e = rw (first_page d.kind e, eq-eqb d.kind 2 e)

half_slot : (P : ℕ) (d : Decision) (c : Cell) → (d.kind ≡ 2 → ⊥) → half_cell P 1 d c ≡ record { slot = image_of d; place = c.place }
unfolding slot_after place_after
half_slot P d c h = rw (first_slot d.kind h)

pub hold_all : (k : ℕ) (d : Decision) (old : List ℕ) → 1 < k → takes_hold k d old ≡ true
hold_all k d old h = rw (ne_eqb k 0 (λ q. omega arith), ne_eqb k 1 (λ q. omega arith))

module _ (P : ℕ) (d : Decision) (fit : Fit P d) (c : Cell) where
  -- a stopped write, tidied
  tidy_first : (t : Bool) → eqb d.kind 2 ≡ t → tidy_cell P (half_cell P 1 d c) ≡ cond (takes_hold 1 d c.slot) (cell_for P d) (tidy_cell P c)
  tidy_first true e =
      let k : d.kind ≡ 2 = eqb-true d.kind 2 e in
      ap (tidy_cell P) (half_page P d c k) ∙ rw e (go (is_full c.slot) refl)
    where
      go : (u : Bool) → is_full c.slot ≡ u
          → record { slot = c.slot; place = cond (is_full c.slot) d.page (zeros P) }
          ≡ cond {A = Cell} u (record { slot = image_of d; place = d.page }) (tidy_cell P c)
      go true q =
          let s : c.slot ≡ image_of d = same_is c.slot full_slot q ∙ sym (rw (eqb-true d.kind 2 e) (image_full d.payload)) in
          let p : cond (is_full c.slot) d.page (zeros P) ≡ d.page = rw q in
          λ i. record { slot = s i; place = p i }
      go false q = rw q
  tidy_first false e =
      let f : is_full (image_of d) ≡ false = image_is_full P d fit ∙ e in
      ap (tidy_cell P) (half_slot P d c (eqb-false d.kind 2 e)) ∙ rw (e, f)

  pub tidy_half : (k : ℕ) → tidy_cell P (half_cell P k d c) ≡ cond (takes_hold k d c.slot) (cell_for P d) (tidy_cell P c)
  tidy_half zero = ap (tidy_cell P) (half_none P d c)
  tidy_half (suc zero) = tidy_first (eqb d.kind 2) refl
  tidy_half (suc (suc k)) =
      ap (tidy_cell P) (half_all P (suc (suc k)) d c (omega arith)) ∙ tidy_decided P d fit
      ∙ rw (hold_all (suc (suc k)) d c.slot (omega arith))

-- A stopped write

-- a place that is not there is not stored to
no_place_stored : (P : ℕ) (d : Decision) (xs : List Put) → (d.kind ≡ 2 → ⊥) → place_after P d xs (zeros P) ≡ zeros P
unfolding place_after
no_place_stored P d [] h = refl
no_place_stored P d (slot ∷ xs) h = no_place_stored P d xs h
no_place_stored P d (place ∷ xs) h = rw (ne_eqb d.kind 2 h) (no_place_stored P d xs h)

module _ (P : ℕ) (s : Areas) (k : ℕ) (w : Lent) where
  pub stop_refused : taken P s w ≡ false → stopped P s k w ≡ s
  stop_refused e =
      ap (λ (o : CarryOutcome). record { patch = o.patch; full = o.full })
      (carry_not P [] s.patch s.full w.block w.decision k
      (λ z. eqb-false (outcome P s w).number 0 e (sym (told_number P s.patch s.full w.block w.decision k) ∙ z)))

  module _ (e : taken P s w ≡ true) where
    pub stop_stored : StoredAt P w.block w.decision (take k (order w.decision.kind)) s (stopped P s k w)
    stop_stored = told_stored P s.patch s.full w.block w.decision (eqb-true (outcome P s w).number 0 e) k

    stop_here : cell_at P (stopped P s k w) w.block ≡ half_cell P k w.decision (cell_at P s w.block)
    stop_here = λ i. record { slot = stop_stored.slot_is i; place = here (ltb w.block (places P s.full)) refl i }
      where
        here : (t : Bool) → ltb w.block (places P s.full) ≡ t
            → cond (ltb w.block (places P (stopped P s k w).full)) (place_of P (stopped P s k w).full w.block) (zeros P)
            ≡ place_after P w.decision (take k (order w.decision.kind))
            (cond (ltb w.block (places P s.full)) (place_of P s.full w.block) (zeros P))
        here true q = rw (stop_stored.frame.full_length, q) (stop_stored.place_is (ltb-true w.block (places P s.full) q))
        here false q =
            rw (stop_stored.frame.full_length, q)
            (sym (no_place_stored P w.decision (take k (order w.decision.kind))
            (λ z. let m : w.block < places P s.full = (accepted_write P s w e).room_for z in
            omega (arith, m, ltb-false w.block (places P s.full) q))))

    stop_other : (b : ℕ) → (b ≡ w.block → ⊥) → cell_at P (stopped P s k w) b ≡ cell_at P s b
    stop_other b n = rw (stop_stored.other_slots b n, stop_stored.frame.full_length, stop_stored.other_places b n)

  pub stop_frame : frame_of (stopped P s k w) ≡ frame_of s
  stop_frame = go (taken P s w) refl
    where
      go : (t : Bool) → taken P s w ≡ t → frame_of (stopped P s k w) ≡ frame_of s
      go true e = frame_is s (stopped P s k w) (stop_stored e).frame
      go false e = ap frame_of (stop_refused e)

  pub stop_length : length (stopped P s k w).patch ≡ length s.patch
  stop_length = go (taken P s w) refl
    where
      go : (t : Bool) → taken P s w ≡ t → length (stopped P s k w).patch ≡ length s.patch
      go true e = (stop_stored e).frame.patch_length
      go false e = ap (λ (t : Areas). length t.patch) (stop_refused e)

-- A sweep

module _ (P : ℕ) (s : Areas) where
  sweep_frame : frame_of (swept P s) ≡ frame_of s
  sweep_frame = go (sweeping P s).number refl
    where
      go : (k : ℕ) → (sweeping P s).number ≡ k → frame_of (swept P s) ≡ frame_of s
      go zero e =
          let w = sweeps P s.patch s.full e in
          frame_is s (swept P s)
          (record { patch_length = refl; full_length = w.same_length; patch_header_is = refl; full_header_is = w.same_header })
      go (suc k) e =
          ap (λ (f : List ℕ). frame_of (record { patch = s.patch; full = f }))
          (sweep_kept P s.patch s.full (λ z. omega (arith, e, z)))

  -- a slot of a cell that a run leaves is sound, and its place is there if it refers to it
  held_right : (b : ℕ) (c : Cell) → Held P s.full b c → c.slot ≡ slot_of s.patch b → SlotRight P s.patch s.full b
  held_right b c h e = record { sound = go h.fit; there = λ q. h.room_for (kind q) }
    where
      slot_is : slot_of s.patch b ≡ image_of h.decision
      slot_is = sym e ∙ ap (λ (x : Cell). x.slot) h.is

      kind : slot_of s.patch b ≡ full_slot → h.decision.kind ≡ 2
      kind q =
          eqb-true h.decision.kind 2
          (sym (image_is_full P h.decision h.fit) ∙ same_true (image_of h.decision) full_slot (sym slot_is ∙ q))

      go : Fit P h.decision → SoundSlot (slot_of s.patch b)
      go (Fit.empty z) = SoundSlot.empty (slot_is ∙ rw z (image_empty h.decision.payload))
      go (Fit.patch z low high u) =
          SoundSlot.patch h.decision.payload
          (record { image = slot_is ∙ rw z (image_patch h.decision.payload); some = low; room_for = high })
      go (Fit.full z l) = SoundSlot.full (slot_is ∙ rw z (image_full h.decision.payload))

  module _ (good : (store P).Good (frame_of s))
      (lefts : (b : ℕ) → b < blocks (frame_of s).patch → Left (store P) (frame_of s) b (tidy_cell P (cell_at P s b))) where
    pub sweep_taken : (sweeping P s).number ≡ 0
    sweep_taken =
        let f = (good_frame P s).1 good in
        (sweep_table P s.patch s.full 0).1
        (SweepGives.done (record { lengths = f.0; headers = f.1 })
        (λ b l.
        held_right b (tidy_cell P (cell_at P s b))
        (left_held P s b (tidy_cell P (cell_at P s b)) (lefts b (rw (emptied_length patch_head s.patch) l))) refl))

    sweep_cell : (b : ℕ) → cell_at P (swept P s) b ≡ tidy_cell P (cell_at P s b)
    sweep_cell b = λ i. record { slot = slot_of s.patch b; place = there (ltb b (places P s.full)) refl i }
      where
        none : (t : Bool) → zeros P ≡ cond t (zeros P) (zeros P)
        none true = refl
        none false = refl

        full : b < places P s.full → (t : Bool) → is_full (slot_of s.patch b) ≡ t
            → place_of P (swept P s).full b ≡ cond t (place_of P s.full b) (zeros P)
        full l true q = (sweeps P s.patch s.full sweep_taken).kept b l (same_is (slot_of s.patch b) full_slot q)
        full l false q =
            (sweeps P s.patch s.full sweep_taken).zeroed b l
            (λ z. true≢false (sym (same_true (slot_of s.patch b) full_slot z) ∙ q))

        there : (t : Bool) → ltb b (places P s.full) ≡ t
            → cond (ltb b (places P (swept P s).full)) (place_of P (swept P s).full b) (zeros P)
            ≡ cond (is_full (slot_of s.patch b)) (cond (ltb b (places P s.full)) (place_of P s.full b) (zeros P)) (zeros P)
        there true q =
            rw ((sweeps P s.patch s.full sweep_taken).same_length, q)
            (full (ltb-true b (places P s.full) q) (is_full (slot_of s.patch b)) refl)
        there false q = rw ((sweeps P s.patch s.full sweep_taken).same_length, q) (none (is_full (slot_of s.patch b)))

pub stop_laws : (P : ℕ) → StopLaws (store P) (stopping P)
stop_laws P =
    record {
      stopped_frame = λ s k w. stop_frame P s k w;
      stopped_refused = λ s k w e. stop_refused P s k w (sym (taken_frame P s w) ∙ e);
      stopped_here =
          λ s k w b e h q.
          subst (λ (c : ℕ). cell_at P (stopped P s k w) c ≡ half_cell P k w.decision (cell_at P s c)) q
          (stop_here P s k w (sym (taken_frame P s w) ∙ e));
      stopped_elsewhere = λ s k w b e h n. stop_other P s k w (sym (taken_frame P s w) ∙ e) b (λ q. n (sym q));
      tidy_blank = λ i. record { slot = empty_slot; place = blank (is_full empty_slot) i };
      tidy_cell_is = λ f w e. tidy_decided P w.decision (accepted_write P f w e).fit;
      tidy_half = λ f k w c e. tidy_half P w.decision (accepted_write P f w e).fit c k;
      swept_frame = sweep_frame P;
      swept_at = λ s good lefts b h. sweep_cell P s good lefts b;
    }
  where
    blank : (t : Bool) → cond t (zeros P) (zeros P) ≡ zeros P
    blank true = refl
    blank false = refl
