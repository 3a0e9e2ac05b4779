-- What a stop leaves: how blocks read after it, over any areas that the call accepts, and what is told by how many stores were made.
use Prim.Native.Nat.{ℕ, zero, suc, ◌≤◌, ◌<◌}
use Rattle.std.proofs.Common.{arith, ◌∙◌, true≢false, eq-eqb, ne_eqb, eqb-true}
use Rattle.std.specs.Prelude.{◌≡◌, Bool, cond, ◌↔◌, eqb, take}
use Rattle.std.proofs.Math.Path.{refl, sym, ap}
use Rattle.std.proofs.Math.Bool.{true, false}
use mathlib.Core.List.{List, []}
use Rattle.std.proofs.lemmas.Bool.{eqb-false}
use Rattle.span.specs.Laws.{same_true, same_is}
use Rattle.slots.specs.Slots.{full_slot}
use Rattle.store.specs.Block.{slot_of, place_of}
use Rattle.carrying.specs.Puts.{put_slot, put_place, put, puts, order, carried, all}
use Rattle.carrying.specs.CarryOut.{CarryOutcome}
use Rattle.carrying.specs.CarryLaws.{carried_is, carry_done_is}
use Rattle.carrying.specs.PutLaws.{nothing_stored}
use Rattle.carrying.specs.Told.{first_page, first_slot, all_told}
use Rattle.promises.specs.Words.{places, SameFrame}
use Rattle.promises.specs.FrameLaws.{frame_same}
use Rattle.promises.specs.Tables.{read_same}
use Rattle.promises.specs.SlotLaws.{image_full}
use Rattle.promises.specs.StoreLaws.{image_of, content_of, slot_after, place_after, StoredAt, same_frame, both, slot_anew, place_anew, told_number}
use Rattle.promises.specs.CarryTables.{Accepted}
use Rattle.promises.specs.RunWords.{Decision, Areas, read_at, Lent, outcome, taken, next}
use Rattle.promises.specs.RunStoreLaws.{accepted_write}
use Rattle.promises.specs.StopWords.{stopped, Holds, TakesHold, slot_stored, page_stored, all_stored}
use Rattle.promises.specs.StopStore.{is_full, takes_hold}
use Rattle.promises.specs.StopStoreLaws.{image_is_full, hold_all, stop_refused, stop_stored}

-- Whether it took hold, as a test and in words

pub holds_iff : (k : ℕ) (d : Decision) (old : List ℕ) → (takes_hold k d old ≡ true) ↔ TakesHold d old k
holds_iff k d old = (there k, back)
  where
    first : (t : Bool) → eqb d.kind 2 ≡ t → cond t (is_full old) true ≡ true → TakesHold d old 1
    first true e h = page_stored (eqb-true d.kind 2 e) (same_is old full_slot h)
    first false e h = slot_stored (eqb-false d.kind 2 e)

    there : (k : ℕ) → takes_hold k d old ≡ true → TakesHold d old k
    there zero h = absurd (true≢false (sym h))
    there (suc zero) h = first (eqb d.kind 2) refl h
    there (suc (suc k)) h = all_stored {k = suc (suc k)} (omega arith)

    back : {k : ℕ} → TakesHold d old k → takes_hold k d old ≡ true
    back (slot_stored n) = rw (ne_eqb d.kind 2 n)
    back (page_stored e q) = rw (eq-eqb d.kind 2 e) (same_true old full_slot q)
    back (all_stored h) = hold_all _ d old h

-- a write that did not take hold, as a test
pub not_held : (s : Areas) (k : ℕ) (w : Lent) → (Holds s k w → ⊥) → takes_hold k w.decision (slot_of s.patch w.block) ≡ false
not_held s k w n = go (takes_hold k w.decision (slot_of s.patch w.block)) refl
  where
    go : (t : Bool) → takes_hold k w.decision (slot_of s.patch w.block) ≡ t
        → takes_hold k w.decision (slot_of s.patch w.block) ≡ false
    go true e = absurd (n ((holds_iff k w.decision (slot_of s.patch w.block)).0 e))
    go false e = e

-- The areas, told 0 and told all

module _ (P : ℕ) (s : Areas) (w : Lent) where
  pub told_nothing : stopped P s 0 w ≡ s
  unfolding carried puts
  told_nothing = go (outcome P s w).number refl
    where
      go : (k : ℕ) → (outcome P s w).number ≡ k → stopped P s 0 w ≡ s
      go zero e = ap (λ (o : CarryOutcome). record { patch = o.patch; full = o.full })
          (carry_done_is P [] s.patch s.full w.block w.decision 0 (told_number P s.patch s.full w.block w.decision 0 ∙ e))
      go (suc k) e = stop_refused P s 0 w (ne_eqb (outcome P s w).number 0 (λ z. omega (arith, e, z)))

  pub told_whole : (k : ℕ) → 1 < k → stopped P s k w ≡ next P s w
  told_whole k h =
      ap (λ (o : CarryOutcome). record { patch = o.patch; full = o.full }) (all_told P s.patch s.full w.block w.decision k h [])

-- How blocks read

-- two areas of one frame, by a block's slot and the place that it refers to
same_read : (P : ℕ) (s t u : Areas) (b : ℕ) (base page : List ℕ) → SameFrame s.patch s.full t.patch t.full
    → SameFrame s.patch s.full u.patch u.full → slot_of t.patch b ≡ slot_of u.patch b
    → (slot_of u.patch b ≡ full_slot → place_of P t.full b ≡ place_of P u.full b) → read_at P t b base page ≡ read_at P u b base page
same_read P s t u b base page f g e h =
    read_same P u.patch u.full t.patch t.full b base page
    (frame_same P s.patch s.full t.patch t.full f base page ∙ sym (frame_same P s.patch s.full u.patch u.full g base page))
    (f.patch_length ∙ sym g.patch_length) (f.full_length ∙ sym g.full_length) e h

module _ (P : ℕ) (s : Areas) (w : Lent) (e : taken P s w ≡ true) (base page : List ℕ) where
  a : Accepted P s.patch s.full w.block w.decision
  a = accepted_write P s w e

  -- the slots and places that are there after the first store, and after both
  one : StoredAt P w.block w.decision (take 1 (order w.decision.kind)) s (stopped P s 1 w)
  one = stop_stored P s 1 w e

  two : StoredAt P w.block w.decision (both w.decision) s (next P s w)
  two = stop_stored P s all w e

  new_slot : slot_of (next P s w).patch w.block ≡ image_of w.decision
  new_slot = two.slot_is ∙ slot_anew w.decision (slot_of s.patch w.block)

  -- the page was stored: the block reads by its old slot, and so by the new page if that was FULL_REF
  page_first : w.decision.kind ≡ 2 → (u : Bool) → is_full (slot_of s.patch w.block) ≡ u
      → read_at P (stopped P s 1 w) w.block base page ≡ cond u (read_at P (next P s w) w.block base page) (read_at P s w.block base page)
  unfolding slot_after place_after
  page_first k true q =
      let m : w.block < places P s.full = a.room_for k in
      let old : slot_of (stopped P s 1 w).patch w.block ≡ slot_of s.patch w.block = one.slot_is ∙ rw (first_page w.decision.kind k) in
      let image : full_slot ≡ image_of w.decision = sym (rw k (image_full w.decision.payload)) in
      let content : place_of P (stopped P s 1 w).full w.block ≡ content_of P w.decision =
      one.place_is m ∙ rw (first_page w.decision.kind k) in
      same_read P s (stopped P s 1 w) (next P s w) w.block base page one.frame two.frame
      (old ∙ same_is (slot_of s.patch w.block) full_slot q ∙ image ∙ sym new_slot)
      (λ z. content ∙ sym (two.place_is m ∙ place_anew P w.decision (place_of P s.full w.block)))
  page_first k false q =
      same_read P s (stopped P s 1 w) s w.block base page one.frame (same_frame s.patch s.full)
      (one.slot_is ∙ rw (first_page w.decision.kind k))
      (λ z. absurd (true≢false (sym (same_true (slot_of s.patch w.block) full_slot z) ∙ q)))

  -- the slot was stored: the block reads by it, and not by its place
  slot_before_page : (w.decision.kind ≡ 2 → ⊥) → read_at P (stopped P s 1 w) w.block base page ≡ read_at P (next P s w) w.block base page
  unfolding slot_after
  slot_before_page n =
      same_read P s (stopped P s 1 w) (next P s w) w.block base page one.frame two.frame
      (one.slot_is ∙ rw (first_slot w.decision.kind n) (sym new_slot))
      (λ z. absurd (n (eqb-true w.decision.kind 2
      (sym (image_is_full P w.decision a.fit) ∙ same_true (image_of w.decision) full_slot (sym new_slot ∙ z)))))

  pub stop_reads : (k : ℕ) → read_at P (stopped P s k w) w.block base page
      ≡ cond (takes_hold k w.decision (slot_of s.patch w.block)) (read_at P (next P s w) w.block base page)
      (read_at P s w.block base page)
  stop_reads zero = ap (λ (t : Areas). read_at P t w.block base page) (told_nothing P s w)
  stop_reads (suc zero) = go (eqb w.decision.kind 2) refl
    where
      go : (t : Bool) → eqb w.decision.kind 2 ≡ t
          → read_at P (stopped P s 1 w) w.block base page
          ≡ cond (cond t (is_full (slot_of s.patch w.block)) true) (read_at P (next P s w) w.block base page)
          (read_at P s w.block base page)
      go true q = page_first (eqb-true w.decision.kind 2 q) (is_full (slot_of s.patch w.block)) refl
      go false q = slot_before_page (eqb-false w.decision.kind 2 q)
  stop_reads (suc (suc k)) =
      ap (λ (t : Areas). read_at P t w.block base page) (told_whole P s w (suc (suc k)) (omega arith))
      ∙ rw (hold_all (suc (suc k)) w.decision (slot_of s.patch w.block) (omega arith))

-- and every other block, whether or not the call was refused
pub stop_others : (P : ℕ) (s : Areas) (k : ℕ) (w : Lent) (c : ℕ) → (c ≡ w.block → ⊥) → (base page : List ℕ)
    → read_at P (stopped P s k w) c base page ≡ read_at P s c base page
stop_others P s k w c n base page = go (taken P s w) refl
  where
    go : (t : Bool) → taken P s w ≡ t → read_at P (stopped P s k w) c base page ≡ read_at P s c base page
    go true e =
        let x = stop_stored P s k w e in
        same_read P s (stopped P s k w) s c base page x.frame (same_frame s.patch s.full) (x.other_slots c n) (λ z. x.other_places c n)
    go false e = ap (λ (t : Areas). read_at P t c base page) (stop_refused P s k w e)

-- Told 1 where only one store is due: the write is whole
pub one_due : (P : ℕ) (s : Areas) (w : Lent) → (w.decision.kind ≡ 2 → ⊥) → places P s.full ≤ w.block → stopped P s 1 w ≡ next P s w
unfolding carried puts put
one_due P s w n h = go (outcome P s w).number refl
  where
    first : carried P w.block w.decision 1 s
        ≡ record {
          patch = put_slot s.patch w.block w.decision.kind w.decision.payload;
          full = put_place P s.full w.block w.decision.kind w.decision.page;
        }
    first = rw (first_slot w.decision.kind n) (λ i. record {
      patch = put_slot s.patch w.block w.decision.kind w.decision.payload;
      full = nothing_stored P s.full w.block w.decision.kind w.decision.page h i;
    })

    go : (k : ℕ) → (outcome P s w).number ≡ k → stopped P s 1 w ≡ next P s w
    go zero e =
        let areas : CarryOutcome → Areas = λ o. record { patch = o.patch; full = o.full } in
        let told = told_number P s.patch s.full w.block w.decision 1 in
        ap areas (carry_done_is P [] s.patch s.full w.block w.decision 1 (told ∙ e)) ∙ first
        ∙ sym (carried_is P w.block w.decision s)
        ∙ sym (ap areas (carry_done_is P [] s.patch s.full w.block w.decision all e))
    go (suc k) e =
        let r : taken P s w ≡ false = ne_eqb (outcome P s w).number 0 (λ z. omega (arith, e, z)) in
        stop_refused P s 1 w r ∙ sym (stop_refused P s all w r)
