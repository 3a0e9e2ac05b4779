-- Both areas are a store of blocks.
use Rattle.std.specs.Prelude.{ℕ, ◌≤◌, ◌<◌, ◌≡◌, refl, Bool, true, false, cond, ◌↔◌, ◌⊎◌, [], eqb, leb, ltb}
use Rattle.std.proofs.Common.{arith, sym, ◌∙◌, inl, inr, ne_eqb, lt-ltb, ltb-true, ltb-false, leb-true, leb-false, eqb-true}
use Rattle.std.proofs.Math.Path.{ap}
use Rattle.std.proofs.Math.ListN.{length}
use Rattle.std.proofs.lemmas.Bool.{eqb-false}
use Rattle.span.specs.Bytes.{zeros, part, emptied}
use Rattle.span.specs.Laws.{part_none}
use Rattle.span.specs.EmptiedLaws.{emptied_length, emptied_part, emptied_same}
use Rattle.layout.specs.Sizes.{patch_head, full_head, slot_size, page_at}
use Rattle.layout.specs.Refusals.{or_else}
use Rattle.store.specs.Block.{slot_of, place_of}
use Rattle.carrying.specs.Puts.{all}
use Rattle.carrying.specs.CarryOut.{CarryOutcome}
use Rattle.carrying.specs.CarryLaws.{carry_number, carry_not}
use Rattle.cutting.specs.CutLaws.{cut_number}
use Rattle.promises.specs.Words.{blocks, places, LengthsFit, HeadersFit, SameFrame}
use Rattle.promises.specs.FrameLaws.{lengths_moved, headers_moved}
use Rattle.promises.specs.AreaLaws.{areas_number, areas_emptied}
use Rattle.promises.specs.CarryTables.{page_wrong, decision_number, carry_by_frame, Accepted, accepted}
use Rattle.promises.specs.Cells.{cells_ext}
use Rattle.promises.specs.StoreLaws.{both, content_of, StoredAt, slot_anew, place_anew, carry_stored}
use Rattle.promises.specs.CutWords.{Dropped}
use Rattle.promises.specs.CutTables.{cut_by_frame}
use Rattle.promises.specs.CutLaws.{cut_drops, cut_kept}
use Rattle.promises.specs.Decisions.{Cell, cell_for, blank_cell}
use Rattle.promises.specs.Runs.{write, wipe, Laws}
use Rattle.promises.specs.RunWords.{Areas, Lent, Cut, outcome, cutting, taken, next, cut_taken, cut_next}
use Rattle.promises.specs.RunStore.{cell_at, frame_of, store}

-- areas of the same lengths and headers have one frame
pub frame_is : (s t : Areas) → SameFrame s.patch s.full t.patch t.full → frame_of t ≡ frame_of s
frame_is s t f = λ i. record {
  patch = (emptied_same patch_head t.patch s.patch).1 (f.patch_length, f.patch_header_is) i;
  full = (emptied_same full_head t.full s.full).1 (f.full_length, f.full_header_is) i;
}

-- A write

-- a refusal is a matter of the frame and the call
pub taken_frame : (P : ℕ) (s : Areas) (w : Lent) → taken P (frame_of s) w ≡ taken P s w
taken_frame P s w = ap (λ (k : ℕ). eqb k 0) (number (frame_of s) ∙ same ∙ sym (number s))
  where
    number : (t : Areas) → (outcome P t w).number
        ≡ or_else (cond (page_wrong P w.decision) 1 (areas_number P t.patch t.full))
        (cond (leb (blocks t.patch) w.block) 5 (decision_number P t.full w.block w.decision))
    number t = carry_number P [] t.patch t.full w.block w.decision all
        ∙ carry_by_frame P t.patch t.full w.block w.decision

    same : or_else (cond (page_wrong P w.decision) 1 (areas_number P (emptied patch_head s.patch) (emptied full_head s.full)))
        (cond (leb (blocks (emptied patch_head s.patch)) w.block) 5
        (decision_number P (emptied full_head s.full) w.block w.decision))
        ≡ or_else (cond (page_wrong P w.decision) 1 (areas_number P s.patch s.full))
        (cond (leb (blocks s.patch) w.block) 5 (decision_number P s.full w.block w.decision))
    same = rw (areas_emptied P s.patch s.full, emptied_length patch_head s.patch, emptied_length full_head s.full)

module _ (P : ℕ) (s : Areas) (w : Lent) where
  pub accepted_write : taken P s w ≡ true → Accepted P s.patch s.full w.block w.decision
  accepted_write e = accepted P s.patch s.full w.block w.decision (eqb-true (outcome P s w).number 0 e)

  not_taken : taken P s w ≡ false → next P s w ≡ s
  not_taken e = ap (λ (o : CarryOutcome). record { patch = o.patch; full = o.full })
      (carry_not P [] s.patch s.full w.block w.decision all (eqb-false (outcome P s w).number 0 e))

  module _ (e : taken P s w ≡ true) where
    done : StoredAt P w.block w.decision (both w.decision) s (next P s w)
    done = carry_stored P s.patch s.full w.block w.decision (eqb-true (outcome P s w).number 0 e)

    pub cell_here : cell_at P (next P s w) w.block ≡ cell_for P w.decision
    cell_here = λ i. record {
      slot = (done.slot_is ∙ slot_anew w.decision (slot_of s.patch w.block)) i;
      place = place (ltb w.block (places P s.full)) refl i;
    }
      where
        place : (t : Bool) → ltb w.block (places P s.full) ≡ t
            → cond (ltb w.block (places P (outcome P s w).full)) (place_of P (outcome P s w).full w.block) (zeros P)
            ≡ content_of P w.decision
        place true q =
            rw (done.frame.full_length, q)
            (done.place_is (ltb-true w.block (places P s.full) q) ∙ place_anew P w.decision (place_of P s.full w.block))
        place false q =
            let past : places P s.full ≤ w.block = ltb-false w.block (places P s.full) q in
            rw (
              done.frame.full_length,
              q,
              ne_eqb w.decision.kind 2
                  (λ k. let m : w.block < places P s.full = (accepted_write e).room_for k in omega arith),
            )

    cell_other : (b : ℕ) → (b ≡ w.block → ⊥) → cell_at P (next P s w) b ≡ cell_at P s b
    cell_other b d = rw (done.other_slots b d, done.frame.full_length, done.other_places b d)

  frame_next : frame_of (next P s w) ≡ frame_of s
  frame_next = go (taken P s w) refl
    where
      go : (t : Bool) → taken P s w ≡ t → frame_of (next P s w) ≡ frame_of s
      go true e = frame_is s (next P s w) (done e).frame
      go false e = ap frame_of (not_taken e)

-- A cut

cut_taken_frame : (P : ℕ) (s : Areas) (K : Cut) → cut_taken P (frame_of s) K ≡ cut_taken P s K
cut_taken_frame P s K = ap (λ (k : ℕ). eqb k 0) (number (frame_of s) ∙ same ∙ sym (number s))
  where
    number : (t : Areas) → (cutting P t K).number ≡ or_else (areas_number P t.patch t.full) (cond (ltb (blocks t.patch) K) 5 0)
    number t = cut_number P [] t.patch t.full K ∙ cut_by_frame P t.patch t.full K

    same : or_else (areas_number P (emptied patch_head s.patch) (emptied full_head s.full))
        (cond (ltb (blocks (emptied patch_head s.patch)) K) 5 0)
        ≡ or_else (areas_number P s.patch s.full) (cond (ltb (blocks s.patch) K) 5 0)
    same = rw (areas_emptied P s.patch s.full, emptied_length patch_head s.patch)

module _ (P : ℕ) (s : Areas) (K : Cut) where
  pub accepted_cut : cut_taken P s K ≡ true → (cutting P s K).number ≡ 0
  accepted_cut e = eqb-true (cutting P s K).number 0 e

  pub cut_not_taken : cut_taken P s K ≡ false → cut_next P s K ≡ s
  cut_not_taken e =
      let k = cut_kept P s.patch s.full K (eqb-false (cutting P s K).number 0 e) in
      λ i. record { patch = k.0 i; full = k.1 i }

  module _ (e : cut_taken P s K ≡ true) where
    pub drops : Dropped P s.patch s.full K (cut_next P s K).patch (cut_next P s K).full
    drops = cut_drops P s.patch s.full K (accepted_cut e)

    pub cell_dropped : (b : ℕ) → b < blocks s.patch → K ≤ b → cell_at P (cut_next P s K) b ≡ blank_cell P
    cell_dropped b n h =
        λ i. record { slot = drops.no_slots b h n i; place = place (ltb b (places P s.full)) refl i }
      where
        place : (t : Bool) → ltb b (places P s.full) ≡ t
            → cond (ltb b (places P (cut_next P s K).full)) (place_of P (cut_next P s K).full b) (zeros P) ≡ zeros P
        place true q = rw (drops.frame.full_length, q) (drops.no_places b h (ltb-true b (places P s.full) q))
        place false q = rw (drops.frame.full_length, q)

    pub cell_kept : (b : ℕ) → b < K → cell_at P (cut_next P s K) b ≡ cell_at P s b
    cell_kept b h = rw (drops.same_slots b h, drops.frame.full_length, drops.same_places b h)

  cut_frame_next : frame_of (cut_next P s K) ≡ frame_of s
  cut_frame_next = go (cut_taken P s K) refl
    where
      go : (t : Bool) → cut_taken P s K ≡ t → frame_of (cut_next P s K) ≡ frame_of s
      go true e = frame_is s (cut_next P s K) (drops e).frame
      go false e = ap frame_of (cut_not_taken e)

-- the frame is good just where the areas are
pub good_frame : (P : ℕ) (s : Areas)
    → (LengthsFit P s.patch s.full × HeadersFit P s.patch s.full) ↔ (store P).Good (frame_of s)
good_frame P s = (
  λ h. (lengths_moved P _ _ _ _ down h.0, headers_moved P _ _ _ _ down h.1),
  λ h. (lengths_moved P _ _ _ _ up h.0, headers_moved P _ _ _ _ up h.1),
)
  where
    down : SameFrame s.patch s.full (frame_of s).patch (frame_of s).full
    down =
        record {
          patch_length = emptied_length patch_head s.patch;
          full_length = emptied_length full_head s.full;
          patch_header_is = emptied_part patch_head s.patch 0 patch_head (omega arith);
          full_header_is = emptied_part full_head s.full 0 full_head (omega arith);
        }

    up : SameFrame (frame_of s).patch (frame_of s).full s.patch s.full
    up =
        record {
          patch_length = sym down.patch_length;
          full_length = sym down.full_length;
          patch_header_is = sym down.patch_header_is;
          full_header_is = sym down.full_header_is;
        }

-- areas of one frame with the same cells are the same areas
module _ (P : ℕ) (s t : Areas) (fits : LengthsFit P s.patch s.full) (e : frame_of s ≡ frame_of t)
    (h : (b : ℕ) → b < blocks s.patch → cell_at P s b ≡ cell_at P t b) where
  same_patch : s.patch ≡ t.patch
  unfolding slot_of
  same_patch =
      let f = (emptied_same patch_head s.patch t.patch).0 (ap (λ (x : Areas). x.patch) e) in
      cells_ext patch_head slot_size (blocks s.patch) s.patch t.patch fits.patch_length (sym f.0) f.1
      (λ c n. ap (λ (x : Cell). x.slot) (h c n))

  same_full : s.full ≡ t.full
  unfolding place_of
  same_full = go fits.full_length
    where
      f : (length s.full ≡ length t.full) × (part 0 full_head s.full ≡ part 0 full_head t.full)
      f = (emptied_same full_head s.full t.full).0 (ap (λ (x : Areas). x.full) e)

      go : (length s.full ≡ 0) ⊎ ((length s.full ≡ page_at P (places P s.full)) × (places P s.full ≤ blocks s.patch))
          → s.full ≡ t.full
      go (inl z) = cells_ext 0 0 0 s.full t.full z (sym f.0) (part_none 0 s.full ∙ sym (part_none 0 t.full))
          (λ c n. absurd (omega arith))
      go (inr l) =
          cells_ext full_head P (places P s.full) s.full t.full l.0 (sym f.0) f.1
          (λ c n. rw (← f.0, lt-ltb c (places P s.full) n) at (ap (λ (x : Cell). x.place) (h c (omega (arith, l.1)))))

pub store_laws : (P : ℕ) → Laws (store P)
store_laws P =
    record {
      frame_kept =
          λ s o.
          elim o as (λ k. (store P).frame ((store P).step s k) ≡ (store P).frame s) [
            | write w ↦ frame_next P s w
            | wipe K ↦ cut_frame_next P s K
          ];
      by_frame =
          λ s o.
          elim o as (λ k. (store P).takes s k ≡ (store P).accepts ((store P).frame s) k) [
            | write w ↦ sym (taken_frame P s w)
            | wipe K ↦ sym (cut_taken_frame P s K)
          ];
      refused =
          λ s o.
          elim o as (λ k. (store P).accepts ((store P).frame s) k ≡ false → (store P).step s k ≡ s) [
            | write w ↦ λ e. not_taken P s w (sym (taken_frame P s w) ∙ e)
            | wipe K ↦ λ e. cut_not_taken P s K (sym (cut_taken_frame P s K) ∙ e)
          ];
      write_here = λ s w b e h q. ap (cell_at P (next P s w)) (sym q) ∙ cell_here P s w (sym (taken_frame P s w) ∙ e);
      write_elsewhere = λ s w b e h d. cell_other P s w (sym (taken_frame P s w) ∙ e) b (λ q. d (sym q));
      wiped =
          λ s K b e h q. cell_dropped P s K (sym (cut_taken_frame P s K) ∙ e) b (rw (emptied_length patch_head s.patch) at h)
          (leb-true K b q);
      not_wiped = λ s K b e h q. cell_kept P s K (sym (cut_taken_frame P s K) ∙ e) b (leb-false K b q);
      ext =
          λ s t good e h.
          let fits : LengthsFit P s.patch s.full = ((good_frame P s).1 good).0 in
          let cells : (b : ℕ) → b < blocks s.patch
          → cell_at P s b ≡ cell_at P t b = λ b n. h b (rw (emptied_length patch_head s.patch) n) in
          λ i. record { patch = same_patch P s t fits e cells i; full = same_full P s t fits e cells i };
    }
