-- What Read and Build make of a cell that a run leaves. The base that it was decided over does not come into it.
use Prim.Native.Nat.{ℕ, ◌≤◌, ◌<◌}
use Rattle.std.proofs.Common.{arith, sym, ap, ◌∙◌}
use Rattle.std.specs.Prelude.{◌≡◌, refl, cond, eqb, length}
use mathlib.Core.List.{List, []}
use borrow.Author.Tests.{lt-ltb}
use Rattle.span.specs.Bytes.{zeros}
use Rattle.layout.specs.Sizes.{full_head}
use Rattle.slots.specs.Slots.{empty_slot, patch_slot, full_slot, slot_numbers, slot_image}
use Rattle.slots.specs.Meaning.{empty_numbers, full_numbers}
use Rattle.payload.specs.Entries.{sound}
use Rattle.stream.specs.Calls.{page_of}
use Rattle.store.specs.Block.{slot_of, place_of}
use Rattle.building.specs.Build.{block_fault}
use Rattle.building.specs.BuildLaws.{no_strays, block_empty, block_patch, block_full}
use Rattle.promises.specs.Words.{blocks, places, FrameFits}
use Rattle.promises.specs.SlotLaws.{patch_of, image_empty, image_patch, image_full}
use Rattle.span.specs.EmptiedLaws.{emptied_length}
use Rattle.promises.specs.ReadLaws.{reads_empty, reads_patch, reads_full}
use Rattle.promises.specs.Decisions.{Cell, Fit, page_in}
use Rattle.promises.specs.DecisionLaws.{compared_cell, cell_reads, blank_cell_is, blank_page}
use Rattle.promises.specs.Runs.{ReadingLaws, Left, left_blank, left_cell}
use Rattle.promises.specs.RunWords.{Areas, read_at}
use Rattle.promises.specs.RunStore.{cell_at, frame_of, store}
use Rattle.promises.specs.RunStoreLaws.{accepted_write}
use Rattle.promises.specs.RunReads.{reading, read_in, Held}

pub reading_laws : (P : ℕ) → P ≤ 65536 → ReadingLaws (store P) (reading P)
reading_laws P small =
    record {
      cell_canon = λ f w β e d. compared_cell P β w.decision d;
      reads_cell =
          λ f w β e d. ap (page_in P β) (compared_cell P β w.decision d)
          ∙ cell_reads P small β w.decision.page d.base_length d.page_length;
      canon_base = λ β fit. blank_cell_is P β;
      reads_blank = λ β fit. blank_page P β;
    }

-- every cell that a run can leave holds a decision; a blank one holds EMPTY
pub left_held : (P : ℕ) (s : Areas) (b : ℕ) (c : Cell) → Left (store P) (frame_of s) b c → Held P s.full b c
left_held P s b c left_blank =
    record {
      decision = record { kind = 0; payload = []; page = [] };
      fit = Fit.empty refl;
      room_for = λ q. absurd (omega arith);
      is = λ i. record { slot = sym (image_empty []) i; place = zeros P };
    }
left_held P s b c (left_cell w e q) =
    record {
      decision = w.decision;
      fit = (accepted_write P (frame_of s) w e).fit;
      room_for = λ k. rw (emptied_length full_head s.full) at (rw q at ((accepted_write P (frame_of s) w e).room_for k));
      is = refl;
    }

-- A block that holds a decision

module _ (P : ℕ) (s : Areas) (b : ℕ) (below : b < blocks s.patch) (h : Held P s.full b (cell_at P s b)) where
  slot_is : slot_of s.patch b ≡ slot_image h.decision.kind h.decision.payload
  slot_is = ap (λ (x : Cell). x.slot) h.is

  place_is : b < places P s.full → place_of P s.full b ≡ cond (eqb h.decision.kind 2) h.decision.page (zeros P)
  place_is m = rw (lt-ltb b (places P s.full) m) at (ap (λ (x : Cell). x.place) h.is)

  is_empty : h.decision.kind ≡ 0 → slot_of s.patch b ≡ empty_slot
  is_empty e = slot_is ∙ rw e (image_empty h.decision.payload)

  patch_stands : h.decision.kind ≡ 1 → slot_of s.patch b ≡ patch_slot h.decision.payload
  patch_stands e = slot_is ∙ rw e (image_patch h.decision.payload)

  full_stands : h.decision.kind ≡ 2 → slot_of s.patch b ≡ full_slot
  full_stands e = slot_is ∙ rw e (image_full h.decision.payload)

  pub held_reads : (base page : List ℕ) → FrameFits P s.patch s.full base page
      → read_at P s b base page ≡ read_in P (page_of P base) (cell_at P s b)
  unfolding page_in
  held_reads base page f = go h.fit
    where
      go : Fit P h.decision → read_at P s b base page ≡ read_in P (page_of P base) (cell_at P s b)
      go (Fit.empty e) = reads_empty P s.patch s.full b base page f below (is_empty e) ∙ rw (is_empty e, empty_numbers)
      go (Fit.patch e low high u) =
          let p : List ℕ = h.decision.payload in
          let r = patch_of (patch_slot p) p (record { image = refl; some = low; room_for = high }) in
          reads_patch P s.patch s.full b base page f below p (record { image = patch_stands e; some = low; room_for = high }) u
          ∙ rw (patch_stands e, r.0, r.1)
      go (Fit.full e l) =
          let m : b < places P s.full = h.room_for e in
          reads_full P s.patch s.full b base page f below (full_stands e) m
          ∙ rw (full_stands e, full_numbers, lt-ltb b (places P s.full) m)

  pub held_fine : block_fault P s.patch s.full b ≡ 0
  held_fine = go h.fit
    where
      go : Fit P h.decision → block_fault P s.patch s.full b ≡ 0
      go (Fit.empty e) =
          block_empty P s.patch s.full b (ap slot_numbers (is_empty e) ∙ empty_numbers)
          ∙ no_strays P s.full b (λ m. place_is m ∙ rw e)
      go (Fit.patch e low high u) =
          let p : List ℕ = h.decision.payload in
          let r = patch_of (slot_of s.patch b) p (record { image = patch_stands e; some = low; room_for = high }) in
          block_patch P s.patch s.full b (length p) r.0 (ap (sound P) r.1 ∙ u)
          ∙ no_strays P s.full b (λ m. place_is m ∙ rw e)
      go (Fit.full e l) = block_full P s.patch s.full b (ap slot_numbers (full_stands e) ∙ full_numbers) (h.room_for e)
