-- The laws of Read: its outcome by what is wrong first, and by the slot.
use Prim.Native.Nat.{ℕ, ◌≤◌, ◌<◌}
use Rattle.std.proofs.Common.{arith, sym, ◌∙◌, le-leb}
use Rattle.std.specs.Prelude.{◌≡◌, refl, Bool, true, false, leb, length}
use Rattle.std.proofs.Math.Path.{ap}
use mathlib.Core.List.{List, [], ◌++◌, append-nil}
use Rattle.std.proofs.lemmas.Bool.{lt-leb}
use Rattle.layout.specs.Refusals.{Row, first_of, or_else, decided}
use Rattle.layout.specs.RefusalLaws.{first_hit, first_skip, or_skip, or_some, decided_done, decided_refused}
use Rattle.layout.specs.RefusalLaws.{no_such, lacks, first_lacks}
use Rattle.layout.specs.GroupLaws.{in_halves}
use Rattle.layout.specs.Lengths.{blocks_in}
use Rattle.slots.specs.Slots.{slot_numbers, sound_slot, unsound_slot, payload_of}
use Rattle.payload.specs.Entries.{payload_stream, sound, breaks_at, offset_with, applied}
use Rattle.payload.specs.EntryLaws.{offset_other}
use Rattle.stream.specs.Calls.{page_of, page_rows}
use Rattle.store.specs.Block.{slot_of, block_rows, slot_rows, full_rows, payload_rows}
use Rattle.store.specs.Frame.{frame_rows}
use Rattle.store.specs.FrameLaws.{frame_lacks}
use Rattle.std.specs.Prelude.{Result}
use Rattle.layout.specs.declared.Kind.{Kind}
use Rattle.layout.specs.declared.RefusedAt.{RefusedAt}
use Rattle.reading.specs.Read.{read_rows, contents, read_outcome, read_done, read_refused}
use Rattle.reading.specs.Parts.{slot_outcome, BlockRead, PatchRead}

module _ (P : ℕ) (patch full : List ℕ) (b : ℕ) (base page : List ℕ) where
  read_rows_is : first_of (read_rows P patch full b base page)
      ≡ or_else (first_of (frame_rows P (page_rows P base page) [] patch full))
      (first_of (block_rows patch b ++ (slot_rows (slot_of patch b)
      ++ (full_rows P (slot_of patch b) full b ++ (payload_rows P (slot_of patch b) ++ ([] ++ []))))))
  unfolding read_rows frame_rows
  read_rows_is = in_halves _

  not_seven : first_of (frame_rows P (page_rows P base page) [] patch full) ≡ 7 → ⊥
  not_seven = first_lacks (frame_rows P (page_rows P base page) [] patch full) 6
      (frame_lacks P patch full (page_rows P base page) [] 7 (omega arith) (lacks 1 (λ e. omega arith) no_such) no_such)

  -- the frame's refusal is the call's
  pub read_frame : (k : ℕ) → first_of (frame_rows P (page_rows P base page) [] patch full) ≡ k → (k ≡ 0 → ⊥)
      → read_outcome P patch full b base page ≡ read_refused k 0 page
  unfolding read_outcome
  read_frame k e h =
      decided_refused _ _ (first_of (read_rows P patch full b base page)) k
      (read_rows_is ∙ ap (λ (n : ℕ). or_else n
      (first_of (block_rows patch b ++ (slot_rows (slot_of patch b)
      ++ (full_rows P (slot_of patch b) full b ++ (payload_rows P (slot_of patch b) ++ ([] ++ []))))))) e
      ∙ or_some k (first_of (block_rows patch b
      ++ (slot_rows (slot_of patch b) ++ (full_rows P (slot_of patch b) full b ++ (payload_rows P (slot_of patch b) ++ ([] ++ [])))))) h) h
      ∙ ap (λ (o : ℕ). read_refused k o page) (offset_other k P (payload_of (slot_of patch b)) (λ q. not_seven (e ∙ q)))

  module _ (e : first_of (frame_rows P (page_rows P base page) [] patch full) ≡ 0) where
    pub read_block : blocks_in (length patch) ≤ b → read_outcome P patch full b base page ≡ read_refused 5 0 page
    unfolding read_outcome
    read_block h =
        decided_refused _ _ (first_of (read_rows P patch full b base page)) 5
        (read_rows_is
        ∙ or_skip (first_of (frame_rows P (page_rows P base page) [] patch full))
        (first_of (block_rows patch b ++ (slot_rows (slot_of patch b)
        ++ (full_rows P (slot_of patch b) full b ++ (payload_rows P (slot_of patch b) ++ ([] ++ [])))))) e
        ∙ first_hit 4 (leb (blocks_in (length patch)) b)
        (slot_rows (slot_of patch b) ++ (full_rows P (slot_of patch b) full b ++ (payload_rows P (slot_of patch b) ++ ([] ++ []))))
        (le-leb (blocks_in (length patch)) b h))
        (λ q. omega arith)

    pub read_slot : b < blocks_in (length patch) → read_outcome P patch full b base page ≡ slot_outcome P patch full b base page
    unfolding read_outcome slot_outcome
    read_slot h =
        let s : List ℕ = slot_of patch b in
        ap (λ (n : ℕ). decided n (read_done (slot_numbers s).kind (contents P patch full b base))
        (λ (k : ℕ). read_refused k (offset_with k P (payload_of s)) page))
        (read_rows_is
        ∙ or_skip (first_of (frame_rows P (page_rows P base page) [] patch full))
        (first_of (block_rows patch b ++ (slot_rows s ++ (full_rows P s full b ++ (payload_rows P s ++ ([] ++ [])))))) e
        ∙ first_skip 5 (leb (blocks_in (length patch)) b) (slot_rows s ++ (full_rows P s full b ++ (payload_rows P s ++ ([] ++ []))))
        (lt-leb (blocks_in (length patch)) b h)
        ∙ ap (λ (l : List Row). first_of (slot_rows s ++ (full_rows P s full b ++ l))) (append-nil (payload_rows P s)))

-- by the slot's numbers
module _ (P : ℕ) (patch full : List ℕ) (b : ℕ) (base page : List ℕ) where
  pub slot_unsound : slot_numbers (slot_of patch b) ≡ unsound_slot
      → slot_outcome P patch full b base page ≡ read_refused 6 0 page
  unfolding slot_outcome slot_rows full_rows payload_rows first_of or_else
  slot_unsound e = decided_refused _ _
      (first_of (slot_rows (slot_of patch b) ++ (full_rows P (slot_of patch b) full b ++ payload_rows P (slot_of patch b)))) 6 (rw e)
      (λ q. omega arith)

  pub slot_empty : slot_numbers (slot_of patch b) ≡ sound_slot 0 0
      → slot_outcome P patch full b base page ≡ read_done 0 (page_of P base)
  unfolding slot_outcome slot_rows full_rows payload_rows first_of or_else contents
  slot_empty e = decided_done _ _
      (first_of (slot_rows (slot_of patch b) ++ (full_rows P (slot_of patch b) full b ++ payload_rows P (slot_of patch b)))) (rw e) ∙ rw e

  pub slot_broken : (n : ℕ) → slot_numbers (slot_of patch b) ≡ sound_slot 1 n → sound P (payload_of (slot_of patch b)) ≡ false
      → slot_outcome P patch full b base page ≡ read_refused 7 (breaks_at P (payload_of (slot_of patch b))) page
  unfolding slot_outcome slot_rows full_rows payload_rows first_of or_else
  slot_broken n e h = decided_refused _ _
      (first_of (slot_rows (slot_of patch b) ++ (full_rows P (slot_of patch b) full b ++ payload_rows P (slot_of patch b)))) 7 (rw (e, h))
      (λ q. omega arith)

  pub slot_patched : (n : ℕ) → slot_numbers (slot_of patch b) ≡ sound_slot 1 n → sound P (payload_of (slot_of patch b)) ≡ true
      → slot_outcome P patch full b base page
      ≡ read_done 1 (applied (page_of P base) (payload_stream P (payload_of (slot_of patch b))))
  unfolding slot_outcome slot_rows full_rows payload_rows first_of or_else contents
  slot_patched n e h = decided_done _ _
      (first_of (slot_rows (slot_of patch b) ++ (full_rows P (slot_of patch b) full b ++ payload_rows P (slot_of patch b)))) (rw (e, h)) ∙ rw e

-- a read goes by the page that its base stands for
pub same_base : (P : ℕ) (patch full : List ℕ) (b : ℕ) (base base' page : List ℕ) → page_of P base ≡ page_of P base'
    → slot_outcome P patch full b base page ≡ slot_outcome P patch full b base' page
unfolding slot_outcome contents
same_base P patch full b base base' page e = rw e

-- a payload read over its base is what the block holds
pub patch_read : (P : ℕ) (patch full : List ℕ) (b : ℕ) (base page : List ℕ) (n : ℕ) (payload : List ℕ) (answer : Result Kind RefusedAt) (page' : List ℕ)
    → slot_numbers (slot_of patch b) ≡ sound_slot 1 n
    → payload ≡ payload_of (slot_of patch b)
    → page_of P base ≡ base
    → PatchRead P base payload page answer page'
    → BlockRead P patch full b base page answer page'
patch_read P patch full b base page n payload answer page' told same_payload same_base' r = go (sound P payload) refl
  where
    go : (t : Bool) → sound P payload ≡ t → BlockRead P patch full b base page answer page'
    go true h =
        let e : slot_outcome P patch full b base page
        ≡ read_done 1 (applied (page_of P base) (payload_stream P (payload_of (slot_of patch b)))) =
        slot_patched P patch full b base page n told (ap (λ (l : List ℕ). sound P l) (sym same_payload) ∙ h) in
        record {
          numbers = rw e (r.numbers ∙ rw h);
          bytes = rw e (r.bytes ∙ rw (h, same_base', same_payload));
        }
    go false h =
        let e : slot_outcome P patch full b base page ≡ read_refused 7 (breaks_at P (payload_of (slot_of patch b))) page =
        slot_broken P patch full b base page n told (ap (λ (l : List ℕ). sound P l) (sym same_payload) ∙ h) in
        record { numbers = rw e (r.numbers ∙ rw (h, same_payload)); bytes = rw e (r.bytes ∙ rw h) }
