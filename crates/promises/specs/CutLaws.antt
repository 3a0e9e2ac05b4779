-- What Cut leaves, block by block, how blocks read after it, and what Highest gives.
use Rattle.std.specs.Prelude.{ℕ, ◌+◌, ◌*◌, ◌≤◌, ◌<◌, ◌≡◌, refl, ◌⊎◌, true, not, List, length}
use Rattle.std.proofs.Common.{arith, mul-suc, add-one, sym, ap, ◌∙◌, inl, inr, true≢false}
use Rattle.std.proofs.Math.Nat.{mul-le-mul_left}
use Rattle.std.proofs.Math.Decide.{dec_lt}
use Rattle.span.specs.Bytes.{emptied}
use Rattle.span.specs.Laws.{part_none, same_true, same_false}
use Rattle.span.specs.EmptiedLaws.{emptied_length, emptied_part, emptied_zeros}
use Rattle.layout.specs.Sizes.{patch_head, full_head, slot_size, slot_at, page_at}
use Rattle.layout.specs.Refusals.{first_of}
use Rattle.layout.specs.RefusalLaws.{decided_done}
use Rattle.layout.specs.Lengths.{blocks_in}
use Rattle.slots.specs.Slots.{empty_slot}
use Rattle.blockmap.specs.Pairs.{map_bytes}
use Rattle.blockmap.specs.SetPair.{PairsCleared}
use Rattle.blockmap.specs.ClearLaws.{pairs_cleared}
use Rattle.stream.specs.Calls.{page_of}
use Rattle.store.specs.Block.{slot_of, place_of}
use Rattle.reading.specs.Read.{read_outcome, read_done}
use Rattle.cutting.specs.Cut.{CutOutcome, cut_outcome}
use Rattle.cutting.specs.Mapped.{cut_mapped_outcome}
use Rattle.cutting.specs.CutLaws.{cut_done_is, cut_not, map_done}
use Rattle.cutting.specs.Highest.{highest_rows, extent, non_empty, highest_numbers}
use Rattle.cutting.specs.Reach.{OneMore}
use Rattle.cutting.specs.ReachLaws.{extent_is, same_sort}
use Rattle.cutting.specs.Given.{highest_number}
use Rattle.store.specs.FrameLaws.{none_in}
use Rattle.promises.specs.Words.{blocks, places, AreasFit, PagesFit, LengthsFit, FrameFits}
use Rattle.promises.specs.FrameLaws.{frame_same, lengths_moved, headers_moved}
use Rattle.promises.specs.Cells.{cell_within, cells_ext}
use Rattle.promises.specs.StoreLaws.{place_cells}
use Rattle.promises.specs.Tables.{read_same}
use Rattle.promises.specs.ReadLaws.{reads_empty}
use Rattle.promises.specs.CutWords.{Dropped, NonEmpty}
use Rattle.promises.specs.CutTables.{cut_accepted, cut_fitting}

-- Both areas emptied from the slot and the place of block K on

module _ (P : ℕ) (patch full : List ℕ) (fits : LengthsFit P patch full) (K : ℕ) where
  abbrev patch' : List ℕ
  patch' = emptied (slot_at K) patch

  abbrev full' : List ℕ
  full' = emptied (page_at P K) full

  place_before : (b : ℕ) → b < K → page_at P b + P ≤ page_at P K
  place_before b h =
      let m : P * (b + 1) ≤ P * K = mul-le-mul_left P (omega arith) in
      let d : P * (b + 1) ≡ P * b + P = ap (λ (k : ℕ). P * k) (add-one b) ∙ mul-suc P b in
      omega arith

  emptied_drops : Dropped P patch full K patch' full'
  unfolding slot_of place_of empty_slot
  emptied_drops =
      record {
        frame =
            record {
              patch_length = emptied_length (slot_at K) patch;
              full_length = emptied_length (page_at P K) full;
              patch_header_is = emptied_part (slot_at K) patch 0 patch_head (omega arith);
              full_header_is = emptied_part (page_at P K) full 0 full_head (omega arith);
            };
        no_slots =
            λ b h n. emptied_zeros (slot_at K) patch (slot_at b) slot_size (omega arith)
            (cell_within patch patch_head slot_size (blocks patch) fits.patch_length b n);
        no_places =
            λ b h n.
            let m : P * K ≤ P * b = mul-le-mul_left P h in
            emptied_zeros (page_at P K) full (page_at P b) P (omega arith)
            (cell_within full full_head P (places P full) (place_cells P patch full fits b n) b n);
        same_slots = λ b h. emptied_part (slot_at K) patch (slot_at b) slot_size (omega arith);
        same_places = λ b h. emptied_part (page_at P K) full (page_at P b) P (place_before b h);
      }

-- there is one such outcome
pub dropped_one : (P : ℕ) (patch full : List ℕ) (K : ℕ) → LengthsFit P patch full → (p f q g : List ℕ)
    → Dropped P patch full K p f → Dropped P patch full K q g → (p ≡ q) × (f ≡ g)
unfolding slot_of place_of
dropped_one P patch full K fits p f q g x y = (same_patch, same_full fits.full_length)
  where
    slot : (b : ℕ) → b < blocks patch → slot_of p b ≡ slot_of q b
    slot b n =
        elim (dec_lt b K) [
          | yes l ↦ x.same_slots b l ∙ sym (y.same_slots b l)
          | no l ↦ x.no_slots b (omega arith) n ∙ sym (y.no_slots b (omega arith) n)
        ]

    place : (b : ℕ) → b < places P full → place_of P f b ≡ place_of P g b
    place b n =
        elim (dec_lt b K) [
          | yes l ↦ x.same_places b l ∙ sym (y.same_places b l)
          | no l ↦ x.no_places b (omega arith) n ∙ sym (y.no_places b (omega arith) n)
        ]

    same_patch : p ≡ q
    same_patch =
        cells_ext patch_head slot_size (blocks patch) p q (x.frame.patch_length ∙ fits.patch_length)
        (y.frame.patch_length ∙ sym x.frame.patch_length) (x.frame.patch_header_is ∙ sym y.frame.patch_header_is) slot

    same_full : (length full ≡ 0) ⊎ ((length full ≡ page_at P (places P full)) × (places P full ≤ blocks patch)) → f ≡ g
    same_full (inl z) =
        cells_ext 0 0 0 f g (x.frame.full_length ∙ z) (y.frame.full_length ∙ sym x.frame.full_length)
        (part_none 0 f ∙ sym (part_none 0 g)) (λ c n. absurd (omega arith))
    same_full (inr l) =
        cells_ext full_head P (places P full) f g (x.frame.full_length ∙ l.0)
        (y.frame.full_length ∙ sym x.frame.full_length) (x.frame.full_header_is ∙ sym y.frame.full_header_is) place

-- The call

module _ (P : ℕ) (patch full : List ℕ) (K : ℕ) where
  pub cut_drops : (cut_outcome P patch full K).number ≡ 0
      → Dropped P patch full K (cut_outcome P patch full K).patch (cut_outcome P patch full K).full
  cut_drops e = rw (cut_done_is P _ patch full K e) (emptied_drops P patch full (cut_accepted P patch full K e).0.lengths K)

  pub cut_kept : ((cut_outcome P patch full K).number ≡ 0 → ⊥)
      → ((cut_outcome P patch full K).patch ≡ patch) × ((cut_outcome P patch full K).full ≡ full)
  cut_kept h =
      let e = cut_not P _ patch full K h in
      (ap (λ (o : CutOutcome). o.patch) e, ap (λ (o : CutOutcome). o.full) e)

  -- "K equal to n changes nothing"
  pub cut_nothing : (cut_outcome P patch full K).number ≡ 0 → K ≡ blocks patch
      → ((cut_outcome P patch full K).patch ≡ patch) × ((cut_outcome P patch full K).full ≡ full)
  cut_nothing e q =
      let a : AreasFit P patch full = (cut_accepted P patch full K e).0 in
      dropped_one P patch full K a.lengths _ _ patch full (cut_drops e)
      (record {
        frame = record { patch_length = refl; full_length = refl; patch_header_is = refl; full_header_is = refl };
        no_slots = λ b h n. absurd (omega arith);
        no_places = λ b h n. absurd (past a.lengths.full_length b h n);
        same_slots = λ b h. refl;
        same_places = λ b h. refl;
      })
    where
      past : (length full ≡ 0) ⊎ ((length full ≡ page_at P (places P full)) × (places P full ≤ blocks patch)) → (b : ℕ) → K ≤ b
          → b < places P full → ⊥
      past (inl z) b h n = omega (arith, none_in P (length full) z)
      past (inr l) b h n = omega (arith, l.1)

  module _ (e : (cut_outcome P patch full K).number ≡ 0) (b : ℕ) (base page : List ℕ) where
    -- "blocks K and up dropped": each reads as its base, whatever it held
    pub dropped_reads : PagesFit P base page → K ≤ b → b < blocks patch
        → read_outcome P (cut_outcome P patch full K).patch (cut_outcome P patch full K).full b base page ≡ read_done 0 (page_of P base)
    dropped_reads f h n =
        let d = cut_drops e in
        let a : AreasFit P patch full = (cut_accepted P patch full K e).0 in
        let g : FrameFits P (cut_outcome P patch full K).patch (cut_outcome P patch full K).full base page = record {
          pages = f;
          lengths = lengths_moved P patch full _ _ d.frame a.lengths;
          headers = headers_moved P patch full _ _ d.frame a.headers;
        } in
        reads_empty P (cut_outcome P patch full K).patch (cut_outcome P patch full K).full b base page g
        (rw d.frame.patch_length n) (d.no_slots b h n)

    -- and one below K as before
    pub kept_reads : b < K
        → read_outcome P (cut_outcome P patch full K).patch (cut_outcome P patch full K).full b base page
        ≡ read_outcome P patch full b base page
    kept_reads h =
        let d = cut_drops e in
        read_same P patch full _ _ b base page (frame_same P patch full _ _ d.frame base page) d.frame.patch_length
        d.frame.full_length (d.same_slots b h) (λ q. d.same_places b h)

-- With a lent map

pub cut_clears : (P : ℕ) (patch full map : List ℕ) (K : ℕ) → (cut_mapped_outcome P patch full map K).areas.number ≡ 0
    → PairsCleared map K (blocks patch) (cut_mapped_outcome P patch full map K).map
unfolding map_bytes
cut_clears P patch full map K e =
    let fits : map_bytes (blocks patch) ≤ length map = cut_fitting P patch full map K e in
    rw (map_done P patch full map K e) (pairs_cleared map K (blocks patch) (omega (arith, fits)))

-- Highest

module _ (P : ℕ) (patch : List ℕ) (e : (highest_numbers P patch).number ≡ 0) where
  done : highest_numbers P patch ≡ record { number = 0; blocks = extent (non_empty patch) (blocks_in (length patch)) }
  unfolding highest_numbers
  done = decided_done _ _ (first_of (highest_rows P patch)) (sym (highest_number P patch) ∙ e)

  -- one more than the highest block whose slot is not EMPTY
  pub highest_is : OneMore (NonEmpty patch) (blocks patch) (highest_numbers P patch).blocks
  highest_is =
      rw done
      (same_sort (λ b. non_empty patch b ≡ true) (NonEmpty patch) (blocks patch) (extent (non_empty patch) (blocks patch))
      (λ b l t q. true≢false (sym t ∙ ap not (same_true (slot_of patch b) empty_slot q)))
      (λ b l n. ap not (same_false (slot_of patch b) empty_slot n)) (extent_is (non_empty patch) (blocks patch)))
