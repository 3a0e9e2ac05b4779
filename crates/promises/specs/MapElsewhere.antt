-- A store from elsewhere, and the map that Build made of it. The request speaks of runs from fresh areas; a shop opens a store, builds its
-- map, and then lends it to every write and cut. So it is stated here too: from any areas that Build accepts, with the map that it left, any
-- run of writes and cuts that are lent the map ends with areas that Build accepts and with the map that it makes of them, and reads by it are
-- Read's. A write carries out any decision, whoever made it.
use Rattle.std.specs.Prelude.{ℕ, ◌<◌, ◌≡◌, refl, Bool, true, false, List, [], ◌∷◌, eqb, length, Ok}
use Rattle.std.proofs.Common.{sym, ap, ◌∙◌, arith, le-leb, eqb-true}
use Rattle.std.proofs.Math.Decide.{dec_lt}
use Rattle.std.proofs.lemmas.Bool.{eqb-false}
use Rattle.layout.specs.Sizes.{page_size}
use Rattle.layout.specs.Groups.{ordered}
use Rattle.layout.specs.FirstFaultLaws.{none_below}
use Rattle.slots.specs.Slots.{slot_numbers}
use Rattle.slots.specs.Meaning.{empty_numbers}
use Rattle.carrying.specs.Puts.{all}
use Rattle.store.specs.Block.{slot_of, place_of, slot_rows, full_rows, payload_rows}
use Rattle.building.specs.Build.{place_rows, block_fault, BuildOutcome, build_done}
use Rattle.building.specs.BuildLaws.{no_strays, block_empty, build_zero, build_done_is}
use Rattle.building.specs.BuildWords.{SoundFrame, PairsOf}
use Rattle.building.specs.BuildMeaningLaws.{frame_iff, pairs_are}
use Rattle.promises.specs.Words.{blocks, LengthsFit, HeadersFit}
use Rattle.promises.specs.FrameLaws.{lengths_moved, headers_moved}
use Rattle.promises.specs.StoreLaws.{both, StoredAt, carry_stored}
use Rattle.promises.specs.Kept.{carry_kept}
use Rattle.promises.specs.Runs.{run, write, wipe, left_cell}
use Rattle.promises.specs.RunWords.{Areas, read_at, Lent, Cut, Operation, outcome, taken, next, cut_taken, cut_next, after, accepted}
use Rattle.promises.specs.RunStore.{cell_at, store}
use Rattle.promises.specs.RunStoreLaws.{cell_here, cut_not_taken, drops, store_laws}
use Rattle.promises.specs.RunReads.{Held}
use Rattle.promises.specs.RunReadLaws.{left_held, held_fine}
use Rattle.promises.specs.RunBuild.{builds}
use Rattle.promises.specs.StandingLaws.{run_frame}
use Rattle.promises.specs.Beside.{run_with, taking_with}
use Rattle.promises.specs.MapWords.{Mapped, map_room, Long, build_into, read_by_map, after_with, accepted_with}
use Rattle.promises.specs.MapStore.{with, laid, beside}
use Rattle.promises.specs.MapStoreLaws.{laid_long, room_kept, beside_laws}
use Rattle.promises.specs.MapReading.{map_reads_as_read}
use Rattle.promises.specs.MapRunLaws.{laid_part, laid_twice}

-- areas in which Build finds no fault
record Fine (P : ℕ) (s : Areas) : Type 0 where
  pub lengths : LengthsFit P s.patch s.full
  pub headers : HeadersFit P s.patch s.full
  pub sound : (b : ℕ) → b < blocks s.patch → block_fault P s.patch s.full b ≡ 0

-- a block's fault is a matter of its slot, its place and m
same_block : (P : ℕ) (patch full patch' full' : List ℕ) (b : ℕ) → slot_of patch' b ≡ slot_of patch b → length full' ≡ length full
    → place_of P full' b ≡ place_of P full b → block_fault P patch' full' b ≡ block_fault P patch full b
unfolding block_fault ordered slot_rows full_rows payload_rows place_rows
same_block P patch full patch' full' b e f g = rw (e, f, g)

-- A write leaves none

module _ (P : ℕ) (s : Areas) (w : Lent) (fine : Fine P s) where
  module _ (e : taken P s w ≡ true) where
    done : StoredAt P w.block w.decision (both w.decision) s (next P s w)
    done = carry_stored P s.patch s.full w.block w.decision (eqb-true (outcome P s w).number 0 e)

    held : Held P (next P s w).full w.block (cell_at P (next P s w) w.block)
    held =
        rw (cell_here P s w e)
        (left_held P (next P s w) w.block _
        (left_cell w (ap (λ (f : Areas). taken P f w) ((store_laws P).frame_kept s (write w)) ∙ sym ((store_laws P).by_frame s (write w)) ∙ e)
        refl))

    other : (b : ℕ) → (b ≡ w.block → ⊥) → block_fault P (next P s w).patch (next P s w).full b ≡ block_fault P s.patch s.full b
    other b d = same_block P s.patch s.full (next P s w).patch (next P s w).full b (done.other_slots b d) done.frame.full_length
        (done.other_places b d)

    sound_next : (b : ℕ) → b < blocks (next P s w).patch → block_fault P (next P s w).patch (next P s w).full b ≡ 0
    sound_next b h = go (eqb b w.block) refl
      where
        go : (t : Bool) → eqb b w.block ≡ t → block_fault P (next P s w).patch (next P s w).full b ≡ 0
        go true q =
            let r : b ≡ w.block = eqb-true b w.block q in
            ap (block_fault P (next P s w).patch (next P s w).full) r
            ∙ held_fine P (next P s w) w.block (rw r at h) held
        go false q = other b (eqb-false b w.block q) ∙ fine.sound b (rw done.frame.patch_length at h)

  fine_next : Fine P (next P s w)
  fine_next = go (taken P s w) refl
    where
      go : (t : Bool) → taken P s w ≡ t → Fine P (next P s w)
      go true e =
          record {
            lengths = lengths_moved P _ _ _ _ (done e).frame fine.lengths;
            headers = headers_moved P _ _ _ _ (done e).frame fine.headers;
            sound = sound_next e;
          }
      go false e =
          let kept = carry_kept P s.patch s.full w.block w.decision all (eqb-false (outcome P s w).number 0 e) in
          rw (kept.0, kept.1) fine

-- and neither does a cut: what it drops is EMPTY, and its place is clean
fine_cut : (P : ℕ) (s : Areas) (K : Cut) → Fine P s → Fine P (cut_next P s K)
fine_cut P s K fine = go (cut_taken P s K) refl
  where
    sound_cut : cut_taken P s K ≡ true → (b : ℕ) → b < blocks s.patch → block_fault P (cut_next P s K).patch (cut_next P s K).full b ≡ 0
    sound_cut e b h =
        let d = drops P s K e in
        elim (dec_lt b K) [
          | yes l ↦
              same_block P s.patch s.full (cut_next P s K).patch (cut_next P s K).full b (d.same_slots b l) d.frame.full_length
              (d.same_places b l)
              ∙ fine.sound b h
          | no l ↦
              block_empty P (cut_next P s K).patch (cut_next P s K).full b
              (ap slot_numbers (d.no_slots b (omega arith) h) ∙ empty_numbers)
              ∙ no_strays P (cut_next P s K).full b (λ m. d.no_places b (omega arith) (rw d.frame.full_length at m))
        ]

    go : (t : Bool) → cut_taken P s K ≡ t → Fine P (cut_next P s K)
    go true e =
        record {
          lengths = lengths_moved P _ _ _ _ (drops P s K e).frame fine.lengths;
          headers = headers_moved P _ _ _ _ (drops P s K e).frame fine.headers;
          sound = λ b h. sound_cut e b (rw (drops P s K e).frame.patch_length at h);
        }
    go false e = rw (cut_not_taken P s K e) fine

fine_after : (P : ℕ) (s : Areas) → Fine P s → (os : List Operation) → Fine P (after P s os)
unfolding run
fine_after P s fine [] = fine
fine_after P s fine (write w ∷ os) = fine_after P (next P s w) (fine_next P s w fine) os
fine_after P s fine (wipe K ∷ os) = fine_after P (cut_next P s K) (fine_cut P s K fine) os

-- What Build accepts

module _ (P : ℕ) (s : Areas) (map : List ℕ) (accepts : (build_into P s map).number ≡ 0) where
  frame : SoundFrame P s.patch s.full map
  frame = (frame_iff P s.patch s.full map).0 (build_zero P s.patch s.full map accepts).0

  fine : Fine P s
  fine =
      record {
        lengths = record {
          patch_length = frame.patch_length;
          not_above = frame.most;
          full_length = frame.full_length;
        };
        headers = record { patch_header_is = frame.patch_header_is; full_header_is = frame.full_header_is };
        sound = (none_below (block_fault P s.patch s.full) (blocks s.patch)).0 (build_zero P s.patch s.full map accepts).1;
      }

  -- the map that it left
  left : build_into P s map ≡ build_done (laid s map)
  left =
      let clear = build_zero P s.patch s.full map accepts in
      build_done_is P s.patch s.full map clear.0 clear.1

  fits : (beside P).fits ((store P).frame s) map ≡ true
  fits = le-leb _ (length map) (rw (room_kept P s) frame.buffer)

  module _ (os : List Operation) where
    pub run_elsewhere : after_with P (with s (build_into P s map).map) os ≡ with (after P s os) (laid (after P s os) map)
    run_elsewhere = rw left (run_with (store P) (beside P) (store_laws P) (beside_laws P) s map fits os)

    pub accepted_elsewhere : accepted_with P (with s (build_into P s map).map) os ≡ accepted P s os
    accepted_elsewhere = rw left (taking_with (store P) (beside P) (store_laws P) (beside_laws P) s map fits os)

    long : Long (after P s os) map
    long =
        rw (sym (room_kept P (after P s os)) ∙ ap map_room (run_frame (store P) (store_laws P) s os) ∙ room_kept P s) frame.buffer

    built : build_into P (after P s os) (laid (after P s os) map) ≡ build_done (laid (after P s os) map)
    built =
        let f : Fine P (after P s os) = fine_after P s fine os in
        builds P (after P s os).patch (after P s os).full f.sound f.lengths f.headers (laid (after P s os) map)
        (laid_long (after P s os) map long)
        ∙ ap build_done (laid_twice (after P s os) map long)

    pub built_elsewhere : build_into P (after_with P (with s (build_into P s map).map) os).areas
        (after_with P (with s (build_into P s map).map) os).map ≡ build_done (after_with P (with s (build_into P s map).map) os).map
    built_elsewhere = rw run_elsewhere built

    pub reads_elsewhere : (b : ℕ) (base page : List ℕ) → read_by_map P (after_with P (with s (build_into P s map).map) os) b base page
        ≡ read_at P (after P s os) b base page
    reads_elsewhere b base page =
        rw run_elsewhere
        (map_reads_as_read P (after P s os).patch (after P s os).full (laid (after P s os) map)
        (ap (λ (o : BuildOutcome). o.number) built) (laid (after P s os) map) (laid_part (after P s os) map long) b base page)

-- From any areas that Build accepts, with the map that it left

module _ (s : Areas) (map : List ℕ) (accepts : (build_into page_size s map).number ≡ 0) (os : List Operation) where
  abbrev pub opened : Mapped
  opened = with s (build_into page_size s map).map

  -- the map changes nothing of the run
  pub same_from_elsewhere : (accepted_with page_size opened os ≡ accepted page_size s os)
      × ((after_with page_size opened os).areas ≡ after page_size s os)
  same_from_elsewhere = (
    accepted_elsewhere page_size s map accepts os,
    ap (λ (x : Mapped). x.areas) (run_elsewhere page_size s map accepts os),
  )

  -- Build accepts what the run leaves, and changes no byte of the map
  pub built_from_elsewhere : build_into page_size (after_with page_size opened os).areas (after_with page_size opened os).map
      ≡ build_done (after_with page_size opened os).map
  built_from_elsewhere = built_elsewhere page_size s map accepts os

  -- so each pair says what its block's slot is,
  pub pairs_from_elsewhere : PairsOf (after_with page_size opened os).areas.patch (after_with page_size opened os).map
  pairs_from_elsewhere =
      pairs_are page_size (after_with page_size opened os).areas.patch (after_with page_size opened os).areas.full
      (after_with page_size opened os).map (Ok tt) (after_with page_size opened os).map
      (record {
        numbers = sym (ap (λ (o : BuildOutcome). record { number = o.number; block = o.block; offset = o.offset }) built_from_elsewhere);
        bytes = sym (ap (λ (o : BuildOutcome). o.map) built_from_elsewhere);
      }) refl

  -- and a read by the map is Read, whole
  pub reads_from_elsewhere : (b : ℕ) (base page : List ℕ)
      → read_by_map page_size (after_with page_size opened os) b base page ≡ read_at page_size (after_with page_size opened os).areas b base page
  reads_from_elsewhere b base page =
      reads_elsewhere page_size s map accepts os b base page
      ∙ ap (λ (t : Areas). read_at page_size t b base page) (sym same_from_elsewhere.1)
