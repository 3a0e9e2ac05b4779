-- What Sweep leaves, in the words of the request; and that it does no harm: blocks read as before, and Build finds no stray bytes afterwards.
use Rattle.std.specs.Prelude.{ℕ, zero, suc, ◌≤◌, ◌<◌, ◌≡◌, Bool, ◌&&◌, ◌⊎◌, List, leb, ltb, length}
use Rattle.std.proofs.Common.{arith, sym, ap, ◌∙◌, true≢false, inl, inr, eq-eqb, ne_eqb, eqb-true, lt-ltb}
use Rattle.std.proofs.Math.Decide.{dec_lt}
use Rattle.std.proofs.Math.Path.{refl}
use Rattle.std.proofs.Math.Bool.{true, false, not, cond}
use Rattle.span.specs.Bytes.{zeros, same}
use Rattle.span.specs.Laws.{part_none, same_is}
use Rattle.layout.specs.Sizes.{full_head, page_at}
use Rattle.layout.specs.Refusals.{first_of}
use Rattle.layout.specs.FirstFaultLaws.{number_among, none_below}
use Rattle.slots.specs.Slots.{full_slot, SlotNumbers, slot_numbers, sound_slot, payload_of}
use Rattle.blockmap.specs.Pairs.{map_bytes}
use Rattle.blockmap.specs.CallLaws.{not_fits}
use Rattle.store.specs.Block.{slot_of, place_of}
use Rattle.store.specs.FrameLaws.{none_in}
use Rattle.payload.specs.Entries.{sound}
use Rattle.reading.specs.Read.{read_outcome}
use Rattle.building.specs.Build.{block_fault, build_fault, build_rows, build_outcome}
use Rattle.building.specs.Steps.{strays_in}
use Rattle.building.specs.BuildLaws.{no_strays, block_empty, block_patch, block_payload, block_full, block_full_none, block_unsound}
use Rattle.building.specs.BuildLaws.{frame_none, build_frame, build_either, build_zero}
use Rattle.building.specs.Given.{frame_other}
use Rattle.sweeping.specs.Sweep.{refers, SweepOutcome, sweep_outcome}
use Rattle.sweeping.specs.SweepLaws.{sweep_done_is, sweep_not}
use Rattle.sweeping.specs.ZeroedLaws.{Within, zeroed_length, zeroed_head, zeroed_kept, zeroed_cleared}
use Rattle.promises.specs.Words.{blocks, places, LengthsFit, AreasFit, SameFrame, SoundSlot}
use Rattle.promises.specs.AreaLaws.{areas_some}
use Rattle.promises.specs.FrameLaws.{tells_lengths, headers_fit, frame_same, lengths_moved, headers_moved}
use Rattle.promises.specs.Tables.{read_same}
use Rattle.promises.specs.Cells.{cell_within, cells_ext}
use Rattle.promises.specs.StoreLaws.{place_cells, place_past}
use Rattle.promises.specs.SlotLaws.{Sort, of_empty, of_patch, of_full, of_none, sort_of, full_kind_is, empty_not_full, patch_not_full}
use Rattle.promises.specs.SweepWords.{SlotRight, SweepGives, SweptFrom}
use Rattle.promises.specs.SweepTables.{wrong_some, sweep_table}

-- the test of the definition is that of the words
refers_full : (patch : List ℕ) (b : ℕ) → slot_of patch b ≡ full_slot → refers patch b ≡ true
refers_full patch b e = eq-eqb (slot_numbers (slot_of patch b)).kind 2 ((full_kind_is (slot_of patch b)).1 e)

pub refers_other : (patch : List ℕ) (b : ℕ) → (slot_of patch b ≡ full_slot → ⊥) → refers patch b ≡ false
refers_other patch b h = ne_eqb (slot_numbers (slot_of patch b)).kind 2 (λ k. h ((full_kind_is (slot_of patch b)).0 k))

-- every place lies in an area whose lengths fit
pub places_within : (P : ℕ) (patch full : List ℕ) → LengthsFit P patch full → Within P (places P full) full
places_within P patch full h b l = cell_within full full_head P (places P full) (place_cells P patch full h b l) b l

-- there is one such area
pub swept_one : (P : ℕ) (patch full f g : List ℕ) → LengthsFit P patch full → SweptFrom P patch full f → SweptFrom P patch full g → f ≡ g
unfolding place_of
swept_one P patch full f g fits x y = go fits.full_length
  where
    place : (b : ℕ) → b < places P full → (t : Bool) → refers patch b ≡ t → place_of P f b ≡ place_of P g b
    place b l true e =
        let q : slot_of patch b ≡ full_slot = (full_kind_is (slot_of patch b)).0 (eqb-true (slot_numbers (slot_of patch b)).kind 2 e) in
        x.kept b l q ∙ sym (y.kept b l q)
    place b l false e =
        let q : slot_of patch b ≡ full_slot → ⊥ = λ q. true≢false (sym (refers_full patch b q) ∙ e) in
        x.zeroed b l q ∙ sym (y.zeroed b l q)

    go : (length full ≡ 0) ⊎ ((length full ≡ page_at P (places P full)) × (places P full ≤ blocks patch)) → f ≡ g
    go (inl z) =
        cells_ext 0 0 0 f g (x.same_length ∙ z) (y.same_length ∙ sym x.same_length) (part_none 0 f ∙ sym (part_none 0 g))
        (λ c n. absurd (omega arith))
    go (inr l) =
        cells_ext full_head P (places P full) f g (x.same_length ∙ l.0) (y.same_length ∙ sym x.same_length)
        (x.same_header ∙ sym y.same_header) (λ c n. place c n (refers patch c) refl)

module _ (P : ℕ) (patch full : List ℕ) where
  pub sweep_fits : (sweep_outcome P patch full).number ≡ 0 → AreasFit P patch full
  sweep_fits e = go ((sweep_table P patch full 0).0 e)
    where
      go : SweepGives P patch full 0 → AreasFit P patch full
      go (SweepGives.frame r) = absurd (areas_some P patch full r refl)
      go (SweepGives.lowest h b l x lower) = h
      go (SweepGives.done h right) = h

  pub sweep_kept : ((sweep_outcome P patch full).number ≡ 0 → ⊥) → (sweep_outcome P patch full).full ≡ full
  sweep_kept h = ap (λ (o : SweepOutcome). o.full) (sweep_not P patch full h)

  -- accepted: every place whose slot is not FULL_REF is zeros, and no other byte is changed
  pub sweeps : (sweep_outcome P patch full).number ≡ 0 → SweptFrom P patch full (sweep_outcome P patch full).full
  unfolding place_of
  sweeps e =
      let w : Within P (places P full) full = places_within P patch full (sweep_fits e).lengths in
      rw (sweep_done_is P patch full e)
      (record {
        same_length = zeroed_length (refers patch) P full (places P full) w;
        same_header = zeroed_head (refers patch) P full (places P full) w;
        zeroed = λ b l n. zeroed_cleared (refers patch) P full (places P full) w b l (refers_other patch b n);
        kept = λ b l q. zeroed_kept (refers patch) P full (places P full) w b (w b l) (refers_full patch b q);
      })

  frame : (sweep_outcome P patch full).number ≡ 0 → SameFrame patch full patch (sweep_outcome P patch full).full
  frame e =
      let w = sweeps e in
      record { patch_length = refl; full_length = w.same_length; patch_header_is = refl; full_header_is = w.same_header }

  -- every block reads as before, accepted or not, over any base and into any page
  pub sweep_reads : (b : ℕ) (base page : List ℕ)
      → read_outcome P patch (sweep_outcome P patch full).full b base page ≡ read_outcome P patch full b base page
  sweep_reads b base page = go (sweep_outcome P patch full).number refl
    where
      -- a FULL_REF slot that a sweep accepts has its place
      place : (sweep_outcome P patch full).number ≡ 0 → slot_of patch b ≡ full_slot
          → place_of P (sweep_outcome P patch full).full b ≡ place_of P full b
      place e q =
          elim (dec_lt b (places P full)) [
            | yes l ↦ (sweeps e).kept b l q
            | no l ↦
                let f = (sweep_fits e).lengths in
                place_past P patch (sweep_outcome P patch full).full (lengths_moved P patch full _ _ (frame e) f) b
                (rw (sweeps e).same_length (omega arith))
                ∙ sym (place_past P patch full f b (omega arith))
          ]

      go : (k : ℕ) → (sweep_outcome P patch full).number ≡ k
          → read_outcome P patch (sweep_outcome P patch full).full b base page ≡ read_outcome P patch full b base page
      go zero e =
          read_same P patch full _ _ b base page (frame_same P patch full _ _ (frame e) base page) refl (sweeps e).same_length refl (place e)
      go (suc k) e = ap (λ (f : List ℕ). read_outcome P patch f b base page) (sweep_kept (λ z. omega (arith, e, z)))

  -- an area with nothing to be swept is not changed
  pub swept_clean : (sweep_outcome P patch full).number ≡ 0
      → ((b : ℕ) → b < places P full → (slot_of patch b ≡ full_slot → ⊥) → place_of P full b ≡ zeros P)
      → (sweep_outcome P patch full).full ≡ full
  swept_clean e clean =
      swept_one P patch full _ full (sweep_fits e).lengths (sweeps e)
      (record { same_length = refl; same_header = refl; zeroed = clean; kept = λ b l q. refl })

-- sweeping again gives the same number and changes nothing
pub sweep_again : (P : ℕ) (patch full : List ℕ)
    → sweep_outcome P patch (sweep_outcome P patch full).full ≡ sweep_outcome P patch full
sweep_again P patch full = go (sweep_outcome P patch full).number refl
  where
    right : SameFrame patch full patch (sweep_outcome P patch full).full → (b : ℕ) → SlotRight P patch full b
        → SlotRight P patch (sweep_outcome P patch full).full b
    right f b r = record { sound = r.sound; there = λ q. rw f.full_length (r.there q) }

    again : (e : (sweep_outcome P patch full).number ≡ 0) → SweepGives P patch full 0 → SweepGives P patch (sweep_outcome P patch full).full 0
    again e (SweepGives.frame r) = absurd (areas_some P patch full r refl)
    again e (SweepGives.lowest h b l x lower) = absurd (wrong_some x refl)
    again e (SweepGives.done h rights) =
        let f = frame P patch full e in
        SweepGives.done (record { lengths = lengths_moved P patch full _ _ f h.lengths; headers = headers_moved P patch full _ _ f h.headers })
        (λ b l. right f b (rights b l))

    go : (k : ℕ) → (sweep_outcome P patch full).number ≡ k
        → sweep_outcome P patch (sweep_outcome P patch full).full ≡ sweep_outcome P patch full
    go zero e =
        let z : (sweep_outcome P patch (sweep_outcome P patch full).full).number ≡ 0 =
        (sweep_table P patch (sweep_outcome P patch full).full 0).1 (again e ((sweep_table P patch full 0).0 e)) in
        let same = swept_clean P patch (sweep_outcome P patch full).full z
        (λ b l n. (sweeps P patch full e).zeroed b (rw (sweeps P patch full e).same_length at l) n) in
        λ i. record { number = (z ∙ sym e) i; full = same i }
    go (suc k) e = ap (λ (f : List ℕ). sweep_outcome P patch f) (sweep_kept P patch full (λ z. omega (arith, e, z)))

-- Build

-- after an accepted sweep no block has stray bytes
no_ten : (P : ℕ) (patch full : List ℕ) → ((b : ℕ) → b < places P full → (slot_of patch b ≡ full_slot → ⊥) → place_of P full b ≡ zeros P)
    → (b : ℕ) → block_fault P patch full b ≡ 10 → ⊥
no_ten P patch full clean b = go (sort_of (slot_of patch b)) refl
  where
    strays : (slot_of patch b ≡ full_slot → ⊥) → strays_in P full b ≡ 0
    strays n = no_strays P full b (λ l. clean b l n)

    payload : (n : ℕ) → slot_numbers (slot_of patch b) ≡ sound_slot 1 n → (slot_of patch b ≡ full_slot → ⊥) → (t : Bool)
        → sound P (payload_of (slot_of patch b)) ≡ t → block_fault P patch full b ≡ 10 → ⊥
    payload n s q true u e = omega (arith, e, block_patch P patch full b n s u ∙ strays q)
    payload n s q false u e = omega (arith, e, block_payload P patch full b n s u)

    go : {x : SlotNumbers} → Sort (slot_of patch b) x → slot_numbers (slot_of patch b) ≡ x → block_fault P patch full b ≡ 10 → ⊥
    go (of_empty q) s e = omega (arith, e, block_empty P patch full b s ∙ strays (empty_not_full (slot_of patch b) q))
    go (of_patch p q r) s e =
        payload _ s (patch_not_full (slot_of patch b) p q) (sound P (payload_of (slot_of patch b))) refl e
    go (of_full q) s e =
        elim (dec_lt b (places P full)) [
          | yes l ↦ omega (arith, e, block_full P patch full b s l)
          | no l ↦ omega (arith, e, block_full_none P patch full b s (omega arith))
        ]
    go (of_none u) s e = omega (arith, e, block_unsound P patch full b s)

pub swept_builds : (P : ℕ) (patch full map : List ℕ) → (sweep_outcome P patch full).number ≡ 0
    → (build_outcome P patch (sweep_outcome P patch full).full map).number ≡ 10 → ⊥
swept_builds P patch full map e q = go (build_either P patch (sweep_outcome P patch full).full map 10 q)
  where
    clean : (b : ℕ) → b < places P (sweep_outcome P patch full).full → (slot_of patch b ≡ full_slot → ⊥)
        → place_of P (sweep_outcome P patch full).full b ≡ zeros P
    clean b l n = (sweeps P patch full e).zeroed b (rw (sweeps P patch full e).same_length at l) n

    go : (first_of (build_rows P patch (sweep_outcome P patch full).full map) ≡ 10)
        ⊎ ((build_fault P patch (sweep_outcome P patch full).full).number ≡ 10) → ⊥
    go (inl x) = frame_other P patch (sweep_outcome P patch full).full map 9 (omega arith) (λ z. omega arith) x
    go (inr x) =
        number_among (block_fault P patch (sweep_outcome P patch full).full) (λ k. k ≡ 10 → ⊥) (λ z. omega arith)
        (no_ten P patch (sweep_outcome P patch full).full clean) 0 (blocks patch) x

-- Areas that Build accepts are accepted and not changed at all

module _ (P : ℕ) (patch full : List ℕ) (b : ℕ) (e : block_fault P patch full b ≡ 0) where
  fine_right : SlotRight P patch full b
  fine_right = go (sort_of (slot_of patch b)) refl
    where
      other : SoundSlot (slot_of patch b) → (slot_of patch b ≡ full_slot → ⊥) → SlotRight P patch full b
      other s n = record { sound = s; there = λ q. absurd (n q) }

      go : {x : SlotNumbers} → Sort (slot_of patch b) x → slot_numbers (slot_of patch b) ≡ x → SlotRight P patch full b
      go (of_empty q) s = other (SoundSlot.empty q) (empty_not_full (slot_of patch b) q)
      go (of_patch p q r) s = other (SoundSlot.patch p q) (patch_not_full (slot_of patch b) p q)
      go (of_full q) s =
          elim (dec_lt b (places P full)) [
            | yes l ↦ record { sound = SoundSlot.full q; there = λ z. l }
            | no l ↦ absurd (omega (arith, e, block_full_none P patch full b s (omega arith)))
          ]
      go (of_none u) s = absurd (omega (arith, e, block_unsound P patch full b s))

  fine_clean : b < places P full → (slot_of patch b ≡ full_slot → ⊥) → place_of P full b ≡ zeros P
  unfolding strays_in
  fine_clean l n = go (sort_of (slot_of patch b)) refl
    where
      zero_place : (t : Bool) → same (place_of P full b) (zeros P) ≡ t → cond {A = ℕ} (ltb b (places P full) && not t) 10 0 ≡ 0
          → place_of P full b ≡ zeros P
      zero_place true q z = same_is (place_of P full b) (zeros P) q
      zero_place false q z = absurd (omega (arith, rw (lt-ltb b (places P full) l) at z))

      strays : strays_in P full b ≡ 0 → place_of P full b ≡ zeros P
      strays z = zero_place (same (place_of P full b) (zeros P)) refl z

      payload : (k : ℕ) → slot_numbers (slot_of patch b) ≡ sound_slot 1 k → (t : Bool) → sound P (payload_of (slot_of patch b)) ≡ t
          → place_of P full b ≡ zeros P
      payload k s true u = strays (sym (block_patch P patch full b k s u) ∙ e)
      payload k s false u = absurd (omega (arith, e, block_payload P patch full b k s u))

      go : {x : SlotNumbers} → Sort (slot_of patch b) x → slot_numbers (slot_of patch b) ≡ x → place_of P full b ≡ zeros P
      go (of_empty q) s = strays (sym (block_empty P patch full b s) ∙ e)
      go (of_patch p q r) s = payload _ s (sound P (payload_of (slot_of patch b))) refl
      go (of_full q) s = absurd (n q)
      go (of_none u) s = absurd (omega (arith, e, block_unsound P patch full b s))

pub built_unswept : (P : ℕ) (patch full map : List ℕ) → (build_outcome P patch full map).number ≡ 0
    → ((sweep_outcome P patch full).number ≡ 0) × ((sweep_outcome P patch full).full ≡ full)
built_unswept P patch full map e =
    let z = build_zero P patch full map e in
    let fits : Bool = leb (map_bytes (blocks patch)) (length map) in
    let f = frame_none P patch full fits
    (sym (build_frame P patch full map fits (not_fits (map_bytes (blocks patch)) (length map))) ∙ z.0) in
    let fine : (b : ℕ) → b < blocks patch → block_fault P patch full b ≡ 0 = (none_below (block_fault P patch full) (blocks patch)).0 z.1 in
    let lengths : LengthsFit P patch full = (tells_lengths P patch full).0 f.0 in
    let done : (sweep_outcome P patch full).number ≡ 0 = (sweep_table P patch full 0).1
    (SweepGives.done (record { lengths = lengths; headers = (headers_fit P patch full).0 f.2 }) (λ b l. fine_right P patch full b (fine b l))) in
    (done, swept_clean P patch full done (λ b l n. fine_clean P patch full b (fine b (below lengths b l)) l n))
  where
    below : LengthsFit P patch full → (b : ℕ) → b < places P full → b < blocks patch
    below h b l = go h.full_length
      where
        go : (length full ≡ 0) ⊎ ((length full ≡ page_at P (places P full)) × (places P full ≤ blocks patch)) → b < blocks patch
        go (inl z) = absurd (omega (arith, l, none_in P (length full) z))
        go (inr q) = omega (arith, q.1)
