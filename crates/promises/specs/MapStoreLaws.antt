-- A write or a cut that is lent the built map leaves the built map.
use Prim.Native.Nat.{ℕ, ◌+◌, ◌-◌, ◌*◌, ◌/◌, ◌≤◌, ◌<◌}
use Rattle.std.proofs.Common.{arith, sym, ◌∙◌}
use Rattle.std.specs.Prelude.{◌≡◌, refl, Bool, cond, eqb, leb}
use Rattle.std.proofs.Math.Path.{ap}
use Rattle.std.proofs.Math.Bool.{true, false}
use mathlib.Core.List.{List}
use Rattle.std.proofs.Math.ListN.{length}
use borrow.Author.Tests.{leb-true, leb-false, le-leb, lt-leb, ne_eqb, eqb-true, eqb-false}
use Rattle.std.proofs.Math.Decide.{dec_lt}
use Rattle.span.specs.Bytes.{splice}
use Rattle.layout.specs.Sizes.{patch_head}
use Rattle.layout.specs.Lengths.{blocks_in}
use Rattle.slots.specs.Slots.{SlotNumbers, slot_numbers}
use Rattle.slots.specs.Meaning.{empty_numbers}
use Rattle.blockmap.specs.Pairs.{map_bytes}
use Rattle.blockmap.specs.Pack.{pair_of, packed, set_pair, clear_pairs}
use Rattle.blockmap.specs.PackLaws.{packed_same}
use Rattle.blockmap.specs.SetLaws.{put_at, set_laid, set_packed}
use Rattle.blockmap.specs.ClearLaws.{none_from, clear_laid, clear_packed}
use Rattle.store.specs.Block.{slot_of}
use Rattle.carrying.specs.Puts.{all}
use Rattle.carrying.specs.CarryOut.{CarryOutcome}
use Rattle.carrying.specs.CarryLaws.{map_done, map_not}
use Rattle.cutting.specs.Cut.{CutOutcome}
use Rattle.cutting.specs.CutLaws.{map_done as cut_map_done, map_not as cut_map_not}
use Rattle.building.specs.Build.{built_map}
use Rattle.building.specs.MapLaws.{laid_length, built_length}
use Rattle.promises.specs.Words.{blocks}
use Rattle.span.specs.EmptiedLaws.{emptied_length}
use Rattle.promises.specs.CarryTables.{mapped_as_carry, carry_fitting}
use Rattle.promises.specs.StoreLaws.{both, StoredAt, slot_anew, carry_stored}
use Rattle.promises.specs.Kept.{carry_kept, carry_mapped_kept, cut_mapped_kept}
use Rattle.promises.specs.MapTables.{reaches, fit_numbers}
use Rattle.promises.specs.CutTables.{cut_accepted, mapped_as_cut, cut_fitting}
use Rattle.promises.specs.Runs.{write, wipe}
use Rattle.promises.specs.RunWords.{Areas, Lent, Cut, outcome, cutting, taken, next, cut_taken, cut_next}
use Rattle.promises.specs.RunStore.{store}
use Rattle.promises.specs.RunStoreLaws.{accepted_write, accepted_cut, cut_not_taken, drops}
use Rattle.promises.specs.Beside.{BesideLaws}
use Rattle.promises.specs.MapWords.{map_room, Long, mapped, cut_mapped, takes_with_by, does_with_by}
use Rattle.promises.specs.MapStore.{with, laid, beside}

-- a map that is long enough is so with the built one laid over it
pub laid_long : (s : Areas) (map : List ℕ) → Long s map → Long s (laid s map)
laid_long s map long =
    let l : length (laid s map) ≡ length map =
    laid_length map (built_map s.patch) (let q = built_length s.patch in omega (arith, q, long)) in
    omega (arith, l, long)

-- The built map after a write

module _ (P : ℕ) (s : Areas) (w : Lent) (e : taken P s w ≡ true) where
  done : StoredAt P w.block w.decision (both w.decision) s (next P s w)
  done = carry_stored P s.patch s.full w.block w.decision (eqb-true (outcome P s w).number 0 e)

  slot_kind : (slot_numbers (slot_of (outcome P s w).patch w.block)).kind ≡ w.decision.kind
  slot_kind =
      ap (λ (l : List ℕ). (slot_numbers l).kind) (done.slot_is ∙ slot_anew w.decision (slot_of s.patch w.block))
      ∙ (fit_numbers P w.decision (accepted_write P s w e).fit).1

  -- it is the one before it, with the block's own pair set
  built_next : set_pair (built_map s.patch) w.block (pair_of w.decision.kind) ≡ built_map (next P s w).patch
  unfolding built_map
  built_next =
      set_packed before n w.block v (accepted_write P s w e).below
      ∙ packed_same (put_at before w.block v) after n (λ c h. pair c (eqb c w.block) refl)
      ∙ ap (λ (l : ℕ). packed after (blocks_in l)) (sym done.frame.patch_length)
    where
      n : ℕ
      n = blocks s.patch

      v : ℕ
      v = pair_of w.decision.kind

      before : ℕ → ℕ
      before c = pair_of (slot_numbers (slot_of s.patch c)).kind

      after : ℕ → ℕ
      after c = pair_of (slot_numbers (slot_of (outcome P s w).patch c)).kind

      pair : (c : ℕ) (t : Bool) → eqb c w.block ≡ t → cond (eqb c w.block) v (before c) ≡ after c
      pair c true q =
          let r : c ≡ w.block = eqb-true c w.block q in
          rw q (ap pair_of (sym (ap (λ (i : ℕ). (slot_numbers (slot_of (outcome P s w).patch i)).kind) r ∙ slot_kind)))
      pair c false q =
          rw q (ap (λ (l : List ℕ). pair_of (slot_numbers l).kind) (sym (done.other_slots c (eqb-false c w.block q))))

-- One write

module _ (P : ℕ) (s : Areas) (map : List ℕ) (w : Lent) where
  module _ (long : Long s map) where
    same : (mapped P (with s (laid s map)) w).areas ≡ outcome P s w
    same = mapped_as_carry P s.patch s.full (laid s map) w.block w.decision (laid_long s map long)

    same_taken : takes_with_by (mapped P) (cut_mapped P) (with s (laid s map)) (write w) ≡ taken P s w
    same_taken = ap (λ (o : CarryOutcome). eqb o.number 0) same

    map_next : (t : Bool) → taken P s w ≡ t → (mapped P (with s (laid s map)) w).map ≡ laid (next P s w) map
    map_next true e =
        let n : (mapped P (with s (laid s map)) w).areas.number ≡ 0 = ap (λ (o : CarryOutcome). o.number) same
        ∙ eqb-true (outcome P s w).number 0 e in
        let l : length (built_map s.patch) ≡ map_bytes (blocks s.patch) = built_length s.patch in
        let b : w.block < blocks s.patch = (accepted_write P s w e).below in
        let own_byte : w.block / 4 < length (built_map s.patch) =
        reaches (blocks s.patch) w.block (length (built_map s.patch)) (omega arith) b in
        map_done P s.patch s.full (laid s map) w.block w.decision all n
        ∙ set_laid map (built_map s.patch) w.block (pair_of w.decision.kind) own_byte
        ∙ ap (λ (x : List ℕ). splice map 0 x) (built_next P s w e)
    map_next false e =
        let h : (outcome P s w).number ≡ 0 → ⊥ = eqb-false (outcome P s w).number 0 e in
        map_not P s.patch s.full (laid s map) w.block w.decision all
        (λ q. h (sym (ap (λ (o : CarryOutcome). o.number) same) ∙ q))
        ∙ ap (λ (x : List ℕ). splice map 0 (built_map x)) (sym (carry_kept P s.patch s.full w.block w.decision all h).0)

    moved : does_with_by (mapped P) (cut_mapped P) (with s (laid s map)) (write w) ≡ with (next P s w) (laid (next P s w) map)
    moved = λ i. with (record { patch = (same i).patch; full = (same i).full }) (map_next (taken P s w) refl i)

  -- a map that is too short
  module _ (short : length map < map_room s) where
    refuses : (mapped P (with s map) w).areas.number ≡ 0 → ⊥
    refuses e = omega (arith, short, carry_fitting P s.patch s.full map w.block w.decision e)

    pub not_taken_short : takes_with_by (mapped P) (cut_mapped P) (with s map) (write w) ≡ false
    not_taken_short = ne_eqb (mapped P (with s map) w).areas.number 0 refuses

    pub nothing_short : does_with_by (mapped P) (cut_mapped P) (with s map) (write w) ≡ with s map
    nothing_short =
        let k = carry_mapped_kept P s.patch s.full map w.block w.decision all refuses in
        λ i. with (record { patch = k.0 i; full = k.1 i }) (k.2 i)

-- The built map after a cut: the one before it, with the pairs of the blocks that were dropped cleared

built_cut : (P : ℕ) (s : Areas) (K : Cut) → cut_taken P s K ≡ true
    → clear_pairs (built_map s.patch) K (blocks s.patch - K) ≡ built_map (cut_next P s K).patch
unfolding built_map pair_of
built_cut P s K e =
    clear_packed before n K most
    ∙ packed_same (none_from before K) after n pair
    ∙ ap (λ (l : ℕ). packed after (blocks_in l)) (sym (drops P s K e).frame.patch_length)
  where
    n : ℕ
    n = blocks s.patch

    most : K ≤ blocks s.patch
    most = (cut_accepted P s.patch s.full K (accepted_cut P s K e)).1

    before : ℕ → ℕ
    before c = pair_of (slot_numbers (slot_of s.patch c)).kind

    after : ℕ → ℕ
    after c = pair_of (slot_numbers (slot_of (cut_next P s K).patch c)).kind

    pair : (c : ℕ) → c < blocks s.patch → none_from before K c ≡ after c
    pair c h =
        elim (dec_lt c K) [
          | yes l ↦
              (rw (lt-leb K c l)) ∙ ap (λ (x : List ℕ). pair_of (slot_numbers x).kind) (sym ((drops P s K e).same_slots c l))
          | no l ↦
              (rw (le-leb K c (omega arith)))
              ∙ sym (ap (λ (x : List ℕ). pair_of (slot_numbers x).kind) ((drops P s K e).no_slots c (omega arith) h)
              ∙ ap (λ (x : SlotNumbers). pair_of x.kind) empty_numbers)
        ]

-- One cut

module _ (P : ℕ) (s : Areas) (map : List ℕ) (K : Cut) where
  module _ (long : Long s map) where
    cut_same : (cut_mapped P (with s (laid s map)) K).areas ≡ cutting P s K
    cut_same = mapped_as_cut P s.patch s.full (laid s map) K (laid_long s map long)

    cut_same_taken : takes_with_by (mapped P) (cut_mapped P) (with s (laid s map)) (wipe K) ≡ cut_taken P s K
    cut_same_taken = ap (λ (o : CutOutcome). eqb o.number 0) cut_same

    cut_map : (t : Bool) → cut_taken P s K ≡ t → (cut_mapped P (with s (laid s map)) K).map ≡ laid (cut_next P s K) map
    unfolding map_bytes
    cut_map true e =
        let done : (cut_mapped P (with s (laid s map)) K).areas.number ≡ 0 = ap (λ (o : CutOutcome). o.number) cut_same
        ∙ accepted_cut P s K e in
        let l : length (built_map s.patch) ≡ map_bytes (blocks s.patch) = built_length s.patch in
        let most : K ≤ blocks s.patch = (cut_accepted P s.patch s.full K (accepted_cut P s K e)).1 in
        let reach : K + (blocks s.patch - K) ≤ 4 * length (built_map s.patch) = omega (arith, l, most) in
        cut_map_done P s.patch s.full (laid s map) K done
        ∙ clear_laid map (built_map s.patch) K (blocks s.patch - K) reach
        ∙ ap (λ (x : List ℕ). splice map 0 x) (built_cut P s K e)
    cut_map false e =
        cut_map_not P s.patch s.full (laid s map) K
        (λ q. eqb-false (cutting P s K).number 0 e (sym (ap (λ (o : CutOutcome). o.number) cut_same) ∙ q))
        ∙ ap (λ (t : Areas). laid t map) (sym (cut_not_taken P s K e))

    cut_moved : does_with_by (mapped P) (cut_mapped P) (with s (laid s map)) (wipe K) ≡ with (cut_next P s K) (laid (cut_next P s K) map)
    cut_moved = λ i. with (record { patch = (cut_same i).patch; full = (cut_same i).full }) (cut_map (cut_taken P s K) refl i)

  module _ (short : length map < map_room s) where
    cut_refuses : (cut_mapped P (with s map) K).areas.number ≡ 0 → ⊥
    cut_refuses e = omega (arith, short, cut_fitting P s.patch s.full map K e)

    cut_short_taken : takes_with_by (mapped P) (cut_mapped P) (with s map) (wipe K) ≡ false
    cut_short_taken = ne_eqb (cut_mapped P (with s map) K).areas.number 0 cut_refuses

    cut_short_nothing : does_with_by (mapped P) (cut_mapped P) (with s map) (wipe K) ≡ with s map
    cut_short_nothing =
        let k = cut_mapped_kept P s.patch s.full map K cut_refuses in
        λ i. with (record { patch = k.0 i; full = k.1 i }) (k.2 i)

-- The laws of `Beside`

pub room_kept : (P : ℕ) (s : Areas) → map_room ((store P).frame s) ≡ map_room s
room_kept P s = ap (λ (l : ℕ). map_bytes (blocks_in l)) (emptied_length patch_head s.patch)

fits_long : (P : ℕ) (s : Areas) (map : List ℕ) → leb (map_room ((store P).frame s)) (length map) ≡ true → Long s map
fits_long P s map e = rw (room_kept P s) at (leb-true (map_room ((store P).frame s)) (length map) e)

fits_short : (P : ℕ) (s : Areas) (map : List ℕ) → leb (map_room ((store P).frame s)) (length map) ≡ false → length map < map_room s
fits_short P s map e = rw (room_kept P s) at (leb-false (map_room ((store P).frame s)) (length map) e)

pub beside_laws : (P : ℕ) → BesideLaws (store P) (beside P)
beside_laws P =
    record {
      moves =
          λ s map o.
          elim o as
          (λ k. (beside P).fits ((store P).frame s) map ≡ true
          → (beside P).step_with ((beside P).both s ((beside P).built s map)) k
          ≡ (beside P).both ((store P).step s k) ((beside P).built ((store P).step s k) map)) [
            | write w ↦ λ e. moved P s map w (fits_long P s map e)
            | wipe K ↦ λ e. cut_moved P s map K (fits_long P s map e)
          ];
      takes_same =
          λ s map o.
          elim o as
          (λ k. (beside P).fits ((store P).frame s) map ≡ true
          → (beside P).takes_with ((beside P).both s ((beside P).built s map)) k ≡ (store P).takes s k) [
            | write w ↦ λ e. same_taken P s map w (fits_long P s map e)
            | wipe K ↦ λ e. cut_same_taken P s map K (fits_long P s map e)
          ];
      no_room =
          λ s map o.
          elim o as
          (λ k. (beside P).fits ((store P).frame s) map ≡ false
          → ((beside P).takes_with ((beside P).both s map) k ≡ false) × ((beside P).step_with ((beside P).both s map) k ≡ (beside P).both s map)) [
            | write w ↦ λ e. (not_taken_short P s map w (fits_short P s map e), nothing_short P s map w (fits_short P s map e))
            | wipe K ↦ λ e. (cut_short_taken P s map K (fits_short P s map e), cut_short_nothing P s map K (fits_short P s map e))
          ];
    }
