-- The numbers that Read by the map gives, and the whole outcome by the block's pair, from the rows of the definitions to the words of the
-- demands and back. And carrying out with a lent map: the block's own pair, and how blocks read by the map after it; its numbers are in
-- `CarryTables`.
use Rattle.std.specs.Prelude.{ℕ, zero, suc, ◌/◌, ◌≤◌, ◌<◌, ◌≡◌, Bool, not, ◌↔◌, eqb, leb, length}
use Rattle.std.proofs.Common.{arith, ◌∙◌, subst, lt-ltb, le-ltb, le-leb, eq-eqb, ne_eqb}
use Rattle.std.proofs.Math.Decide.{dec_lt}
use Rattle.std.proofs.Math.Path.{refl, sym, ap}
use Rattle.std.proofs.Math.Bool.{true, false, cond}
use mathlib.Core.List.{List, []}
use Rattle.std.proofs.lemmas.Bool.{lt-leb}
use Rattle.layout.specs.Refusals.{first_of, or_else, decided}
use Rattle.layout.specs.RefusalLaws.{first_hit, first_skip}
use Rattle.layout.specs.Lengths.{length_rows}
use Rattle.slots.specs.Slots.{SlotNumbers, slot_numbers, sound_slot, is_patch, payload_of, slot_image}
use Rattle.slots.specs.SlotLaws.{patch_told}
use Rattle.slots.specs.Meaning.{empty_numbers, full_numbers, patch_numbers}
use Rattle.payload.specs.Entries.{sound, offset_with}
use Rattle.blockmap.specs.Pairs.{map_bytes, pair_at, patch_pair, full_pair, reserved_pair}
use Rattle.blockmap.specs.Pack.{pair_of, kind_of}
use Rattle.blockmap.specs.SetPair.{PairSet}
use Rattle.blockmap.specs.SetLaws.{pair_set, kind_back}
use Rattle.blockmap.specs.PackLaws.{pair_of_below}
use Rattle.blockmap.specs.Calls.{short_map}
use Rattle.stream.specs.Calls.{pages_fit, page_of, page_rows}
use Rattle.stream.specs.Kinds.{accepted_fits}
use Rattle.store.specs.Block.{slot_of, place_of}
use Rattle.store.specs.Frame.{frame_rows}
use Rattle.store.specs.FrameLaws.{lengths_fit}
use Rattle.reading.specs.Read.{contents_as, ReadOutcome, read_outcome, read_done, read_refused}
use Rattle.reading.specs.Mapped.{own_rows, read_mapped_rows, read_mapped_outcome}
use Rattle.reading.specs.Parts.{kind_outcome}
use Rattle.reading.specs.ReadLaws.{read_slot}
use Rattle.reading.specs.MappedLaws.{mapped_looked, mapped_within, kind_empty, kind_not, kind_missing, kind_full, slot_as}
use Rattle.reading.specs.MappedLaws.{mapped_frame as read_mapped_frame, frame as rows_frame, looked, by_kind, mapped_rows}
use Rattle.carrying.specs.Puts.{Decision, all}
use Rattle.carrying.specs.CarryOut.{CarryOutcome, carry_outcome}
use Rattle.carrying.specs.Mapped.{carry_mapped_outcome}
use Rattle.carrying.specs.CarryLaws.{map_done}
use Rattle.promises.specs.Words.{blocks, places, PagesFit, FrameFits, FrameRefuses, PatchOf, MapFits}
use Rattle.promises.specs.Words.{MapRefuses, pages, lengths, short, header, ReadableBy, MapAt, ReadMappedGives}
use Rattle.promises.specs.Words.{PairFor, empty_0, patch_2, full_1}
use Rattle.promises.specs.FrameLaws.{tells_no, no_tells, tells_pages, tells_lengths, frame_number, FrameIs, frame_refused, frame_right}
use Rattle.promises.specs.FrameLaws.{frame_is, frame_gives, frame_zero, frame_some, frame_same}
use Rattle.promises.specs.Kept.{carry_mapped_kept}
use Rattle.promises.specs.SlotLaws.{patch_of, image_empty, image_patch, image_full, Sort, of_empty, of_patch, of_full, of_none, sort_of}
use Rattle.promises.specs.Decisions.{Fit, ComparedBy}
use Rattle.promises.specs.CarryWords.{ReadAs}
use Rattle.promises.specs.CarryTables.{Accepted, accepted, mapped_as_carry, carry_fitting}
use Rattle.promises.specs.StoreLaws.{both, StoredAt, slot_anew, carry_stored}
use Rattle.promises.specs.ReadLaws.{reads_patch, reads_unsound, base_fits}
use Rattle.promises.specs.PairLaws.{carried_kind, left_fits, reads_decided, reads_back}

-- What comes before any block

module _ (P : ℕ) (patch full map base page : List ℕ) where
  unfoldable pub map_frame : ℕ
  map_frame = first_of (frame_rows P (page_rows P base page) (short_map map (blocks patch)) patch full)

  -- with a map that fits, the frame's own number
  long_frame : MapFits patch map → map_frame ≡ frame_number P patch full base page
  unfolding map_frame frame_number frame_rows first_of or_else length_rows
  long_frame h = rw (le-ltb (length map) (map_bytes (blocks patch)) h)

  short_frame : length map < map_bytes (blocks patch)
      → map_frame ≡ cond (pages_fit P base page) (cond (lengths_fit P patch full) 9 2) 1
  unfolding map_frame frame_rows first_of or_else length_rows
  short_frame h = rw (lt-ltb (length map) (map_bytes (blocks patch)) h) (go (pages_fit P base page) (lengths_fit P patch full))
    where
      go : (a b : Bool) → or_else (cond (not a) 1 0) (or_else (cond (not b) 2 0) 9) ≡ cond a (cond b 9 2) 1
      go true true = refl
      go true false = refl
      go false b = refl

  pub data MapFrameIs : ℕ → Type 0 where
    map_refused : {k : ℕ} → MapRefuses P patch full map base page k → MapFrameIs k
    map_right : FrameFits P patch full base page → MapFits patch map → MapFrameIs 0

  pub map_frame_is : MapFrameIs map_frame
  map_frame_is =
      elim (dec_lt (length map) (map_bytes (blocks patch))) [
        | yes h ↦ rw (short_frame h) (small h (pages_fit P base page) (lengths_fit P patch full) refl refl)
        | no h ↦ let l : MapFits patch map = omega arith in rw (long_frame l) (large l (frame_is P patch full base page))
      ]
    where
      small : length map < map_bytes (blocks patch) → (a b : Bool) → pages_fit P base page ≡ a → lengths_fit P patch full ≡ b
          → MapFrameIs (cond a (cond b 9 2) 1)
      small h false b p q = map_refused (pages (tells_no _ (tells_pages P base page) p))
      small h true false p q = map_refused (lengths ((tells_pages P base page).0 p) (tells_no _ (tells_lengths P patch full) q))
      small h true true p q = map_refused (short ((tells_pages P base page).0 p) ((tells_lengths P patch full).0 q) h)

      large : MapFits patch map → {k : ℕ} → FrameIs P patch full base page k → MapFrameIs k
      large l (frame_refused r) = map_refused (header l r)
      large l (frame_right f) = map_right f l

  pub map_gives : {k : ℕ} → MapRefuses P patch full map base page k → map_frame ≡ k
  map_gives (pages h) =
      elim (dec_lt (length map) (map_bytes (blocks patch))) [
        | yes s ↦ short_frame s ∙ rw (no_tells _ (tells_pages P base page) h)
        | no s ↦ long_frame (omega arith) ∙ frame_gives P patch full base page (FrameRefuses.pages h)
      ]
  map_gives (lengths p h) =
      elim (dec_lt (length map) (map_bytes (blocks patch))) [
        | yes s ↦ short_frame s ∙ rw ((tells_pages P base page).1 p, no_tells _ (tells_lengths P patch full) h)
        | no s ↦ long_frame (omega arith) ∙ frame_gives P patch full base page (FrameRefuses.lengths p h)
      ]
  map_gives (short p l s) = short_frame s ∙ rw ((tells_pages P base page).1 p, (tells_lengths P patch full).1 l)
  map_gives (header l r) = long_frame l ∙ frame_gives P patch full base page r

  pub map_zero : FrameFits P patch full base page → MapFits patch map → map_frame ≡ 0
  map_zero f l = long_frame l ∙ frame_zero P patch full base page f

  map_some : {k : ℕ} → MapRefuses P patch full map base page k → k ≡ 0 → ⊥
  map_some (pages h) e = omega arith
  map_some (lengths p h) e = omega arith
  map_some (short p l s) e = omega arith
  map_some (header l r) e = frame_some P patch full base page r e

-- Read by the map

pair_few : (map : List ℕ) (b : ℕ) → pair_at map b < 4
unfolding pair_at
pair_few map b = omega arith

module _ (P : ℕ) (patch full map : List ℕ) (b : ℕ) (base page : List ℕ) where
  pub by_map_refused : {k : ℕ} → MapRefuses P patch full map base page k
      → read_mapped_outcome P patch full map b base page ≡ read_refused k 0 page
  unfolding map_frame
  by_map_refused {k} r =
      read_mapped_frame P patch full map b base page k (map_gives P patch full map base page r) (map_some P patch full map base page r)

  pub by_map_not_below : FrameFits P patch full base page → MapFits patch map → blocks patch ≤ b
      → read_mapped_outcome P patch full map b base page ≡ read_refused 5 0 page
  unfolding map_frame
  by_map_not_below f l h =
      mapped_looked P patch full map b base page (map_zero P patch full map base page f l) 5
      (first_hit 4 (leb (blocks patch) b) (own_rows (pair_at map b)) (le-leb (blocks patch) b h)) (λ q. omega arith)

  module _ (at : MapAt P patch full map b base page) where
    frame_0 : map_frame P patch full map base page ≡ 0
    frame_0 = map_zero P patch full map base page at.frame at.room_for

    pub by_map_3 : pair_at map b ≡ reserved_pair → read_mapped_outcome P patch full map b base page ≡ read_refused 11 0 page
    unfolding map_frame
    by_map_3 e =
        mapped_looked P patch full map b base page frame_0 11
        (first_skip 5 (leb (blocks patch) b) (own_rows (pair_at map b)) (lt-leb (blocks patch) b at.below)
        ∙ first_hit 10 (eqb (pair_at map b) reserved_pair) [] (eq-eqb (pair_at map b) reserved_pair e)) (λ q. omega arith)

    -- by the kind that the pair stands for
    by_its_kind : (v k : ℕ) → pair_at map b ≡ v → v < reserved_pair → kind_of v ≡ k
        → read_mapped_outcome P patch full map b base page ≡ kind_outcome k P patch full b base page
    unfolding map_frame first_of
    by_its_kind v k e small q =
        mapped_within P patch full map b base page frame_0
        (first_skip 5 (leb (blocks patch) b) (own_rows (pair_at map b)) (lt-leb (blocks patch) b at.below)
        ∙ first_skip 11 (eqb (pair_at map b) reserved_pair) [] (ne_eqb (pair_at map b) reserved_pair (λ r. omega (arith, e, r, small))))
        ∙ ap (λ (j : ℕ). kind_outcome j P patch full b base page) (ap kind_of e ∙ q)

    -- "pair 0 gives the base without touching the slot"
    pub by_map_0 : pair_at map b ≡ 0 → read_mapped_outcome P patch full map b base page ≡ read_done 0 (page_of P base)
    unfolding kind_of
    by_map_0 e = by_its_kind 0 0 e (omega arith) refl ∙ kind_empty P patch full b base page

    -- "pair 1 takes the full page", whatever the slot is
    pub by_map_1 : pair_at map b ≡ full_pair → b < places P full
        → read_mapped_outcome P patch full map b base page ≡ read_done 2 (place_of P full b)
    unfolding kind_of
    by_map_1 e h = by_its_kind full_pair 2 e (omega arith) refl ∙ kind_full P patch full b base page h

    pub by_map_1_missing : pair_at map b ≡ full_pair → places P full ≤ b
        → read_mapped_outcome P patch full map b base page ≡ read_refused 8 0 page
    unfolding kind_of
    by_map_1_missing e h = by_its_kind full_pair 2 e (omega arith) refl ∙ kind_missing P patch full b base page h

    -- "pair 2 needs a sound PATCH": over one it reads as Read does,
    pub by_map_2 : pair_at map b ≡ patch_pair → (payload : List ℕ) → PatchOf (slot_of patch b) payload
        → read_mapped_outcome P patch full map b base page ≡ read_outcome P patch full b base page
    unfolding kind_of frame_number
    by_map_2 e payload p =
        by_its_kind patch_pair 1 e (omega arith) refl
        ∙ sym (slot_as P patch full b base page 1 (length payload) (patch_of (slot_of patch b) payload p).0)
        ∙ sym (read_slot P patch full b base page (frame_zero P patch full base page at.frame) at.below)

    -- and any other slot is 6
    pub by_map_2_other : pair_at map b ≡ patch_pair → ((payload : List ℕ) → PatchOf (slot_of patch b) payload → ⊥)
        → read_mapped_outcome P patch full map b base page ≡ read_refused 6 0 page
    unfolding kind_of
    by_map_2_other e none = by_its_kind patch_pair 1 e (omega arith) refl ∙ kind_not P patch full b base page (no_patch none)
      where
        is : {x : SlotNumbers} → Sort (slot_of patch b) x → x.kind ≡ 1 → (payload : List ℕ) × PatchOf (slot_of patch b) payload
        is (of_empty q) z = absurd (omega arith)
        is (of_patch payload p q) z = (payload, p)
        is (of_full q) z = absurd (omega arith)
        is (of_none n) z = absurd (omega arith)

        no_patch : ((payload : List ℕ) → PatchOf (slot_of patch b) payload → ⊥) → is_patch (slot_of patch b) ≡ false
        no_patch none = go (is_patch (slot_of patch b)) refl
          where
            go : (t : Bool) → is_patch (slot_of patch b) ≡ t → is_patch (slot_of patch b) ≡ false
            go true q =
                let w = is (sort_of (slot_of patch b)) (ap (λ (x : SlotNumbers). x.kind) (patch_told (slot_of patch b) q)) in
                absurd (none w.0 w.1)
            go false q = q

  gives : (k : ℕ) → ReadMappedGives P patch full map b base page k → (read_mapped_outcome P patch full map b base page).number ≡ k
  gives k (ReadMappedGives.frame r) = ap (λ (o : ReadOutcome). o.number) (by_map_refused r)
  gives k (ReadMappedGives.block f l h) = ap (λ (o : ReadOutcome). o.number) (by_map_not_below f l h)
  gives k (ReadMappedGives.reserved at e) = ap (λ (o : ReadOutcome). o.number) (by_map_3 at e)
  gives k (ReadMappedGives.no_patch at e n) = ap (λ (o : ReadOutcome). o.number) (by_map_2_other at e n)
  gives k (ReadMappedGives.no_room at e h) = ap (λ (o : ReadOutcome). o.number) (by_map_1_missing at e h)
  gives k (ReadMappedGives.payload at e bytes p u) =
      ap (λ (o : ReadOutcome). o.number)
      (by_map_2 at e bytes p ∙ reads_unsound P patch full b base page at.frame at.below bytes p u)
  gives k (ReadMappedGives.done at r) = readable (pair_at map b) refl r
    where
      readable : (v : ℕ) → pair_at map b ≡ v → ReadableBy P patch full b v → (read_mapped_outcome P patch full map b base page).number ≡ 0
      readable v e ReadableBy.base = ap (λ (o : ReadOutcome). o.number) (by_map_0 at e)
      readable v e (ReadableBy.patch payload p u) =
          ap (λ (o : ReadOutcome). o.number)
          (by_map_2 at e payload p ∙ reads_patch P patch full b base page at.frame at.below payload p u)
      readable v e (ReadableBy.full h) = ap (λ (o : ReadOutcome). o.number) (by_map_1 at e h)

  pub read_mapped_table : (k : ℕ)
      → ((read_mapped_outcome P patch full map b base page).number ≡ k) ↔ ReadMappedGives P patch full map b base page k
  read_mapped_table k = (
    λ e.
        let g = given (map_frame_is P patch full map base page) in
        subst (λ (j : ℕ). ReadMappedGives P patch full map b base page j) (sym (gives g.0 g.1) ∙ e) g.1,
    gives k,
  )
    where
      Given : Type 0
      Given = (j : ℕ) × ReadMappedGives P patch full map b base page j

      other : {x : SlotNumbers} → slot_numbers (slot_of patch b) ≡ x → (x.kind ≡ 1 → ⊥)
          → (payload : List ℕ) → PatchOf (slot_of patch b) payload → ⊥
      other q h payload p = h (ap (λ (y : SlotNumbers). y.kind) (sym q ∙ (patch_of (slot_of patch b) payload p).0))

      by_slot_is : MapAt P patch full map b base page → pair_at map b ≡ patch_pair → (x : SlotNumbers) → slot_numbers (slot_of patch b) ≡ x
          → Sort (slot_of patch b) x → Given
      by_slot_is at e x q (of_empty r) = (6, ReadMappedGives.no_patch at e (other q (λ z. omega arith)))
      by_slot_is at e x q (of_full r) = (6, ReadMappedGives.no_patch at e (other q (λ z. omega arith)))
      by_slot_is at e x q (of_none n) = (6, ReadMappedGives.no_patch at e (other q (λ z. omega arith)))
      by_slot_is at e x q (of_patch payload p r) = go (sound P payload) refl
        where
          go : (t : Bool) → sound P payload ≡ t → Given
          go true u =
              (0, ReadMappedGives.done at (subst (λ (v : ℕ). ReadableBy P patch full b v) (sym e) (ReadableBy.patch payload p u)))
          go false u = (7, ReadMappedGives.payload at e payload p u)

      by_pair : MapAt P patch full map b base page → (v : ℕ) → pair_at map b ≡ v → v < 4 → Given
      by_pair at zero e h = (0, ReadMappedGives.done at (subst (λ (v : ℕ). ReadableBy P patch full b v) (sym e) ReadableBy.base))
      by_pair at (suc zero) e h =
          elim (dec_lt b (places P full)) [
            | yes k ↦ (0, ReadMappedGives.done at (subst (λ (v : ℕ). ReadableBy P patch full b v) (sym e) (ReadableBy.full k)))
            | no k ↦ (8, ReadMappedGives.no_room at e (omega arith))
          ]
      by_pair at (suc (suc zero)) e h = by_slot_is at e (slot_numbers (slot_of patch b)) refl (sort_of (slot_of patch b))
      by_pair at (suc (suc (suc zero))) e h = (11, ReadMappedGives.reserved at e)
      by_pair at (suc (suc (suc (suc v)))) e h = absurd (omega arith)

      given : {j : ℕ} → MapFrameIs P patch full map base page j → Given
      given (map_refused r) = (_, ReadMappedGives.frame r)
      given (map_right f l) =
          elim (dec_lt b (blocks patch)) [
            | yes h ↦ by_pair (record { frame = f; room_for = l; below = h }) (pair_at map b) refl (pair_few map b)
            | no h ↦ (5, ReadMappedGives.block f l (omega arith))
          ]

-- a slot's kind is 0, 1 or 2
kind_few : (s : List ℕ) → (slot_numbers s).kind < 3
kind_few s = go (sort_of s)
  where
    go : {x : SlotNumbers} → Sort s x → x.kind < 3
    go (of_empty e) = omega arith
    go (of_patch p e q) = omega arith
    go (of_full e) = omega arith
    go (of_none n) = omega arith

-- where the pair is that of a sound slot, a read by the map is Read
pub pair_agrees : (P : ℕ) (patch full map : List ℕ) (b : ℕ) (base page : List ℕ) → MapAt P patch full map b base page
    → (slot_numbers (slot_of patch b)).number ≡ 0 → pair_at map b ≡ pair_of (slot_numbers (slot_of patch b)).kind
    → read_mapped_outcome P patch full map b base page ≡ read_outcome P patch full b base page
unfolding frame_number
pair_agrees P patch full map b base page at sound_slot_is e =
    let s : List ℕ = slot_of patch b in
    let k : ℕ = (slot_numbers s).kind in
    let told : slot_numbers s ≡ sound_slot k (slot_numbers s).length =
    λ i. record { number = sound_slot_is i; kind = k; length = (slot_numbers s).length } in
    by_its_kind P patch full map b base page at (pair_of k) k e (pair_of_below k) (kind_back k (kind_few s))
    ∙ sym (slot_as P patch full b base page k (slot_numbers s).length told)
    ∙ sym (read_slot P patch full b base page (frame_zero P patch full base page at.frame) at.below)

-- the kind's pair, in words
pub pair_for : (k : ℕ) → k < 3 → PairFor k (pair_of k)
unfolding pair_of
pair_for zero h = empty_0
pair_for (suc zero) h = patch_2
pair_for (suc (suc zero)) h = full_1
pair_for (suc (suc (suc k))) h = absurd (omega arith)

-- Carrying out with a lent map

-- a map that fits has the byte of every block
pub reaches : (n b l : ℕ) → map_bytes n ≤ l → b < n → b / 4 < l
unfolding map_bytes
reaches n b l h k = omega arith

-- the slot of a decision that can be carried out is a sound one of its kind
pub fit_numbers : (P : ℕ) (d : Decision) → Fit P d
    → ((slot_numbers (slot_image d.kind d.payload)).number ≡ 0)
    × ((slot_numbers (slot_image d.kind d.payload)).kind ≡ d.kind)
    × (d.kind < 3)
fit_numbers P d (Fit.empty e) = rw (e, image_empty d.payload, empty_numbers) (refl, refl, omega arith)
fit_numbers P d (Fit.patch e low high u) =
    rw (e, image_patch d.payload, patch_numbers d.payload high low) (refl, refl, omega arith)
fit_numbers P d (Fit.full e l) = rw (e, image_full d.payload, full_numbers) (refl, refl, omega arith)

-- accepted: both areas are as without a map, and one pair is set
module _ (P : ℕ) (patch full map : List ℕ) (b : ℕ) (d : Decision) (done : (carry_mapped_outcome P patch full map b d).areas.number ≡ 0) where
  fitting : MapFits patch map
  fitting = carry_fitting P patch full map b d done

  pub accepted_is_carry : (carry_mapped_outcome P patch full map b d).areas ≡ carry_outcome P patch full b d
  accepted_is_carry = mapped_as_carry P patch full map b d fitting

  carry_zero : (carry_outcome P patch full b d).number ≡ 0
  carry_zero = sym (ap (λ (o : CarryOutcome). o.number) accepted_is_carry) ∙ done

  a : Accepted P patch full b d
  a = accepted P patch full b d carry_zero

  stored : StoredAt P b d (both d) (record { patch = patch; full = full })
      (record { patch = (carry_outcome P patch full b d).patch; full = (carry_outcome P patch full b d).full })
  stored = carry_stored P patch full b d carry_zero

  pub accepted_sets_pair : PairSet map b (pair_of d.kind) (carry_mapped_outcome P patch full map b d).map
  accepted_sets_pair =
      let r : b / 4 < length map = reaches (blocks patch) b (length map) fitting a.below in
      let s : pair_of d.kind < reserved_pair = pair_of_below d.kind in
      rw (map_done P patch full map b d all done) (pair_set map b (pair_of d.kind) r (omega arith))

  -- the pair in words, by the kind that is answered
  pub kept_pair : (v : ℕ) × PairFor (carry_mapped_outcome P patch full map b d).areas.kind v
      × PairSet map b v (carry_mapped_outcome P patch full map b d).map
  kept_pair = (
    pair_of d.kind,
    rw (accepted_is_carry, carried_kind P patch full b d carry_zero) (pair_for d.kind (fit_numbers P d a.fit).2),
    accepted_sets_pair,
  )

  -- so the block reads by the map as by its slot
  read_by_either : (base page : List ℕ) → PagesFit P base page
      → read_mapped_outcome P (carry_outcome P patch full b d).patch (carry_outcome P patch full b d).full
      (carry_mapped_outcome P patch full map b d).map b base page
      ≡ read_outcome P (carry_outcome P patch full b d).patch (carry_outcome P patch full b d).full b base page
  read_by_either base page p =
      let f = stored.frame in
      let n = fit_numbers P d a.fit in
      let set = accepted_sets_pair in
      let image : slot_of (carry_outcome P patch full b d).patch b ≡ slot_image d.kind d.payload =
      stored.slot_is ∙ slot_anew d (slot_of patch b) in
      pair_agrees P _ _ _ b base page
      (record {
        frame = left_fits P patch full b d carry_zero base page p;
        room_for = rw (f.patch_length, set.size) fitting;
        below = rw f.patch_length a.below;
      })
      (ap (λ (s : List ℕ). (slot_numbers s).number) image ∙ n.0)
      (set.here ∙ ap pair_of (sym (ap (λ (s : List ℕ). (slot_numbers s).kind) image ∙ n.1)))

  -- any decision, whoever made it
  pub reads_decided_by_map : (base page x : List ℕ) → PagesFit P base page → ReadAs P base d x
      → read_mapped_outcome P (carry_mapped_outcome P patch full map b d).areas.patch (carry_mapped_outcome P patch full map b d).areas.full
      (carry_mapped_outcome P patch full map b d).map b base page
      ≡ read_done d.kind x
  reads_decided_by_map base page x p r =
      rw accepted_is_carry (read_by_either base page p ∙ reads_decided P patch full b d carry_zero base page x p r)

  -- a decision of Compare
  pub reads_back_by_map : P ≤ 65536 → (base : List ℕ) → ComparedBy P base d
      → (base' page' : List ℕ) → page_of P base' ≡ page_of P base → length page' ≡ P
      → read_mapped_outcome P (carry_mapped_outcome P patch full map b d).areas.patch (carry_mapped_outcome P patch full map b d).areas.full
      (carry_mapped_outcome P patch full map b d).map b base' page'
      ≡ read_done (carry_mapped_outcome P patch full map b d).areas.kind d.page
  reads_back_by_map small base by base' page' e l =
      let fits : PagesFit P base d.page = (tells_pages P base d.page).0 (accepted_fits P base d.page by.buffer by.answered) in
      rw accepted_is_carry
      (read_by_either base' page' (base_fits P base base' d.page page' fits l e)
      ∙ reads_back P small patch full b base d by carry_zero base' page' e l)

-- a read by the map goes by what comes before any block, n, m, the block's pair, its slot and its place
module _ (P : ℕ) (patch full map patch' full' map' : List ℕ) (c : ℕ) (base page : List ℕ)
    (frames : map_frame P patch' full' map' base page ≡ map_frame P patch full map base page)
    (patches : length patch' ≡ length patch) (fulls : length full' ≡ length full) (pairs : pair_at map' c ≡ pair_at map c)
    (slots : slot_of patch' c ≡ slot_of patch c) (held : place_of P full' c ≡ place_of P full c) where
  pub read_mapped_same : read_mapped_outcome P patch' full' map' c base page ≡ read_mapped_outcome P patch full map c base page
  unfolding read_mapped_outcome map_frame rows_frame by_kind
  read_mapped_same =
      λ i.
      decided (number i) (read_done (kind_of (pairs i)) (contents i)) (λ k. read_refused k (offset_with k P (payload_of (slots i))) page)
    where
      contents : contents_as P (kind_of (pair_at map' c)) patch' full' c base ≡ contents_as P (kind_of (pair_at map c)) patch full c base
      contents = rw (pairs, slots, held)

      looks : looked P patch' full' map' c base page ≡ looked P patch full map c base page
      looks = rw (patches, pairs)

      kinds : by_kind P patch' full' map' c base page ≡ by_kind P patch full map c base page
      kinds = rw (pairs, slots, fulls)

      number : first_of (read_mapped_rows P patch' full' map' c base page) ≡ first_of (read_mapped_rows P patch full map c base page)
      number =
          mapped_rows P patch' full' map' c base page
          ∙ (λ i. or_else (frames i) (or_else (first_of (looks i)) (first_of (kinds i))))
          ∙ sym (mapped_rows P patch full map c base page)

-- so every other block reads by the map as before, whether or not it was refused
pub others_by_map : (P : ℕ) (patch full map : List ℕ) (b : ℕ) (d : Decision) (c : ℕ) → (c ≡ b → ⊥) → (base page : List ℕ)
    → read_mapped_outcome P (carry_mapped_outcome P patch full map b d).areas.patch (carry_mapped_outcome P patch full map b d).areas.full
    (carry_mapped_outcome P patch full map b d).map c base page
    ≡ read_mapped_outcome P patch full map c base page
others_by_map P patch full map b d c other base page = go (carry_mapped_outcome P patch full map b d).areas.number refl
  where
    go : (k : ℕ) → (carry_mapped_outcome P patch full map b d).areas.number ≡ k
        → read_mapped_outcome P (carry_mapped_outcome P patch full map b d).areas.patch (carry_mapped_outcome P patch full map b d).areas.full
        (carry_mapped_outcome P patch full map b d).map c base page
        ≡ read_mapped_outcome P patch full map c base page
    go zero e =
        let s = stored P patch full map b d e in
        let f = s.frame in
        let set = accepted_sets_pair P patch full map b d e in
        let l : MapFits patch map = carry_fitting P patch full map b d e in
        rw (accepted_is_carry P patch full map b d e)
        (read_mapped_same P patch full map _ _ _ c base page
        (long_frame P _ _ _ base page (rw (f.patch_length, set.size) l) ∙ frame_same P patch full _ _ f base page
        ∙ sym (long_frame P patch full map base page l))
        f.patch_length f.full_length (set.others c other) (s.other_slots c other) (s.other_places c other))
    go (suc k) e =
        let kept = carry_mapped_kept P patch full map b d all (λ z. omega (arith, e, z)) in
        λ i. read_mapped_outcome P (kept.0 i) (kept.1 i) (kept.2 i) c base page
