-- The lemmas behind Build's meaning: a block's number, the frame, the answer, and the map.
use Prim.Native.Nat.{ℕ, zero, suc, ◌≤◌, ◌<◌}
use Rattle.std.proofs.Common.{arith, sym, ◌∙◌, true≢false, le-ltb, leb-true}
use Rattle.std.proofs.Math.Decide.{dec_lt}
use Rattle.std.specs.Prelude.{◌≡◌, refl, ◌↔◌, Bool, false, List, leb, length, get_or, Result, Ok, Err, ⊤}
use Rattle.std.proofs.Math.Path.{ap}
use Rattle.std.proofs.Math.Logic.Iff
use Rattle.std.proofs.Math.Bool.{true}
use Rattle.span.specs.Bytes.{zeros, same, splice}
use Rattle.span.specs.Laws.{same_is, same_true, same_false, and_left, and_right}
use Rattle.layout.specs.Sizes.{slot_size, room, slot_at}
use Rattle.layout.specs.Numbers.{refusal_number}
use Rattle.layout.specs.NumberLaws.{refusal_one, refusal_some}
use Rattle.layout.specs.Refusals.{first_of, or_else}
use Rattle.layout.specs.FirstFaultLaws.{none_below}
use Rattle.layout.specs.Lengths.{patch_fits, full_fits, length_rows}
use Rattle.layout.specs.LengthLaws.{patch_fits_is, full_fits_is, patch_fits_at, fits_full}
use Rattle.layout.specs.declared.Refusal.{Refusal}
use Rattle.headers.specs.Meaning.{Headers, headers_sound, sound_headers}
use Rattle.slots.specs.Slots.{SlotNumbers, slot_numbers, sound_slot, unsound_slot, patch_slot, payload_of}
use Rattle.slots.specs.Meaning.{empty_numbers, full_numbers, patch_numbers, payload_of_is, by_image}
use Rattle.payload.specs.Entries.{start, sound, breaks_at, offset_with}
use Rattle.payload.specs.EntryLaws.{offset_other}
use Rattle.payload.specs.Breaking.{breaks_iff}
use Rattle.payload.specs.Spelling.{Spelled, Bytes, bytes_part}
use Rattle.payload.specs.Soundness.{spelled_sound, sound_spelled}
use Rattle.blockmap.specs.Pairs.{map_bytes, pair_at, patch_pair, full_pair, bad_pairs}
use Rattle.blockmap.specs.Pack.{pair_of}
use Rattle.blockmap.specs.Meaning.{blocks_with, pairs_count, JustThose, HasPair, blocks_with_is}
use Rattle.blockmap.specs.CallLaws.{not_fits, tally_done}
use Rattle.store.specs.Block.{slot_of, place_of}
use Rattle.store.specs.BlockLaws.{payload_bytes}
use Rattle.store.specs.Frame.{frame_rows}
use Rattle.building.specs.Build.{block_fault, block_offset, build_fault, build_rows, built_map}
use Rattle.building.specs.Build.{BuildOutcome, build_outcome, refused_in, BuildNumbers, built_numbers, build_numbers, Build}
use Rattle.building.specs.Steps.{strays_in}
use Rattle.building.specs.BuildLaws.{no_place, clean_place, stray_place, no_strays}
use Rattle.building.specs.BuildLaws.{block_unsound, block_full_none, block_full, block_payload, block_patch, block_empty}
use Rattle.building.specs.BuildLaws.{slot_sound}
use Rattle.building.specs.BuildLaws.{frame_none, build_frame, build_refused_is, build_done_is, build_faulty, build_zero, refused_map_is}
use Rattle.building.specs.MapLaws.{laid_later, laid_length, built_length, built_pair, built_unused, built_good}
use Rattle.building.specs.BuildWords.{blocks, places, SoundFrame, IsEmpty, PatchOf, IsPatch, IsFull, Placeless, blank, spelt}
use Rattle.building.specs.BuildWords.{BlockGives, slot_6, page_8, payload_7, place_10, placeless_0, full_0, PairsOf, Tallies}
use Rattle.building.specs.declared.RefusedIn.{RefusedIn}

-- A slot: its numbers and its pair

module _ (s : List ℕ) where
  empty_is : IsEmpty s → slot_numbers s ≡ sound_slot 0 0
  empty_is e = ap slot_numbers e ∙ empty_numbers

  full_is : IsFull s → slot_numbers s ≡ sound_slot 2 0
  full_is e = ap slot_numbers e ∙ full_numbers

  patch_is : {payload : List ℕ} → PatchOf s payload → slot_numbers s ≡ sound_slot 1 (length payload)
  patch_is {payload} p = ap slot_numbers p.image ∙ patch_numbers payload p.room_for p.some

  judged : (P : ℕ) {payload : List ℕ} → PatchOf s payload → sound P (payload_of s) ≡ sound P payload
  judged P {payload} p = ap (λ (x : List ℕ). sound P (payload_of x)) p.image ∙ ap (sound P) (payload_of_is payload p.room_for)

  -- its own payload is that of its image
  own : 1 ≤ length (payload_of s) → length (payload_of s) ≤ room → s ≡ patch_slot (payload_of s) → PatchOf s (payload_of s)
  own some room_for image = record { image = image; some = some; room_for = room_for }

  pair_of_is : {k n : ℕ} → slot_numbers s ≡ sound_slot k n → pair_of (slot_numbers s).kind ≡ pair_of k
  pair_of_is e = ap (λ (x : SlotNumbers). pair_of x.kind) e

  -- a sound slot is one of the three, and so its pair says which
  module _ (ok : (slot_numbers s).number ≡ 0) where
    by_its_kind : {A : Type 0} → (IsEmpty s → A) → (IsPatch s → A) → (IsFull s → A) → A
    by_its_kind empty patch full =
        by_image s empty (λ g h e. patch (payload_of s, own g h e)) full
        (λ e. absurd (omega (arith, ok, ap (λ (x : SlotNumbers). x.number) e)))

    empty_pair : (pair_of (slot_numbers s).kind ≡ 0) ↔ IsEmpty s
    unfolding pair_of
    empty_pair = (
      λ q.
          by_its_kind (λ e. e) (λ e. absurd (omega (arith, q, pair_of_is (patch_is e.1))))
          (λ e. absurd (omega (arith, q, pair_of_is (full_is e)))),
      λ e. pair_of_is (empty_is e),
    )

    patch_pair_is : (pair_of (slot_numbers s).kind ≡ patch_pair) ↔ IsPatch s
    unfolding pair_of
    patch_pair_is = (
      λ q. by_its_kind (λ e. absurd (omega (arith, q, pair_of_is (empty_is e)))) (λ e. e) (λ e. absurd (omega (arith, q, pair_of_is (full_is e)))),
      λ e. pair_of_is (patch_is e.1),
    )

    full_pair_is : (pair_of (slot_numbers s).kind ≡ full_pair) ↔ IsFull s
    unfolding pair_of
    full_pair_is = (
      λ q.
          by_its_kind (λ e. absurd (omega (arith, q, pair_of_is (empty_is e)))) (λ e. absurd (omega (arith, q, pair_of_is (patch_is e.1))))
          (λ e. e),
      λ e. pair_of_is (full_is e),
    )

-- A block in an area of bytes

module _ (P : ℕ) (patch full : List ℕ) (bytes : Bytes patch) (b : ℕ) where
  abbrev slot : List ℕ
  slot = slot_of patch b

  -- a payload is sound just where entries spell it
  own_bytes : {payload : List ℕ} → PatchOf slot payload → Bytes payload
  unfolding slot_of
  own_bytes {payload} p = payload_bytes (slot_of patch b) payload (bytes_part (slot_at b) slot_size patch bytes) p.image p.room_for

  spells : {payload : List ℕ} → PatchOf slot payload → (sound P payload ≡ true) ↔ Spelled P start payload
  spells {payload} p =
      (λ e. ((sound_spelled P payload (own_bytes p)).0 e).2, λ w. spelled_sound P payload p.some p.room_for w)

  unspelled : {payload : List ℕ} → PatchOf slot payload → (Spelled P start payload → ⊥) → sound P payload ≡ false
  unspelled {payload} p none = go (sound P payload) refl
    where
      go : (t : Bool) → sound P payload ≡ t → sound P payload ≡ false
      go true q = absurd (none ((spells p).0 q))
      go false q = q

  -- from what a block is to its number

  placed : Placeless P slot → block_fault P patch full b ≡ strays_in P full b
  placed (blank e) = block_empty P patch full b (empty_is slot e)
  placed (spelt payload p w) = block_patch P patch full b (length payload) (patch_is slot p) (judged slot P p ∙ (spells p).1 w)

  pub gives_fault : {k at : ℕ} → BlockGives P patch full b k at → block_fault P patch full b ≡ k
  gives_fault (slot_6 e p f) =
      by_image slot (λ q. absurd (e q)) (λ g h q. absurd (p (payload_of slot, own slot g h q))) (λ q. absurd (f q))
      (block_unsound P patch full b)
  gives_fault (page_8 e l) = block_full_none P patch full b (full_is slot e) l
  gives_fault (payload_7 payload p none at w) =
      block_payload P patch full b (length payload) (patch_is slot p) (judged slot P p ∙ unspelled p none)
  gives_fault (place_10 s l h) = placed s ∙ stray_place P full b l (same_false (place_of P full b) (zeros P) h)
  gives_fault (placeless_0 s c) = placed s ∙ no_strays P full b c
  gives_fault (full_0 e l) = block_full P patch full b (full_is slot e) l

  -- and to its offset

  breaks : {payload : List ℕ} → PatchOf slot payload → breaks_at P (payload_of slot) ≡ breaks_at P payload
  breaks {payload} p = ap (λ (x : List ℕ). breaks_at P (payload_of x)) p.image ∙ ap (breaks_at P) (payload_of_is payload p.room_for)

  no_offset : {k at : ℕ} → (k ≡ 7 → ⊥) → BlockGives P patch full b k at → block_offset P patch full b ≡ 0
  no_offset {k} n g = ap (λ (j : ℕ). offset_with j P (payload_of slot)) (gives_fault g) ∙ offset_other k P (payload_of slot) n

  pub gives_offset : {k at : ℕ} → BlockGives P patch full b k at → block_offset P patch full b ≡ at
  gives_offset (slot_6 e p f) = no_offset (λ q. omega arith) (slot_6 e p f)
  gives_offset (page_8 e l) = no_offset (λ q. omega arith) (page_8 e l)
  gives_offset (payload_7 payload p none at w) =
      ap (λ (j : ℕ). offset_with j P (payload_of slot)) (gives_fault (payload_7 payload p none at w))
      ∙ breaks p ∙ sym ((breaks_iff P payload (own_bytes p) p.room_for none at).1 w)
  gives_offset (place_10 s l h) = no_offset (λ q. omega arith) (place_10 s l h)
  gives_offset (placeless_0 s c) = no_offset (λ q. omega arith) (placeless_0 s c)
  gives_offset (full_0 e l) = no_offset (λ q. omega arith) (full_0 e l)

  -- and back

  strays_give : Placeless P slot → BlockGives P patch full b (strays_in P full b) (offset_with (strays_in P full b) P (payload_of slot))
  strays_give s =
      elim (dec_lt b (places P full)) [
        | yes l ↦ go (same (place_of P full b) (zeros P)) refl l
        | no l ↦ rw (no_place P full b (omega arith)) (placeless_0 s (λ h. absurd (omega arith)))
      ]
    where
      go : (t : Bool) → same (place_of P full b) (zeros P) ≡ t → b < places P full
          → BlockGives P patch full b (strays_in P full b) (offset_with (strays_in P full b) P (payload_of slot))
      go true q l = rw (clean_place P full b q) (placeless_0 s (λ _. same_is (place_of P full b) (zeros P) q))
      go false q l = rw (stray_place P full b l q) (place_10 s l (λ e. true≢false (sym (same_true (place_of P full b) (zeros P) e) ∙ q)))

  pub fault_gives : BlockGives P patch full b (block_fault P patch full b) (block_offset P patch full b)
  fault_gives =
      by_image slot
      (λ e. rw (block_empty P patch full b (empty_is slot e)) (strays_give (blank e)))
      (λ g h e. paid (own slot g h e) (sound P (payload_of slot)) refl)
      (λ e.
      elim (dec_lt b (places P full)) [
        | yes l ↦ rw (block_full P patch full b (full_is slot e) l) (full_0 e l)
        | no l ↦ rw (block_full_none P patch full b (full_is slot e) (omega arith)) (page_8 e (omega arith))
      ])
      (λ e.
      rw (block_unsound P patch full b e)
      (slot_6 (λ q. apart e (empty_is slot q)) (λ q. apart e (patch_is slot q.1)) (λ q. apart e (full_is slot q))))
    where
      apart : {k n : ℕ} → slot_numbers slot ≡ unsound_slot → slot_numbers slot ≡ sound_slot k n → ⊥
      apart e q =
          let z : ◌≡◌ {A = ℕ} 6 0 = ap (λ (x : SlotNumbers). x.number) (sym e ∙ q) in
          omega arith

      paid : PatchOf slot (payload_of slot) → (t : Bool) → sound P (payload_of slot) ≡ t
          → BlockGives P patch full b (block_fault P patch full b) (block_offset P patch full b)
      paid p true q =
          rw (block_patch P patch full b (length (payload_of slot)) (patch_is slot p) q)
          (strays_give (spelt (payload_of slot) p ((spells p).0 q)))
      paid p false q =
          rw (block_payload P patch full b (length (payload_of slot)) (patch_is slot p) q)
          (let none : Spelled P start (payload_of slot) → ⊥ = λ w. true≢false (sym ((spells p).1 w) ∙ q) in
          let at : ℕ = breaks_at P (payload_of slot) in
          payload_7 (payload_of slot) p none at ((breaks_iff P (payload_of slot) (own_bytes p) p.room_for none at).0 refl))

-- The frame

module _ (P : ℕ) (patch full map : List ℕ) where
  rows_sound : first_of (build_rows P patch full map) ≡ 0 → SoundFrame P patch full map
  rows_sound e =
      let n : ℕ = blocks patch in
      let long : Bool = leb (map_bytes n) (length map) in
      let w = frame_none P patch full long (sym (build_frame P patch full map long (not_fits (map_bytes n) (length map))) ∙ e) in
      let l = patch_fits_is P (length patch) (and_left (patch_fits P (length patch)) (full_fits P n (length full)) w.0) in
      let h : Headers P patch full = headers_sound P patch full w.2 in
      record {
        patch_length = l.0;
        most = l.1;
        full_length = full_fits_is P n (length full) (and_right (patch_fits P (length patch)) (full_fits P n (length full)) w.0);
        buffer = leb-true (map_bytes n) (length map) w.1;
        patch_header_is = h.0;
        full_header_is = h.1;
      }

  sound_rows_is : SoundFrame P patch full map → first_of (build_rows P patch full map) ≡ 0
  unfolding frame_rows first_of or_else length_rows
  sound_rows_is f =
      let n : ℕ = blocks patch in
      let a : patch_fits P (length patch) ≡ true = ap (λ (l : ℕ). patch_fits P l) f.patch_length ∙ patch_fits_at P n f.most in
      build_frame P patch full map true (le-ltb (length map) (map_bytes n) f.buffer)
      ∙ rw (a, fits_full P n (length full) f.full_length) (sound_headers P patch full (f.patch_header_is, f.full_header_is))

  pub frame_iff : (first_of (build_rows P patch full map) ≡ 0) ↔ SoundFrame P patch full map
  frame_iff = (rows_sound, sound_rows_is)

-- The answer

pub built_same : (x y : Result ⊤ RefusedIn) → built_numbers x ≡ built_numbers y → x ≡ y
built_same (Ok x) (Ok y) e = refl
built_same (Ok x) (Err r) e = absurd (refusal_some r.refusal (sym (ap (λ (n : BuildNumbers). n.number) e)))
built_same (Err r) (Ok x) e = absurd (refusal_some r.refusal (ap (λ (n : BuildNumbers). n.number) e))
built_same (Err r) (Err q) e =
    λ i. refused_in (refusal_one r.refusal q.refusal (ap (λ (n : BuildNumbers). n.number) e) i) (e i).block (e i).offset

module _ (P : ℕ) (patch full map : List ℕ) (answer : Result ⊤ RefusedIn) (map' : List ℕ) (call : Build P patch full map answer map') where
  told : {x : Result ⊤ RefusedIn} → answer ≡ x → built_numbers x ≡ build_numbers (build_outcome P patch full map)
  told e = sym (ap built_numbers e) ∙ call.numbers

  pub done_iff : (answer ≡ Ok tt) ↔ ((first_of (build_rows P patch full map) ≡ 0) × ((build_fault P patch full).number ≡ 0))
  done_iff = (
    λ e. build_zero P patch full map (sym (ap (λ (n : BuildNumbers). n.number) (told e))),
    λ h. built_same answer (Ok tt) (call.numbers ∙ ap build_numbers (build_done_is P patch full map h.0 h.1)),
  )

  -- what a refusal inside the frame tells, of the first fault and its payload
  abbrev pub Told : ℕ → ℕ → ℕ → Type 0
  Told k b at =
      (build_fault P patch full ≡ record { number = k; block = b }) × (offset_with k P (payload_of (slot_of patch b)) ≡ at)

  pub refused_iff : first_of (build_rows P patch full map) ≡ 0 → (r : Refusal) (b at : ℕ)
      → (answer ≡ refused_in r b at) ↔ Told (refusal_number r) b at
  refused_iff f r b at = (
    λ e. go (told e) (build_fault P patch full).number refl,
    λ e.
        built_same answer (refused_in r b at)
        (call.numbers
        ∙ ap build_numbers (build_faulty P patch full map f _ _ (λ i. (e.0 i).number) (λ i. (e.0 i).block) (refusal_some r))
        ∙ ap (λ (o : ℕ). record { number = refusal_number r; block = b; offset = o }) e.1),
  )
    where
      go : built_numbers (refused_in r b at) ≡ build_numbers (build_outcome P patch full map) → (k : ℕ) → (build_fault P patch full).number ≡ k
          → Told (refusal_number r) b at
      go o zero z = absurd (refusal_some r (ap (λ (x : BuildNumbers). x.number) (o ∙ ap build_numbers (build_done_is P patch full map f z))))
      go o (suc k) z =
          let c : ℕ = (build_fault P patch full).block in
          let t : built_numbers (refused_in r b at)
          ≡ record { number = suc k; block = c; offset = offset_with (suc k) P (payload_of (slot_of patch c)) } =
          o ∙ ap build_numbers (build_faulty P patch full map f (suc k) _ z refl (λ q. omega arith)) in (
            λ i. record { number = (z ∙ sym (ap (λ (x : BuildNumbers). x.number) t)) i; block = (sym t i).block },
            λ i. (ap (λ (x : BuildNumbers). offset_with x.number P (payload_of (slot_of patch x.block))) t
                ∙ sym (ap (λ (x : BuildNumbers). x.offset) t)) i,
          )

  -- a refusal by the frame tells neither block nor offset
  pub frame_zeros : (first_of (build_rows P patch full map) ≡ 0 → ⊥) → (r : Refusal) (b at : ℕ) → answer ≡ refused_in r b at → (b ≡ 0) × (at ≡ 0)
  frame_zeros n r b at e =
      let t = told e ∙ ap build_numbers (build_refused_is P patch full map (first_of (build_rows P patch full map)) refl n) in
      (ap (λ (x : BuildNumbers). x.block) t, ap (λ (x : BuildNumbers). x.offset) t)

  -- The map

  pub kept : (r : Refusal) (b at : ℕ) → answer ≡ refused_in r b at → map' ≡ map
  kept r b at e =
      call.bytes ∙ refused_map_is P patch full map (λ z. refusal_some r (ap (λ (x : BuildNumbers). x.number) (told e) ∙ z))

  module _ (e : answer ≡ Ok tt) where
    written : map' ≡ splice map 0 (built_map patch)
    written =
        call.bytes ∙ ap (λ (o : BuildOutcome). o.map) (build_done_is P patch full map (done_iff.0 e).0 (done_iff.0 e).1)

    frame : SoundFrame P patch full map
    frame = rows_sound P patch full map (done_iff.0 e).0

    done_later : (i : ℕ) → map_bytes (blocks patch) ≤ i → get_or map' i 0 ≡ get_or map i 0
    done_later i h =
        let l : length (built_map patch) ≡ map_bytes (blocks patch) = built_length patch in
        ap (λ (m : List ℕ). get_or m i 0) written ∙ laid_later map (built_map patch) (omega (arith, frame.buffer)) i (omega arith)

    done_length : length map' ≡ length map
    done_length =
        let l : length (built_map patch) ≡ map_bytes (blocks patch) = built_length patch in
        ap (λ (m : List ℕ). length m) written ∙ laid_length map (built_map patch) (omega (arith, frame.buffer))

    pub pairs_are : PairsOf patch map'
    pairs_are =
        record {
          empties = λ b l. moved b l (empty_pair (slot_of patch b) (ok b l));
          patches = λ b l. moved b l (patch_pair_is (slot_of patch b) (ok b l));
          fulls = λ b l. moved b l (full_pair_is (slot_of patch b) (ok b l));
          unused = λ b h k. ap (λ (m : List ℕ). pair_at m b) written ∙ built_unused patch map frame.buffer b h k;
        }
      where
        ok : (b : ℕ) → b < blocks patch → (slot_numbers (slot_of patch b)).number ≡ 0
        ok b l = slot_sound P patch full b ((none_below (block_fault P patch full) (blocks patch)).0 (done_iff.0 e).1 b l)

        pair : (b : ℕ) → b < blocks patch → pair_at map' b ≡ pair_of (slot_numbers (slot_of patch b)).kind
        pair b l = ap (λ (m : List ℕ). pair_at m b) written ∙ built_pair patch map frame.buffer b l

        moved : (b : ℕ) → b < blocks patch → {v : ℕ} {kind : Type 0} → (pair_of (slot_numbers (slot_of patch b)).kind ≡ v) ↔ kind
            → (pair_at map' b ≡ v) ↔ kind
        moved b l f = (λ q. f.0 (sym (pair b l) ∙ q), λ k. pair b l ∙ f.1 k)

    -- the blocks of a pair, told by their slots
    just : (v : ℕ) (kind : List ℕ → Type 0) → ((b : ℕ) → b < blocks patch → (pair_at map' b ≡ v) ↔ kind (slot_of patch b))
        → JustThose (λ b. (b < blocks patch) × kind (slot_of patch b)) (blocks_with v map' (blocks patch))
    just v kind f =
        let j : JustThose (HasPair v map' (blocks patch)) (blocks_with v map' (blocks patch)) = blocks_with_is v map' (blocks patch) in
        record {
          rising = j.rising;
          members = λ b. Iff.trans (j.members b) (λ h. (h.0, (f b h.0).0 h.1), λ h. (h.0, (f b h.0).1 h.1));
        }

    pub tallies_are : Tallies P patch map'
    tallies_are =
        let n : ℕ = blocks patch in
        let long : map_bytes n ≤ length map' = omega (arith, frame.buffer, done_length) in
        let good : bad_pairs map' n ≡ false = ap (λ (m : List ℕ). bad_pairs m n) written ∙ built_good patch map frame.buffer in
        record {
          patches = blocks_with patch_pair map' n;
          fulls = blocks_with full_pair map' n;
          just_patches = just patch_pair IsPatch pairs_are.patches;
          just_fulls = just full_pair IsFull pairs_are.fulls;
          numbers = sym (tally_done P map' n frame.most long _ _ good (sym (pairs_count patch_pair map' n))
              (sym (pairs_count full_pair map' n))).numbers;
        }

  pub later_bytes : (i : ℕ) → map_bytes (blocks patch) ≤ i → get_or map' i 0 ≡ get_or map i 0
  later_bytes i h = go answer refl
    where
      go : (x : Result ⊤ RefusedIn) → answer ≡ x → get_or map' i 0 ≡ get_or map i 0
      go (Ok _) e = done_later e i h
      go (Err r) e = ap (λ (m : List ℕ). get_or m i 0) (kept r.refusal r.block r.offset e)

  pub same_length : length map' ≡ length map
  same_length = go answer refl
    where
      go : (x : Result ⊤ RefusedIn) → answer ≡ x → length map' ≡ length map
      go (Ok _) e = done_length e
      go (Err r) e = ap (λ (m : List ℕ). length m) (kept r.refusal r.block r.offset e)
