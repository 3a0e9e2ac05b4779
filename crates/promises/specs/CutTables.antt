-- The numbers that Cut and Highest give, from the rows of the definitions to the words of the demands and back.
use Prim.Native.Nat.{ℕ, zero, suc, ◌≤◌, ◌<◌}
use Rattle.std.proofs.Common.{arith, ◌∙◌, subst, le-ltb, lt-ltb, ltb-true, ltb-false, eq-eqb, le-leb}
use Rattle.std.proofs.Math.Path.{◌≡◌, refl, sym, ap}
use Rattle.std.specs.Prelude.{Bool, not, ◌↔◌, eqb, length}
use Rattle.std.proofs.Math.Bool.{true, false, cond}
use mathlib.Core.List.{List, [], ◌∷◌, ◌++◌}
use Rattle.std.proofs.Math.Dec.{ltb}
use Rattle.span.specs.Bytes.{part}
use Rattle.layout.specs.Sizes.{slot_at, patch_head, blocks_at_most}
use Rattle.layout.specs.Refusals.{◌⇐◌, first_of, or_else, decided}
use Rattle.layout.specs.RefusalLaws.{or_skip, or_some}
use Rattle.layout.specs.Groups.{ordered}
use Rattle.layout.specs.FirstFault.{BlockFault, first_fault}
use Rattle.layout.specs.FirstFaultLaws.{FirstIn, none_below, first_in, first_by_rows}
use Rattle.layout.specs.Lengths.{patch_fits, length_rows}
use Rattle.layout.specs.LengthLaws.{patch_fits_is}
use Rattle.headers.specs.Headers.{patch_header, patch_head_rows, header_rows}
use Rattle.headers.specs.Meaning.{patch_header_length, head_none, head_like}
use Rattle.slots.specs.Slots.{SlotNumbers}
use Rattle.blockmap.specs.Pairs.{map_bytes}
use Rattle.store.specs.Block.{slot_of, slot_rows}
use Rattle.store.specs.FrameLaws.{lengths_fit}
use Rattle.store.specs.ShowLaws.{alone}
use Rattle.cutting.specs.Cut.{cut_rows, cut_done, cut_refused, cut_by, cut_outcome}
use Rattle.cutting.specs.Mapped.{cut_mapped_rows, cut_mapped_outcome}
use Rattle.cutting.specs.Highest.{highest_rows, highest_numbers}
use Rattle.cutting.specs.CutLaws.{cut_rows_is, cut_number, cut_mapped_number}
use Rattle.cutting.specs.HighestLaws.{highest_rows_is}
use Rattle.cutting.specs.Given.{highest_number}
use Rattle.promises.specs.Words.{blocks, LengthsFit, AreasRefuse, AreasFit, SoundSlot, MapFits}
use Rattle.promises.specs.FrameLaws.{Tells, tells_no, no_tells, tells_lengths, HeadIs, head_refused, head_right}
use Rattle.promises.specs.FrameLaws.{head_is, head_gives, head_some}
use Rattle.promises.specs.SlotLaws.{Sort, of_empty, of_patch, of_full, of_none, sort_of}
use Rattle.promises.specs.AreaLaws.{areas_number, areas_number_is, AreasAre, areas_refused, areas_right, areas_are, areas_gives, areas_zero, areas_some}
use Rattle.promises.specs.CutWords.{CutGives, CutMappedGives, PatchSized, HighestGives}

-- Cut

module _ (P : ℕ) (patch full : List ℕ) (K : ℕ) where
  pub cut_by_frame : first_of (cut_rows P [] patch full K) ≡ or_else (areas_number P patch full) (cond (ltb (blocks patch) K) 5 0)
  unfolding first_of or_else
  cut_by_frame =
      cut_rows_is P [] patch full K
      ∙ (λ i. or_else (areas_number_is P patch full i) (one (ltb (blocks patch) K) i))
    where
      one : (t : Bool) → first_of ((5 ⇐ t) ∷ []) ≡ cond t 5 0
      one true = refl
      one false = refl

  rows : AreasFit P patch full → first_of (cut_rows P [] patch full K) ≡ cond (ltb (blocks patch) K) 5 0
  rows h = cut_by_frame ∙ or_skip (areas_number P patch full) _ (areas_zero P patch full h)

  cut_given : CutGives P patch full K (first_of (cut_rows P [] patch full K))
  cut_given = go (areas_number P patch full) refl (areas_are P patch full)
    where
      inside : AreasFit P patch full → (t : Bool) → ltb (blocks patch) K ≡ t → CutGives P patch full K (cond t 5 0)
      inside h true e = CutGives.above h (ltb-true (blocks patch) K e)
      inside h false e = CutGives.done h (ltb-false (blocks patch) K e)

      go : (k : ℕ) → areas_number P patch full ≡ k → AreasAre P patch full k
          → CutGives P patch full K (first_of (cut_rows P [] patch full K))
      go k e (areas_refused r) = rw (cut_by_frame, e, or_some k (cond (ltb (blocks patch) K) 5 0) (areas_some P patch full r))
          (CutGives.frame r)
      go k e (areas_right h) = rw (rows h) (inside h (ltb (blocks patch) K) refl)

  gives_cut : (k : ℕ) → CutGives P patch full K k → first_of (cut_rows P [] patch full K) ≡ k
  gives_cut k (CutGives.frame r) =
      cut_by_frame ∙ rw (areas_gives P patch full r) (or_some k (cond (ltb (blocks patch) K) 5 0) (areas_some P patch full r))
  gives_cut k (CutGives.above h l) = rows h ∙ rw (lt-ltb (blocks patch) K l)
  gives_cut k (CutGives.done h l) = rows h ∙ rw (le-ltb (blocks patch) K l)

  pub cut_table : (k : ℕ) → ((cut_outcome P patch full K).number ≡ k) ↔ CutGives P patch full K k
  cut_table k = (
    λ e. subst (λ (j : ℕ). CutGives P patch full K j) (sym (cut_number P [] patch full K) ∙ e) cut_given,
    λ g. cut_number P [] patch full K ∙ gives_cut k g,
  )

  -- what an accepted cut tells of what it was lent
  pub cut_accepted : (cut_outcome P patch full K).number ≡ 0 → AreasFit P patch full × (K ≤ blocks patch)
  cut_accepted e = go ((cut_table 0).0 e)
    where
      go : CutGives P patch full K 0 → AreasFit P patch full × (K ≤ blocks patch)
      go (CutGives.frame r) = absurd (areas_some P patch full r refl)
      go (CutGives.done h l) = (h, l)

-- Cut with a lent map

module _ (P : ℕ) (patch full map : List ℕ) (K : ℕ) where
  -- with a map that fits there is no further row
  long_rows : MapFits patch map → first_of (cut_mapped_rows P patch full map K) ≡ first_of (cut_rows P [] patch full K)
  unfolding cut_mapped_rows cut_rows ordered length_rows first_of or_else
  long_rows h = rw (le-ltb (length map) (map_bytes (blocks patch)) h)

  pub mapped_as_cut : MapFits patch map → (cut_mapped_outcome P patch full map K).areas ≡ cut_outcome P patch full K
  unfolding cut_mapped_outcome cut_by cut_mapped_rows
  mapped_as_cut h = ap (λ (k : ℕ). decided k (cut_done P patch full K) (λ (n : ℕ). cut_refused n patch full)) (long_rows h)

  -- and with one that does not, 2 or 9
  short_rows : length map < map_bytes (blocks patch) → first_of (cut_mapped_rows P patch full map K) ≡ cond (lengths_fit P patch full) 9 2
  unfolding cut_mapped_rows cut_rows ordered length_rows first_of or_else
  short_rows h =
      rw (lt-ltb (length map) (map_bytes (blocks patch)) h)
      (go (lengths_fit P patch full) (first_of (header_rows P patch full ++ ((5 ⇐ ltb (blocks patch) K) ∷ []))))
    where
      go : (t : Bool) (rest : ℕ) → or_else (cond (not t) 2 0) (or_else 9 rest) ≡ cond t 9 2
      go true rest = refl
      go false rest = refl

  pub cut_short : LengthsFit P patch full → length map < map_bytes (blocks patch) → (cut_mapped_outcome P patch full map K).areas.number ≡ 9
  cut_short l h = cut_mapped_number P patch full map K ∙ short_rows h ∙ rw ((tells_lengths P patch full).1 l)

  pub cut_mapped_table : (k : ℕ) → ((cut_mapped_outcome P patch full map K).areas.number ≡ k) ↔ CutMappedGives P patch full map K k
  cut_mapped_table k = (
    λ e. subst (λ (j : ℕ). CutMappedGives P patch full map K j) (sym (cut_mapped_number P patch full map K) ∙ e) given,
    λ g. cut_mapped_number P patch full map K ∙ gives k g,
  )
    where
      given : CutMappedGives P patch full map K (first_of (cut_mapped_rows P patch full map K))
      given = go (ltb (length map) (map_bytes (blocks patch))) refl
        where
          short : length map < map_bytes (blocks patch) → (t : Bool) → lengths_fit P patch full ≡ t
              → CutMappedGives P patch full map K (cond t 9 2)
          short h true e = CutMappedGives.short ((tells_lengths P patch full).0 e) h
          short h false e = CutMappedGives.lengths (tells_no _ (tells_lengths P patch full) e)

          go : (t : Bool) → ltb (length map) (map_bytes (blocks patch)) ≡ t
              → CutMappedGives P patch full map K (first_of (cut_mapped_rows P patch full map K))
          go true e =
              let h : length map < map_bytes (blocks patch) = ltb-true (length map) (map_bytes (blocks patch)) e in
              rw (short_rows h) (short h (lengths_fit P patch full) refl)
          go false e =
              let h : MapFits patch map = ltb-false (length map) (map_bytes (blocks patch)) e in
              rw (long_rows h) (CutMappedGives.inside h (cut_given P patch full K))

      gives : (k : ℕ) → CutMappedGives P patch full map K k → first_of (cut_mapped_rows P patch full map K) ≡ k
      gives k (CutMappedGives.lengths h) = go (ltb (length map) (map_bytes (blocks patch))) refl
        where
          go : (t : Bool) → ltb (length map) (map_bytes (blocks patch)) ≡ t → first_of (cut_mapped_rows P patch full map K) ≡ 2
          go true e =
              short_rows (ltb-true (length map) (map_bytes (blocks patch)) e) ∙ rw (no_tells _ (tells_lengths P patch full) h)
          go false e =
              long_rows (ltb-false (length map) (map_bytes (blocks patch)) e)
              ∙ gives_cut P patch full K 2 (CutGives.frame (AreasRefuse.lengths h))
      gives k (CutMappedGives.short l h) = short_rows h ∙ rw ((tells_lengths P patch full).1 l)
      gives k (CutMappedGives.inside h g) = long_rows h ∙ gives_cut P patch full K k g

  -- an accepted one had a map that fits
  pub cut_fitting : (cut_mapped_outcome P patch full map K).areas.number ≡ 0 → MapFits patch map
  cut_fitting e = go ((cut_mapped_table 0).0 e)
    where
      go : CutMappedGives P patch full map K 0 → MapFits patch map
      go (CutMappedGives.inside h g) = h

-- Highest

tells_sized : (P : ℕ) (patch : List ℕ) → Tells (patch_fits P (length patch)) (PatchSized P patch)
unfolding patch_fits
tells_sized P patch = (
  λ e. let p = patch_fits_is P (length patch) e in record { patch_length = p.0; not_above = p.1 },
  λ h. rw (eq-eqb (length patch) (slot_at (blocks patch)) h.patch_length, le-leb (blocks patch) (blocks_at_most P) h.not_above),
)

-- what a slot's own row says of it

module _ (s : List ℕ) where
  data SlotIs : ℕ → Type 0 where
    slot_sound : SoundSlot s → SlotIs 0
    slot_unsound : (SoundSlot s → ⊥) → SlotIs 6

  slot_is : SlotIs (first_of (slot_rows s))
  unfolding slot_rows first_of or_else
  slot_is = go (sort_of s)
    where
      go : {x : SlotNumbers} → Sort s x → SlotIs (or_else (cond (not (eqb x.number 0)) 6 0) 0)
      go (of_empty e) = slot_sound (SoundSlot.empty e)
      go (of_patch p e q) = slot_sound (SoundSlot.patch p e)
      go (of_full e) = slot_sound (SoundSlot.full e)
      go (of_none u) = slot_unsound u

  pub slot_right : SoundSlot s → first_of (slot_rows s) ≡ 0
  slot_right h = go slot_is
    where
      go : {k : ℕ} → SlotIs k → k ≡ 0
      go (slot_sound x) = refl
      go (slot_unsound u) = absurd (u h)

  slot_wrong : (SoundSlot s → ⊥) → first_of (slot_rows s) ≡ 6
  slot_wrong h = go slot_is
    where
      go : {k : ℕ} → SlotIs k → k ≡ 6
      go (slot_sound x) = absurd (h x)
      go (slot_unsound u) = refl

module _ (P : ℕ) (patch : List ℕ) where
  abbrev test : ℕ → ℕ
  test b = first_of (slot_rows (slot_of patch b))

  abbrev fault : BlockFault
  fault = first_fault test 0 (blocks patch)

  highest_by : first_of (highest_rows P patch)
      ≡ or_else (cond (not (patch_fits P (length patch))) 2 0) (or_else (first_of (patch_head_rows P patch)) fault.number)
  unfolding or_else
  highest_by =
      highest_rows_is P patch
      ∙ (λ i. or_else (alone P patch i) (sym (first_by_rows (λ b. slot_rows (slot_of patch b)) 0 (blocks patch)) i))
      ∙ assoc (cond (not (patch_fits P (length patch))) 2 0) (first_of (patch_head_rows P patch)) fault.number
    where
      assoc : (a b c : ℕ) → or_else (or_else a b) c ≡ or_else a (or_else b c)
      assoc zero b c = refl
      assoc (suc a) b c = refl

  head : HeadIs (patch_header P) patch_head patch (first_of (patch_head_rows P patch))
  unfolding patch_head_rows
  head = head_is (patch_header P) patch_head patch

  head_told : first_of (patch_head_rows P patch) ≡ 0 → part 0 patch_head patch ≡ patch_header P
  unfolding patch_head_rows
  head_told e = head_none (patch_header P) patch patch_head (patch_header_length P) (omega arith) e

  slots_given : PatchSized P patch → part 0 patch_head patch ≡ patch_header P → (k : ℕ) → fault.number ≡ k → HighestGives P patch k
  slots_given z h zero e =
      HighestGives.done z h (λ b l. go b (first_of (slot_rows (slot_of patch b))) ((none_below test (blocks patch)).0 e b l) (slot_is (slot_of patch b)))
    where
      go : (b k : ℕ) → k ≡ 0 → SlotIs (slot_of patch b) k → SoundSlot (slot_of patch b)
      go b k q (slot_sound s) = s
      go b k q (slot_unsound u) = absurd (omega arith)
  slots_given z h (suc k) e =
      let w : FirstIn test 0 (blocks patch) fault = first_in test 0 (blocks patch) (λ q. omega (arith, e, q)) in
      go (first_of (slot_rows (slot_of patch fault.block))) (w.fault ∙ e) (omega (arith, w.within)) (slot_is (slot_of patch fault.block))
    where
      go : (j : ℕ) → j ≡ suc k → fault.block < blocks patch → SlotIs (slot_of patch fault.block) j → HighestGives P patch (suc k)
      go j q l (slot_sound s) = absurd (omega arith)
      go j q l (slot_unsound u) = subst (λ (i : ℕ). HighestGives P patch i) q (HighestGives.slot z h fault.block l u)

  highest_given : HighestGives P patch (first_of (highest_rows P patch))
  unfolding or_else
  highest_given = rw highest_by (sized (patch_fits P (length patch)) refl)
    where
      heads : PatchSized P patch → (k : ℕ) → first_of (patch_head_rows P patch) ≡ k → HeadIs (patch_header P) patch_head patch k
          → HighestGives P patch (or_else k fault.number)
      heads z k e (head_refused r) = rw (or_some k fault.number (head_some (patch_header P) patch_head patch r)) (HighestGives.header z r)
      heads z k e head_right = rw (or_skip 0 fault.number refl) (slots_given z (head_told e) fault.number refl)

      sized : (t : Bool) → patch_fits P (length patch) ≡ t
          → HighestGives P patch (or_else (cond (not t) 2 0) (or_else (first_of (patch_head_rows P patch)) fault.number))
      sized true e = heads ((tells_sized P patch).0 e) (first_of (patch_head_rows P patch)) refl head
      sized false e = HighestGives.area (tells_no _ (tells_sized P patch) e)

  gives_highest : (k : ℕ) → HighestGives P patch k → first_of (highest_rows P patch) ≡ k
  unfolding or_else patch_head_rows
  gives_highest k (HighestGives.area h) = highest_by ∙ rw (no_tells _ (tells_sized P patch) h)
  gives_highest k (HighestGives.header z r) =
      highest_by ∙ rw ((tells_sized P patch).1 z, head_gives (patch_header P) patch_head patch r)
      (or_some k fault.number (head_some (patch_header P) patch_head patch r))
  gives_highest k (HighestGives.slot z h b l u) =
      highest_by
      ∙ rw ((tells_sized P patch).1 z, head_like (patch_header P) patch patch_head (patch_header_length P) (omega arith) h)
      (six (slots_given z h fault.number refl))
    where
      six : HighestGives P patch fault.number → fault.number ≡ 6
      six g = go fault.number refl
        where
          go : (j : ℕ) → fault.number ≡ j → fault.number ≡ 6
          go zero e =
              let q : ◌≡◌ {A = ℕ} 6 0 = sym (slot_wrong (slot_of patch b) u) ∙ (none_below test (blocks patch)).0 e b l in
              absurd (omega arith)
          go (suc j) e =
              let w : FirstIn test 0 (blocks patch) fault = first_in test 0 (blocks patch) (λ q. omega (arith, e, q)) in
              sym w.fault ∙ only (first_of (slot_rows (slot_of patch fault.block))) (w.fault ∙ e) (slot_is (slot_of patch fault.block))
            where
              only : (i : ℕ) → i ≡ suc j → SlotIs (slot_of patch fault.block) i → i ≡ 6
              only i q (slot_sound s) = absurd (omega arith)
              only i q (slot_unsound v) = refl
  gives_highest k (HighestGives.done z h s) =
      highest_by
      ∙ rw ((tells_sized P patch).1 z, head_like (patch_header P) patch patch_head (patch_header_length P) (omega arith) h)
      ((none_below test (blocks patch)).1 (λ b l. slot_right (slot_of patch b) (s b l)))

  pub highest_table : (k : ℕ) → ((highest_numbers P patch).number ≡ k) ↔ HighestGives P patch k
  highest_table k = (
    λ e. subst (λ (j : ℕ). HighestGives P patch j) (sym (highest_number P patch) ∙ e) highest_given,
    λ g. highest_number P patch ∙ gives_highest k g,
  )
