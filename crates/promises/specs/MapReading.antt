-- "With a map equal to the built one, such reads answer as Read does wherever Build accepts."
--
-- The map's first bytes are the built ones; its later bytes are any. The whole outcome is the same, number, kind, offset and page, for
-- every block, base and page, also where both refuse.
use Rattle.std.specs.Prelude.{ℕ, ◌≤◌, ◌<◌, ◌≡◌, refl, List, length, get_or, Result, Ok}
use Rattle.std.proofs.Common.{arith, ap, ◌∙◌}
use Rattle.std.proofs.Math.Decide.{dec_lt}
use Rattle.std.proofs.Math.Path.{sym}
use Rattle.span.specs.Bytes.{part, splice}
use Rattle.span.specs.Laws.{part_at, part_short, part_splice, splice_is}
use Rattle.layout.specs.Sizes.{page_size}
use Rattle.layout.specs.FirstFaultLaws.{none_below}
use Rattle.slots.specs.Slots.{slot_numbers}
use Rattle.blockmap.specs.Pairs.{map_bytes, pair_at}
use Rattle.blockmap.specs.Pack.{pair_of}
use Rattle.store.specs.Block.{slot_of}
use Rattle.reading.specs.Read.{Read, ReadOutcome, read_outcome, read_numbers}
use Rattle.reading.specs.Mapped.{ReadMapped, read_mapped_outcome}
use Rattle.reading.specs.ReadLaws.{read_frame, read_block}
use Rattle.building.specs.Build.{Build, BuildNumbers, BuildOutcome, build_outcome, built_map, block_fault}
use Rattle.building.specs.BuildLaws.{build_zero, build_done_is, slot_sound}
use Rattle.building.specs.BuildWords.{SoundFrame}
use Rattle.building.specs.BuildMeaningLaws.{frame_iff}
use Rattle.building.specs.MapLaws.{built_length, built_pair}
use Rattle.promises.specs.Words.{blocks, FrameFits, header}
use Rattle.promises.specs.FrameLaws.{frame_number, FrameIs, frame_refused, frame_right, frame_is, frame_gives, frame_zero, frame_some}
use Rattle.promises.specs.MapTables.{by_map_refused, by_map_not_below, pair_agrees}
use Rattle.promises.specs.Answers.{reading_one}
use Rattle.layout.specs.declared.RefusedAt.{RefusedAt}
use Rattle.layout.specs.declared.Kind.{Kind}

-- a map whose first bytes are these is the one with these laid over it
pub laid_over : (map first : List ℕ) (n : ℕ) → length first ≡ n → part 0 n map ≡ first → (n ≤ length map) × (map ≡ splice map 0 first)
laid_over map first n l e =
    let h : n ≤ length map = omega (arith, part_short 0 n map, ap (λ (x : List ℕ). length x) e, l) in (
      h,
      splice_is map 0 first map (omega arith) refl (λ i k. absurd (omega arith))
          (λ j k. sym (part_at 0 n map j (omega arith)) ∙ ap (λ (x : List ℕ). get_or x j 0) e) (λ i k m. refl),
    )

module _ (P : ℕ) (patch full old : List ℕ) (accepts : (build_outcome P patch full old).number ≡ 0)
    (map : List ℕ) (equal : part 0 (map_bytes (blocks patch)) map ≡ built_map patch) where
  long : map_bytes (blocks patch) ≤ length map
  long = (laid_over map (built_map patch) (map_bytes (blocks patch)) (built_length patch) equal).0

  fine : (b : ℕ) → b < blocks patch → block_fault P patch full b ≡ 0
  fine = (none_below (block_fault P patch full) (blocks patch)).0 (build_zero P patch full old accepts).1

  pair_is : (b : ℕ) → b < blocks patch → pair_at map b ≡ pair_of (slot_numbers (slot_of patch b)).kind
  pair_is b h =
      ap (λ (m : List ℕ). pair_at m b) (laid_over map (built_map patch) (map_bytes (blocks patch)) (built_length patch) equal).1
      ∙ built_pair patch map long b h

  module _ (b : ℕ) (base page : List ℕ) where
    within : FrameFits P patch full base page → b < blocks patch
        → read_mapped_outcome P patch full map b base page ≡ read_outcome P patch full b base page
    within f h =
        pair_agrees P patch full map b base page (record { frame = f; room_for = long; below = h })
        (slot_sound P patch full b (fine b h)) (pair_is b h)

    not_below : FrameFits P patch full base page → blocks patch ≤ b
        → read_mapped_outcome P patch full map b base page ≡ read_outcome P patch full b base page
    unfolding frame_number
    not_below f h =
        by_map_not_below P patch full map b base page f long h
        ∙ sym (read_block P patch full b base page (frame_zero P patch full base page f) h)

    pub map_reads_as_read : read_mapped_outcome P patch full map b base page ≡ read_outcome P patch full b base page
    unfolding frame_number
    map_reads_as_read = go (frame_is P patch full base page)
      where
        go : {k : ℕ} → FrameIs P patch full base page k
            → read_mapped_outcome P patch full map b base page ≡ read_outcome P patch full b base page
        go (frame_right f) = elim (dec_lt b (blocks patch)) [ yes h ↦ within f h | no h ↦ not_below f (omega arith) ]
        go {k} (frame_refused r) =
            by_map_refused P patch full map b base page (header long r)
            ∙ sym (read_frame P patch full b base page k (frame_gives P patch full base page r) (frame_some P patch full base page r))

-- The same of the calls: after a Build that is done, any map that begins as the one it left, and two reads of the same block
pub reads_alike : (patch full old built map : List ℕ) → Build page_size patch full old (Ok tt) built
    → part 0 (map_bytes (blocks patch)) map ≡ part 0 (map_bytes (blocks patch)) built
    → (b : ℕ) (base page : List ℕ) (x y : Result Kind RefusedAt) (p q : List ℕ)
    → ReadMapped page_size patch full map b base page x p → Read page_size patch full b base page y q
    → (x ≡ y) × (p ≡ q)
reads_alike patch full old built map call equal b base page x y p q by_map plain =
    let accepts : (build_outcome page_size patch full old).number ≡ 0 = sym (ap (λ (n : BuildNumbers). n.number) call.numbers) in
    let clear = build_zero page_size patch full old accepts in
    let frame : SoundFrame page_size patch full old = (frame_iff page_size patch full old).0 clear.0 in
    let l : length (built_map patch) ≡ map_bytes (blocks patch) = built_length patch in
    let first : part 0 (map_bytes (blocks patch)) built ≡ built_map patch =
    ap (part 0 (map_bytes (blocks patch)))
    (call.bytes ∙ ap (λ (o : BuildOutcome). o.map) (build_done_is page_size patch full old clear.0 clear.1))
    ∙ part_splice old 0 (built_map patch) (map_bytes (blocks patch)) l (omega (arith, frame.buffer)) in
    let same = map_reads_as_read page_size patch full old accepts map (equal ∙ first) b base page in (
      reading_one x y (by_map.numbers ∙ ap read_numbers same ∙ sym plain.numbers),
      by_map.bytes ∙ ap (λ (o : ReadOutcome). o.page) same ∙ sym plain.bytes,
    )
