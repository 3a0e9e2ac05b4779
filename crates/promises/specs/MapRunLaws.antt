-- Demand 3 with the map over any page size to 65,536, from demand 3 and what is proved of a buffer beside a state.
use Rattle.std.specs.Prelude.{ℕ, ◌+◌, ◌≤◌, ◌<◌, ◌≡◌, true, false, ◌↔◌, ◌⊎◌, length, get_or, Ok}
use Rattle.std.proofs.Common.{arith, ◌∙◌, inl, inr, le-leb}
use Rattle.std.proofs.Math.Decide.{dec_lt}
use Rattle.std.proofs.Math.Path.{refl, sym, ap}
use Rattle.std.proofs.Math.Logic.{⊎_elim}
use Rattle.std.proofs.Math.Option.{some, none-ne-some}
use mathlib.Core.List.Memᴰ
use mathlib.Core.List.{List, [], ◌∷◌, map}
use Rattle.std.proofs.lemmas.Bool.{lt-leb}
use Rattle.span.specs.Laws.{ext, part_splice, splice_is}
use Rattle.layout.specs.Lengths.{blocks_in}
use Rattle.slots.specs.Slots.{SlotNumbers, slot_numbers}
use Rattle.slots.specs.Meaning.{empty_numbers}
use Rattle.blockmap.specs.Pairs.{map_bytes}
use Rattle.blockmap.specs.Pack.{pair_of}
use Rattle.blockmap.specs.PackLaws.{packed_zero}
use Rattle.stream.specs.Calls.{page_of}
use Rattle.store.specs.Block.{slot_of}
use Rattle.reading.specs.Read.{ReadOutcome, read_done}
use Rattle.building.specs.Build.{BuildOutcome, built_map, build_done}
use Rattle.building.specs.MapLaws.{built_length, laid_later, laid_length}
use Rattle.building.specs.BuildWords.{PairsOf}
use Rattle.building.specs.BuildMeaningLaws.{pairs_are}
use Rattle.promises.specs.Words.{blocks, PagesFit}
use Rattle.promises.specs.Decisions.{Cell}
use Rattle.promises.specs.Runs.{run, taking, last_such, NoRepeats, write}
use Rattle.promises.specs.RunWords.{Areas, read_at, Lent, Cut, Operation, after, accepted, last_to, JustLasts, Decided, OverBases}
use Rattle.promises.specs.RunStore.{store}
use Rattle.promises.specs.RunStoreLaws.{store_laws}
use Rattle.promises.specs.FreshLaws.{fresh_lengths, fresh_cell, fresh_one}
use Rattle.promises.specs.CarryWords.{PageFits, ReadAs}
use Rattle.promises.specs.CarryTables.{carry_short}
use Rattle.promises.specs.Tables.{read_by_page}
use Rattle.promises.specs.CutTables.{cut_short}
use Rattle.promises.specs.RunLaws.{lasts_leave_same, lasts_list, kept, reads_given, build_accepts, runs_agreeing}
use Rattle.promises.specs.RunLaws.{keeps_over, follows_over}
use Rattle.promises.specs.Beside.{run_with, taking_with, run_without_room, taking_without_room}
use Rattle.promises.specs.MapWords.{Mapped, map_room, Long, map_part, build_into, read_by_map, mapped, after_with, accepted_with}
use Rattle.promises.specs.MapWords.{cut_mapped, JustLastsWith, FollowsBasesWith, KeepsBasesWith, OverBasesWith, FreshWith, SameRoom, Alike}
use Rattle.promises.specs.MapStore.{with, laid, beside}
use Rattle.promises.specs.MapStoreLaws.{laid_long, room_kept, beside_laws}
use Rattle.promises.specs.MapReading.{laid_over, map_reads_as_read}

-- A map with the built one laid over it

module _ (s : Areas) (map : List ℕ) (long : Long s map) where
  room_for : length (built_map s.patch) ≤ length map
  room_for = let l : length (built_map s.patch) ≡ map_room s = built_length s.patch in omega (arith, l, long)

  pub laid_part : map_part s (laid s map) ≡ built_map s.patch
  laid_part =
      let l : length (built_map s.patch) ≡ map_room s = built_length s.patch in
      part_splice map 0 (built_map s.patch) (map_room s) l (omega (arith, long))

  pub laid_twice : laid s (laid s map) ≡ laid s map
  laid_twice = sym (laid_over (laid s map) (built_map s.patch) (map_room s) (built_length s.patch) laid_part).1

-- zeros are the built map of fresh areas
fresh_laid : (P : ℕ) (x : Mapped) → FreshWith P x → Long x.areas x.map → x.map ≡ laid x.areas x.map
unfolding built_map pair_of
fresh_laid P x h long =
    splice_is x.map 0 (built_map x.areas.patch) x.map (omega (arith, room_for x.areas x.map long)) refl
    (λ i k. absurd (omega arith))
    (λ j k.
    let l : length (built_map x.areas.patch) ≡ map_room x.areas = built_length x.areas.patch in
    let z : 0 + j ≡ j = omega arith in
    ap (λ (i : ℕ). get_or x.map i 0) z ∙ h.zero j (omega arith) ∙ sym (packed_zero _ (blocks x.areas.patch) empty j (omega arith)))
    (λ i k m. refl)
  where
    empty : (b : ℕ) → b < blocks x.areas.patch → pair_of (slot_numbers (slot_of x.areas.patch b)).kind ≡ 0
    empty b k =
        ap (λ (c : Cell). pair_of (slot_numbers c.slot).kind) (fresh_cell P x.areas h.fresh b k)
        ∙ ap (λ (n : SlotNumbers). pair_of n.kind) empty_numbers

module _ (P : ℕ) (x : Mapped) (h : FreshWith P x) where
  -- With a map that is long enough

  module _ (long : Long x.areas x.map) where
    fits : (beside P).fits ((store P).frame x.areas) x.map ≡ true
    fits = le-leb _ (length x.map) (rw (room_kept P x.areas) long)

    -- the run is the run without it, and what Build leaves at its end
    pub run_is : (os : List Operation) → after_with P x os ≡ with (after P x.areas os) (laid (after P x.areas os) x.map)
    run_is os =
        ap (λ (m : List ℕ). after_with P (with x.areas m) os) (fresh_laid P x h long)
        ∙ run_with (store P) (beside P) (store_laws P) (beside_laws P) x.areas x.map fits os

    pub accepted_is : (os : List Operation) → accepted_with P x os ≡ accepted P x.areas os
    accepted_is os =
        ap (λ (m : List ℕ). accepted_with P (with x.areas m) os) (fresh_laid P x h long)
        ∙ taking_with (store P) (beside P) (store_laws P) (beside_laws P) x.areas x.map fits os

    same_room : (os : List Operation) → map_room (after P x.areas os) ≡ map_room x.areas
    same_room os = ap (λ (l : ℕ). map_bytes (blocks_in l)) (kept P x.areas h.fresh os).patch_length

    long_after : (os : List Operation) → Long (after P x.areas os) x.map
    long_after os = rw (same_room os) long

    pub length_kept : (os : List Operation) → length (after_with P x os).map ≡ length x.map
    length_kept os =
        ap (λ (y : Mapped). length y.map) (run_is os)
        ∙ laid_length x.map (built_map (after P x.areas os).patch) (room_for (after P x.areas os) x.map (long_after os))

    pub later_kept : (os : List Operation) (i : ℕ) → map_room x.areas ≤ i → get_or (after_with P x os).map i 0 ≡ get_or x.map i 0
    later_kept os i k =
        let l : length (built_map (after P x.areas os).patch) ≡ map_room (after P x.areas os) =
        built_length (after P x.areas os).patch in
        ap (λ (y : Mapped). get_or y.map i 0) (run_is os)
        ∙ laid_later x.map (built_map (after P x.areas os).patch) (room_for (after P x.areas os) x.map (long_after os)) i
        (omega (arith, l, same_room os, k))

    -- the bytes that count are the built ones
    pub part_is : (os : List Operation)
        → map_part (after_with P x os).areas (after_with P x os).map ≡ built_map (after_with P x os).areas.patch
    part_is os = rw (run_is os) (laid_part (after P x.areas os) x.map (long_after os))

    module _ (small : P ≤ 65536) (os : List Operation) where
      -- Into any map that is long enough, whatever is in it: Build accepts, and a read by what it leaves is Read
      module _ (map : List ℕ) (room : Long x.areas map) where
        abbrev end : Areas
        end = after P x.areas os

        room_after : Long end map
        room_after = rw (same_room os) room

        pub builds_laid : build_into P end map ≡ build_done (laid end map)
        builds_laid = build_accepts P x.areas h.fresh small os map room_after

        pub reads_laid : (b : ℕ) (base page : List ℕ) → read_by_map P (with end (laid end map)) b base page ≡ read_at P end b base page
        reads_laid b base page =
            map_reads_as_read P end.patch end.full map (ap (λ (o : BuildOutcome). o.number) builds_laid) (laid end map)
            (laid_part end map room_after) b base page

        -- the bytes that count are those of the map that the run keeps
        pub alike_laid : Alike (with end (laid end map)) (after_with P x os)
        alike_laid = rw (run_is os) (record { areas = refl; pairs = laid_part end map room_after ∙ sym (laid_part end x.map (long_after os)) })

      -- in the map as it was lent at first it leaves what was kept in it
      pub built_at_end : build_into P (after_with P x os).areas x.map ≡ build_done (after_with P x os).map
      built_at_end = rw (run_is os) (builds_laid x.map long)

      -- and changes nothing of the kept one
      pub built_changes_nothing : build_into P (after_with P x os).areas (after_with P x os).map ≡ build_done (after_with P x os).map
      built_changes_nothing =
          rw (run_is os)
          (build_accepts P x.areas h.fresh small os (laid (after P x.areas os) x.map)
          (laid_long (after P x.areas os) x.map (long_after os))
          ∙ ap build_done (laid_twice (after P x.areas os) x.map (long_after os)))

      pub reads_by_map : (b : ℕ) (base page : List ℕ)
          → read_by_map P (after_with P x os) b base page ≡ read_at P (after P x.areas os) b base page
      reads_by_map b base page = rw (run_is os) (reads_laid x.map long b base page)

      -- so a block at which a write stands reads by the map as the decision says, whoever made it
      pub reads_given_by_map : (b : ℕ) → b < blocks x.areas.patch → (w : Lent) → last_to b (accepted_with P x os) ≡ some (write w)
          → (base page : List ℕ) → PagesFit P base page → (y : List ℕ) → ReadAs P base w.decision y
          → read_by_map P (after_with P x os) b base page ≡ read_done w.decision.kind y
      reads_given_by_map b n w e base page f y r =
          reads_by_map b base page
          ∙ reads_given P x.areas h.fresh small os b n base page f w (ap (last_to b) (sym (accepted_is os)) ∙ e) y r

      pub pairs_at_end : PairsOf (after_with P x os).areas.patch (after_with P x os).map
      pairs_at_end =
          pairs_are P (after_with P x os).areas.patch (after_with P x os).areas.full x.map (Ok tt) (after_with P x os).map
          (record {
            numbers = sym (ap (λ (o : BuildOutcome). record { number = o.number; block = o.block; offset = o.offset }) built_at_end);
            bytes = sym (ap (λ (o : BuildOutcome). o.map) built_at_end);
          }) refl

  -- With one that is too short

  module _ (short : length x.map < map_room x.areas) where
    none : (beside P).fits ((store P).frame x.areas) x.map ≡ false
    none = lt-leb _ (length x.map) (rw (room_kept P x.areas) short)

    pub short_run : (os : List Operation) → after_with P x os ≡ x
    short_run os = run_without_room (store P) (beside P) (store_laws P) (beside_laws P) x.areas x.map none os

    pub short_accepts : (os : List Operation) → accepted_with P x os ≡ []
    short_accepts os = taking_without_room (store P) (beside P) (store_laws P) (beside_laws P) x.areas x.map none os

    pub short_nine : (w : Lent) → PageFits P w.decision → (mapped P x w).areas.number ≡ 9
    short_nine w f =
        carry_short P x.areas.patch x.areas.full x.map w.block w.decision f (fresh_lengths P x.areas h.fresh) short

    pub short_cut_nine : (K : Cut) → (cut_mapped P x K).areas.number ≡ 9
    short_cut_nine K = cut_short P x.areas.patch x.areas.full x.map K (fresh_lengths P x.areas h.fresh) short

    short_lasts : (os : List Operation) (ls : List Lent) → JustLastsWith P x os ls → ls ≡ []
    unfolding last_to last_such
    short_lasts os [] l = refl
    short_lasts os (w ∷ ls) l = absurd (none-ne-some _ (rw (short_accepts os) at ((l w).0 (Memᴰ.head refl))))

  either : Long x.areas x.map ⊎ (length x.map < map_room x.areas)
  either = elim (dec_lt (length x.map) (map_room x.areas)) [ yes k ↦ inr k | no k ↦ inl (omega arith) ]

  -- (a)
  pub lasts_leave_with : (os : List Operation) (ls : List Lent) → JustLastsWith P x os ls
      → (accepted_with P x (map write ls) ≡ map write ls) × (after_with P x (map write ls) ≡ after_with P x os)
  unfolding run taking
  lasts_leave_with os ls l = ⊎_elim with_room without either
    where
      with_room : Long x.areas x.map
          → (accepted_with P x (map write ls) ≡ map write ls) × (after_with P x (map write ls) ≡ after_with P x os)
      with_room long =
          let j : JustLasts P x.areas os ls = rw (accepted_is long os) at l in
          let q = lasts_leave_same P x.areas h.fresh os ls j in (
            accepted_is long (map write ls) ∙ q.0,
            run_is long (map write ls) ∙ ap (λ (t : Areas). with t (laid t x.map)) q.1 ∙ sym (run_is long os),
          )

      without : length x.map < map_room x.areas
          → (accepted_with P x (map write ls) ≡ map write ls) × (after_with P x (map write ls) ≡ after_with P x os)
      without short = rw (short_lasts short os ls l) (refl, sym (short_run short os))

  pub lasts_list_with : (os : List Operation) → (ls : List Lent) × JustLastsWith P x os ls × NoRepeats (λ (w : Lent). w.block) ls
  unfolding last_to last_such
  lasts_list_with os = ⊎_elim with_room without either
    where
      with_room : Long x.areas x.map → (ls : List Lent) × JustLastsWith P x os ls × NoRepeats (λ (w : Lent). w.block) ls
      with_room long = let q = lasts_list P x.areas h.fresh os in (q.0, rw (accepted_is long os) q.1, q.2)

      without : length x.map < map_room x.areas → (ls : List Lent) × JustLastsWith P x os ls × NoRepeats (λ (w : Lent). w.block) ls
      without short = (
        [],
        rw (short_accepts short os) (λ w. (λ m. absurd (Memᴰ.not-nil m), λ e. absurd (none-ne-some _ e))),
        tt {0},
      )

  pub keeps_over_with : (os : List Operation) (bases : ℕ → List ℕ) → KeepsBasesWith P bases x os → OverBasesWith P bases x os
  unfolding last_to last_such
  keeps_over_with os bases k b n w e = ⊎_elim with_room without either
    where
      with_room : Long x.areas x.map → Decided P (page_of P (bases b)) w
      with_room long =
          keeps_over P x.areas os bases (λ v i. k v (rw (accepted_is long os) i)) b n w (rw (accepted_is long os) at e)

      without : length x.map < map_room x.areas → Decided P (page_of P (bases b)) w
      without short = absurd (none-ne-some _ (rw (short_accepts short os) at e))

  pub follows_over_with : (os : List Operation) (start end : ℕ → List ℕ) → FollowsBasesWith P start x os end → OverBasesWith P end x os
  unfolding last_to last_such
  follows_over_with os start end k b n w e = ⊎_elim with_room without either
    where
      with_room : Long x.areas x.map → Decided P (page_of P (end b)) w
      with_room long = follows_over P x.areas os start end (rw (accepted_is long os) at k) b n w (rw (accepted_is long os) at e)

      without : length x.map < map_room x.areas → Decided P (page_of P (end b)) w
      without short = absurd (none-ne-some _ (rw (short_accepts short os) at e))

-- (b) Two runs

module _ (P : ℕ) (small : P ≤ 65536) (x y : Mapped) (h : FreshWith P x) (k : FreshWith P y)
    (patch_lengths : length x.areas.patch ≡ length y.areas.patch)
    (full_lengths : length x.areas.full ≡ length y.areas.full) (rooms : SameRoom x.areas x.map y.map) where
  one : x.areas ≡ y.areas
  one = fresh_one P x.areas y.areas h.fresh k.fresh patch_lengths full_lengths

  -- both maps are long enough, or neither
  sides : (Long x.areas x.map × Long y.areas y.map)
      ⊎ ((length x.map < map_room x.areas) × (length y.map < map_room y.areas) × (length x.map ≡ length y.map))
  sides = rw (← one) (go rooms)
    where
      go : SameRoom x.areas x.map y.map
          → (Long x.areas x.map × Long x.areas y.map)
          ⊎ ((length x.map < map_room x.areas) × (length y.map < map_room x.areas) × (length x.map ≡ length y.map))
      go (inl e) =
          elim (dec_lt (length x.map) (map_room x.areas)) [
            | yes l ↦ inr (l, omega (arith, e, l), e)
            | no l ↦ inl (omega arith, omega arith)
          ]
      go (inr l) = inl l

  -- the areas decide the bytes of the map that count
  alike_areas : (os os' : List Operation) → (after_with P x os).areas ≡ (after_with P y os').areas
      → Alike (after_with P x os) (after_with P y os')
  alike_areas os os' e = record { areas = e; pairs = ⊎_elim with_room without sides }
    where
      with_room : Long x.areas x.map × Long y.areas y.map
          → map_part (after_with P x os).areas (after_with P x os).map ≡ map_part (after_with P y os').areas (after_with P y os').map
      with_room l = part_is P x h l.0 os ∙ ap (λ (t : Areas). built_map t.patch) e ∙ sym (part_is P y k l.1 os')

      without : (length x.map < map_room x.areas) × (length y.map < map_room y.areas) × (length x.map ≡ length y.map)
          → map_part (after_with P x os).areas (after_with P x os).map ≡ map_part (after_with P y os').areas (after_with P y os').map
      without l =
          let same : x.map ≡ y.map =
          ext x.map y.map l.2 (λ i n. h.zero i (omega (arith, l.0)) ∙ sym (k.zero i (omega (arith, l.1, l.2)))) in
          rw (short_run P x h l.0 os, short_run P y k l.1 os') (λ i. map_part (one i) (same i))

  -- each block's last accepted write, on the other areas and the other map
  pub lasts_alike : (os : List Operation) (ls : List Lent) → JustLastsWith P x os ls
      → (accepted_with P y (map write ls) ≡ map write ls) × Alike (after_with P x os) (after_with P y (map write ls))
  lasts_alike os ls l =
      let q = lasts_leave_with P x h os ls l in (
        ⊎_elim (λ s. accepted_is P y k s.1 (map write ls) ∙ ap (λ (t : Areas). accepted P t (map write ls)) (sym one)
            ∙ sym (accepted_is P x h s.0 (map write ls)) ∙ q.0)
            (λ s. short_accepts P y k s.1 (map write ls) ∙ sym (short_accepts P x h s.0 (map write ls)) ∙ q.0)
            sides,
        alike_areas os (map write ls)
            (ap (λ (z : Mapped). z.areas) (sym q.1)
            ∙ ⊎_elim
            (λ s.
            ap (λ (z : Mapped). z.areas) (run_is P x h s.0 (map write ls)) ∙ ap (λ (t : Areas). after P t (map write ls)) one
            ∙ sym (ap (λ (z : Mapped). z.areas) (run_is P y k s.1 (map write ls))))
            (λ s.
            ap (λ (z : Mapped). z.areas) (short_run P x h s.0 (map write ls)) ∙ one
            ∙ sym (ap (λ (z : Mapped). z.areas) (short_run P y k s.1 (map write ls))))
            sides),
      )

  pub two_runs_with : (bases bases' into : ℕ → List ℕ)
      → ((b : ℕ) → b < blocks x.areas.patch → PagesFit P (bases b) (into b))
      → ((b : ℕ) → b < blocks x.areas.patch → PagesFit P (bases' b) (into b))
      → ((b : ℕ) → b < blocks x.areas.patch → page_of P (bases b) ≡ page_of P (bases' b))
      → (os os' : List Operation) → OverBasesWith P bases x os → OverBasesWith P bases' y os'
      → Alike (after_with P x os) (after_with P y os')
      ↔ ((b : ℕ) → b < blocks x.areas.patch
      → (read_at P (after_with P x os).areas b (bases b) (into b)).page ≡ (read_at P (after_with P y os').areas b (bases' b) (into b)).page)
  two_runs_with bases bases' into fits fits' agree os os' over over' = (
    λ a b n. ap (λ (t : Areas). (read_at P t b (bases b) (into b)).page) a.areas ∙ over_other (after_with P y os').areas b n,
    λ r. alike_areas os os' (⊎_elim (with_room r) without sides),
  )
    where
      over_other : (t : Areas) (b : ℕ) → b < blocks x.areas.patch
          → (read_at P t b (bases b) (into b)).page ≡ (read_at P t b (bases' b) (into b)).page
      over_other t b n =
          ap (λ (o : ReadOutcome). o.page)
          (read_by_page P t.patch t.full b (bases b) (bases' b) (into b) (fits b n) (fits' b n) (agree b n))

      with_room : ((b : ℕ) → b < blocks x.areas.patch
          → (read_at P (after_with P x os).areas b (bases b) (into b)).page ≡ (read_at P (after_with P y os').areas b (bases' b) (into b)).page)
          → Long x.areas x.map × Long y.areas y.map → (after_with P x os).areas ≡ (after_with P y os').areas
      with_room r l =
          let p : (after_with P x os).areas ≡ after P x.areas os = ap (λ (z : Mapped). z.areas) (run_is P x h l.0 os) in
          let q : (after_with P y os').areas ≡ after P y.areas os' = ap (λ (z : Mapped). z.areas) (run_is P y k l.1 os') in
          let o : OverBases P bases x.areas os = rw (accepted_is P x h l.0 os) at over in
          let o' : OverBases P bases' y.areas os' = rw (accepted_is P y k l.1 os') at over' in
          p
          ∙ (runs_agreeing P small x.areas y.areas h.fresh k.fresh patch_lengths full_lengths bases bases' into fits fits' agree os
          os' o o').1
          (λ b n.
          ap (λ (t : Areas). (read_at P t b (bases b) (into b)).page) (sym p) ∙ r b n
          ∙ ap (λ (t : Areas). (read_at P t b (bases' b) (into b)).page) q)
          ∙ sym q

      without : (length x.map < map_room x.areas) × (length y.map < map_room y.areas) × (length x.map ≡ length y.map)
          → (after_with P x os).areas ≡ (after_with P y os').areas
      without l =
          ap (λ (z : Mapped). z.areas) (short_run P x h l.0 os) ∙ one ∙ sym (ap (λ (z : Mapped). z.areas) (short_run P y k l.1 os'))
