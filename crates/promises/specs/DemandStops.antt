-- Request 07. "The garage's ring main trips now and then. Carrying out is now at most two whole stores: page then slot for FULL_REF, slot then
-- zeroed page place for the other kinds. It is told how many of them to make, 0, 1 or, for any other number, all, with the same refusals and
-- answer; a lent map is updated only when told all. Demands 2 and 3 speak of writes told all; a stop is a write told fewer, and no store is
-- itself cut. After a stop before, between or after these, Read gives the block as before or its new page, and other blocks as before. A sweep
-- zeroes every place whose slot is not FULL_REF. Stop one write in any run from fresh areas, sweep, and both areas equal those of the run with
-- that write whole or without it. A lent map is built anew after a sweep. Refusals: sweep gives 2, headers, then 6 or 8 at the lowest block,
-- changing nothing."
--
-- `carry_told`, `carry_mapped_told` and `sweep_outcome` are what the contracts of Carry out, Carry out with a map and Sweep cite. The words are in
-- `StopWords` and `SweepWords`: `stopped P s k w` are both areas after the write w that is told k on the areas s, `swept P s` after a sweep.
-- `next P s w` are those after the whole write, and `after P s os` after the run os. Any lists are areas, payloads and pages here, any number
-- is a block, a kind or a number of stores.
use Rattle.std.specs.Prelude.{ℕ, ◌≤◌, ◌<◌, ◌≡◌, ◌⊎◌, ◌↔◌, List, [], ◌∷◌, ◌++◌}
use Rattle.std.proofs.Common.{sym, ap, ◌∙◌, subst, inl, inr, ⊎_elim, lit≤}
use Rattle.layout.specs.Sizes.{page_size}
use Rattle.reading.specs.Read.{read_outcome}
use Rattle.carrying.specs.Puts.{Decision}
use Rattle.carrying.specs.CarryOut.{carry_numbers, carry_told}
use Rattle.carrying.specs.Mapped.{carry_mapped_told, carry_mapped_outcome}
use Rattle.carrying.specs.Told.{all_told, told_all_mapped}
use Rattle.sweeping.specs.Sweep.{SweepOutcome, sweep_outcome}
use Rattle.building.specs.Build.{BuildOutcome, build_outcome, build_done}
use Rattle.promises.specs.Words.{places, MapFits}
use Rattle.promises.specs.CarryTables.{mapped_as_told}
use Rattle.promises.specs.SweepWords.{SweepGives, SweptFrom}
use Rattle.promises.specs.SweepTables.{sweep_table}
use Rattle.promises.specs.SweptLaws as swept_laws
use Rattle.promises.specs.Runs.{write}
use Rattle.promises.specs.RunWords.{Areas, read_at, Lent, Operation, outcome, next, after, FreshAreas}
use Rattle.promises.specs.MapWords.{Mapped, mapped, after_with, build_into, read_by_map, FreshWith, Long, Alike}
use Rattle.promises.specs.MapStore.{with, laid}
use Rattle.promises.specs.MapRunLaws.{builds_laid, reads_laid, alike_laid}
use Rattle.promises.specs.DemandThree.{same_with_map, kept_is_built}
use Rattle.promises.specs.StopWords.{told, stopped, stopped_with, sweeping, swept, AreaEvent, after_all, after_all_with, Holds, ComesTo}
use Rattle.promises.specs.StopReads as stop_reads
use Rattle.promises.specs.StopRunLaws as runs
use Rattle.promises.specs.StopMapLaws as maps
use Rattle.promises.specs.ToldLaws as told_laws

-- How many stores are made

module _ (s : Areas) (w : Lent) where
  -- "with the same refusals and answer"
  pub same_answer : (k : ℕ) → carry_numbers (told page_size s w k) ≡ carry_numbers (outcome page_size s w)
  same_answer = told_laws.same_numbers page_size s w

  -- 0: none
  pub none_made : stopped page_size s 0 w ≡ s
  none_made = stop_reads.told_nothing page_size s w

  -- 1, "page then slot for FULL_REF": the full area is as after the whole write, and the patch area as before it
  pub page_made : w.decision.kind ≡ 2 → ((stopped page_size s 1 w).patch ≡ s.patch) × ((stopped page_size s 1 w).full ≡ (next page_size s w).full)
  page_made = told_laws.page_first page_size s w

  -- 1, "slot then zeroed page place for the other kinds": the patch area is as after the whole write, and the full area as before it
  pub slot_made : (w.decision.kind ≡ 2 → ⊥)
      → ((stopped page_size s 1 w).patch ≡ (next page_size s w).patch) × ((stopped page_size s 1 w).full ≡ s.full)
  slot_made = told_laws.slot_before_page page_size s w

  -- "for any other number, all": the whole outcome. "Demands 2 and 3 speak of writes told all"
  pub all_made : (k : ℕ) → 1 < k → told page_size s w k ≡ outcome page_size s w
  all_made k h = all_told page_size s.patch s.full w.block w.decision k h []

  -- told 1 where only one store is due, kinds 0 and 1 on a block not below m, the write is whole
  pub one_store_due : (w.decision.kind ≡ 2 → ⊥) → places page_size s.full ≤ w.block → stopped page_size s 1 w ≡ next page_size s w
  one_store_due = stop_reads.one_due page_size s w

  -- told fewer, and then the same write told all, is the whole write, in answer and areas
  pub finish : (k : ℕ) → outcome page_size (stopped page_size s k w) w ≡ outcome page_size s w
  finish k = runs.finish page_size s k w

-- with a lent map
module _ (patch full map : List ℕ) (b : ℕ) (d : Decision) where
  -- "with the same refusals and answer", 9 for a short map among them
  pub same_answer_mapped : (k : ℕ) → carry_numbers (carry_mapped_told page_size patch full map b d k).areas
      ≡ carry_numbers (carry_mapped_outcome page_size patch full map b d).areas
  same_answer_mapped = told_laws.same_numbers_mapped page_size patch full map b d

  -- "a lent map is updated only when told all", refused or not
  pub map_kept : (k : ℕ) → k ≤ 1 → (carry_mapped_told page_size patch full map b d k).map ≡ map
  map_kept = told_laws.map_kept page_size patch full map b d

  pub map_updated : (k : ℕ) → 1 < k → carry_mapped_told page_size patch full map b d k ≡ carry_mapped_outcome page_size patch full map b d
  map_updated k h = told_all_mapped page_size patch full b d k h map

  -- answer and areas are as without a map that fits
  pub same_areas : MapFits patch map → (k : ℕ) → (carry_mapped_told page_size patch full map b d k).areas ≡ carry_told page_size patch full b d k
  same_areas = mapped_as_told page_size patch full map b d

-- told fewer with a map, and then the same told all with what that left, is the whole write with the map
pub finish_mapped : (x : Mapped) (k : ℕ) (w : Lent) → MapFits x.areas.patch x.map → k ≤ 1
    → mapped page_size (stopped_with page_size x k w) w ≡ mapped page_size x w
finish_mapped = runs.finish_mapped page_size

-- What a stop leaves, over any areas and whether or not the call was refused: "Read gives the block as before or its new page"

module _ (s : Areas) (w : Lent) (k : ℕ) (base page : List ℕ) where
  -- as before or as after the whole write, in every number and every byte, and which of the two
  pub new_page : Holds s k w → read_at page_size (stopped page_size s k w) w.block base page ≡ read_at page_size (next page_size s w) w.block base page
  new_page = told_laws.reads_new page_size s w k base page

  pub old_page : (Holds s k w → ⊥) → read_at page_size (stopped page_size s k w) w.block base page ≡ read_at page_size s w.block base page
  old_page = told_laws.reads_old page_size s w k base page

  pub old_or_new : (read_at page_size (stopped page_size s k w) w.block base page ≡ read_at page_size s w.block base page)
      ⊎ (read_at page_size (stopped page_size s k w) w.block base page ≡ read_at page_size (next page_size s w) w.block base page)
  old_or_new = told_laws.reads_either page_size s w k base page

-- "and other blocks as before"
pub other_blocks : (s : Areas) (w : Lent) (k c : ℕ) → (c ≡ w.block → ⊥) → (base page : List ℕ)
    → read_at page_size (stopped page_size s k w) c base page ≡ read_at page_size s c base page
other_blocks s w k c n base page = stop_reads.stop_others page_size s k w c n base page

-- Sweep, of any areas

module _ (patch full : List ℕ) where
  abbrev pub sweep : SweepOutcome
  sweep = sweep_outcome page_size patch full

  -- every number that it gives, and just when
  pub sweep_gives : (k : ℕ) → (sweep.number ≡ k) ↔ SweepGives page_size patch full k
  sweep_gives = sweep_table page_size patch full

  -- "zeroes every place whose slot is not FULL_REF", and no other byte
  pub sweeps : sweep.number ≡ 0 → SweptFrom page_size patch full sweep.full
  sweeps = swept_laws.sweeps page_size patch full

  -- and no other area is that
  pub sweeps_only : sweep.number ≡ 0 → (f : List ℕ) → SweptFrom page_size patch full f → f ≡ sweep.full
  sweeps_only e f x = swept_laws.swept_one page_size patch full f sweep.full (swept_laws.sweep_fits page_size patch full e).lengths x (sweeps e)

  -- every block reads as before
  pub sweep_reads : (b : ℕ) (base page : List ℕ)
      → read_outcome page_size patch sweep.full b base page ≡ read_outcome page_size patch full b base page
  sweep_reads = swept_laws.sweep_reads page_size patch full

  -- sweeping again changes nothing and gives the same number
  pub sweep_again : sweep_outcome page_size patch sweep.full ≡ sweep
  sweep_again = swept_laws.sweep_again page_size patch full

  -- after an accepted sweep Build never gives 10
  pub no_strays : sweep.number ≡ 0 → (map : List ℕ) → (build_outcome page_size patch sweep.full map).number ≡ 10 → ⊥
  no_strays e map = swept_laws.swept_builds page_size patch full map e

  -- and areas that Build accepts are accepted, and not changed at all
  pub nothing_swept : (map : List ℕ) → (build_outcome page_size patch full map).number ≡ 0 → (sweep.number ≡ 0) × (sweep.full ≡ full)
  nothing_swept map e = swept_laws.built_unswept page_size patch full map e

-- Runs from fresh areas. "Stop one write in any run from fresh areas, sweep, and both areas equal those of the run with that write whole or
-- without it": any operations before it and any after it, or none; the write is told any number, and may be refused

module _ (s : Areas) (fresh : FreshAreas page_size s) (ws : List Operation) (k : ℕ) (w : Lent) (vs : List Operation) where
  abbrev pub tripped : Areas
  tripped = after page_size (stopped page_size (after page_size s ws) k w) vs

  -- which of the two is told by the number, the kind of the write and the slot that stood there
  pub whole_or_without : (Holds (after page_size s ws) k w × (swept page_size tripped ≡ after page_size s (ws ++ (write w ∷ vs))))
      ⊎ ((Holds (after page_size s ws) k w → ⊥) × (swept page_size tripped ≡ after page_size s (ws ++ vs)))
  whole_or_without =
      ⊎_elim (λ x. inl (x.0, runs.tidied_swept page_size _ _ x.1)) (λ x. inr (x.0, runs.tidied_swept page_size _ _ x.1))
      (runs.one_stop page_size s fresh ws k w vs)

  -- the sweep is accepted
  pub sweep_accepted : (sweeping page_size tripped).number ≡ 0
  sweep_accepted =
      ⊎_elim (λ x. runs.tidied_taken page_size _ _ x.1) (λ x. runs.tidied_taken page_size _ _ x.1)
      (runs.one_stop page_size s fresh ws k w vs)

-- as many stopped writes and sweeps as there may be, anywhere among the operations: one sweep after the last stop is enough
module _ (s : Areas) (fresh : FreshAreas page_size s) (es : List AreaEvent) (os : List Operation) (comes : ComesTo page_size s es os) where
  pub sweep_leaves : ((sweeping page_size (after_all page_size s es)).number ≡ 0) × (swept page_size (after_all page_size s es) ≡ after page_size s os)
  sweep_leaves =
      let t = runs.events_tidy page_size s fresh es os comes in
      (runs.tidied_taken page_size _ _ t, runs.tidied_swept page_size _ _ t)

  -- before any sweep each block reads so already, in every number and every byte
  pub reads_before : (b : ℕ) (base page : List ℕ)
      → read_at page_size (after_all page_size s es) b base page ≡ read_at page_size (after page_size s os) b base page
  reads_before = runs.tidied_reads page_size _ _ (runs.events_tidy page_size s fresh es os comes)

pub comes_exist : (s : Areas) (es : List AreaEvent) → (os : List Operation) × ComesTo page_size s es os
comes_exist = runs.comes_exist page_size

-- "A lent map is built anew after a sweep". The operations and the stopped writes are lent a map here; both areas are as without it
module _ (x : Mapped) (fresh : FreshWith page_size x) (long : Long x.areas x.map) (es : List AreaEvent) (os : List Operation)
    (comes : ComesTo page_size x.areas es os) where
  abbrev pub clean : Areas
  clean = swept page_size (after_all_with page_size x es).areas

  pub areas_with_map : (after_all_with page_size x es).areas ≡ after_all page_size x.areas es
  areas_with_map = maps.all_with page_size x long es

  pub clean_is : clean ≡ after page_size x.areas os
  clean_is = ap (swept page_size) areas_with_map ∙ (sweep_leaves x.areas fresh.fresh es os comes).1

  -- Build accepts the swept areas, and leaves in the zero map that the run began with just the map that the same run, with each write whole
  -- that took hold and lent to every operation, keeps
  pub map_anew : build_into page_size clean x.map ≡ build_done (after_with page_size x os).map
  map_anew =
      ap (λ (t : Areas). build_into page_size t x.map) (clean_is ∙ sym (same_with_map x fresh os long).1) ∙ kept_is_built x fresh os long

  -- and in any other that is long enough, whatever is in it, in the bytes that count
  module _ (map : List ℕ) (room : Long x.areas map) where
    built : build_into page_size (after page_size x.areas os) map ≡ build_done (laid (after page_size x.areas os) map)
    built = builds_laid page_size x fresh long (lit≤ tt) os map room

    pub any_map_anew : ((build_into page_size clean map).number ≡ 0) × Alike (with clean (build_into page_size clean map).map) (after_with page_size x os)
    any_map_anew =
        subst (λ (t : Areas). ((build_into page_size t map).number ≡ 0) × Alike (with t (build_into page_size t map).map) (after_with page_size x os))
        (sym clean_is) (
          ap (λ (o : BuildOutcome). o.number) built,
          rw built (alike_laid page_size x fresh long (lit≤ tt) os map room),
        )

    -- so each block reads by it as in that run, whole
    pub reads_by_map_anew : (b : ℕ) (base page : List ℕ)
        → read_by_map page_size (with clean (build_into page_size clean map).map) b base page ≡ read_at page_size (after page_size x.areas os) b base page
    reads_by_map_anew b base page =
        ap (λ (t : Areas). read_by_map page_size (with t (build_into page_size t map).map) b base page) clean_is
        ∙ ap (λ (o : BuildOutcome). read_by_map page_size (with (after page_size x.areas os) o.map) b base page) built
        ∙ reads_laid page_size x fresh long (lit≤ tt) os map room b base page

  -- the map that the stops have left is one of these
  pub left_map_long : Long x.areas (after_all_with page_size x es).map
  left_map_long = rw (maps.all_length page_size x es) long
