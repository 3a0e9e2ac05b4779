-- Demand 3. "Start from freshly formatted areas and make any run of block writes, each lent both areas whole, some refused, each block
-- always with the same base page. Both areas then hold the bytes of fresh areas of the same lengths given only each block's last accepted
-- write, in any order of blocks. Two runs over the same bases and lengths leave equal bytes exactly when each block reads the same after
-- both."
--
-- "In demand 3 an accepted cut, lent both areas whole and the run's map if it has one, wipes earlier writes to the blocks it covers, and
-- only the blocks it covers may have another base after it; two runs are compared where their bases agree at the end."
--
-- Request 06: "demand 3 for runs decided by Compare, where each write carries out the kind and payload of a Compare that answered 0, with the
-- page it compared." So a write of a run carries out a decision, any one, on a block; that the decisions come from Compare is used where
-- bases come in, in (b) and (c), and for Highest: a sound payload from elsewhere, `00 00` over zeros, stands and changes nothing.
--
-- Request 07: "Demands 2 and 3 speak of writes told all", so every write of a run here is; `DemandStops` has runs with stopped writes and
-- sweeps among their operations.
--
-- The words are in `RunWords`: `after P s os` are both areas after the run os from s, and `accepted P s os` those of its operations that
-- were accepted when their turn came. An operation is a write, `write w`, or a cut at K, `wipe K`. Nothing is assumed of a run: its blocks,
-- kinds, payloads and pages are any, of any lengths, and its cuts are at any number, K = 0, K = n and K above n among them. A write stands at a block
-- where it is the last accepted operation that has to do with it: `last_to b (accepted P s os) ≡ some (write w)`.
--
-- "Demand 3 now includes the map: after any run from fresh areas and a zero map, lent to every write of the run, it equals the built one."
-- The second half is about such runs; its words are in `MapWords`: `after_with P x os` are both areas and the map after the run, and
-- `accepted_with P x os` the accepted operations. Every cut is lent the map too. Later bytes of the map are any, and a map too short for its
-- store is in the run too: every operation is then refused.
use Rattle.std.specs.Prelude.{ℕ, ◌≤◌, ◌<◌, ◌≡◌, ◌↔◌, List, [], map, length, get_or}
use Rattle.std.proofs.Common.{sym, ap, ◌∙◌, subst, lit≤}
use Rattle.std.proofs.Math.Option.{some}
use Rattle.layout.specs.Sizes.{page_size}
use Rattle.blockmap.specs.Pairs.{map_bytes}
use Rattle.stream.specs.Calls.{page_of}
use Rattle.building.specs.Build.{BuildOutcome, build_outcome, build_done}
use Rattle.promises.specs.Words.{blocks, PagesFit}
use Rattle.promises.specs.Decisions.{ComparedBy}
use Rattle.promises.specs.DecisionLaws.{compared_by}
use Rattle.promises.specs.CarryWords.{PageFits, ReadAs}
use Rattle.promises.specs.Runs.{NoRepeats, write}
use Rattle.promises.specs.RunWords.{Areas, read_at, Lent, Cut, Operation, after, accepted, last_to, JustLasts, Decided}
use Rattle.promises.specs.RunWords.{FollowsBases, KeepsBases, OverBaseAt, OverBases, ChangedAt, FreshAreas}
use Rattle.promises.specs.FreshLaws.{fresh_one}
use Rattle.promises.specs.RunLaws.{keeps_over, follows_over, lasts_leave_same, lasts_list, reads_last, reads_given, reads_base}
use Rattle.promises.specs.RunLaws.{build_accepts, two_blocks, runs_agreeing}
use Rattle.promises.specs.HighLaws.{run_highest_done, run_highest}
use Rattle.store.specs.Block.{slot_of, place_of}
use Rattle.cutting.specs.Highest.{highest_numbers}
use Rattle.cutting.specs.Reach.{OneMore}
use Rattle.reading.specs.Read.{read_done}
use Rattle.building.specs.BuildWords.{PairsOf}
use Rattle.promises.specs.MapWords.{Mapped, map_room, Long, build_into, read_by_map, mapped, cut_mapped, after_with, accepted_with}
use Rattle.promises.specs.MapWords.{JustLastsWith, FollowsBasesWith, KeepsBasesWith, OverBasesWith, FreshWith, SameRoom, Alike}
use Rattle.promises.specs.MapRunLaws.{run_is, accepted_is, built_at_end, built_changes_nothing, length_kept, later_kept, reads_by_map}
use Rattle.promises.specs.MapRunLaws.{pairs_at_end, short_run, short_accepts, short_nine, short_cut_nine, lasts_leave_with}
use Rattle.promises.specs.MapRunLaws.{lasts_list_with, lasts_alike, two_runs_with, keeps_over_with, follows_over_with}

-- a write that carries out the kind and payload of a Compare that answered 0 is decided over the page that its base stands for
pub compare_is_decided : (w : Lent) (base base' : List ℕ) → ComparedBy page_size base w.decision → page_of page_size base' ≡ page_of page_size base
    → Decided page_size (page_of page_size base') w
compare_is_decided w base base' d e = rw e (compared_by page_size base w.decision d)

module _ (s : Areas) (fresh : FreshAreas page_size s) (os : List Operation) where
  -- (a) "only each block's last accepted write, in any order of blocks", where no later accepted cut covers it: every list of just those is
  -- accepted whole and leaves the same bytes, with no hypothesis on bases
  pub lasts_leave_the_same : (ls : List Lent) → JustLasts page_size s os ls
      → (accepted page_size s (map write ls) ≡ map write ls) × (after page_size s (map write ls) ≡ after page_size s os)
  lasts_leave_the_same ls l = lasts_leave_same page_size s fresh os ls l

  -- "the bytes of fresh areas of the same lengths": so it is for every such t, too
  pub fresh_lasts_leave_the_same : (t : Areas) → FreshAreas page_size t
      → length s.patch ≡ length t.patch → length s.full ≡ length t.full
      → (ls : List Lent) → JustLasts page_size s os ls
      → (accepted page_size t (map write ls) ≡ map write ls) × (after page_size t (map write ls) ≡ after page_size s os)
  fresh_lasts_leave_the_same t t_fresh p f ls l =
      subst (λ (x : Areas). (accepted page_size x (map write ls) ≡ map write ls) × (after page_size x (map write ls) ≡ after page_size s os))
      (fresh_one page_size s t fresh t_fresh p f) (lasts_leave_the_same ls l)

  -- and there is such a list, no two of its writes to one block
  pub lasts_exist : (ls : List Lent) × JustLasts page_size s os ls × NoRepeats (λ (w : Lent). w.block) ls
  lasts_exist = lasts_list page_size s fresh os

  -- (c) Each block below n reads, with number 0, as the page of the write that stands there, over any base page that this write was decided
  -- over, or as its base where no write stands: where there was none, or a cut came after it. A write is decided over a base page if its
  -- kind and its payload are Compare's over it;
  pub reads_as_last : (b : ℕ) → b < blocks s.patch → (w : Lent) → last_to b (accepted page_size s os) ≡ some (write w)
      → (base page : List ℕ) → PagesFit page_size base page → Decided page_size (page_of page_size base) w
      → read_at page_size (after page_size s os) b base page ≡ read_done w.decision.kind w.decision.page
  reads_as_last b n w e base page f d = reads_last page_size s fresh (lit≤ tt) os b n base page f w e d

  -- and as the base, the base with the payload's entries, or the page, over any base, whoever made the decision
  pub reads_as_decided : (b : ℕ) → b < blocks s.patch → (w : Lent) → last_to b (accepted page_size s os) ≡ some (write w)
      → (base page x : List ℕ) → PagesFit page_size base page → ReadAs page_size base w.decision x
      → read_at page_size (after page_size s os) b base page ≡ read_done w.decision.kind x
  reads_as_decided b n w e base page x f r = reads_given page_size s fresh (lit≤ tt) os b n base page f w e x r

  -- and over any base where no write stands
  pub reads_as_base : (b : ℕ) → b < blocks s.patch → ((w : Lent) → last_to b (accepted page_size s os) ≡ some (write w) → ⊥)
      → (base page : List ℕ) → PagesFit page_size base page
      → read_at page_size (after page_size s os) b base page ≡ read_done 0 (page_of page_size base)
  reads_as_base b n e base page f = reads_base page_size s fresh (lit≤ tt) os b n base page f e

  -- Highest accepts, and gives one more than the highest block at which a write stands whose page differs from its base, or 0
  pub highest_done : (highest_numbers page_size (after page_size s os).patch).number ≡ 0
  highest_done = run_highest_done page_size s fresh (lit≤ tt) os

  pub highest_changed : (bases : ℕ → List ℕ) → OverBases page_size bases s os
      → OneMore (ChangedAt page_size bases s os) (blocks s.patch) (highest_numbers page_size (after page_size s os).patch).blocks
  highest_changed bases over = run_highest page_size s fresh (lit≤ tt) os bases over

  -- and Build accepts
  pub builds : (map : List ℕ) → map_bytes (blocks (after page_size s os).patch) ≤ length map
      → (build_outcome page_size (after page_size s os).patch (after page_size s os).full map).number ≡ 0
  builds map long = ap (λ (o : BuildOutcome). o.number) (build_accepts page_size s fresh (lit≤ tt) os map long)

-- (b) Two runs from fresh areas of the same lengths, where their bases agree at the end

module _ (s t : Areas) (s_fresh : FreshAreas page_size s) (t_fresh : FreshAreas page_size t)
    (patch_lengths : length s.patch ≡ length t.patch) (full_lengths : length s.full ≡ length t.full)
    (os os' : List Operation) where
  -- equal bytes give equal outcomes of Read at every block
  pub same_bytes_read_same : after page_size s os ≡ after page_size t os'
      → (b : ℕ) (base page : List ℕ)
      → read_at page_size (after page_size s os) b base page ≡ read_at page_size (after page_size t os') b base page
  same_bytes_read_same e b base page = ap (λ (x : Areas). read_at page_size x b base page) e

  -- and they are equal exactly when each block below n reads as the same page over its base. `bases` are those at the end of the one run,
  -- `bases'` at the end of the other; they agree as pages. Of the bases no more is needed than that the write that stands at a block at the
  -- end was decided over the block's base page then (`OverBases`),
  pub same_bytes_iff : (bases bases' into : ℕ → List ℕ)
      → ((b : ℕ) → b < blocks s.patch → PagesFit page_size (bases b) (into b))
      → ((b : ℕ) → b < blocks s.patch → PagesFit page_size (bases' b) (into b))
      → ((b : ℕ) → b < blocks s.patch → page_of page_size (bases b) ≡ page_of page_size (bases' b))
      → OverBases page_size bases s os → OverBases page_size bases' t os'
      → (after page_size s os ≡ after page_size t os')
      ↔ ((b : ℕ) → b < blocks s.patch → (read_at page_size (after page_size s os) b (bases b) (into b)).page
      ≡ (read_at page_size (after page_size t os') b (bases' b) (into b)).page)
  same_bytes_iff bases bases' into fits fits' agree =
      runs_agreeing page_size (lit≤ tt) s t s_fresh t_fresh patch_lengths full_lengths bases bases' into fits fits' agree os os'

  -- and block by block: where the base pages of one block agree at the end, whatever those of the others are, its slot and its place are
  -- the same exactly when it reads the same
  pub same_block_iff : (b : ℕ) → b < blocks s.patch → (base base' into : List ℕ) → PagesFit page_size base into
      → PagesFit page_size base' into → page_of page_size base ≡ page_of page_size base'
      → OverBaseAt page_size base s os b → OverBaseAt page_size base' t os' b
      → ((slot_of (after page_size s os).patch b ≡ slot_of (after page_size t os').patch b)
      × (place_of page_size (after page_size s os).full b ≡ place_of page_size (after page_size t os').full b))
      ↔ ((read_at page_size (after page_size s os) b base into).page ≡ (read_at page_size (after page_size t os') b base' into).page)
  same_block_iff b n base base' into f g agree =
      two_blocks page_size (lit≤ tt) s t s_fresh t_fresh patch_lengths full_lengths b n base base' into f g agree os os'

-- which is so of every run in which "only the blocks it covers may have another base after it": at its end, over the bases that it ends with
pub changed_bases_enough : (s : Areas) (os : List Operation) (start end : ℕ → List ℕ) → FollowsBases page_size start s os end
    → OverBases page_size end s os
changed_bases_enough s os start end h = follows_over page_size s os start end h

-- and of every run that has "each block always with the same base page"
pub same_base_enough : (s : Areas) (os : List Operation) (bases : ℕ → List ℕ) → KeepsBases page_size bases s os
    → OverBases page_size bases s os
same_base_enough s os bases h = keeps_over page_size s os bases h

-- With the map as a third buffer

module _ (x : Mapped) (fresh : FreshWith page_size x) (os : List Operation) where
  module _ (long : Long x.areas x.map) where
    -- the map changes nothing of the run: the same operations are accepted, and both areas are the same
    pub same_with_map : (accepted_with page_size x os ≡ accepted page_size x.areas os)
        × ((after_with page_size x os).areas ≡ after page_size x.areas os)
    same_with_map = (accepted_is page_size x fresh long os, ap (λ (y : Mapped). y.areas) (run_is page_size x fresh long os))

    -- "it equals the built one": Build accepts both areas, and leaves in the buffer as it was lent at first just the map that was kept
    pub kept_is_built : build_into page_size (after_with page_size x os).areas x.map ≡ build_done (after_with page_size x os).map
    kept_is_built = built_at_end page_size x fresh long (lit≤ tt) os

    -- and Build into the kept map changes none of its bytes
    pub build_changes_nothing : build_into page_size (after_with page_size x os).areas (after_with page_size x os).map
        ≡ build_done (after_with page_size x os).map
    build_changes_nothing = built_changes_nothing page_size x fresh long (lit≤ tt) os

    -- so each pair says what its block's slot is: 0 EMPTY, 2 PATCH, 1 FULL_REF
    pub pairs_say : PairsOf (after_with page_size x os).areas.patch (after_with page_size x os).map
    pairs_say = pairs_at_end page_size x fresh long (lit≤ tt) os

    -- later bytes stay as they were lent
    pub later_bytes_stay : (i : ℕ) → map_room x.areas ≤ i → get_or (after_with page_size x os).map i 0 ≡ get_or x.map i 0
    later_bytes_stay i h = later_kept page_size x fresh long os i h

    pub map_length_stays : length (after_with page_size x os).map ≡ length x.map
    map_length_stays = length_kept page_size x fresh long os

    -- (c) a read by the map is Read, whole, for every block, base and page
    pub map_reads : (b : ℕ) (base page : List ℕ)
        → read_by_map page_size (after_with page_size x os) b base page ≡ read_at page_size (after_with page_size x os).areas b base page
    map_reads b base page =
        reads_by_map page_size x fresh long (lit≤ tt) os b base page
        ∙ ap (λ (t : Areas). read_at page_size t b base page) (sym same_with_map.1)

    -- so it gives the page of the write that stands at a block, over any base page that this write was decided over
    pub map_reads_as_last : (b : ℕ) → b < blocks x.areas.patch → (w : Lent) → last_to b (accepted_with page_size x os) ≡ some (write w)
        → (base page : List ℕ) → PagesFit page_size base page → Decided page_size (page_of page_size base) w
        → read_by_map page_size (after_with page_size x os) b base page ≡ read_done w.decision.kind w.decision.page
    map_reads_as_last b n w e base page f d =
        reads_by_map page_size x fresh long (lit≤ tt) os b base page
        ∙ reads_as_last x.areas fresh.fresh os b n w (ap (last_to b) (sym same_with_map.0) ∙ e) base page f d

    pub map_reads_as_decided : (b : ℕ) → b < blocks x.areas.patch → (w : Lent) → last_to b (accepted_with page_size x os) ≡ some (write w)
        → (base page y : List ℕ) → PagesFit page_size base page → ReadAs page_size base w.decision y
        → read_by_map page_size (after_with page_size x os) b base page ≡ read_done w.decision.kind y
    map_reads_as_decided b n w e base page y f r =
        reads_by_map page_size x fresh long (lit≤ tt) os b base page
        ∙ reads_as_decided x.areas fresh.fresh os b n w (ap (last_to b) (sym same_with_map.0) ∙ e) base page y f r

    -- or the base where no write stands
    pub map_reads_as_base : (b : ℕ) → b < blocks x.areas.patch
        → ((w : Lent) → last_to b (accepted_with page_size x os) ≡ some (write w) → ⊥)
        → (base page : List ℕ) → PagesFit page_size base page
        → read_by_map page_size (after_with page_size x os) b base page ≡ read_done 0 (page_of page_size base)
    map_reads_as_base b n e base page f =
        reads_by_map page_size x fresh long (lit≤ tt) os b base page
        ∙ reads_as_base x.areas fresh.fresh os b n (λ w q. e w (ap (last_to b) same_with_map.0 ∙ q)) base page f

  -- a map too short for its store: no operation is accepted, none changes a byte, and a cut, and a write whose page is not refused, gives 9
  module _ (short : length x.map < map_room x.areas) where
    pub short_map_keeps : (accepted_with page_size x os ≡ []) × (after_with page_size x os ≡ x)
    short_map_keeps = (short_accepts page_size x fresh short os, short_run page_size x fresh short os)

    pub short_map_gives : (w : Lent) → PageFits page_size w.decision → (mapped page_size x w).areas.number ≡ 9
    short_map_gives = short_nine page_size x fresh short

    pub short_map_cut_gives : (K : Cut) → (cut_mapped page_size x K).areas.number ≡ 9
    short_map_cut_gives = short_cut_nine page_size x fresh short

  -- (a) all three buffers are those of each block's last accepted write that no later accepted cut covers, in any order
  pub lasts_leave_the_same_map : (ls : List Lent) → JustLastsWith page_size x os ls
      → (accepted_with page_size x (map write ls) ≡ map write ls) × (after_with page_size x (map write ls) ≡ after_with page_size x os)
  lasts_leave_the_same_map ls l = lasts_leave_with page_size x fresh os ls l

  pub lasts_exist_with_map : (ls : List Lent) × JustLastsWith page_size x os ls × NoRepeats (λ (w : Lent). w.block) ls
  lasts_exist_with_map = lasts_list_with page_size x fresh os

  -- of the map those bytes that count, for any other fresh areas of the same lengths and any other zero map
  pub fresh_lasts_leave_the_same_map : (y : Mapped) → FreshWith page_size y
      → length x.areas.patch ≡ length y.areas.patch → length x.areas.full ≡ length y.areas.full
      → SameRoom x.areas x.map y.map
      → (ls : List Lent) → JustLastsWith page_size x os ls
      → (accepted_with page_size y (map write ls) ≡ map write ls) × Alike (after_with page_size x os) (after_with page_size y (map write ls))
  fresh_lasts_leave_the_same_map y y_fresh p f rooms ls l = lasts_alike page_size (lit≤ tt) x y fresh y_fresh p f rooms os ls l

-- (b) two runs with maps, whose bases agree at the end, leave the same bytes in both areas, and in their maps those that count, exactly when
-- each block below n reads as the same page over its base
module _ (x y : Mapped) (x_fresh : FreshWith page_size x) (y_fresh : FreshWith page_size y)
    (patch_lengths : length x.areas.patch ≡ length y.areas.patch)
    (full_lengths : length x.areas.full ≡ length y.areas.full) (rooms : SameRoom x.areas x.map y.map)
    (os os' : List Operation) where
  pub same_bytes_with_maps_iff : (bases bases' into : ℕ → List ℕ)
      → ((b : ℕ) → b < blocks x.areas.patch → PagesFit page_size (bases b) (into b))
      → ((b : ℕ) → b < blocks x.areas.patch → PagesFit page_size (bases' b) (into b))
      → ((b : ℕ) → b < blocks x.areas.patch → page_of page_size (bases b) ≡ page_of page_size (bases' b))
      → OverBasesWith page_size bases x os → OverBasesWith page_size bases' y os'
      → Alike (after_with page_size x os) (after_with page_size y os')
      ↔ ((b : ℕ) → b < blocks x.areas.patch → (read_at page_size (after_with page_size x os).areas b (bases b) (into b)).page
      ≡ (read_at page_size (after_with page_size y os').areas b (bases' b) (into b)).page)
  same_bytes_with_maps_iff bases bases' into fits fits' agree over over' =
      two_runs_with page_size (lit≤ tt) x y x_fresh y_fresh patch_lengths full_lengths rooms bases bases' into fits fits' agree os os' over over'

-- which is so of every run in which "only the blocks it covers may have another base after it"
pub changed_bases_enough_with_map : (x : Mapped) → FreshWith page_size x → (os : List Operation) (start end : ℕ → List ℕ)
    → FollowsBasesWith page_size start x os end → OverBasesWith page_size end x os
changed_bases_enough_with_map x fresh os start end h = follows_over_with page_size x fresh os start end h

-- and of every run that has "each block always with the same base page"
pub same_base_enough_with_map : (x : Mapped) → FreshWith page_size x → (os : List Operation) (bases : ℕ → List ℕ)
    → KeepsBasesWith page_size bases x os → OverBasesWith page_size bases x os
same_base_enough_with_map x fresh os bases h = keeps_over_with page_size x fresh os bases h
