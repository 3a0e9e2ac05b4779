-- Demand 3 over any page size to 65,536, from what is proved of runs in general.
use Rattle.std.specs.Prelude.{ℕ, ◌≤◌, ◌<◌, ◌≡◌, refl, cond, ◌↔◌, ltb, length}
use Rattle.std.proofs.Common.{arith, ◌∙◌, inl, lt-ltb, leb-false}
use Rattle.std.proofs.Math.Decide.{dec_lt}
use Rattle.std.proofs.Math.Path.{sym, ap, subst}
use Rattle.std.proofs.Math.Option.{some}
use mathlib.Core.List.{List, [], ◌∷◌, map}
use Rattle.span.specs.Bytes.{zeros, splice}
use Rattle.span.specs.Laws.{zeros_length}
use Rattle.span.specs.EmptiedLaws.{emptied_length, emptied_same}
use Rattle.layout.specs.Sizes.{patch_head, full_head}
use Rattle.layout.specs.Lengths.{blocks_in, pages_in}
use Rattle.slots.specs.Slots.{SlotNumbers}
use Rattle.slots.specs.Meaning.{empty_numbers}
use Rattle.blockmap.specs.Pairs.{map_bytes}
use Rattle.stream.specs.Calls.{page_of}
use Rattle.store.specs.Block.{slot_of, place_of}
use Rattle.reading.specs.Read.{ReadOutcome, read_done}
use Rattle.building.specs.Build.{build_outcome, built_map, build_done}
use Rattle.promises.specs.Words.{blocks, places, PagesFit, LengthsFit, FrameFits, SameFrame}
use Rattle.promises.specs.Tables.{read_by_page}
use Rattle.promises.specs.StoreLaws.{base_page_length, place_past}
use Rattle.promises.specs.RunBuild.{builds}
use Rattle.promises.specs.Decisions.{Cell, cell_for, blank_cell, Fit, page_in}
use Rattle.promises.specs.DecisionLaws.{blank_page, compared_by, compared_fit, fit_kind, fit_page_in}
use Rattle.promises.specs.CarryWords.{ReadAs}
use Rattle.promises.specs.Runs.{NoRepeats, write, wipe, Fresh, standing, Lasts, lasts, OverAt, Over, Bases, ReadSame}
use Rattle.promises.specs.LastLaws.{last_in}
use Rattle.promises.specs.StandingLaws.{stands, lasts_are, lasts_apart, run_frame, standing_is, run_left, write_left}
use Rattle.promises.specs.StandingLaws.{blank_left, lasts_leave}
use Rattle.promises.specs.SameLaws.{bases_over, same_at, same_iff_read_same}
use Rattle.promises.specs.RunWords.{Areas, read_at, Lent, Operation, after, accepted, last_to, JustLasts, Decided}
use Rattle.promises.specs.RunWords.{Follows, FollowsBases, KeepsBases, OverBaseAt, OverBases, FreshAreas}
use Rattle.promises.specs.RunStore.{cell_at, frame_of, store}
use Rattle.promises.specs.RunStoreLaws.{accepted_write, good_frame, store_laws}
use Rattle.promises.specs.RunReads.{reading, read_in, Held}
use Rattle.promises.specs.RunReadLaws.{reading_laws, left_held, held_reads, held_fine}
use Rattle.promises.specs.FreshLaws.{fresh_lengths, fresh_headers, fresh_cell, fresh_one}

-- The words of demand 3 are those of `Runs`

module _ (P : ℕ) (s : Areas) (os : List Operation) where
  pub last_is : (b : ℕ) → standing (store P) (frame_of s) b os ≡ last_to b (accepted P s os)
  unfolding last_to
  last_is b = standing_is (store P) (store_laws P) b s os

  just_lasts : (ls : List Lent) → JustLasts P s os ls ↔ Lasts (store P) (frame_of s) os ls
  unfolding Lasts
  just_lasts ls = (λ h w. rw (last_is w.block) (h w), λ h w. rw (← last_is w.block) (h w))

  pub keeps_over : (bases : ℕ → List ℕ) → KeepsBases P bases s os → OverBases P bases s os
  unfolding last_to
  keeps_over bases h b n w e =
      let i = (last_in _ (accepted P s os) e).0 in
      let q : w.block ≡ b = (stands (store P) os (last_is b ∙ e)).1 in
      subst (λ (c : ℕ). Decided P (page_of P (bases c)) w) q (compared_by P (bases w.block) w.decision (h w i))

  over_bases : (bases : ℕ → List ℕ) → OverBases P bases s os → Over (store P) (reading P) (λ b. page_of P (bases b)) (frame_of s) os
  unfolding Over OverAt
  over_bases bases h b n w e = h b (rw (emptied_length patch_head s.patch) at n) w (sym (last_is b) ∙ e)

-- "only the blocks it covers may have another base after it" is enough: in the words of `Runs`, over the pages that the bases stand for

follows_pages : (P : ℕ) (f : Areas) (start end : ℕ → List ℕ) (os : List Operation) → Follows P start os end
    → Bases (store P) (reading P) f (λ b. page_of P (start b)) os (λ b. page_of P (end b))
follows_pages P f start end [] h = h
follows_pages P f start end (write w ∷ os) h =
    (compared_by P (start w.block) w.decision h.0, follows_pages P f start end os h.1)
follows_pages P f start end (wipe K ∷ os) h =
    (λ b. page_of P (h.0 b), λ b q. h.1 b (leb-false K b q), follows_pages P f h.0 end os h.2)

pub follows_over : (P : ℕ) (s : Areas) (os : List Operation) (start end : ℕ → List ℕ) → FollowsBases P start s os end
    → OverBases P end s os
unfolding Over OverAt
follows_over P s os start end h b n w e =
    bases_over (store P) (reading P) (store_laws P) s (λ c. page_of P (start c)) (λ c. page_of P (end c)) os
    (follows_pages P (frame_of s) start end (accepted P s os) h) b (rw (emptied_length patch_head s.patch) n) w (last_is P s os b ∙ e)

-- a base that stands for the same page will do
pub over_same : (P : ℕ) (s : Areas) (os : List Operation) (b : ℕ) (base base' : List ℕ) → page_of P base ≡ page_of P base'
    → OverBaseAt P base s os b → OverBaseAt P base' s os b
over_same P s os b base base' e o w q = rw e at (o w q)

module _ (P : ℕ) (s : Areas) (h : FreshAreas P s) where
  pub fresh : Fresh (store P) s
  fresh =
      record {
        good = (good_frame P s).0 (fresh_lengths P s h, fresh_headers P s h);
        all_blank = λ b n. fresh_cell P s h b (rw (emptied_length patch_head s.patch) at n);
      }

  -- (a)
  pub lasts_leave_same : (os : List Operation) (ls : List Lent) → JustLasts P s os ls
      → (accepted P s (map write ls) ≡ map write ls) × (after P s (map write ls) ≡ after P s os)
  lasts_leave_same os ls l = lasts_leave (store P) (store_laws P) s fresh os ls ((just_lasts P s os ls).0 l)

  pub lasts_list : (os : List Operation) → (ls : List Lent) × JustLasts P s os ls × NoRepeats (λ (w : Lent). w.block) ls
  lasts_list os =
      let ls : List Lent = lasts (store P) (frame_of s) os in
      (ls, (just_lasts P s os ls).1 (lasts_are (store P) (frame_of s) os), lasts_apart (store P) (frame_of s) os)

  -- the frame, before and after
  module _ (os : List Operation) where
    pub kept : SameFrame s.patch s.full (after P s os).patch (after P s os).full
    kept =
        let e : frame_of (after P s os) ≡ frame_of s = run_frame (store P) (store_laws P) s os in
        let p = (emptied_same patch_head (after P s os).patch s.patch).0 (ap (λ (x : Areas). x.patch) e) in
        let f = (emptied_same full_head (after P s os).full s.full).0 (ap (λ (x : Areas). x.full) e) in
        record { patch_length = p.0; full_length = f.0; patch_header_is = p.1; full_header_is = f.1 }

    pub run_fits : (base page : List ℕ) → PagesFit P base page → FrameFits P (after P s os).patch (after P s os).full base page
    run_fits base page f =
        let g = (good_frame P (after P s os)).1
        (subst (λ (f : Areas). (store P).Good f) (sym (run_frame (store P) (store_laws P) s os)) fresh.good) in
        record { pages = f; lengths = g.0; headers = g.1 }

  module _ (small : P ≤ 65536) (os : List Operation) (b : ℕ) (below : b < blocks s.patch) where
    pub in_frame : b < blocks (frame_of s).patch
    in_frame = rw (emptied_length patch_head s.patch) below

    pub held : Held P (after P s os).full b (cell_at P (after P s os) b)
    held =
        left_held P (after P s os) b _
        (rw (run_frame (store P) (store_laws P) s os) (run_left (store P) (store_laws P) s fresh os b in_frame))

    module _ (base page : List ℕ) (f : PagesFit P base page) where
      -- Read gives what `Runs` reads of the cell, whatever the base
      pub read_is : read_at P (after P s os) b base page ≡ read_in P (page_of P base) (cell_at P (after P s os) b)
      read_is = held_reads P (after P s os) b (rw (kept os).patch_length below) held base page (run_fits os base page f)

      -- (c)
      pub reads_last : (w : Lent) → last_to b (accepted P s os) ≡ some (write w) → Decided P (page_of P base) w
          → read_at P (after P s os) b base page ≡ read_done w.decision.kind w.decision.page
      reads_last w e d =
          let t = stands (store P) os (last_is P s os b ∙ e) in
          let here : cell_at P (after P s os) b ≡ cell_for P w.decision =
          write_left (store P) (store_laws P) s fresh os b in_frame w (last_is P s os b ∙ e) in
          let k = fit_kind P w.decision (compared_fit P small (page_of P base) w.decision d) in
          let p = (reading_laws P small).reads_cell (frame_of s) w (page_of P base) t.0 d in
          read_is ∙ ap (read_in P (page_of P base)) here ∙ (λ i. read_done (k i) (p i))

      -- any decision, whoever made it
      pub reads_given : (w : Lent) → last_to b (accepted P s os) ≡ some (write w) → (x : List ℕ) → ReadAs P base w.decision x
          → read_at P (after P s os) b base page ≡ read_done w.decision.kind x
      reads_given w e x r =
          let fit : Fit P w.decision = (accepted_write P (frame_of s) w (stands (store P) os (last_is P s os b ∙ e)).0).fit in
          let here : cell_at P (after P s os) b ≡ cell_for P w.decision =
          write_left (store P) (store_laws P) s fresh os b in_frame w (last_is P s os b ∙ e) in
          let k = fit_kind P w.decision fit in
          let p = fit_page_in P base w.decision fit x r in
          read_is ∙ ap (read_in P (page_of P base)) here ∙ (λ i. read_done (k i) (p i))

      pub reads_base : ((w : Lent) → last_to b (accepted P s os) ≡ some (write w) → ⊥)
          → read_at P (after P s os) b base page ≡ read_done 0 (page_of P base)
      reads_base n =
          let here : cell_at P (after P s os) b ≡ blank_cell P =
          blank_left (store P) (store_laws P) s fresh os b in_frame (λ w e. n w (sym (last_is P s os b) ∙ e)) in
          let k = ap (λ (x : SlotNumbers). x.kind) empty_numbers in
          let p = blank_page P (page_of P base) in
          read_is ∙ ap (read_in P (page_of P base)) here ∙ (λ i. read_done (k i) (p i))

  pub build_accepts : P ≤ 65536 → (os : List Operation) (map : List ℕ) → map_bytes (blocks (after P s os).patch) ≤ length map
      → build_outcome P (after P s os).patch (after P s os).full map
      ≡ build_done (splice map 0 (built_map (after P s os).patch))
  build_accepts small os map long =
      let f : FrameFits P (after P s os).patch (after P s os).full [] (zeros P) =
      run_fits os [] (zeros P) (record { base_length = inl refl; page_length = zeros_length P }) in
      builds P (after P s os).patch (after P s os).full
      (λ b n.
      held_fine P (after P s os) b n (held small os b (rw (kept os).patch_length at n)))
      f.lengths f.headers map long

  -- (b) block by block
  module _ (small : P ≤ 65536) (b : ℕ) (below : b < blocks s.patch) (base into : List ℕ) (f : PagesFit P base into)
      (os os' : List Operation) where
    cells_iff : (cell_at P (after P s os) b ≡ cell_at P (after P s os') b)
        ↔ ((slot_of (after P s os).patch b ≡ slot_of (after P s os').patch b)
        × (place_of P (after P s os).full b ≡ place_of P (after P s os').full b))
    cells_iff = (
      λ e. (ap (λ (c : Cell). c.slot) e, place e),
      λ e. λ i. record { slot = e.0 i; place = cond (ltb b (places_same i)) (e.1 i) (zeros P) },
    )
      where
        m : ℕ
        m = places P s.full

        kept_places : (os : List Operation) → places P (after P s os).full ≡ places P s.full
        kept_places os = ap (pages_in P) (kept os).full_length

        places_same : places P (after P s os).full ≡ places P (after P s os').full
        places_same = kept_places os ∙ sym (kept_places os')

        fits : (os : List Operation) → LengthsFit P (after P s os).patch (after P s os).full
        fits os = (run_fits os base into f).lengths

        place : cell_at P (after P s os) b ≡ cell_at P (after P s os') b
            → place_of P (after P s os).full b ≡ place_of P (after P s os').full b
        place e =
            elim (dec_lt b (places P s.full)) [
              | yes l ↦
                  rw (
                    lt-ltb b (places P (after P s os).full) (rw (kept_places os) l),
                    lt-ltb b (places P (after P s os').full) (rw (kept_places os') l),
                  ) at (ap (λ (c : Cell). c.place) e)
              | no l ↦
                  place_past P (after P s os).patch (after P s os).full (fits os) b (rw (kept_places os) (omega arith))
                  ∙ sym (place_past P (after P s os').patch (after P s os').full (fits os') b (rw (kept_places os') (omega arith)))
            ]

    block_same : OverBaseAt P base s os b → OverBaseAt P base s os' b
        → ((slot_of (after P s os).patch b ≡ slot_of (after P s os').patch b)
        × (place_of P (after P s os).full b ≡ place_of P (after P s os').full b))
        ↔ ((read_at P (after P s os) b base into).page ≡ (read_at P (after P s os') b base into).page)
    unfolding OverAt
    block_same over over' =
        let same = same_at (store P) (reading P) (store_laws P) (reading_laws P small) s fresh b
        (rw (emptied_length patch_head s.patch) below) (page_of P base) (base_page_length P base into f) os os'
        (λ w e. over w (sym (last_is P s os b) ∙ e)) (λ w e. over' w (sym (last_is P s os' b) ∙ e)) in (
          λ e. page_is os ∙ same.0 (cells_iff.1 e) ∙ sym (page_is os'),
          λ e. cells_iff.0 (same.1 (sym (page_is os) ∙ e ∙ page_is os')),
        )
      where
        page_is : (us : List Operation) → (read_at P (after P s us) b base into).page ≡ page_in P (page_of P base) (cell_at P (after P s us) b)
        page_is us = ap (λ (o : ReadOutcome). o.page) (read_is small us b below base into f)

  -- (b)
  same_iff : P ≤ 65536 → (bases into : ℕ → List ℕ) → ((b : ℕ) → b < blocks s.patch → PagesFit P (bases b) (into b))
      → (os os' : List Operation) → OverBases P bases s os → OverBases P bases s os'
      → (after P s os ≡ after P s os')
      ↔ ((b : ℕ) → b < blocks s.patch
      → (read_at P (after P s os) b (bases b) (into b)).page ≡ (read_at P (after P s os') b (bases b) (into b)).page)
  unfolding ReadSame
  same_iff small bases into fits os os' over over' = (
    λ e b n. ap (λ (t : Areas). (read_at P t b (bases b) (into b)).page) e,
    λ r.
        (same_iff_read_same (store P) (reading P) (store_laws P) (reading_laws P small) s fresh (λ b. page_of P (bases b))
        (λ b n. base_page_length P (bases b) (into b) (fits b (rw (emptied_length patch_head s.patch) at n))) os os'
        (over_bases P s os bases over) (over_bases P s os' bases over')).1
        (λ b n.
        let k : b < blocks s.patch = rw (emptied_length patch_head s.patch) at n in
        sym (page_is os b k) ∙ r b k ∙ page_is os' b k),
  )
    where
      page_is : (os : List Operation) (b : ℕ) (n : b < blocks s.patch)
          → (read_at P (after P s os) b (bases b) (into b)).page ≡ page_in P (page_of P (bases b)) (cell_at P (after P s os) b)
      page_is os b n = ap (λ (o : ReadOutcome). o.page) (read_is small os b n (bases b) (into b) (fits b n))

-- (b) of two runs from fresh areas of the same lengths, at a block whose base pages agree at the end
pub two_blocks : (P : ℕ) → P ≤ 65536 → (s t : Areas) → FreshAreas P s → FreshAreas P t → length s.patch ≡ length t.patch
    → length s.full ≡ length t.full
    → (b : ℕ) → b < blocks s.patch → (base base' into : List ℕ) → PagesFit P base into → PagesFit P base' into
    → page_of P base ≡ page_of P base'
    → (os os' : List Operation) → OverBaseAt P base s os b → OverBaseAt P base' t os' b
    → ((slot_of (after P s os).patch b ≡ slot_of (after P t os').patch b)
    × (place_of P (after P s os).full b ≡ place_of P (after P t os').full b))
    ↔ ((read_at P (after P s os) b base into).page ≡ (read_at P (after P t os') b base' into).page)
two_blocks P small s t h k p f b below base base' into fit fit' agree os os' over over' =
    subst
    (λ (x : Areas).
    OverBaseAt P base' x os' b
    → ((slot_of (after P s os).patch b ≡ slot_of (after P x os').patch b)
    × (place_of P (after P s os).full b ≡ place_of P (after P x os').full b))
    ↔ ((read_at P (after P s os) b base into).page ≡ (read_at P (after P x os') b base' into).page))
    (fresh_one P s t h k p f) one over'
  where
    one : OverBaseAt P base' s os' b
        → ((slot_of (after P s os).patch b ≡ slot_of (after P s os').patch b)
        × (place_of P (after P s os).full b ≡ place_of P (after P s os').full b))
        ↔ ((read_at P (after P s os) b base into).page ≡ (read_at P (after P s os') b base' into).page)
    one o =
        let q = block_same P s h small b below base into fit os os' over (over_same P s os' b base' base (sym agree) o) in
        let r : (read_at P (after P s os') b base into).page ≡ (read_at P (after P s os') b base' into).page =
        ap (λ (o : ReadOutcome). o.page)
        (read_by_page P (after P s os').patch (after P s os').full b base base' into fit fit' agree) in
        (λ e. q.0 e ∙ r, λ e. q.1 (e ∙ sym r))

two_runs : (P : ℕ) → P ≤ 65536 → (s t : Areas) → FreshAreas P s → FreshAreas P t → length s.patch ≡ length t.patch
    → length s.full ≡ length t.full
    → (bases into : ℕ → List ℕ) → ((b : ℕ) → b < blocks s.patch → PagesFit P (bases b) (into b))
    → (os os' : List Operation) → OverBases P bases s os → OverBases P bases t os'
    → (after P s os ≡ after P t os')
    ↔ ((b : ℕ) → b < blocks s.patch
    → (read_at P (after P s os) b (bases b) (into b)).page ≡ (read_at P (after P t os') b (bases b) (into b)).page)
two_runs P small s t h k p f bases into fits os os' =
    subst
    (λ (x : Areas).
    OverBases P bases s os → OverBases P bases x os'
    → (after P s os ≡ after P x os')
    ↔ ((b : ℕ) → b < blocks s.patch
    → (read_at P (after P s os) b (bases b) (into b)).page ≡ (read_at P (after P x os') b (bases b) (into b)).page))
    (fresh_one P s t h k p f) (same_iff P s h small bases into fits os os')

-- "two runs are compared where their bases agree at the end"
pub runs_agreeing : (P : ℕ) → P ≤ 65536 → (s t : Areas) → FreshAreas P s → FreshAreas P t → length s.patch ≡ length t.patch
    → length s.full ≡ length t.full
    → (bases bases' into : ℕ → List ℕ) → ((b : ℕ) → b < blocks s.patch → PagesFit P (bases b) (into b))
    → ((b : ℕ) → b < blocks s.patch → PagesFit P (bases' b) (into b))
    → ((b : ℕ) → b < blocks s.patch → page_of P (bases b) ≡ page_of P (bases' b))
    → (os os' : List Operation) → OverBases P bases s os → OverBases P bases' t os'
    → (after P s os ≡ after P t os')
    ↔ ((b : ℕ) → b < blocks s.patch
    → (read_at P (after P s os) b (bases b) (into b)).page ≡ (read_at P (after P t os') b (bases' b) (into b)).page)
runs_agreeing P small s t h k p f bases bases' into fits fits' agree os os' over over' = (
  λ e b n. same.0 e b n ∙ alike b n,
  λ r. same.1 (λ b n. r b n ∙ sym (alike b n)),
)
  where
    n_same : blocks t.patch ≡ blocks s.patch
    n_same = ap blocks_in (sym p)

    same : (after P s os ≡ after P t os')
        ↔ ((b : ℕ) → b < blocks s.patch
        → (read_at P (after P s os) b (bases b) (into b)).page ≡ (read_at P (after P t os') b (bases b) (into b)).page)
    same =
        two_runs P small s t h k p f bases into fits os os' over
        (λ b n. over_same P t os' b (bases' b) (bases b) (sym (agree b (rw n_same at n))) (over' b n))

    alike : (b : ℕ) → b < blocks s.patch
        → (read_at P (after P t os') b (bases b) (into b)).page ≡ (read_at P (after P t os') b (bases' b) (into b)).page
    alike b n =
        ap (λ (o : ReadOutcome). o.page)
        (read_by_page P (after P t os').patch (after P t os').full b (bases b) (bases' b) (into b) (fits b n) (fits' b n) (agree b n))
