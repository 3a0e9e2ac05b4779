-- Wrong programs for a write that is told how many stores to make, each shut out by the request's own words and a proved input: the two blocks
-- of `Sample`. `StopsSafely` and `KeepsMaps` are those words for a given program; the right ones keep them. Then a wrong caller, who reads by a
-- map from before a stop.
use Rattle.std.specs.Prelude.{ℕ, ◌-◌, ◌≤◌, ◌<◌, ◌≡◌, refl, Bool, true, false, cond, ◌⊎◌, List, [], ◌∷◌, eqb, length, get_or, replicate}
use Rattle.std.proofs.Common.{arith, sym, ap, ◌∙◌, true≢false, inr, ⊎_elim, lit≤, lit<, eq-eqb}
use Rattle.span.specs.Bytes.{zeros}
use Rattle.span.specs.Laws.{zeros_at, zeros_after}
use Rattle.layout.specs.Sizes.{page_size}
use Rattle.slots.specs.Slots.{full_slot}
use Rattle.stream.specs.Calls.{kind_for}
use Rattle.stream.specs.Laws.{base_some}
use Rattle.store.specs.Block.{slot_of, place_of}
use Rattle.reading.specs.Read.{ReadOutcome, read_done}
use Rattle.carrying.specs.Puts.{all}
use Rattle.carrying.specs.CarryOut.{CarryOutcome, carry_numbers}
use Rattle.carrying.specs.Mapped.{MappedCarry, carry_mapped_told}
use Rattle.carrying.specs.CarryLaws.{map_done}
use Rattle.blockmap.specs.Pairs.{pair_at}
use Rattle.blockmap.specs.SetPair.{PairSet}
use Rattle.blockmap.specs.Pack.{pair_of, byte_of, with_pair, set_pair}
use Rattle.promises.specs.Words.{PagesFit, FrameFits, SameFrame, PairFor}
use Rattle.promises.specs.FrameLaws.{lengths_moved, headers_moved}
use Rattle.promises.specs.SlotLaws.{image_full}
use Rattle.promises.specs.ReadLaws.{reads_full}
use Rattle.promises.specs.StoreLaws.{StoredAt, both, slot_anew, place_anew, carry_stored}
use Rattle.promises.specs.CarryWords.{ReadAs}
use Rattle.promises.specs.CarryTables.{mapped_as_carry}
use Rattle.promises.specs.Decisions.{Cell}
use Rattle.promises.specs.PairLaws as pair
use Rattle.promises.specs.CarryWrong.{CarriesOut, right_carries}
use Rattle.promises.specs.Runs.{run}
use Rattle.promises.specs.RunWords.{Areas, read_at, Lent, Operation, outcome, after, next}
use Rattle.promises.specs.MapWords.{Mapped, mapped, read_by_map}
use Rattle.promises.specs.MapStore.{with}
use Rattle.promises.specs.MapTables.{by_map_1}
use Rattle.promises.specs.MapsWrong.{start, one_byte, one_kind, wrote}
use Rattle.promises.specs.FreshLaws.{fresh_cell}
use Rattle.promises.specs.RunLaws.{run_fits}
use Rattle.promises.specs.StopWords.{ToldProgram, told, left_by, stopped, swept, slot_stored}
use Rattle.promises.specs.DemandStops.{same_answer, none_made, page_made, slot_made, all_made, old_or_new, other_blocks, whole_or_without}
use Rattle.promises.specs.DemandStops.{same_answer_mapped, map_kept, map_updated}
use Rattle.promises.specs.DemandTwo.{keeps_map}
use Rattle.promises.specs.Sample.{sample, sample_fresh, two_blocks, two_places, areas_fit, takes, page, one, two, many, two_fits}
use Rattle.promises.specs.Sample.{place_ones, stream_one, one_fits, many_fits, one_fit, many_fit, large_ones, to, puts, decides, reads, nothing_stands}

-- "It is told how many of them to make, 0, 1 or, for any other number, all, with the same refusals and answer ... After a stop before, between
-- or after these, Read gives the block as before or its new page, and other blocks as before": of the write told all no more is said than that
-- it carries out its decision
pub record StopsSafely (program : ToldProgram) : Type 0 where
  pub whole : CarriesOut (λ s w. program s w all)
  pub answer : (s : Areas) (w : Lent) (k : ℕ) → carry_numbers (program s w k) ≡ carry_numbers (program s w all)
  pub none : (s : Areas) (w : Lent) → left_by (program s w 0) ≡ s
  -- told 1: "page then slot for FULL_REF, slot then zeroed page place for the other kinds". The first is made, and the second is not
  pub page_first : (s : Areas) (w : Lent) → w.decision.kind ≡ 2
      → ((program s w 1).patch ≡ s.patch) × ((program s w 1).full ≡ (program s w all).full)
  pub slot_before_page : (s : Areas) (w : Lent) → (w.decision.kind ≡ 2 → ⊥)
      → ((program s w 1).patch ≡ (program s w all).patch) × ((program s w 1).full ≡ s.full)
  pub any_other : (s : Areas) (w : Lent) (k : ℕ) → 1 < k → program s w k ≡ program s w all
  pub block : (s : Areas) (w : Lent) (k : ℕ) (base page : List ℕ)
      → (read_at page_size (left_by (program s w k)) w.block base page ≡ read_at page_size s w.block base page)
      ⊎ (read_at page_size (left_by (program s w k)) w.block base page ≡ read_at page_size (left_by (program s w all)) w.block base page)
  pub others : (s : Areas) (w : Lent) (k c : ℕ) → (c ≡ w.block → ⊥) → (base page : List ℕ)
      → read_at page_size (left_by (program s w k)) c base page ≡ read_at page_size s c base page

pub right_stops : StopsSafely (told page_size)
right_stops =
    record {
      whole = right_carries;
      answer = same_answer;
      none = none_made;
      page_first = page_made;
      slot_before_page = slot_made;
      any_other = all_made;
      block = old_or_new;
      others = λ s w k c n base page. other_blocks s w k c n base page;
    }

-- the first of two stores made, of a write that is accepted and told 1: the patch area or the full area as after the whole write
abbrev first_made : Bool → ToldProgram
first_made patch s w k =
    let o = told page_size s w all in
    cond (eqb k 1)
    (cond (eqb o.number 0)
    (record { number = o.number; kind = o.kind; length = o.length; patch = cond patch o.patch s.patch; full = cond patch s.full o.full })
    o)
    (told page_size s w k)

-- A place that is read though it holds zeros

-- the first byte of a page
first : (xs ys : List ℕ) → xs ≡ ys → get_or xs 0 0 ≡ get_or ys 0 0
first xs ys e = ap (λ (l : List ℕ). get_or l 0 0) e

first_read : {o p : ReadOutcome} → o ≡ p → get_or o.page 0 0 ≡ get_or p.page 0 0
first_read e = ap (λ (x : ReadOutcome). get_or x.page 0 0) e

two_first : get_or two 0 0 ≡ 7
unfolding page
two_first = refl

one_first : get_or one 0 0 ≡ 7
unfolding page
one_first = refl

pub many_first : get_or (many 1) 0 0 ≡ 1
unfolding many page
many_first = zeros_after (replicate 253 1) (page_size - length (replicate {A = ℕ} 253 1)) 0

small_one : eqb (decides [] one).kind 2 ≡ false
unfolding kind_for
small_one = ap (λ (l : List ℕ). eqb (kind_for (length l)) 2) stream_one

-- any page over the base `two`, into `two`
over_two : PagesFit page_size two two
over_two = record { base_length = inr two_fits.page_length; page_length = two_fits.page_length }

-- block 0, of areas of the sample's frame, whose slot refers to a place of zeros
reads_nothing : (os : List Operation) (t : Areas) (base : List ℕ) → PagesFit page_size base two
    → SameFrame (after page_size sample os).patch (after page_size sample os).full t.patch t.full
    → slot_of t.patch 0 ≡ full_slot → place_of page_size t.full 0 ≡ zeros page_size
    → get_or (read_at page_size t 0 base two).page 0 0 ≡ 0
reads_nothing os t base p f slot place =
    let h = areas_fit os in
    let fits : FrameFits page_size t.patch t.full base two =
    record { pages = p; lengths = lengths_moved page_size _ _ _ _ f h.lengths; headers = headers_moved page_size _ _ _ _ f h.headers } in
    first _ _
    (ap (λ (o : ReadOutcome). o.page)
    (reads_full page_size t.patch t.full 0 base two fits (rw (f.patch_length, two_blocks os) (lit< tt)) slot
    (rw (f.full_length, two_places os) (lit< tt)))
    ∙ place)
    ∙ zeros_at page_size 0

-- the sample with `many 1` stored at block 0, and the stores of that write
large_done : (outcome page_size sample (to 0 (many 1))).number ≡ 0
unfolding run
large_done = takes [] (to 0 (many 1)) (lit< tt) (many_fit 1)

pub large_stored : StoredAt page_size 0 (decides [] (many 1)) (both (decides [] (many 1))) sample (next page_size sample (to 0 (many 1)))
large_stored = carry_stored page_size sample.patch sample.full 0 (decides [] (many 1)) large_done

pub large_slot : slot_of (next page_size sample (to 0 (many 1))).patch 0 ≡ full_slot
large_slot = large_stored.slot_is ∙ slot_anew (decides [] (many 1)) (slot_of sample.patch 0) ∙ rw large_ones (image_full _)

pub large_place : place_of page_size (next page_size sample (to 0 (many 1))).full 0 ≡ many 1
unfolding run
large_place = rw (two_places (puts 0 (many 1) ∷ [])) at place_ones

fresh_place : place_of page_size sample.full 0 ≡ zeros page_size
unfolding run
fresh_place = rw (two_places []) at (ap (λ (c : Cell). c.place) (fresh_cell page_size sample sample_fresh 0 (rw (two_blocks []) (lit< tt))))

-- the slot always first, before the page for FULL_REF: stopped between the two, the block reads as the zeros of its place
unfoldable pub slot_first : ToldProgram
slot_first s w k = first_made true s w k

-- the first byte that block 0 reads as over `two`: before the write, and after it
old_first : get_or (read_at page_size sample 0 two two).page 0 0 ≡ 7
unfolding run
old_first =
    first _ _
    (ap (λ (o : ReadOutcome). o.page) (nothing_stands 0 (lit< tt) two two over_two)
    ∙ base_some page_size two (λ z. omega (arith, z, two_fits.page_length)))
    ∙ two_first

new_first : get_or (read_at page_size (next page_size sample (to 0 (many 1))) 0 two two).page 0 0 ≡ 1
new_first =
    first _ _
    (ap (λ (o : ReadOutcome). o.page)
    (pair.reads_decided page_size sample.patch sample.full 0 (decides [] (many 1)) large_done two two (many 1) over_two (ReadAs.own_page large_ones)))
    ∙ many_first

pub not_slot_first : StopsSafely slot_first → ⊥
unfolding slot_first run
not_slot_first claim =
    ⊎_elim (λ e. omega (arith, wrong, old_first, first_read e)) (λ e. omega (arith, wrong, new_first, first_read e))
    (claim.block sample (to 0 (many 1)) 1 two two)
  where
    stops : left_by (slot_first sample (to 0 (many 1)) 1) ≡ record { patch = (next page_size sample (to 0 (many 1))).patch; full = sample.full }
    stops = rw (eq-eqb (outcome page_size sample (to 0 (many 1))).number 0 large_done)

    frame : SameFrame sample.patch sample.full (next page_size sample (to 0 (many 1))).patch sample.full
    frame = record {
      patch_length = large_stored.frame.patch_length;
      full_length = refl;
      patch_header_is = large_stored.frame.patch_header_is;
      full_header_is = refl;
    }

    wrong : get_or (read_at page_size (left_by (slot_first sample (to 0 (many 1)) 1)) 0 two two).page 0 0 ≡ 0
    wrong =
        ap (λ (t : Areas). get_or (read_at page_size t 0 two two).page 0 0) stops
        ∙ reads_nothing [] (record { patch = (next page_size sample (to 0 (many 1))).patch; full = sample.full }) two over_two frame large_slot fresh_place

-- `one` over a full page: its place becomes zeros

abbrev full_first : List Operation
full_first = puts 0 (many 1) ∷ []

small_done : (outcome page_size (after page_size sample full_first) (to 0 one)).number ≡ 0
small_done = takes full_first (to 0 one) (lit< tt) one_fit

small_stored : StoredAt page_size 0 (decides [] one) (both (decides [] one)) (after page_size sample full_first)
    (next page_size (after page_size sample full_first) (to 0 one))
small_stored = carry_stored page_size _ _ 0 (decides [] one) small_done

small_place : place_of page_size (next page_size (after page_size sample full_first) (to 0 one)).full 0 ≡ zeros page_size
small_place =
    small_stored.place_is (rw (two_places full_first) (lit< tt)) ∙ place_anew page_size (decides [] one) _
    ∙ ap (λ (t : Bool). cond t one (zeros page_size)) small_one

-- the place always first, before the slot that refers to it is gone: stopped between the two, the block reads as zeros
unfoldable pub place_first : ToldProgram
place_first s w k = first_made false s w k

pub not_place_first : StopsSafely place_first → ⊥
unfolding place_first run
not_place_first claim =
    ⊎_elim (λ e. omega (arith, wrong, old, first_read e)) (λ e. omega (arith, wrong, new, first_read e))
    (claim.block (after page_size sample full_first) (to 0 one) 1 [] two)
  where
    stops : left_by (place_first (after page_size sample full_first) (to 0 one) 1)
        ≡ record {
          patch = (after page_size sample full_first).patch;
          full = (next page_size (after page_size sample full_first) (to 0 one)).full;
        }
    stops = rw (eq-eqb (outcome page_size (after page_size sample full_first) (to 0 one)).number 0 small_done)

    frame : SameFrame (after page_size sample full_first).patch (after page_size sample full_first).full
        (after page_size sample full_first).patch (next page_size (after page_size sample full_first) (to 0 one)).full
    frame = record {
      patch_length = refl;
      full_length = small_stored.frame.full_length;
      patch_header_is = refl;
      full_header_is = small_stored.frame.full_header_is;
    }

    wrong : get_or (read_at page_size (left_by (place_first (after page_size sample full_first) (to 0 one) 1)) 0 [] two).page 0 0 ≡ 0
    wrong =
        ap (λ (t : Areas). get_or (read_at page_size t 0 [] two).page 0 0) stops
        ∙ reads_nothing full_first _ [] two_fits frame large_slot small_place

    old : get_or (read_at page_size (after page_size sample full_first) 0 [] two).page 0 0 ≡ 1
    old = first _ _ (reads [] 0 (lit< tt) (many 1) (many_fits 1)) ∙ many_first

    new : get_or (read_at page_size (next page_size (after page_size sample full_first) (to 0 one)) 0 [] two).page 0 0 ≡ 7
    new = first _ _ (reads full_first 0 (lit< tt) one one_fits) ∙ one_first

-- both stores made, though told 1
unfoldable pub makes_both : ToldProgram
makes_both s w k = cond (eqb k 1) (told page_size s w all) (told page_size s w k)

pub not_makes_both : StopsSafely makes_both → ⊥
unfolding makes_both run
not_makes_both claim =
    let small : (decides [] one).kind ≡ 2 → ⊥ = λ k. true≢false (sym (eq-eqb (decides [] one).kind 2 k) ∙ small_one) in
    let e = (claim.slot_before_page (after page_size sample full_first) (to 0 one) small).1 in
    omega (
      arith,
      zeros_at page_size 0,
      many_first,
      first _ _ (sym small_place ∙ ap (λ (f : List ℕ). place_of page_size f 0) e ∙ large_place),
    )

-- no store made, though told 1
unfoldable pub makes_none : ToldProgram
makes_none s w k = told page_size s w (cond (eqb k 1) 0 k)

pub not_makes_none : StopsSafely makes_none → ⊥
unfolding makes_none
not_makes_none claim =
    let e = (claim.page_first sample (to 0 (many 1)) large_ones).1 in
    let none : (told page_size sample (to 0 (many 1)) 0).full ≡ sample.full = ap (λ (t : Areas). t.full) (none_made sample (to 0 (many 1))) in
    omega (
      arith,
      zeros_at page_size 0,
      many_first,
      first _ _ (sym fresh_place ∙ ap (λ (f : List ℕ). place_of page_size f 0) (sym none ∙ e) ∙ large_place),
    )

-- The lent map. "a lent map is updated only when told all"

abbrev pub ToldMapped : Type 0
ToldMapped = Mapped → Lent → ℕ → MappedCarry

abbrev pub told_mapped : ToldMapped
told_mapped x w k = carry_mapped_told page_size x.areas.patch x.areas.full x.map w.block w.decision k

pub record KeepsMaps (program : ToldMapped) : Type 0 where
  pub kept : (x : Mapped) (w : Lent) (k : ℕ) → k ≤ 1 → (program x w k).map ≡ x.map
  pub any_other : (x : Mapped) (w : Lent) (k : ℕ) → 1 < k → program x w k ≡ program x w all
  pub answer : (x : Mapped) (w : Lent) (k : ℕ) → carry_numbers (program x w k).areas ≡ carry_numbers (program x w all).areas
  -- told all and accepted, the block's own pair is that of its kind, and nothing else of the map changes
  pub pair : (x : Mapped) (w : Lent) → (program x w all).areas.number ≡ 0
      → (v : ℕ) × PairFor (program x w all).areas.kind v × PairSet x.map w.block v (program x w all).map

pub right_keeps_maps : KeepsMaps told_mapped
right_keeps_maps =
    record {
      kept = λ x w k h. map_kept x.areas.patch x.areas.full x.map w.block w.decision k h;
      any_other = λ x w k h. map_updated x.areas.patch x.areas.full x.map w.block w.decision k h;
      answer = λ x w k. same_answer_mapped x.areas.patch x.areas.full x.map w.block w.decision k;
      pair = λ x w e. keeps_map x.areas.patch x.areas.full x.map w.block w.decision e;
    }

-- `one` at block 0 sets the first pair to 2
one_set : (mapped page_size start (to 0 one)).map ≡ 2 ∷ []
unfolding run set_pair with_pair byte_of pair_of
one_set =
    ap (λ (o : MappedCarry). o.map) (wrote [] 0 0 (lit< tt)) ∙ ap (λ (k : ℕ). set_pair (0 ∷ []) 0 (pair_of k)) (one_kind [] 0 (lit< tt))

not_set : ◌≡◌ {A = List ℕ} (2 ∷ []) (0 ∷ []) → ⊥
not_set e = let z : ◌≡◌ {A = ℕ} 2 0 = ap (λ (l : List ℕ). get_or l 0 0) e in omega arith

-- the pair set with the first store
unfoldable pub sets_early : ToldMapped
sets_early x w k = record { areas = (told_mapped x w k).areas; map = cond (eqb k 0) x.map (told_mapped x w all).map }

pub not_sets_early : KeepsMaps sets_early → ⊥
unfolding sets_early run
not_sets_early claim = not_set (sym one_set ∙ claim.kept start (to 0 one) 1 (lit≤ tt))

-- the pair set only by the number 2, where any number above 1 is all
unfoldable pub sets_at_two : ToldMapped
sets_at_two x w k = record { areas = (told_mapped x w k).areas; map = cond (eqb k 2) (told_mapped x w k).map x.map }

pub not_sets_at_two : KeepsMaps sets_at_two → ⊥
unfolding sets_at_two run
not_sets_at_two claim = not_set (sym one_set ∙ sym (ap (λ (o : MappedCarry). o.map) (claim.any_other start (to 0 one) 3 (lit< tt))))

-- A caller who reads by a map from before a stop. Block 0 holds a full page, and its pair is 1. A write of `one` is stopped after its slot and
-- swept, and Read gives `one`; by the old pair the block reads as zeros. So a map is built anew after a sweep

pub pair_before : (mapped page_size start (to 0 (many 1))).map ≡ 1 ∷ []
unfolding run set_pair with_pair byte_of pair_of
pair_before =
    let same = mapped_as_carry page_size sample.patch sample.full (0 ∷ []) 0 (decides [] (many 1)) (one_byte [] (0 ∷ []) refl) in
    map_done page_size sample.patch sample.full (0 ∷ []) 0 (decides [] (many 1)) all (ap (λ (o : CarryOutcome). o.number) same ∙ large_done)
    ∙ ap (λ (k : ℕ). set_pair (0 ∷ []) 0 (pair_of k)) large_ones

abbrev pub tripped : Areas
tripped = swept page_size (stopped page_size (after page_size sample full_first) 1 (to 0 one))

tripped_is : tripped ≡ next page_size (after page_size sample full_first) (to 0 one)
unfolding run
tripped_is =
    ⊎_elim (λ x. x.1) (λ x. absurd (x.0 (slot_stored (λ k. true≢false (sym (eq-eqb (decides [] one).kind 2 k) ∙ small_one)))))
    (whole_or_without sample sample_fresh full_first 1 (to 0 one) [])

pub read_by_slots : (read_at page_size tripped 0 [] two).page ≡ one
read_by_slots = ap (λ (t : Areas). (read_at page_size t 0 [] two).page) tripped_is ∙ reads full_first 0 (lit< tt) one one_fits

pub read_by_old_map : read_by_map page_size (with tripped (1 ∷ [])) 0 [] two ≡ read_done 2 (zeros page_size)
unfolding run pair_at
read_by_old_map =
    let os : List Operation = puts 0 (many 1) ∷ puts 0 one ∷ [] in
    let t : Areas = after page_size sample os in
    ap (λ (t : Areas). read_by_map page_size (with t (1 ∷ [])) 0 [] two) tripped_is
    ∙ by_map_1 page_size t.patch t.full (1 ∷ []) 0 [] two
    (record {
      frame = run_fits page_size sample sample_fresh os [] two two_fits;
      room_for = one_byte os (1 ∷ []) refl;
      below = rw (two_blocks os) (lit< tt);
    }) refl (rw (two_places os) (lit< tt))
    ∙ ap (read_done 2) small_place
