-- Wrong programs for Cut and Highest, each shut out by the request's own words and a proved input: the two blocks of `Sample`. `CutsDrop`,
-- `CutNumbers`, `ClearsPairs`, `HighestTells` and `HighestNumbersGiven` are those words for a given program; the right ones keep them.
use Rattle.std.specs.Prelude.{ℕ, zero, suc, ◌+◌, ◌-◌, ◌*◌, ◌/◌, ◌≤◌, ◌<◌, List, [], ◌∷◌, length, get_or, set}
use Rattle.std.specs.Prelude.{◌≡◌, refl, Bool, true, false, ◌&&◌, cond, ◌↔◌, eqb, leb, ltb}
use Rattle.std.proofs.Common.{arith, sym, ap, ◌∙◌, true≢false, inl, inr, lit≤, lit<, lt-ltb, le-leb, eq-eqb}
use Rattle.std.proofs.Math.Option.{none, some}
use mathlib.Core.List.Memᴰ
use Rattle.span.specs.Bytes.{zeros, splice, same}
use Rattle.span.specs.Laws.{zeros_at, zeros_length, same_false}
use Rattle.layout.specs.Sizes.{page_size, patch_head, slot_size, slot_at, page_at}
use Rattle.layout.specs.Refusals.{first_of}
use Rattle.slots.specs.Slots.{empty_slot, patch_slot, full_slot, slot_numbers, slot_image}
use Rattle.slots.specs.Meaning.{empty_numbers}
use Rattle.stream.specs.Calls.{page_of, kind_for}
use Rattle.blockmap.specs.Pairs.{map_bytes, pair_at}
use Rattle.blockmap.specs.Pack.{pair_of, byte_of, with_pair, set_pair, clear_pairs}
use Rattle.blockmap.specs.SetPair.{PairsCleared}
use Rattle.store.specs.Block.{slot_of, place_of, slot_rows}
use Rattle.store.specs.FrameLaws.{none_in}
use Rattle.cutting.specs.Cut.{CutOutcome, cut_refused}
use Rattle.cutting.specs.CutLaws.{map_done}
use Rattle.building.specs.Build.{BuildOutcome}
use Rattle.cutting.specs.Highest.{extent, non_empty, HighestNumbers, highest_numbers}
use Rattle.cutting.specs.Reach.{OneMore}
use Rattle.cutting.specs.ReachLaws.{one_more_one}
use Rattle.promises.specs.Words.{blocks, places, AreasFit, SoundSlot, MapFits}
use Rattle.promises.specs.CutWords.{CutGives, Dropped, HighestGives, NonEmpty}
use Rattle.promises.specs.Cells.{put_length, put_here, put_head, put_other}
use Rattle.promises.specs.FrameLaws.{lengths_by}
use Rattle.promises.specs.CutTables.{cut_table, mapped_as_cut, slot_right}
use Rattle.promises.specs.Decisions.{Cell}
use Rattle.promises.specs.Runs.{run, taking, later, last_such, concerns, write, wipe}
use Rattle.promises.specs.RunWords.{Areas, Lent, Cut, Operation, CutProgram, outcome, cutting, accepted_by, next, last_to, JustLastsBy}
use Rattle.promises.specs.RunStoreLaws.{cell_here}
use Rattle.promises.specs.FreshLaws.{fresh_cell}
use Rattle.promises.specs.HighLaws.{run_highest_done}
use Rattle.promises.specs.RunLaws.{kept}
use Rattle.promises.specs.MapWords.{Mapped, mapped, MappedCutProgram, cut_mapped, does_with_by, after_with_by}
use Rattle.promises.specs.MapStore.{with}
use Rattle.promises.specs.DemandTwo.{drops, cut_gives, clears_pairs, one_more, highest_gives}
use Rattle.promises.specs.Sample.{sample, sample_fresh, two_blocks, two_places, takes, areas_fit, cut_takes, page, one, many, one_fits}
use Rattle.promises.specs.Sample.{two as page_two, two_fits, stream_one, to, puts, place_ones, reads, one_fit, many_fit}
use Rattle.promises.specs.Wrong.{T, LastsLeave, ReadsAsBase}
use Rattle.promises.specs.MapsWrong.{MapBuilt, right_map_built, start, start_fresh, one_byte, one_kind, wrote}

-- Cut. "their slots, full pages ... become zero, blocks below K keep every byte", and "2, 9, headers, 5 for K above n"

abbrev pub CutsDrop : CutProgram → Type 0
CutsDrop program =
    (s : Areas) (K : Cut) → (program s K).number ≡ 0 → Dropped page_size s.patch s.full K (program s K).patch (program s K).full

abbrev pub CutNumbers : CutProgram → Type 0
CutNumbers program = (s : Areas) (K : Cut) (k : ℕ) → ((program s K).number ≡ k) ↔ CutGives page_size s.patch s.full K k

pub right_cut : CutsDrop (cutting page_size) × CutNumbers (cutting page_size)
right_cut = (λ s K e. drops s.patch s.full K e, λ s K k. cut_gives s.patch s.full K k)

-- slots only: the places keep their pages
unfoldable pub slots_only : CutProgram
slots_only s K = record { number = (cutting page_size s K).number; patch = (cutting page_size s K).patch; full = s.full }

-- the place of a full page is not zero
full_place : place_of page_size (T (many 1)).full 0 ≡ zeros page_size → ⊥
unfolding many page run
full_place e =
    let here : place_of page_size (T (many 1)).full 0 ≡ many 1 =
    (rw (lt-ltb 0 (places page_size (T (many 1)).full) (rw (two_places (puts 0 (many 1) ∷ [])) (lit< tt))) at place_ones) in
    let z : ◌≡◌ {A = ℕ} 1 0 = ap (λ (l : List ℕ). get_or l 0 0) (sym here ∙ e) ∙ zeros_at page_size 0 in
    omega arith

pub not_slots_only : CutsDrop slots_only → ⊥
unfolding slots_only run
not_slots_only claim =
    full_place
    ((claim (T (many 1)) 0 (cut_takes (puts 0 (many 1) ∷ []) 0 (lit≤ tt))).no_places 0 (lit≤ tt)
    (rw (two_places (puts 0 (many 1) ∷ [])) (lit< tt)))

-- and it breaks (a) of demand 3: after a write and a cut that covers it no write is left, yet the areas are not fresh
pub not_slots_only_run : LastsLeave (outcome page_size) slots_only → ⊥
unfolding run taking slots_only last_to last_such later concerns
not_slots_only_run claim =
    full_place
    (ap (λ (s : Areas). place_of page_size s.full 0) (sym (claim sample sample_fresh (puts 0 (many 1) ∷ wipe 0 ∷ []) [] none_left).1)
    ∙ fresh_place)
  where
    fresh_place : place_of page_size sample.full 0 ≡ zeros page_size
    fresh_place =
        rw (lt-ltb 0 (places page_size sample.full) (rw (two_places []) (lit< tt))) at
        (ap (λ (c : Cell). c.place) (fresh_cell page_size sample sample_fresh 0 (rw (two_blocks []) (lit< tt))))

    covered : (t u : Bool) (w : Lent) → u ≡ true → later t (puts 0 (many 1)) (later u (wipe 0) none) ≡ some (write w) → ⊥
    covered t true w q e = let z : ◌≡◌ {A = ℕ} 0 1 = cc e in omega arith
    covered t false w q e = true≢false (sym q)

    none_left : JustLastsBy (outcome page_size) slots_only sample (puts 0 (many 1) ∷ wipe 0 ∷ []) []
    none_left w =
        rw (
          eq-eqb (outcome page_size sample (to 0 (many 1))).number 0 (takes [] (to 0 (many 1)) (lit< tt) (many_fit 1)),
          eq-eqb (cutting page_size (T (many 1)) 0).number 0 (cut_takes (puts 0 (many 1) ∷ []) 0 (lit≤ tt)),
        )
        (λ i. absurd (Memᴰ.not-nil i), λ e. absurd (covered (eqb 0 w.block) (leb 0 w.block) w (le-leb 0 w.block (omega arith)) e))

-- nothing dropped, though it says so
unfoldable pub keeps_all : CutProgram
keeps_all s K = record { number = (cutting page_size s K).number; patch = s.patch; full = s.full }

-- by (c) of demand 3: block 0 reads as the page of before and not as its base
pub not_keeps_all_run : ReadsAsBase (outcome page_size) keeps_all → ⊥
unfolding run taking keeps_all last_to last_such later concerns page page_of zeros
not_keeps_all_run claim =
    let os : List Operation = puts 0 one ∷ wipe 0 ∷ [] in
    let e : one ≡ page_of page_size [] = sym (reads [] 0 (lit< tt) one one_fits)
    ∙ claim sample sample_fresh os 0 (rw (two_blocks []) (lit< tt)) wiped [] page_two two_fits in
    let z : ◌≡◌ {A = ℕ} 7 0 = ap (λ (l : List ℕ). get_or l 0 0) e in
    omega arith
  where
    wiped : (w : Lent) → last_to 0 (accepted_by (outcome page_size) keeps_all sample (puts 0 one ∷ wipe 0 ∷ [])) ≡ some (write w) → ⊥
    wiped w =
        rw (
          eq-eqb (outcome page_size sample (to 0 one)).number 0 (takes [] (to 0 one) (lit< tt) one_fit),
          eq-eqb (cutting page_size (T one) 0).number 0 (cut_takes (puts 0 one ∷ []) 0 (lit≤ tt)),
        )
        (λ e. let z : ◌≡◌ {A = ℕ} 0 1 = cc e in omega arith)

-- places only where the slot was FULL_REF: a place with stray bytes beside another slot keeps them
unfoldable pub full_ref_places : Areas → ℕ → ℕ → List ℕ
full_ref_places s K zero = s.full
full_ref_places s K (suc k) =
    cond (eqb (slot_numbers (slot_of s.patch (K + k))).kind 2) (splice (full_ref_places s K k) (page_at page_size (K + k)) (zeros page_size))
    (full_ref_places s K k)

unfoldable pub where_full_ref : CutProgram
where_full_ref s K = record {
  number = (cutting page_size s K).number;
  patch = (cutting page_size s K).patch;
  full = cond (eqb (cutting page_size s K).number 0) (full_ref_places s K (blocks s.patch - K)) s.full;
}

-- two EMPTY slots, and a page in the place of block 0
stray : Areas
stray = record { patch = sample.patch; full = (T (many 1)).full }

stray_fit : AreasFit page_size stray.patch stray.full
unfolding stray run
stray_fit =
    record {
      lengths = lengths_by page_size _ _ _ _ refl (kept page_size sample sample_fresh (puts 0 (many 1) ∷ [])).full_length
          (areas_fit []).lengths;
      headers =
          record { patch_header_is = (areas_fit []).headers.patch_header_is; full_header_is = (areas_fit (puts 0 (many 1) ∷ [])).headers.full_header_is };
    }

pub not_where_full_ref : CutsDrop where_full_ref → ⊥
unfolding where_full_ref full_ref_places stray run
not_where_full_ref claim =
    let done : (cutting page_size stray 0).number ≡ 0 =
    (cut_table page_size stray.patch stray.full 0 0).1 (CutGives.done stray_fit (rw (two_blocks []) (lit≤ tt))) in
    full_place
    (rw (eq-eqb (cutting page_size stray 0).number 0 done, two_blocks [], empty_kind_is 0 (lit< tt), empty_kind_is 1 (lit< tt)) at
    ((claim stray 0 done).no_places 0 (lit≤ tt) (rw (two_places (puts 0 (many 1) ∷ [])) (lit< tt))))
  where
    empty_kind_is : (b : ℕ) → b < 2 → (slot_numbers (slot_of sample.patch b)).kind ≡ 0
    empty_kind_is b h =
        ap (λ (c : Cell). (slot_numbers c.slot).kind) (fresh_cell page_size sample sample_fresh b (rw (two_blocks []) h))
        ∙ ap (λ (n : _). n.kind) empty_numbers

-- K compared with m and not with n
unfoldable pub against_places : CutProgram
against_places s K = cond (ltb (places page_size s.full) K) (cut_refused 5 s.patch s.full) (cutting page_size s K)

-- two blocks and no full area
pub not_against_places : CutNumbers against_places → ⊥
unfolding against_places run
not_against_places claim =
    let s : Areas = record { patch = sample.patch; full = [] } in
    let fits : AreasFit page_size sample.patch [] = record {
      lengths = record {
        patch_length = (areas_fit []).lengths.patch_length;
        not_above = (areas_fit []).lengths.not_above;
        full_length = inl refl;
      };
      headers = record { patch_header_is = (areas_fit []).headers.patch_header_is; full_header_is = inl refl };
    } in
    let done : (against_places s 1).number ≡ 0 = (claim s 1 0).1 (CutGives.done fits (rw (two_blocks []) (lit≤ tt))) in
    let m : places page_size [] ≡ 0 = none_in page_size 0 refl in
    let z : ◌≡◌ {A = ℕ} 5 0 = rw m at done in
    omega arith

-- K equal to n refused
unfoldable pub refuses_all : CutProgram
refuses_all s K = cond (eqb K (blocks s.patch)) (cut_refused 5 s.patch s.full) (cutting page_size s K)

pub not_refuses_all : CutNumbers refuses_all → ⊥
unfolding refuses_all run
not_refuses_all claim =
    let done : (refuses_all sample 2).number ≡ 0 = (claim sample 2 0).1 (CutGives.done (areas_fit []) (rw (two_blocks []) (lit≤ tt))) in
    let z : ◌≡◌ {A = ℕ} 5 0 = rw (two_blocks []) at done in
    omega arith

-- With a lent map. "pairs in a lent map become zero, blocks below K keep every byte"

abbrev pub ClearsPairs : MappedCutProgram → Type 0
ClearsPairs program =
    (x : Mapped) (K : Cut) → (program x K).areas.number ≡ 0 → PairsCleared x.map K (blocks x.areas.patch) (program x K).map

pub right_pairs : ClearsPairs (cut_mapped page_size)
right_pairs x K e = clears_pairs x.areas.patch x.areas.full x.map K e

-- one that makes another map of an accepted cut
abbrev cut_leaving : (Mapped → Cut → List ℕ) → MappedCutProgram
cut_leaving makes x K = record {
  areas = (cut_mapped page_size x K).areas;
  map = cond (eqb (cut_mapped page_size x K).areas.number 0) (makes x K) x.map;
}

-- the byte in which K lies cleared whole
unfoldable pub whole_byte_cut : MappedCutProgram
whole_byte_cut = cut_leaving (λ x K. set x.map (K / 4) 0)

-- unused pairs cleared too
unfoldable pub unused_cut : MappedCutProgram
unused_cut = cut_leaving (λ x K. clear_pairs x.map K (4 * map_bytes (blocks x.areas.patch) - K))

with_map : (v K : ℕ) → K ≤ 2 → (cut_mapped page_size (with sample (v ∷ [])) K).areas.number ≡ 0
unfolding map_bytes run
with_map v K h =
    let long : MapFits sample.patch (v ∷ []) = rw (two_blocks []) (lit≤ tt) in
    ap (λ (o : CutOutcome). o.number) (mapped_as_cut page_size sample.patch sample.full (v ∷ []) K long) ∙ cut_takes [] K h

pub not_whole_byte_cut : ClearsPairs whole_byte_cut → ⊥
unfolding whole_byte_cut pair_at run
not_whole_byte_cut claim =
    let x : Mapped = with sample (2 ∷ []) in
    let done : (cut_mapped page_size x 1).areas.number ≡ 0 = with_map 2 1 (lit≤ tt) in
    let z : ◌≡◌ {A = ℕ} 0 2 = rw (eq-eqb (cut_mapped page_size x 1).areas.number 0 done) at ((claim x 1 done).others 0 (inl (lit< tt))) in
    omega arith

pub not_unused_cut : ClearsPairs unused_cut → ⊥
unfolding unused_cut map_bytes pair_at clear_pairs set_pair with_pair byte_of run
not_unused_cut claim =
    let x : Mapped = with sample (240 ∷ []) in
    let done : (cut_mapped page_size x 0).areas.number ≡ 0 = with_map 240 0 (lit≤ tt) in
    let z : ◌≡◌ {A = ℕ} 0 3 =
    rw (eq-eqb (cut_mapped page_size x 0).areas.number 0 done, two_blocks []) at
    ((claim x 0 done).others 2 (inr (rw (two_blocks []) (lit≤ tt)))) in
    omega arith

-- and the first of the two breaks demand 3's sentence on the map: block 0 was written, block 1 is cut, and byte 0 is left where Build makes 2
pub not_whole_byte_cut_run : MapBuilt (mapped page_size) whole_byte_cut → ⊥
unfolding whole_byte_cut run set_pair with_pair byte_of pair_of clear_pairs
not_whole_byte_cut_run claim =
    let os : List Operation = puts 0 one ∷ wipe 1 ∷ [] in
    let x : Mapped = with (T one) (2 ∷ []) in
    let first : does_with_by (mapped page_size) (cut_mapped page_size) start (puts 0 one) ≡ x =
    rw (wrote [] 0 0 (lit< tt), one_kind [] 0 (lit< tt)) refl in
    let long : MapFits (T one).patch (2 ∷ []) = one_byte (puts 0 one ∷ []) (2 ∷ []) refl in
    let done : (cut_mapped page_size x 1).areas.number ≡ 0 =
    ap (λ (o : CutOutcome). o.number) (mapped_as_cut page_size (T one).patch (T one).full (2 ∷ []) 1 long)
    ∙ cut_takes (puts 0 one ∷ []) 1 (lit≤ tt) in
    let wrong : (after_with_by (mapped page_size) whole_byte_cut start os).map ≡ 0 ∷ [] =
    ap (λ (y : Mapped). (does_with_by (mapped page_size) whole_byte_cut y (wipe 1)).map) first
    ∙ (rw (eq-eqb (cut_mapped page_size x 1).areas.number 0 done)) in
    let two : clear_pairs (2 ∷ []) 1 (blocks (T one).patch - 1) ≡ 2 ∷ [] = rw (two_blocks (puts 0 one ∷ [])) refl in
    let right : (after_with_by (mapped page_size) (cut_mapped page_size) start os).map ≡ 2 ∷ [] =
    ap (λ (y : Mapped). (does_with_by (mapped page_size) (cut_mapped page_size) y (wipe 1)).map) first
    ∙ map_done page_size (T one).patch (T one).full (2 ∷ []) 1 done ∙ two in
    let e : (after_with_by (mapped page_size) whole_byte_cut start os).map ≡ (after_with_by (mapped page_size) (cut_mapped page_size) start os).map =
    ap (λ (o : BuildOutcome). o.map)
    (sym (claim start start_fresh (one_byte [] (0 ∷ []) refl) os) ∙ right_map_built start start_fresh (one_byte [] (0 ∷ []) refl) os) in
    let z : ◌≡◌ {A = ℕ} 0 2 = ap (λ (l : List ℕ). get_or l 0 0) (sym wrong ∙ e ∙ right) in
    omega arith

-- Highest. "one more than the highest non-EMPTY block, or 0", and "2, its header's, then 6 if any slot is unsound"

abbrev pub HighestProgram : Type 0
HighestProgram = List ℕ → HighestNumbers

abbrev pub HighestTells : HighestProgram → Type 0
HighestTells program = (patch : List ℕ) → (program patch).number ≡ 0 → OneMore (NonEmpty patch) (blocks patch) (program patch).blocks

abbrev pub HighestNumbersGiven : HighestProgram → Type 0
HighestNumbersGiven program = (patch : List ℕ) (k : ℕ) → ((program patch).number ≡ k) ↔ HighestGives page_size patch k

pub right_highest : HighestTells (highest_numbers page_size) × HighestNumbersGiven (highest_numbers page_size)
right_highest = (λ patch e. one_more patch e, λ patch k. highest_gives patch k)

-- the slot after `one` was written to a block is a sound PATCH slot and not EMPTY
patch_of_one : (b : ℕ) → b < 2 → slot_of (next page_size sample (to b one)).patch b ≡ patch_slot (0 ∷ 7 ∷ [])
unfolding slot_image kind_for run
patch_of_one b h =
    ap (λ (c : Cell). c.slot)
    (cell_here page_size sample (to b one) (eq-eqb (outcome page_size sample (to b one)).number 0 (takes [] (to b one) h one_fit)))
    ∙ ap (λ (w : List ℕ). slot_image (kind_for (length w)) w) stream_one

not_empty : patch_slot (0 ∷ 7 ∷ []) ≡ empty_slot → ⊥
unfolding patch_slot empty_slot
not_empty e = let z : ◌≡◌ {A = ℕ} 1 0 = ap (λ (l : List ℕ). get_or l 0 0) e ∙ zeros_at slot_size 0 in omega arith

-- the block and not one more
unfoldable pub the_block : HighestProgram
the_block patch = record { number = (highest_numbers page_size patch).number; blocks = (highest_numbers page_size patch).blocks - 1 }

pub not_the_block : HighestTells the_block → ⊥
unfolding the_block run
not_the_block claim =
    let patch : List ℕ = (T one).patch in
    let h : ℕ = (highest_numbers page_size patch).blocks in
    let done : (highest_numbers page_size patch).number ≡ 0 = run_highest_done page_size sample sample_fresh (lit≤ tt) (puts 0 one ∷ []) in
    let right : OneMore (NonEmpty patch) (blocks patch) h = one_more patch done in
    let q : h - 1 ≡ h = one_more_one (NonEmpty patch) (blocks patch) (h - 1) h (claim patch done) right in
    right.none_from 0 (omega arith) (rw (two_blocks (puts 0 one ∷ [])) (lit< tt)) (λ e. not_empty (sym (patch_of_one 0 (lit< tt)) ∙ e))

-- one that goes down from above and stops at the first slot that is not EMPTY: an unsound one below is not seen
unfoldable pub from_above : HighestProgram
from_above patch =
    let h = extent (non_empty patch) (blocks patch) in
    cond (eqb (highest_numbers page_size patch).number 6 && eqb (first_of (slot_rows (slot_of patch (h - 1)))) 0)
    (record { number = 0; blocks = h }) (highest_numbers page_size patch)

-- block 0 has kind 3, block 1 is a PATCH
bad : List ℕ
bad = 3 ∷ zeros (slot_size - 1)

bad_length : length bad ≡ slot_size
unfolding bad
bad_length = let l : length (zeros (slot_size - 1)) ≡ slot_size - 1 = zeros_length (slot_size - 1) in omega arith

bad_unsound : SoundSlot bad → ⊥
unfolding bad empty_slot patch_slot full_slot
bad_unsound (SoundSlot.empty e) = let z : ◌≡◌ {A = ℕ} 3 0 = ap (λ (l : List ℕ). get_or l 0 0) e ∙ zeros_at slot_size 0 in omega arith
bad_unsound (SoundSlot.patch p e) = let z : ◌≡◌ {A = ℕ} 3 1 = ap (λ (l : List ℕ). get_or l 0 0) e.image in omega arith
bad_unsound (SoundSlot.full e) = let z : ◌≡◌ {A = ℕ} 3 2 = ap (λ (l : List ℕ). get_or l 0 0) e in omega arith

abbrev second : List ℕ
second = (next page_size sample (to 1 one)).patch

broken : List ℕ
broken = splice second (slot_at 0) bad

module _ where
  second_fit : AreasFit page_size second (next page_size sample (to 1 one)).full
  unfolding run
  second_fit = areas_fit (puts 1 one ∷ [])

  two : blocks second ≡ 2
  unfolding run
  two = two_blocks (puts 1 one ∷ [])

  below : 0 < blocks second
  below = rw two (lit< tt)

  same_size : length broken ≡ length second
  unfolding broken
  same_size = put_length second patch_head slot_size (blocks second) second_fit.lengths.patch_length 0 below bad bad_length

  first_slot : slot_of broken 0 ≡ bad
  unfolding broken slot_of
  first_slot = put_here second patch_head slot_size (blocks second) second_fit.lengths.patch_length 0 below bad bad_length

  second_slot : slot_of broken 1 ≡ patch_slot (0 ∷ 7 ∷ [])
  unfolding broken slot_of
  second_slot =
      put_other second patch_head slot_size (blocks second) second_fit.lengths.patch_length 0 below bad bad_length 1 (λ q. omega arith)
      ∙ patch_of_one 1 (lit< tt)

  six : HighestGives page_size broken 6
  unfolding broken
  six =
      HighestGives.slot
      (record { patch_length = rw same_size second_fit.lengths.patch_length; not_above = rw same_size second_fit.lengths.not_above })
      (put_head second patch_head slot_size (blocks second) second_fit.lengths.patch_length 0 below bad bad_length
      ∙ second_fit.headers.patch_header_is)
      0 (rw (same_size, two) (lit< tt)) (λ s. bad_unsound (rw first_slot at s))

pub not_from_above : HighestNumbersGiven from_above → ⊥
unfolding from_above extent
not_from_above claim =
    let n : blocks broken ≡ 2 = rw same_size two in
    let told : (highest_numbers page_size broken).number ≡ 6 = (highest_gives broken 6).1 six in
    let used : same (slot_of broken 1) empty_slot ≡ false = same_false (slot_of broken 1) empty_slot (λ e. not_empty (sym second_slot ∙ e)) in
    let sound : first_of (slot_rows (slot_of broken 1)) ≡ 0 =
    slot_right (slot_of broken 1) (SoundSlot.patch (0 ∷ 7 ∷ []) (record { image = second_slot; some = lit≤ tt; room_for = lit≤ tt })) in
    let z : ◌≡◌ {A = ℕ} 0 6 = rw (n, used, told, sound) at ((claim broken 6).1 six) in
    omega arith
