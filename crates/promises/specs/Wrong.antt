-- Wrong programs, each shut out by a proved input: the areas and pages of `Sample`, at the page size that the calls have. A wrong program for
-- carrying out goes from the areas and what it is lent to the numbers and bytes that it gives back. `Breaks` says that no answer with these
-- numbers meets the predicate that the call's contract cites; `LastsLeave` and `ReadsAsLast` are parts of demand 3 for the runs of a given program.
use Rattle.std.specs.Prelude.{ℕ, suc, ◌+◌, ◌<◌, min, ◌≡◌, refl, true, cond, ◌||◌, List, [], ◌∷◌, map, eqb, length, get_or, replicate, Result}
use Rattle.std.proofs.Common.{arith, sym, ap, ◌∙◌, inl, inr, lit≤, lit<, eq-eqb}
use Rattle.std.proofs.Math.Option.{some, none-ne-some}
use mathlib.Core.List.Memᴰ
use Rattle.span.specs.Bytes.{zeros, part, splice}
use Rattle.span.specs.Laws.{part_at, part_short, splice_after}
use Rattle.layout.specs.Sizes.{page_size, slot_size, slot_at, payload_at}
use Rattle.layout.specs.Numbers.{le}
use Rattle.slots.specs.Slots.{patch_slot, SlotNumbers, slot_numbers, slot_image}
use Rattle.slots.specs.Meaning.{empty_numbers}
use Rattle.payload.specs.Entries.{stream, payload_stream, in_page, put, applied}
use Rattle.stream.specs.Calls.{page_of, kind_for}
use Rattle.store.specs.Block.{slot_of}
use Rattle.reading.specs.Read.{ReadOutcome, reading_numbers, read_numbers, Read, read_done}
use Rattle.carrying.specs.Puts.{all}
use Rattle.carrying.specs.CarryOut.{CarryOutcome, written_numbers, carry_numbers, CarryOut}
use Rattle.carrying.specs.CarryLaws.{carry_not}
use Rattle.promises.specs.Words.{blocks, PagesFit, AreasFit, SameFrame, stream_of}
use Rattle.promises.specs.FrameLaws.{lengths_moved, headers_moved}
use Rattle.promises.specs.CarryWords.{CarryGives, ReadAs}
use Rattle.promises.specs.CarryTables.{carry_table, fit_page}
use Rattle.promises.specs.StoreLaws.{image_of}
use Rattle.promises.specs.PairLaws.{carried_kind, reads_decided, others_read}
use Rattle.promises.specs.Decisions.{Cell}
use Rattle.promises.specs.Runs.{run, taking, later, last_such, write, concerns}
use Rattle.promises.specs.LastLaws.{last_in}
use Rattle.promises.specs.StandingLaws.{same_write}
use Rattle.promises.specs.RunWords.{Areas, read_at, Lent, cuts, Operation, Program, CutProgram, outcome, cutting, after_by, accepted_by, after, next}
use Rattle.promises.specs.RunWords.{last_to, JustLastsBy, Decided, FreshAreas}
use Rattle.promises.specs.RunStore.{cell_at}
use Rattle.promises.specs.RunStoreLaws.{cell_here}
use Rattle.promises.specs.FreshLaws.{fresh_lengths, fresh_headers, fresh_cell}
use Rattle.promises.specs.RunLaws.{kept, run_fits}
use Rattle.promises.specs.DemandThree.{lasts_leave_the_same, compare_is_decided, reads_as_last, reads_as_base}
use Rattle.promises.specs.Sample.{sample, sample_fresh, two_blocks, two_places, takes, refuses, page, same_bytes, one, two, many}
use Rattle.promises.specs.Sample.{one_fits, two_fits, stream_one, stream_two, stream_next, to, puts, slot_of_is, place_ones}
use Rattle.promises.specs.Sample.{reads, reads_zeros, changes, same_page, decides, decides_by, decides_fit, one_fit, two_fit}
use Rattle.layout.specs.declared.RefusedAt.{RefusedAt}
use Rattle.layout.specs.declared.Refusal.{Refusal}
use Rattle.layout.specs.declared.Kind.{Kind}
use Rattle.carrying.specs.declared.Written.{Written}

abbrev pub Breaks : Program → Areas → Lent → Type 0
Breaks wrong s w =
    (a : Result Written Refusal) → written_numbers a ≡ carry_numbers (wrong s w)
    → CarryOut page_size s.patch s.full w.block w.decision all a (wrong s w).patch (wrong s w).full → ⊥

other : (wrong : Program) (s : Areas) (w : Lent) → (outcome page_size s w ≡ wrong s w → ⊥) → Breaks wrong s w
other wrong s w h a e x =
    let q : carry_numbers (outcome page_size s w) ≡ carry_numbers (wrong s w) = sym x.numbers ∙ e in
    h
    (λ i.
    record {
      number = (q i).number;
      kind = (q i).kind;
      length = (q i).length;
      patch = sym x.patch_bytes i;
      full = sym x.full_bytes i;
    })

abbrev areas : CarryOutcome → Areas
areas o = record { patch = o.patch; full = o.full }

-- the areas after a first write, to block 0
abbrev pub T : List ℕ → Areas
T x = next page_size sample (to 0 x)

-- Demand 3 for the runs of given programs: the areas that they leave, and the operations that they said were done

-- (a): the last accepted writes that no later accepted cut covers are accepted by themselves, and leave the same
abbrev pub LastsLeave : Program → CutProgram → Type 0
LastsLeave writes drops =
    (s : Areas) → FreshAreas page_size s → (os : List Operation) (ls : List Lent) → JustLastsBy writes drops s os ls
    → (accepted_by writes drops s (map write ls) ≡ map write ls) × (after_by writes drops s (map write ls) ≡ after_by writes drops s os)

-- (c): each block reads as the page of the write that stands there,
abbrev pub ReadsAsLast : Program → CutProgram → Type 0
ReadsAsLast writes drops =
    (s : Areas) → FreshAreas page_size s → (os : List Operation) (b : ℕ) → b < blocks s.patch
    → (w : Lent) → last_to b (accepted_by writes drops s os) ≡ some (write w)
    → (base page : List ℕ) → PagesFit page_size base page → Decided page_size (page_of page_size base) w
    → (read_at page_size (after_by writes drops s os) b base page).page ≡ w.decision.page

-- or as its base where none does
abbrev pub ReadsAsBase : Program → CutProgram → Type 0
ReadsAsBase writes drops =
    (s : Areas) → FreshAreas page_size s → (os : List Operation) (b : ℕ) → b < blocks s.patch
    → ((w : Lent) → last_to b (accepted_by writes drops s os) ≡ some (write w) → ⊥)
    → (base page : List ℕ) → PagesFit page_size base page
    → (read_at page_size (after_by writes drops s os) b base page).page ≡ page_of page_size base

-- so the right ones keep them
pub right_keeps : LastsLeave (outcome page_size) (cutting page_size) × ReadsAsLast (outcome page_size) (cutting page_size)
    × ReadsAsBase (outcome page_size) (cutting page_size)
right_keeps = (
  λ s fresh os ls l. lasts_leave_the_same s fresh os ls l,
  λ s fresh os b n w e base page f d. ap (λ (o : ReadOutcome). o.page) (reads_as_last s fresh os b n w e base page f d),
  λ s fresh os b n e base page f. ap (λ (o : ReadOutcome). o.page) (reads_as_base s fresh os b n e base page f),
)

-- One that only refuses

unfoldable pub only_refuses : ℕ → Program
only_refuses n s w = record { number = n; kind = 0; length = 0; patch = s.patch; full = s.full }

-- whichever number it refuses with
pub not_only_refuses : (n : ℕ) → (n ≡ 0 → ⊥) → Breaks (only_refuses n) sample (to 0 one)
unfolding only_refuses run
not_only_refuses n h =
    other (only_refuses n) sample (to 0 one)
    (λ e. h (sym (ap (λ (o : CarryOutcome). o.number) e) ∙ takes [] (to 0 one) (lit< tt) one_fit))

-- One that answers done and stores nothing

unfoldable pub stores_nothing : Program
stores_nothing s w =
    let o = outcome page_size s w in
    record { number = o.number; kind = o.kind; length = o.length; patch = s.patch; full = s.full }

nothing_breaks : (b : ℕ) → b < 2 → outcome page_size sample (to b one) ≡ stores_nothing sample (to b one) → ⊥
unfolding stores_nothing
nothing_breaks b h e = changes b h (ap areas e)

pub not_nothing : Breaks stores_nothing sample (to 0 one)
not_nothing = other stores_nothing sample (to 0 one) (nothing_breaks 0 (lit< tt))

-- One that stores block 0 and pretends later: it breaks the predicate at block 1, and (c) of demand 3 after its own run

unfoldable pub only_block0 : Program
only_block0 s w = cond (eqb w.block 0) (outcome page_size s w) (stores_nothing s w)

pub not_only_block_0 : Breaks only_block0 sample (to 1 one)
unfolding only_block0
not_only_block_0 = other only_block0 sample (to 1 one) (nothing_breaks 1 (lit< tt))

pub not_only_block_0_run : ReadsAsLast only_block0 (cutting page_size) → ⊥
unfolding run taking only_block0 stores_nothing last_to last_such later concerns
not_only_block_0_run claim =
    let os : List Operation = puts 0 one ∷ puts 1 one ∷ [] in
    let first : eqb (outcome page_size sample (to 0 one)).number 0 ≡ true = eq-eqb _ _ (takes [] (to 0 one) (lit< tt) one_fit) in
    let then : eqb (outcome page_size (T one) (to 1 one)).number 0 ≡ true =
    eq-eqb _ _ (takes (puts 0 one ∷ []) (to 1 one) (lit< tt) one_fit) in
    let stands : last_to 1 (accepted_by only_block0 (cutting page_size) sample os) ≡ some (puts 1 one) = rw (first, then) in
    let z : ◌≡◌ {A = ℕ} 7 0 =
    same_bytes (7 ∷ []) []
    (sym (claim sample sample_fresh os 1 (rw (two_blocks []) (lit< tt)) (to 1 one) stands [] two two_fits
    (compare_is_decided (to 1 one) [] [] (decides_by [] one one_fits) refl))
    ∙ ap (λ (o : ReadOutcome). o.page) (others_read page_size sample.patch sample.full 0 (decides [] one) 1 (λ q. omega arith) [] two)
    ∙ reads_zeros 1 (lit< tt)) 0 in
    omega arith

-- One that stores every page in block 0: it breaks (a), for the order of the last accepted writes counts

unfoldable pub to_block0 : Program
to_block0 s w = outcome page_size s (record { block = 0; decision = w.decision })

abbrev pub zero_then_one : List Operation
zero_then_one = puts 0 one ∷ puts 1 two ∷ []

pub not_to_block_0 : LastsLeave to_block0 (cutting page_size) → ⊥
unfolding run taking to_block0 last_to last_such later concerns
not_to_block_0 claim =
    let z : ◌≡◌ {A = ℕ} 0 9 =
    same_bytes (7 ∷ []) (7 ∷ 9 ∷ [])
    (same_page (puts 0 two ∷ []) (puts 0 one ∷ []) one two one_fits two_fits
    (claim sample sample_fresh zero_then_one (to 1 two ∷ to 0 one ∷ []) lasts).1) 1 in
    omega arith
  where
    lasts : JustLastsBy to_block0 (cutting page_size) sample zero_then_one (to 1 two ∷ to 0 one ∷ [])
    lasts w =
        rw (
          eq-eqb (outcome page_size sample (to 0 one)).number 0 (takes [] (to 0 one) (lit< tt) one_fit),
          eq-eqb (outcome page_size (T one) (to 0 two)).number 0 (takes (puts 0 one ∷ []) (to 0 two) (lit< tt) two_fit),
        ) (
          λ i. elim (Memᴰ.cases_cons i) [ inl e ↦ rw e | inr j ↦ rw (Memᴰ.eq_of_singleton j) ],
          λ e.
              elim (Memᴰ.cases_cons (last_in (concerns (λ (v : Lent). v.block) cuts w.block) zero_then_one e).0) [
                | inl p ↦ Memᴰ.tail (Memᴰ.head (same_write p))
                | inr j ↦ Memᴰ.head (same_write (Memᴰ.eq_of_singleton j))
              ],
        )

-- One that answers another length

unfoldable pub invents_length : Program
invents_length s w =
    let o = outcome page_size s w in
    record { number = o.number; kind = o.kind; length = suc o.length; patch = o.patch; full = o.full }

pub not_invented : Breaks invents_length sample (to 0 one)
unfolding invents_length
not_invented =
    other invents_length sample (to 0 one)
    (λ e.
    let z : (outcome page_size sample (to 0 one)).length ≡ suc (outcome page_size sample (to 0 one)).length =
    ap (λ (o : CarryOutcome). o.length) e in
    omega arith)

-- A refused write that stores all the same, in block 0

unfoldable pub refused_stores : Program
refused_stores s w =
    let o = outcome page_size s w in
    let stored = to_block0 s w in
    cond (eqb o.number 0) o (record { number = o.number; kind = 0; length = 0; patch = stored.patch; full = stored.full })

-- block 2 is not below n
refused_leaves : areas (refused_stores sample (to 2 one)) ≡ next page_size sample (to 0 one)
unfolding refused_stores to_block0 run
refused_leaves = rw (refuses [] (to 2 one) (lit≤ tt) (fit_page page_size (decides [] one) one_fit))

pub not_refused_stores : Breaks refused_stores sample (to 2 one)
unfolding run
not_refused_stores =
    other refused_stores sample (to 2 one)
    (λ e.
    let five : (outcome page_size sample (to 2 one)).number ≡ 5 = refuses [] (to 2 one) (lit≤ tt) (fit_page page_size (decides [] one) one_fit) in
    changes 0 (lit< tt) (sym (ap areas e ∙ refused_leaves)
    ∙ ap areas (carry_not page_size [] sample.patch sample.full 2 (decides [] one) all (λ z. omega arith))))

-- and it breaks (a): no write of its run was accepted, yet the areas are not fresh
pub not_refused_stores_run : LastsLeave refused_stores (cutting page_size) → ⊥
unfolding run taking refused_stores last_to last_such
not_refused_stores_run claim = changes 0 (lit< tt) (sym refused_leaves ∙ sym (claim sample sample_fresh (puts 2 one ∷ []) [] none_taken).1)
  where
    none_taken : JustLastsBy refused_stores (cutting page_size) sample (puts 2 one ∷ []) []
    none_taken w = rw (refuses [] (to 2 one) (lit≤ tt) (fit_page page_size (decides [] one) one_fit))
        (λ i. absurd (Memᴰ.not-nil i), λ e. absurd (none-ne-some _ e))

-- A Read that always gives the base

unfoldable pub always_base : Areas → ℕ → List ℕ → List ℕ → ReadOutcome
always_base s b base into = read_done 0 (page_of page_size base)

pub not_always_base : (a : Result Kind RefusedAt) → reading_numbers a ≡ read_numbers (always_base (T one) 0 [] two)
    → Read page_size (T one).patch (T one).full 0 [] two a (always_base (T one) 0 [] two).page
    → ⊥
unfolding always_base page_of page run
not_always_base a e x =
    let z : ◌≡◌ {A = ℕ} 7 0 = same_bytes (7 ∷ []) [] (sym (reads [] 0 (lit< tt) one one_fits) ∙ sym x.bytes) 0 in
    omega arith

-- A caller that compares with the block's current page and not with its base: the second small change drops the first. Carrying out is right
-- to take what it decides; reading back over the base then gives another page

abbrev pub against_current : Lent
against_current = record { block = 0; decision = decides one two }

pub not_against_current : (read_at page_size (next page_size (T one) against_current) 0 [] two).page ≡ two → ⊥
unfolding run page page_of zeros kind_for stream in_page put applied
not_against_current e =
    let fit : PagesFit page_size one two = record { base_length = inr one_fits.page_length; page_length = two_fits.page_length } in
    let small : (decides one two).kind ≡ 1 = ap (λ (l : List ℕ). kind_for (length l)) stream_next in
    let got = reads_decided page_size (T one).patch (T one).full 0 (decides one two)
    (takes (puts 0 one ∷ []) against_current (lit< tt) (decides_fit one two fit)) [] two
    (applied (page_of page_size []) (payload_stream page_size (stream_of page_size one two))) two_fits (ReadAs.patched small) in
    let z : ◌≡◌ {A = ℕ} 7 0 =
    ap (λ (l : List ℕ). get_or l 0 0) (sym e ∙ ap (λ (o : ReadOutcome). o.page) got)
    ∙ ap (λ (l : List ℕ). get_or (applied (page_of page_size []) (payload_stream page_size l)) 0 0) stream_next in
    omega arith

-- Clearing the place only if the old slot was FULL_REF: stray bytes survive

unfoldable pub clears_if_full : Program
clears_if_full s w =
    let o = outcome page_size s w in
    record {
      number = o.number;
      kind = o.kind;
      length = o.length;
      patch = o.patch;
      full = cond (eqb o.kind 2 || eqb (slot_numbers (slot_of s.patch w.block)).kind 2) o.full s.full;
    }

-- every slot EMPTY, and a page in the place of block 0
abbrev pub strayed : Areas
strayed = record { patch = sample.patch; full = (T (many 1)).full }

pub not_clears_if_full : Breaks clears_if_full strayed (to 0 one)
unfolding clears_if_full run kind_for many page
not_clears_if_full =
    let k = kept page_size sample sample_fresh (puts 0 (many 1) ∷ []) in
    let same_frame : SameFrame sample.patch sample.full strayed.patch strayed.full =
    record { patch_length = refl; full_length = k.full_length; patch_header_is = refl; full_header_is = k.full_header_is } in
    let fits : AreasFit page_size strayed.patch strayed.full =
    record {
      lengths = lengths_moved page_size sample.patch sample.full strayed.patch strayed.full same_frame
          (fresh_lengths page_size sample sample_fresh);
      headers = headers_moved page_size sample.patch sample.full strayed.patch strayed.full same_frame
          (fresh_headers page_size sample sample_fresh);
    } in
    let below : 0 < blocks sample.patch = rw (two_blocks []) (lit< tt) in
    let done : (outcome page_size strayed (to 0 one)).number ≡ 0 =
    (carry_table page_size strayed.patch strayed.full 0 (decides [] one) 0).1
    (CarryGives.done fits below one_fit (λ k. rw (two_places (puts 0 (many 1) ∷ [])) (lit< tt))) in
    let small : (decides [] one).kind ≡ 1 = ap (λ (l : List ℕ). kind_for (length l)) stream_one in
    let kind : (outcome page_size strayed (to 0 one)).kind ≡ 1 =
    carried_kind page_size strayed.patch strayed.full 0 (decides [] one) done ∙ small in
    let slot : (slot_numbers (slot_of sample.patch 0)).kind ≡ 0 =
    ap (λ (c : Cell). (slot_numbers c.slot).kind) (fresh_cell page_size sample sample_fresh 0 below)
    ∙ ap (λ (x : SlotNumbers). x.kind) empty_numbers in
    let right : (cell_at page_size (next page_size strayed (to 0 one)) 0).place ≡ zeros page_size =
    ap (λ (c : Cell). c.place) (cell_here page_size strayed (to 0 one) (eq-eqb (outcome page_size strayed (to 0 one)).number 0 done))
    ∙ rw small in
    other clears_if_full strayed (to 0 one)
    (λ e.
    let f : (outcome page_size strayed (to 0 one)).full ≡ (T (many 1)).full = ap (λ (o : CarryOutcome). o.full) e ∙ rw (kind, slot) in
    let z : ◌≡◌ {A = ℕ} 1 0 =
    same_bytes (replicate 253 1) [] (sym place_ones
    ∙ ap (λ (l : List ℕ). (cell_at page_size (record { patch = []; full = l }) 0).place) (sym f) ∙ right) 0 in
    omega arith)

-- No zeroed tail of a longer payload

unfoldable pub no_zeroed_tail : Program
no_zeroed_tail s w =
    let o = outcome page_size s w in
    record {
      number = o.number;
      kind = o.kind;
      length = o.length;
      patch = splice s.patch (slot_at w.block)
          (part 0 (payload_at + length w.decision.payload) (image_of w.decision));
      full = o.full;
    }

-- byte 11 of the slot of block 0 after a write to it
byte_11 : (os : List Operation) (x payload : List ℕ) → PagesFit page_size [] x → stream_of page_size [] x ≡ payload
    → get_or (next page_size (after page_size sample os) (to 0 x)).patch 523 0 ≡ get_or (slot_image (kind_for (length payload)) payload) 11 0
unfolding slot_of
byte_11 os x payload f e =
    sym (part_at (slot_at 0) slot_size (next page_size (after page_size sample os) (to 0 x)).patch 11 (lit< tt))
    ∙ ap (λ (l : List ℕ). get_or l 11 0) (slot_of_is os x payload f e)

pub not_no_tail : Breaks no_zeroed_tail (T two) (to 0 one)
unfolding no_zeroed_tail run slot_image kind_for patch_slot zeros le
not_no_tail =
    other no_zeroed_tail (T two) (to 0 one)
    (λ e.
    let ys : List ℕ = part 0 (payload_at + length (stream_of page_size [] one)) (image_of (decides [] one)) in
    let len : length (stream_of page_size [] one) ≡ 2 = ap (λ (l : List ℕ). length l) stream_one in
    let short : length ys ≡ min (payload_at + length (stream_of page_size [] one)) _ = part_short 0
    (payload_at + length (stream_of page_size [] one)) (image_of (decides [] one)) in
    let left : get_or (splice (T two).patch 512 ys) 523 0 ≡ get_or (T two).patch 523 0 =
    splice_after (T two).patch 512 ys
    (omega (arith, (run_fits page_size sample sample_fresh (puts 0 two ∷ []) [] one one_fits).lengths.patch_length)) 523 (omega arith) in
    let z : ◌≡◌ {A = ℕ} 0 9 =
    sym (byte_11 (puts 0 two ∷ []) one (0 ∷ 7 ∷ []) one_fits stream_one)
    ∙ ap (λ (o : CarryOutcome). get_or o.patch 523 0) e
    ∙ left
    ∙ byte_11 [] two (0 ∷ 7 ∷ 0 ∷ 9 ∷ []) two_fits stream_two in
    omega arith)

-- One that forgets the place

unfoldable pub forgets_place : Program
forgets_place s w =
    let o = outcome page_size s w in
    record { number = o.number; kind = o.kind; length = o.length; patch = o.patch; full = s.full }

pub not_forgets_place : Breaks forgets_place sample (to 0 (many 1))
unfolding forgets_place run many page
not_forgets_place =
    other forgets_place sample (to 0 (many 1))
    (λ e.
    let z : ◌≡◌ {A = ℕ} 1 0 =
    same_bytes (replicate 253 1) []
    (sym place_ones
    ∙ ap (λ (o : CarryOutcome). (cell_at page_size (areas o) 0).place) e
    ∙ ap (λ (c : Cell). c.place) (fresh_cell page_size sample sample_fresh 0 (rw (two_blocks []) (lit< tt)))) 0 in
    omega arith)
