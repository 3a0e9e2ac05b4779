-- Wrong programs for carrying out, each shut out by the request's own words and a proved input: the two blocks of `Sample`. `CarriesOut` are
-- those words for a given program; the right one keeps them. Then two wrong callers, who are lent what they asked for, and a payload from
-- elsewhere that stands and changes nothing.
use Rattle.std.specs.Prelude.{ℕ, ◌+◌, ◌<◌, ◌≡◌, refl, not, ◌&&◌, cond, ◌↔◌, List, [], ◌∷◌, ◌++◌, eqb, ltb, length, get_or, replicate}
use Rattle.std.proofs.Common.{arith, sym, ap, ◌∙◌, inr, lit≤, lit<, eq-eqb}
use Rattle.span.specs.Bytes.{zeros, splice, same}
use Rattle.span.specs.Laws.{part_at, splice_in}
use Rattle.layout.specs.Sizes.{page_size, room, slot_size, slot_at, payload_at}
use Rattle.layout.specs.Numbers.{le}
use Rattle.layout.specs.Refusals.{first_of, or_else, decided}
use Rattle.layout.specs.Groups.{ordered}
use Rattle.slots.specs.Slots.{empty_slot, full_slot, slot_numbers, SlotNumbers}
use Rattle.slots.specs.Meaning.{empty_numbers}
use Rattle.payload.specs.Entries.{stream, payload_stream, in_page, whole, sound, put, applied}
use Rattle.writer.specs.Differences.{diffs, spelled, coded, written}
use Rattle.stream.specs.Calls.{page_of, pages_fit, compare_rows, compare_numbers}
use Rattle.store.specs.Block.{slot_of}
use Rattle.reading.specs.Read.{ReadOutcome}
use Rattle.carrying.specs.Puts.{Decision, all}
use Rattle.carrying.specs.CarryOut.{carry_refused}
use Rattle.cutting.specs.Highest.{highest_numbers}
use Rattle.promises.specs.Words.{blocks, stream_of}
use Rattle.promises.specs.Decisions.{Cell, Fit}
use Rattle.promises.specs.CarryWords.{CarryGives, CarriedAs, Carried, ReadAs}
use Rattle.promises.specs.StoreLaws.{image_of, carry_stored}
use Rattle.promises.specs.DecisionLaws.{fit_kind}
use Rattle.promises.specs.RunStoreLaws.{cell_here}
use Rattle.promises.specs.FreshLaws.{fresh_cell}
use Rattle.promises.specs.PairLaws as pair
use Rattle.promises.specs.Runs.{run, write}
use Rattle.promises.specs.RunWords.{Areas, read_at, Lent, Operation, Program, outcome, after, next}
use Rattle.promises.specs.Kept.{carry_kept}
use Rattle.promises.specs.DemandTwo.{carry_gives, kind_stored, length_stored, carries}
use Rattle.promises.specs.DemandThree.{highest_done}
use Rattle.promises.specs.CutLaws.{highest_is}
use Rattle.promises.specs.Sample.{sample, sample_fresh, two_blocks, two_places, takes, areas_fit, page, one, many}
use Rattle.promises.specs.Sample.{one_fits, many_fits, two, two_fits, to, puts}

-- "carries out a decision (kind 0, 1 or 2, payload, page) on a block, answering the kind and the payload's length, 0 unless PATCH. It looks at
-- the payload only for PATCH, taking any sound one, and at the page only for FULL_REF. ... Refusals: 1 for a FULL_REF page, 6 for a kind above
-- 2, 7 for an unsound PATCH payload, in 01's order"
pub record CarriesOut (program : Program) : Type 0 where
  pub numbers : (s : Areas) (w : Lent) (k : ℕ)
      → ((program s w).number ≡ k) ↔ CarryGives page_size s.patch s.full w.block w.decision k
  pub kind : (s : Areas) (w : Lent) → (program s w).number ≡ 0 → (program s w).kind ≡ w.decision.kind
  pub payload_length_is : (s : Areas) (w : Lent) → (program s w).number ≡ 0
      → (w.decision.kind ≡ 1 → (program s w).length ≡ length w.decision.payload)
      × ((w.decision.kind ≡ 1 → ⊥) → (program s w).length ≡ 0)
  pub stored : (s : Areas) (w : Lent) → (program s w).number ≡ 0
      → Carried page_size s.patch s.full w.block w.decision (program s w).patch (program s w).full
  pub kept : (s : Areas) (w : Lent) → ((program s w).number ≡ 0 → ⊥) → ((program s w).patch ≡ s.patch) × ((program s w).full ≡ s.full)

pub right_carries : CarriesOut (outcome page_size)
right_carries =
    record {
      numbers = λ s w k. carry_gives s.patch s.full w.block w.decision k;
      kind = λ s w e. kind_stored s.patch s.full w.block w.decision e;
      payload_length_is = λ s w e. length_stored s.patch s.full w.block w.decision e;
      stored = λ s w e. carries s.patch s.full w.block w.decision e;
      kept = λ s w h. carry_kept page_size s.patch s.full w.block w.decision all h;
    }

-- a decision, whoever made it, on block 0 of the fresh areas
abbrev lent : ℕ → List ℕ → List ℕ → Lent
lent k payload x = record { block = 0; decision = record { kind = k; payload = payload; page = x } }

below : 0 < blocks sample.patch
unfolding run
below = rw (two_blocks []) (lit< tt)

-- `00 07`: one entry, value 7 at place 0
unfoldable pub seven : List ℕ
seven = 0 ∷ 7 ∷ []

seven_fit : (x : List ℕ) → Fit page_size (lent 1 seven x).decision
unfolding seven sound whole stream in_page
seven_fit x = Fit.patch refl (lit≤ tt) (lit≤ tt) refl

taken : (w : Lent) → w.block ≡ 0 → Fit page_size w.decision → CarryGives page_size sample.patch sample.full w.block w.decision 0
unfolding run
taken w e f =
    CarryGives.done (areas_fit []) (rw (e, two_blocks []) (lit< tt)) f (λ k. rw (e, two_places []) (lit< tt))

-- kind 3 stored, as if it were FULL_REF
unfoldable pub stores_kind3 : Program
stores_kind3 s w = cond (eqb w.decision.kind 3)
    (outcome page_size s (record { block = w.block; decision = record { kind = 2; payload = []; page = w.decision.page } }))
    (outcome page_size s w)

pub not_kind_3 : CarriesOut stores_kind3 → ⊥
unfolding stores_kind3 run
not_kind_3 claim =
    let six = (claim.numbers sample (lent 3 [] one) 6).1 (CarryGives.kind (areas_fit []) below (lit< tt)) in
    let zero = takes [] (lent 2 [] one) (lit< tt) (Fit.full refl one_fits.page_length) in
    omega (arith, six, zero)

-- a payload copied for FULL_REF
unfoldable pub copies_for_full : Program
copies_for_full s w =
    let o = outcome page_size s w in
    record {
      number = o.number;
      kind = o.kind;
      length = o.length;
      patch =
          cond (eqb o.number 0 && eqb w.decision.kind 2) (splice o.patch (slot_at w.block + payload_at) w.decision.payload)
          o.patch;
      full = o.full;
    }

full_image : (d : Decision) {s c : List ℕ} {k : ℕ} → CarriedAs page_size d k s c → k ≡ 2 → s ≡ full_slot
full_image d CarriedAs.empty e = absurd (omega arith)
full_image d CarriedAs.patch e = absurd (omega arith)
full_image d CarriedAs.full e = refl

pub not_copied_for_full : CarriesOut copies_for_full → ⊥
unfolding copies_for_full run seven slot_of full_slot zeros
not_copied_for_full claim =
    let w : Lent = lent 2 seven one in
    let zero : (outcome page_size sample w).number ≡ 0 = takes [] w (lit< tt) (Fit.full refl one_fits.page_length) in
    let s = carry_stored page_size sample.patch sample.full 0 w.decision zero in
    let image = full_image w.decision (rw zero at (claim.stored sample w zero).carried) refl in
    let wide : 520 + 2 < length (outcome page_size sample w).patch = omega
    (arith, s.frame.patch_length, (areas_fit []).lengths.patch_length, two_blocks []) in
    let z : ◌≡◌ {A = ℕ} 7 0 =
    sym (splice_in (outcome page_size sample w).patch 520 seven (omega arith) 1 (lit< tt))
    ∙ sym (part_at (slot_at 0) slot_size (splice (outcome page_size sample w).patch 520 seven) 9 (lit< tt))
    ∙ ap (λ (l : List ℕ). get_or l 9 0) image in
    omega arith

-- a page's length checked for PATCH
unfoldable pub checks_page : Program
checks_page s w = cond (eqb w.decision.kind 1 && not (eqb (length w.decision.page) page_size)) (carry_refused 1 s.patch s.full)
    (outcome page_size s w)

pub not_checks_page : CarriesOut checks_page → ⊥
unfolding checks_page
not_checks_page claim =
    let zero = (claim.numbers sample (lent 1 seven []) 0).1 (taken (lent 1 seven []) refl (seven_fit [])) in
    omega (arith, zero)

-- and a payload's for EMPTY
unfoldable pub checks_payload : Program
checks_payload s w = cond (ltb room (length w.decision.payload)) (carry_refused 7 s.patch s.full) (outcome page_size s w)

pub not_checks_payload : CarriesOut checks_payload → ⊥
unfolding checks_payload
not_checks_payload claim =
    let w : Lent = lent 0 (replicate 505 0) [] in
    let zero = (claim.numbers sample w 0).1 (taken w refl (Fit.empty refl)) in
    omega (arith, zero)

-- the payload's length answered for FULL_REF
unfoldable pub any_length : Program
any_length s w =
    let o = outcome page_size s w in
    record {
      number = o.number;
      kind = o.kind;
      length = cond (eqb o.number 0) (length w.decision.payload) 0;
      patch = o.patch;
      full = o.full;
    }

pub not_any_length : CarriesOut any_length → ⊥
unfolding any_length run seven
not_any_length claim =
    let w : Lent = lent 2 seven one in
    let zero : (outcome page_size sample w).number ≡ 0 = takes [] w (lit< tt) (Fit.full refl one_fits.page_length) in
    let z : ◌≡◌ {A = ℕ} 2 0 = (rw zero at ((claim.payload_length_is sample w zero).1 (λ e. omega arith))) in
    omega arith

-- a sound payload refused because it is not the writer's own: `00 00` changes nothing over zeros, and no writer makes it there
unfoldable pub own_only : Program
own_only s w = cond (eqb w.decision.kind 1 && same (applied (zeros page_size) (payload_stream page_size w.decision.payload)) (zeros page_size))
    (carry_refused 7 s.patch s.full) (outcome page_size s w)

unfoldable pub nought : List ℕ
nought = 0 ∷ 0 ∷ []

nought_fit : (x : List ℕ) → Fit page_size (lent 1 nought x).decision
unfolding nought sound whole stream in_page
nought_fit x = Fit.patch refl (lit≤ tt) (lit≤ tt) refl

pub not_own_only : CarriesOut own_only → ⊥
unfolding own_only nought zeros same stream in_page put applied
not_own_only claim =
    let zero = (claim.numbers sample (lent 1 nought []) 0).1 (taken (lent 1 nought []) refl (nought_fit [])) in
    omega (arith, zero)

-- the areas changed although it refuses
unfoldable pub stores_refused : Program
stores_refused s w =
    let o = outcome page_size s w in
    let stored = outcome page_size s (record { block = w.block; decision = record { kind = 2; payload = []; page = w.decision.page } }) in
    cond (eqb o.number 6) (record { number = 6; kind = 0; length = 0; patch = stored.patch; full = stored.full }) o

pub not_stores_refused : CarriesOut stores_refused → ⊥
unfolding stores_refused run slot_of full_slot empty_slot zeros
not_stores_refused claim =
    let w : Lent = lent 3 [] one in
    let six : (outcome page_size sample w).number ≡ 6 = (carry_gives sample.patch sample.full 0 w.decision 6).1
    (CarryGives.kind (areas_fit []) below (lit< tt)) in
    let e = rw six at (claim.kept sample w (rw six (λ q. omega arith))).0 in
    let zero : (outcome page_size sample (lent 2 [] one)).number ≡ 0 =
    takes [] (lent 2 [] one) (lit< tt) (Fit.full refl one_fits.page_length) in
    full_not_empty
    (sym (full_image (lent 2 [] one).decision (carries sample.patch sample.full 0 (lent 2 [] one).decision zero).carried refl)
    ∙ ap (λ (l : List ℕ). slot_of l 0) e ∙ fresh_slot)
  where
    full_not_empty : full_slot ≡ empty_slot → ⊥
    full_not_empty e = let z : ◌≡◌ {A = ℕ} 2 0 = ap (λ (l : List ℕ). get_or l 0 0) e in omega arith

    fresh_slot : slot_of sample.patch 0 ≡ empty_slot
    fresh_slot = ap (λ (c : Cell). c.slot) (fresh_cell page_size sample sample_fresh 0 below)

-- Two wrong callers. Carrying out is right to take what they lend

-- The whole buffer, and not its first `length` bytes. Compare wrote `00 07` into a buffer of zeros: the page differs from its base in byte 0.
-- All 504 bytes are a sound payload of 252 entries, and byte 1 reads as 0 over a base that has 1 there
abbrev seven_over : List ℕ
seven_over = page (7 ∷ replicate 252 1)

unfoldable pub whole_buffer : List ℕ
whole_buffer = seven ++ replicate 502 0

whole_fit : Fit page_size (lent 1 whole_buffer seven_over).decision
unfolding whole_buffer seven sound whole stream in_page
whole_fit = Fit.patch refl (lit≤ tt) (lit≤ tt) refl

-- Compare's own bytes are the first two
own_bytes : stream_of page_size (many 1) seven_over ≡ seven
unfolding seven many page page_of zeros written diffs coded spelled le
own_bytes = refl

pub whole_buffer_lent : (read_at page_size (next page_size sample (lent 1 whole_buffer seven_over)) 0 (many 1) two).page ≡ seven_over → ⊥
unfolding run whole_buffer seven many page page_of zeros stream in_page put applied
whole_buffer_lent e =
    let w : Lent = lent 1 whole_buffer seven_over in
    let got = pair.reads_decided page_size sample.patch sample.full 0 w.decision (takes [] w (lit< tt) whole_fit) (many 1) two
    (applied (page_of page_size (many 1)) (payload_stream page_size whole_buffer))
    (record { base_length = inr (many_fits 1).page_length; page_length = two_fits.page_length }) (ReadAs.patched refl) in
    let z : ◌≡◌ {A = ℕ} 1 0 = ap (λ (l : List ℕ). get_or l 1 0) (sym e ∙ ap (λ (o : ReadOutcome). o.page) got) in
    omega arith

-- A refused Compare, whose kind is 0: a buffer of 503 bytes is refused with 9, and the page that stood there is gone
refused_kind : ((compare_numbers page_size [] two (zeros 503)).number ≡ 9) × ((compare_numbers page_size [] two (zeros 503)).kind ≡ 0)
unfolding compare_numbers compare_rows ordered first_of or_else pages_fit page zeros decided
refused_kind = (refl, refl)

pub refused_compare_carried : (read_at page_size
    (next page_size (next page_size sample (to 0 one)) (lent (compare_numbers page_size [] two (zeros 503)).kind [] two)) 0 [] two).page
    ≡ page []
unfolding run page page_of
refused_compare_carried =
    let s : Areas = next page_size sample (to 0 one) in
    let w : Lent = lent (compare_numbers page_size [] two (zeros 503)).kind [] two in
    ap (λ (o : ReadOutcome). o.page)
    (pair.reads_decided page_size s.patch s.full 0 w.decision (takes (puts 0 one ∷ []) w (lit< tt) (Fit.empty refused_kind.1)) [] two
    (page_of page_size []) two_fits (ReadAs.base_page_is refused_kind.1))

-- A payload from elsewhere, `00 00` over a base of zeros, stands and changes nothing: the block reads as its base, and Highest counts it. So
-- "one more than the highest block whose page differs from its base" is said of runs that Compare decided

abbrev noughted : List Operation
noughted = write (lent 1 nought []) ∷ []

pub nought_reads : (read_at page_size (after page_size sample noughted) 0 [] two).page ≡ page_of page_size []
unfolding run nought page_of zeros stream in_page put applied
nought_reads =
    ap (λ (o : ReadOutcome). o.page)
    (pair.reads_decided page_size sample.patch sample.full 0 (lent 1 nought []).decision
    (takes [] (lent 1 nought []) (lit< tt) (nought_fit [])) [] two _ two_fits (ReadAs.patched refl))

pub nought_counted : (highest_numbers page_size (after page_size sample noughted).patch).blocks ≡ 0 → ⊥
unfolding run
nought_counted e =
    (highest_is page_size (after page_size sample noughted).patch (highest_done sample sample_fresh noughted)).none_from 0 (omega (arith, e))
    (rw (two_blocks noughted) (lit< tt))
    (λ q.
    let k : (slot_numbers empty_slot).kind ≡ 1 = sym (ap (λ (l : List ℕ). (slot_numbers l).kind) (sym image ∙ q)) ∙ patch_kind_is in
    omega (arith, k, ap (λ (x : SlotNumbers). x.kind) empty_numbers))
  where
    w : Lent
    w = lent 1 nought []

    image : slot_of (next page_size sample (lent 1 nought [])).patch 0 ≡ image_of (lent 1 nought []).decision
    image = ap (λ (c : Cell). c.slot)
        (cell_here page_size sample (lent 1 nought [])
        (eq-eqb (outcome page_size sample (lent 1 nought [])).number 0 (takes [] (lent 1 nought []) (lit< tt) (nought_fit []))))

    patch_kind_is : (slot_numbers (image_of (lent 1 nought []).decision)).kind ≡ 1
    patch_kind_is = fit_kind page_size (lent 1 nought []).decision (nought_fit [])
