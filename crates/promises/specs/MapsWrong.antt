-- Wrong programs about a lent map, each shut out by the request's own words and a proved input: the two blocks of `Sample` and a map of one
-- byte. `MapBuilt` is demand 3's sentence on the map for the runs of given programs, `GoesByMap` the request's words on reads.
use Rattle.std.specs.Prelude.{ℕ, zero, suc, ◌/◌, ◌%◌, ◌<◌, ◌≡◌, refl, Bool, not, ◌&&◌, cond, eqb, length, get_or, set}
use Rattle.std.proofs.Common.{arith, sym, ◌∙◌, subst, lit≤, lit<}
use Rattle.std.proofs.Math.Path.{ap}
use mathlib.Core.List.{List, [], ◌∷◌}
use Rattle.layout.specs.Sizes.{page_size}
use Rattle.slots.specs.Slots.{slot_numbers}
use Rattle.slots.specs.Meaning.{empty_numbers}
use Rattle.blockmap.specs.Pairs.{map_bytes, pair_at, patch_pair, full_pair, reserved_pair, some_reserved}
use Rattle.blockmap.specs.Pack.{pair_of, byte_of, with_pair, set_pair}
use Rattle.stream.specs.Calls.{page_of, kind_for}
use Rattle.store.specs.Block.{slot_of, place_of}
use Rattle.reading.specs.Read.{ReadOutcome, read_done, read_refused}
use Rattle.carrying.specs.Puts.{all}
use Rattle.carrying.specs.CarryOut.{CarryOutcome}
use Rattle.carrying.specs.Mapped.{MappedCarry}
use Rattle.carrying.specs.CarryLaws.{map_done, map_not}
use Rattle.building.specs.Build.{BuildOutcome, build_done}
use Rattle.promises.specs.Words.{blocks, places, PatchOf, MapFits, MapAt}
use Rattle.promises.specs.CarryWords.{CarryGives}
use Rattle.promises.specs.CarryTables.{carry_table, mapped_as_carry}
use Rattle.promises.specs.Decisions.{Cell}
use Rattle.promises.specs.Runs.{run, write}
use Rattle.promises.specs.RunWords.{Areas, read_at, Lent, Operation, outcome, after, next}
use Rattle.promises.specs.FreshLaws.{fresh_cell}
use Rattle.promises.specs.RunLaws.{run_fits}
use Rattle.promises.specs.PairLaws.{carried_kind, reads_back}
use Rattle.promises.specs.MapWords.{Mapped, Long, build_into, read_by_map, MappedProgram, mapped, MappedCutProgram, cut_mapped}
use Rattle.promises.specs.MapWords.{does_with_by, after_with_by, FreshWith}
use Rattle.promises.specs.MapStore.{with}
use Rattle.promises.specs.MapTables.{by_map_0, by_map_1, by_map_2_other, by_map_3}
use Rattle.promises.specs.DemandThree.{kept_is_built}
use Rattle.promises.specs.Sample.{sample, sample_fresh, two_blocks, two_places, takes, page, one, two, one_fits, two_fits, stream_one}
use Rattle.promises.specs.Sample.{to, puts, areas_fit, decides, decides_by, one_fit}

-- Writes. "after any run from fresh areas and a zero map, lent to every write of the run, it equals the built one"

abbrev pub MapBuilt : MappedProgram → MappedCutProgram → Type 0
MapBuilt writes drops =
    (x : Mapped) → FreshWith page_size x → Long x.areas x.map → (os : List Operation)
    → build_into page_size (after_with_by writes drops x os).areas x.map ≡ build_done (after_with_by writes drops x os).map

pub right_map_built : MapBuilt (mapped page_size) (cut_mapped page_size)
right_map_built x fresh long os = kept_is_built x fresh os long

-- one that makes another map of what the right one leaves
abbrev pub leaving : (Mapped → Lent → MappedCarry → List ℕ) → MappedProgram
leaving makes x w = record { areas = (mapped page_size x w).areas; map = makes x w (mapped page_size x w) }

abbrev pub done : MappedCarry → Bool
done o = eqb o.areas.number 0

-- the kind's own number for its pair: 1 for PATCH
abbrev kind_map : Mapped → Lent → MappedCarry → List ℕ
kind_map x w o = cond (done o) (set_pair x.map w.block o.areas.kind) o.map

unfoldable pub kind_for_pair : MappedProgram
kind_for_pair = leaving kind_map

-- the pair set although the write was refused
abbrev refused_map : Mapped → Lent → MappedCarry → List ℕ
refused_map x w o = cond (done o) o.map (set_pair x.map w.block patch_pair)

unfoldable pub though_refused : MappedProgram
though_refused = leaving refused_map

-- the block's byte made anew, so that its neighbours' pairs are cleared
abbrev byte_map : Mapped → Lent → MappedCarry → List ℕ
byte_map x w o = cond (done o) (set x.map (w.block / 4) (with_pair 0 (w.block % 4) (pair_of o.areas.kind))) o.map

unfoldable pub whole_byte : MappedProgram
whole_byte = leaving byte_map

-- The sample: two fresh blocks, and a map of one byte

abbrev T : List ℕ → Areas
T x = next page_size sample (to 0 x)

abbrev pub start : Mapped
start = with sample (0 ∷ [])

pub start_fresh : FreshWith page_size start
start_fresh = record { fresh = sample_fresh; zero = λ i h. none i }
  where
    none : (i : ℕ) → get_or {A = ℕ} (0 ∷ []) i 0 ≡ 0
    none zero = refl
    none (suc i) = refl

pub one_byte : (os : List Operation) (map : List ℕ) → length map ≡ 1 → MapFits (after page_size sample os).patch map
unfolding map_bytes
one_byte os map e = rw (two_blocks os, e) (lit≤ tt)

-- what the right one leaves of `one` written to a block
pub one_kind : (os : List Operation) (b : ℕ) → b < 2 → (outcome page_size (after page_size sample os) (to b one)).kind ≡ 1
unfolding kind_for
one_kind os b h =
    carried_kind page_size (after page_size sample os).patch (after page_size sample os).full b (decides [] one) (takes os (to b one) h one_fit)
    ∙ ap (λ (l : List ℕ). kind_for (length l)) stream_one

abbrev pub kept_by : CarryOutcome → List ℕ → ℕ → MappedCarry
kept_by o map b = record { areas = o; map = set_pair map b (pair_of o.kind) }

pub wrote : (os : List Operation) (v b : ℕ) → b < 2 → mapped page_size (with (after page_size sample os) (v ∷ [])) (to b one)
    ≡ kept_by (outcome page_size (after page_size sample os) (to b one)) (v ∷ []) b
wrote os v b h =
    let s : Areas = after page_size sample os in
    let takes_it = takes os (to b one) h one_fit in
    let same = mapped_as_carry page_size s.patch s.full (v ∷ []) b (decides [] one) (one_byte os (v ∷ []) refl) in
    let set = map_done page_size s.patch s.full (v ∷ []) b (decides [] one) all (ap (λ (o : CarryOutcome). o.number) same ∙ takes_it)
    ∙ ap (λ (k : ℕ). set_pair (v ∷ []) b (pair_of k)) (sym (carried_kind page_size s.patch s.full b (decides [] one) takes_it)) in
    λ i. record { areas = same i; map = set i }

-- after one write of a program that leaves the right areas, its map is the right one
module _ (makes : Mapped → Lent → MappedCarry → List ℕ) (claim : MapBuilt (leaving makes) (cut_mapped page_size)) where
  after_one : (w : Lent) → makes start w (mapped page_size start w) ≡ (mapped page_size start w).map
  unfolding run
  after_one w =
      ap (λ (o : BuildOutcome). o.map)
      (sym (claim start start_fresh (one_byte [] (0 ∷ []) refl) (write w ∷ []))
      ∙ right_map_built start start_fresh (one_byte [] (0 ∷ []) refl) (write w ∷ []))

pub not_kind_for_pair : MapBuilt kind_for_pair (cut_mapped page_size) → ⊥
unfolding kind_for_pair run set_pair with_pair byte_of pair_of
not_kind_for_pair claim =
    let e = after_one kind_map claim (to 0 one) in
    let z : ◌≡◌ {A = ℕ} 1 2 = ap (λ (l : List ℕ). get_or l 0 0)
    (rw (wrote [] 0 0 (lit< tt), takes [] (to 0 one) (lit< tt) one_fit, one_kind [] 0 (lit< tt)) at e) in
    omega arith

-- kind 3 is refused with 6
unfit : Lent
unfit = record { block = 0; decision = record { kind = 3; payload = []; page = [] } }

refused : (outcome page_size sample unfit).number ≡ 6
unfolding unfit run
refused =
    (carry_table page_size sample.patch sample.full 0 unfit.decision 6).1
    (CarryGives.kind (areas_fit []) (rw (two_blocks []) (lit< tt)) (lit< tt))

pub not_though_refused : MapBuilt though_refused (cut_mapped page_size) → ⊥
unfolding though_refused run set_pair with_pair byte_of unfit
not_though_refused claim =
    let e = after_one refused_map claim unfit in
    let same = mapped_as_carry page_size sample.patch sample.full (0 ∷ []) 0 unfit.decision (one_byte [] (0 ∷ []) refl) in
    let left = map_not page_size sample.patch sample.full (0 ∷ []) 0 unfit.decision all
    (λ q. omega (arith, refused, sym (ap (λ (o : CarryOutcome). o.number) same) ∙ q)) in
    let kept : mapped page_size start unfit ≡ record { areas = outcome page_size sample unfit; map = 0 ∷ [] } =
    λ i. record { areas = same i; map = left i } in
    let z : ◌≡◌ {A = ℕ} 2 0 = ap (λ (l : List ℕ). get_or l 0 0) (rw (kept, refused) at e) in
    omega arith

-- after one write more the pair of block 0 is lost: byte 8, where Build makes 10
pub not_whole_byte : MapBuilt whole_byte (cut_mapped page_size) → ⊥
unfolding run whole_byte set_pair with_pair byte_of pair_of
not_whole_byte claim =
    let os : List Operation = puts 0 one ∷ puts 1 one ∷ [] in
    let long : Long sample (0 ∷ []) = one_byte [] (0 ∷ []) refl in
    let end : Areas = next page_size (T one) (to 1 one) in
    let more : List Operation = puts 0 one ∷ [] in
    let wrong_first : does_with_by whole_byte (cut_mapped page_size) start (puts 0 one) ≡ with (T one) (2 ∷ []) =
    rw (wrote [] 0 0 (lit< tt), takes [] (to 0 one) (lit< tt) one_fit, one_kind [] 0 (lit< tt)) refl in
    let wrong_then : does_with_by whole_byte (cut_mapped page_size) (with (T one) (2 ∷ [])) (puts 1 one) ≡ with end (8 ∷ []) =
    rw (wrote more 2 1 (lit< tt), takes more (to 1 one) (lit< tt) one_fit, one_kind more 1 (lit< tt)) refl in
    let wrong : after_with_by whole_byte (cut_mapped page_size) start os ≡ with end (8 ∷ []) =
    ap (λ (x : Mapped). does_with_by whole_byte (cut_mapped page_size) x (puts 1 one)) wrong_first ∙ wrong_then in
    let first : does_with_by (mapped page_size) (cut_mapped page_size) start (puts 0 one) ≡ with (T one) (2 ∷ []) =
    rw (wrote [] 0 0 (lit< tt), one_kind [] 0 (lit< tt)) refl in
    let then : does_with_by (mapped page_size) (cut_mapped page_size) (with (T one) (2 ∷ [])) (puts 1 one) ≡ with end (10 ∷ []) =
    rw (wrote more 2 1 (lit< tt), one_kind more 1 (lit< tt)) refl in
    let right : after_with_by (mapped page_size) (cut_mapped page_size) start os ≡ with end (10 ∷ []) =
    ap (λ (x : Mapped). does_with_by (mapped page_size) (cut_mapped page_size) x (puts 1 one)) first ∙ then in
    let e : build_into page_size end (0 ∷ []) ≡ build_done (8 ∷ []) =
    subst (λ (x : Mapped). build_into page_size x.areas (0 ∷ []) ≡ build_done x.map) wrong (claim start start_fresh long os) in
    let f : build_into page_size end (0 ∷ []) ≡ build_done (10 ∷ []) =
    subst (λ (x : Mapped). build_into page_size x.areas (0 ∷ []) ≡ build_done x.map) right
    (right_map_built start start_fresh long os) in
    let z : ◌≡◌ {A = ℕ} 8 10 = ap (λ (o : BuildOutcome). get_or o.map 0 0) (sym e ∙ f) in
    omega arith

-- Reads

abbrev pub Reader : Type 0
Reader = Mapped → ℕ → List ℕ → List ℕ → ReadOutcome

abbrev pub At : Mapped → ℕ → List ℕ → List ℕ → Type 0
At x b base page = MapAt page_size x.areas.patch x.areas.full x.map b base page

-- "reads that go by it: pair 0 gives the base without touching the slot, pair 2 needs a sound PATCH (any other slot is 6), pair 1 takes the
-- full page", and "11 for pair 3"
pub record GoesByMap (reader : Reader) : Type 0 where
  pub pair_0 : (x : Mapped) (b : ℕ) (base page : List ℕ) → At x b base page → pair_at x.map b ≡ 0
      → reader x b base page ≡ read_done 0 (page_of page_size base)
  pub pair_2 : (x : Mapped) (b : ℕ) (base page : List ℕ) → At x b base page → pair_at x.map b ≡ patch_pair
      → ((payload : List ℕ) → PatchOf (slot_of x.areas.patch b) payload → ⊥) → reader x b base page ≡ read_refused 6 0 page
  pub pair_1 : (x : Mapped) (b : ℕ) (base page : List ℕ) → At x b base page → pair_at x.map b ≡ full_pair
      → b < places page_size x.areas.full → reader x b base page ≡ read_done 2 (place_of page_size x.areas.full b)
  pub pair_3 : (x : Mapped) (b : ℕ) (base page : List ℕ) → At x b base page → pair_at x.map b ≡ reserved_pair
      → reader x b base page ≡ read_refused 11 0 page

pub right_goes : GoesByMap (read_by_map page_size)
right_goes =
    record {
      pair_0 = λ x b base page at. by_map_0 page_size x.areas.patch x.areas.full x.map b base page at;
      pair_2 = λ x b base page at. by_map_2_other page_size x.areas.patch x.areas.full x.map b base page at;
      pair_1 = λ x b base page at. by_map_1 page_size x.areas.patch x.areas.full x.map b base page at;
      pair_3 = λ x b base page at. by_map_3 page_size x.areas.patch x.areas.full x.map b base page at;
    }

-- a read of one of the two blocks, by a map of one byte
at_block : (os : List Operation) (v b : ℕ) → b < 2 → At (with (after page_size sample os) (v ∷ [])) b [] two
at_block os v b h =
    record {
      frame = run_fits page_size sample sample_fresh os [] two two_fits;
      room_for = one_byte os (v ∷ []) refl;
      below = rw (two_blocks os) h;
    }

-- by the slot: block 0 holds a patch, and the map says that it is EMPTY
unfoldable pub by_slot : Reader
by_slot x b base page = read_at page_size x.areas b base page

pub not_by_slot : GoesByMap by_slot → ⊥
unfolding by_slot run pair_at
not_by_slot claim =
    let e = claim.pair_0 (with (next page_size sample (to 0 one)) (0 ∷ [])) 0 [] two (at_block (puts 0 one ∷ []) 0 0 (lit< tt)) refl in
    let z : ◌≡◌ {A = ℕ} 1 0 =
    sym (one_kind [] 0 (lit< tt))
    ∙ ap (λ (o : ReadOutcome). o.kind)
    (sym (reads_back page_size (lit≤ tt) sample.patch sample.full 0 [] (decides [] one) (decides_by [] one one_fits)
    (takes [] (to 0 one) (lit< tt) one_fit) [] two refl two_fits.page_length) ∙ e) in
    omega arith

-- pair 1 only with a FULL_REF slot: block 0 is EMPTY, and the map says that it is full
unfoldable pub full_ref_only : Reader
full_ref_only x b base page =
    cond (eqb (pair_at x.map b) full_pair && not (eqb (slot_numbers (slot_of x.areas.patch b)).kind 2)) (read_refused 6 0 page)
    (read_by_map page_size x b base page)

pub not_full_ref_only : GoesByMap full_ref_only → ⊥
unfolding full_ref_only run pair_at
not_full_ref_only claim =
    let e = claim.pair_1 (with sample (1 ∷ [])) 0 [] two (at_block [] 1 0 (lit< tt)) refl (rw (two_places []) (lit< tt)) in
    let empty : (slot_numbers (slot_of sample.patch 0)).kind ≡ 0 =
    ap (λ (c : Cell). (slot_numbers c.slot).kind) (fresh_cell page_size sample sample_fresh 0 (rw (two_blocks []) (lit< tt)))
    ∙ ap (λ (n : _). n.kind) empty_numbers in
    let z : ◌≡◌ {A = ℕ} 6 0 = ap (λ (o : ReadOutcome). o.number) (rw empty at e) in
    omega arith

-- 11 for the pair of another block: pair 3 is block 1's, and block 0 is read
unfoldable pub any_pair : Reader
any_pair x b base page =
    cond (some_reserved x.map (blocks x.areas.patch)) (read_refused 11 0 page) (read_by_map page_size x b base page)

pub not_any_pair : GoesByMap any_pair → ⊥
unfolding any_pair run pair_at some_reserved
not_any_pair claim =
    let e = claim.pair_0 (with sample (12 ∷ [])) 0 [] two (at_block [] 12 0 (lit< tt)) refl in
    let z : ◌≡◌ {A = ℕ} 11 0 = ap (λ (o : ReadOutcome). o.number) (rw (two_blocks []) at e) in
    omega arith
