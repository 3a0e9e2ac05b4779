-- Wrong programs for Sweep, each shut out by the request's own words and a proved input: the two blocks of `Sample`, with some bytes laid over
-- them. `SweepsClean` are those words for a given program; the right one keeps them.
use Rattle.std.specs.Prelude.{ℕ, ◌+◌, ◌≤◌, ◌<◌, ◌≡◌, refl, Bool, true, false, not, ◌&&◌, cond, ◌↔◌, List, [], ◌∷◌, ◌++◌, eqb, length, get_or}
use Rattle.std.proofs.Common.{arith, sym, ap, ◌∙◌, inl, append-nil, lit≤, lit<, eq-eqb}
use Rattle.std.proofs.Math.Decide.{dec_lt}
use Rattle.span.specs.Bytes.{zeros, splice, same}
use Rattle.span.specs.Laws.{zeros_at, part_at, part_splice, part_splice_before, part_splice_after, splice_in, splice_length, same_is}
use Rattle.layout.specs.Sizes.{page_size, patch_head, slot_size, slot_at}
use Rattle.layout.specs.Lengths.{pages_in}
use Rattle.layout.specs.Refusals.{first_of, decided}
use Rattle.layout.specs.RefusalLaws.{decided_done}
use Rattle.layout.specs.Groups.{ordered}
use Rattle.layout.specs.FirstFault.{rows_from}
use Rattle.slots.specs.Slots.{empty_slot, patch_slot, slot_numbers, SlotNumbers, sound_slot, payload_of}
use Rattle.slots.specs.SlotLaws.{patch_slot_length}
use Rattle.slots.specs.Meaning.{empty_numbers, full_numbers, kind_first}
use Rattle.payload.specs.Entries.{stream, in_page, whole, sound}
use Rattle.store.specs.Block.{slot_of, place_of}
use Rattle.store.specs.FrameLaws.{none_in}
use Rattle.sweeping.specs.Sweep.{sweep_groups, slot_faults, zeroed_but, refers, SweepOutcome, sweep_done, sweep_refused}
use Rattle.sweeping.specs.SweepLaws.{frame_rows_is}
use Rattle.sweeping.specs.ZeroedLaws.{Within, zeroed_cleared}
use Rattle.promises.specs.Words.{places, AreasFit, SameFrame, PatchOf, SoundSlot}
use Rattle.promises.specs.AreaLaws.{areas_zero}
use Rattle.promises.specs.SweepTables.{frame_number_is}
use Rattle.promises.specs.FrameLaws.{lengths_moved, headers_moved}
use Rattle.promises.specs.SlotLaws.{patch_of, empty_not_full, patch_not_full}
use Rattle.promises.specs.StoreLaws.{same_frame}
use Rattle.promises.specs.Decisions.{Cell}
use Rattle.promises.specs.FreshLaws.{fresh_cell}
use Rattle.promises.specs.SweepWords.{SlotWrong, SweepGives, SweptFrom}
use Rattle.promises.specs.SweptLaws.{refers_other, places_within, sweep_kept}
use Rattle.promises.specs.Runs.{run}
use Rattle.promises.specs.RunWords.{Areas, next}
use Rattle.promises.specs.StopWords.{SweepProgram, stopped, sweeping}
use Rattle.promises.specs.StopsWrong.{large_stored, large_slot, large_place, many_first}
use Rattle.promises.specs.DemandStops.{page_made, sweep_gives, sweeps, sweep_accepted}
use Rattle.promises.specs.Sample.{sample, sample_fresh, two_blocks, two_places, areas_fit, many, large_ones, to, puts}

-- "A sweep zeroes every place whose slot is not FULL_REF ... sweep gives 2, headers, then 6 or 8 at the lowest block, changing nothing"
pub record SweepsClean (program : SweepProgram) : Type 0 where
  pub numbers : (s : Areas) (k : ℕ) → ((program s).number ≡ k) ↔ SweepGives page_size s.patch s.full k
  pub cleans : (s : Areas) → (program s).number ≡ 0 → SweptFrom page_size s.patch s.full (program s).full
  pub kept : (s : Areas) → ((program s).number ≡ 0 → ⊥) → (program s).full ≡ s.full

pub right_sweeps : SweepsClean (sweeping page_size)
right_sweeps =
    record {
      numbers = λ s k. sweep_gives s.patch s.full k;
      cleans = λ s e. sweeps s.patch s.full e;
      kept = λ s h. sweep_kept page_size s.patch s.full h;
    }

-- the right area, but for the blocks that are kept
abbrev zeroed_in : (ℕ → Bool) → Areas → List ℕ
zeroed_in keeps s = zeroed_but keeps page_size (pages_in page_size (length s.full)) s.full

-- Areas

-- the sample with a full page at block 0
abbrev holds : Areas
holds = next page_size sample (to 0 (many 1))

one_place : 0 < places page_size (next page_size sample (to 0 (many 1))).full
unfolding run
one_place = rw (two_places (puts 0 (many 1) ∷ [])) (lit< tt)

-- a sweep accepts it, and the same page stored under an EMPTY slot, which is left of a stop
holds_accepted : (sweeping page_size (next page_size sample (to 0 (many 1)))).number ≡ 0
unfolding run
holds_accepted = sweep_accepted sample sample_fresh [] 2 (to 0 (many 1)) []

stray_accepted : (sweeping page_size (stopped page_size sample 1 (to 0 (many 1)))).number ≡ 0
unfolding run
stray_accepted = sweep_accepted sample sample_fresh [] 1 (to 0 (many 1)) []

-- areas of the sample's frame
fits : (patch full : List ℕ) → SameFrame sample.patch sample.full patch full → AreasFit page_size patch full
unfolding run
fits patch full f =
    let h = areas_fit [] in
    record { lengths = lengths_moved page_size _ _ _ _ f h.lengths; headers = headers_moved page_size _ _ _ _ f h.headers }

fresh_slot : (b : ℕ) → b < 2 → slot_of sample.patch b ≡ empty_slot
unfolding run
fresh_slot b h = ap (λ (c : Cell). c.slot) (fresh_cell page_size sample sample_fresh b (rw (two_blocks []) h))

-- zeros are no page of ones
not_ones : zeros page_size ≡ many 1 → ⊥
not_ones e = omega (arith, sym (zeros_at page_size 0) ∙ ap (λ (l : List ℕ). get_or l 0 0) e ∙ many_first)

-- Every place zeroed, those of FULL_REF slots too

unfoldable pub zeroes_all : SweepProgram
zeroes_all s =
    record {
      number = (sweeping page_size s).number;
      full = cond (eqb (sweeping page_size s).number 0) (zeroed_in (λ b. false) s) s.full;
    }

pub not_zeroes_all : SweepsClean zeroes_all → ⊥
unfolding zeroes_all place_of
not_zeroes_all claim =
    let all : (zeroes_all holds).full ≡ zeroed_in (λ b. false) holds =
    rw (eq-eqb (sweeping page_size (next page_size sample (to 0 (many 1)))).number 0 holds_accepted) in
    let w : Within page_size (places page_size holds.full) holds.full =
    places_within page_size holds.patch holds.full (fits holds.patch holds.full large_stored.frame).lengths in
    not_ones
    (sym (zeroed_cleared (λ b. false) page_size holds.full (places page_size holds.full) w 0 one_place refl)
    ∙ ap (λ (f : List ℕ). place_of page_size f 0) (sym all) ∙ (claim.cleans holds holds_accepted).kept 0 one_place large_slot ∙ large_place)

-- Slots at m and above not checked

unfoldable pub below_m : SweepProgram
below_m s =
    decided
    (first_of (ordered (sweep_groups page_size s.patch s.full)
    ++ rows_from (slot_faults page_size s.patch s.full) 0 (pages_in page_size (length s.full))))
    (sweep_done page_size s.patch s.full) (λ k. sweep_refused k s.full)

-- a FULL_REF slot beside no full area
abbrev bare : Areas
bare = record { patch = (next page_size sample (to 0 (many 1))).patch; full = [] }

bare_fits : AreasFit page_size (next page_size sample (to 0 (many 1))).patch []
bare_fits =
    let h = fits holds.patch holds.full large_stored.frame in
    record {
      lengths = record { patch_length = h.lengths.patch_length; not_above = h.lengths.not_above; full_length = inl refl };
      headers = record { patch_header_is = h.headers.patch_header_is; full_header_is = inl refl };
    }

no_places : pages_in page_size (length {A = ℕ} []) ≡ 0
no_places = none_in page_size 0 refl

-- it has a fault at its lowest block, and no place
bare_gives : SweepGives page_size (next page_size sample (to 0 (many 1))).patch [] 8
unfolding run
bare_gives =
    SweepGives.lowest bare_fits 0 (rw (two_blocks (puts 0 (many 1) ∷ [])) (lit< tt)) (SlotWrong.missing large_slot (rw no_places (lit≤ tt)))
    (λ i l. absurd (omega arith))

bare_passes : (below_m bare).number ≡ 0
unfolding below_m rows_from
bare_passes =
    let none : first_of (ordered (sweep_groups page_size bare.patch [])) ≡ 0 =
    frame_rows_is page_size bare.patch [] ∙ frame_number_is page_size bare.patch [] ∙ areas_zero page_size bare.patch [] bare_fits in
    let m : ℕ = pages_in page_size (length {A = ℕ} []) in
    let rows : first_of (ordered (sweep_groups page_size bare.patch []) ++ rows_from (slot_faults page_size bare.patch []) 0 m) ≡ 0 =
    rw no_places (ap first_of (append-nil (ordered (sweep_groups page_size bare.patch []))) ∙ none) in
    ap (λ (o : SweepOutcome). o.number) (decided_done _ _ _ rows)

pub not_below_m : SweepsClean below_m → ⊥
not_below_m claim = omega (arith, bare_passes, (claim.numbers bare 8).1 bare_gives)

-- Places changed before all slots are checked

unfoldable pub changes_first : SweepProgram
changes_first s = record { number = (sweeping page_size s).number; full = zeroed_in (refers s.patch) s }

-- bytes laid over the slot of a block, so that its frame and every lower slot stay
module _ (b : ℕ) (below : b < 2) (image : List ℕ) (few : length image ≤ slot_size) where
  abbrev laid : List ℕ
  laid = splice sample.patch (slot_at b) image

  within : slot_at b + length image ≤ length sample.patch
  unfolding run
  within = omega (arith, few, below, (areas_fit []).lengths.patch_length, two_blocks [])

  laid_frame : (full : List ℕ) → SameFrame sample.patch sample.full sample.patch full → SameFrame sample.patch sample.full laid full
  laid_frame full f =
      record {
        patch_length = splice_length sample.patch (slot_at b) image within;
        full_length = f.full_length;
        patch_header_is = part_splice_before sample.patch (slot_at b) image 0 patch_head within (omega arith);
        full_header_is = f.full_header_is;
      }

  laid_lower : (c : ℕ) → c < b → slot_of laid c ≡ empty_slot
  unfolding slot_of
  laid_lower c h =
      part_splice_before sample.patch (slot_at b) image (slot_at c) slot_size within (omega arith) ∙ fresh_slot c (omega (arith, h, below))

  laid_upper : (c : ℕ) → b < c → c < 2 → slot_of laid c ≡ empty_slot
  unfolding slot_of run
  laid_upper c h l =
      part_splice_after sample.patch (slot_at b) image (slot_at c) slot_size within (omega (arith, few, h))
      (omega (arith, l, (areas_fit []).lengths.patch_length, two_blocks []))
      ∙ fresh_slot c l

  laid_first : 0 < length image → get_or (slot_of laid b) 0 0 ≡ get_or image 0 0
  unfolding slot_of
  laid_first h =
      part_at (slot_at b) slot_size laid 0 (omega arith) ∙ splice_in sample.patch (slot_at b) image (omega (arith, within)) 0 h

-- a sound slot begins with 0, 1 or 2
sound_first : (x : List ℕ) → SoundSlot x → get_or x 0 0 ≤ 2
sound_first x h = go h
  where
    kind : {k n : ℕ} → slot_numbers x ≡ sound_slot k n → get_or x 0 0 ≡ k
    kind e = sym (kind_first x (ap (λ (y : SlotNumbers). y.number) e)) ∙ ap (λ (y : SlotNumbers). y.kind) e

    go : SoundSlot x → get_or x 0 0 ≤ 2
    go (SoundSlot.empty e) = omega (arith, kind (ap slot_numbers e ∙ empty_numbers))
    go (SoundSlot.patch p e) = omega (arith, kind (patch_of x p e).0)
    go (SoundSlot.full e) = omega (arith, kind (ap slot_numbers e ∙ full_numbers))

-- byte 3 at the start of slot 1, and a page left in place 0
abbrev broken : Areas
broken = record { patch = laid 1 (lit< tt) (3 ∷ []) (lit≤ tt); full = (next page_size sample (to 0 (many 1))).full }

same_patch : SameFrame sample.patch sample.full sample.patch (next page_size sample (to 0 (many 1))).full
same_patch = record {
  patch_length = refl;
  full_length = large_stored.frame.full_length;
  patch_header_is = refl;
  full_header_is = large_stored.frame.full_header_is;
}

broken_gives : SweepGives page_size broken.patch broken.full 6
unfolding run
broken_gives =
    let f = laid_frame 1 (lit< tt) (3 ∷ []) (lit≤ tt) broken.full same_patch in
    SweepGives.lowest (fits broken.patch broken.full f) 1 (rw (f.patch_length, two_blocks []) (lit< tt))
    (SlotWrong.unsound (λ h. omega (arith, sound_first _ h, laid_first 1 (lit< tt) (3 ∷ []) (lit≤ tt) (lit< tt))))
    (λ i l.
    let e : slot_of broken.patch i ≡ empty_slot = laid_lower 1 (lit< tt) (3 ∷ []) (lit≤ tt) i l in
    record { sound = SoundSlot.empty e; there = λ q. absurd (empty_not_full (slot_of broken.patch i) e q) })

pub not_changes_first : SweepsClean changes_first → ⊥
unfolding changes_first place_of
not_changes_first claim =
    let six : (sweeping page_size broken).number ≡ 6 = (claim.numbers broken 6).1 broken_gives in
    let f = laid_frame 1 (lit< tt) (3 ∷ []) (lit≤ tt) broken.full same_patch in
    let w : Within page_size (places page_size broken.full) broken.full =
    places_within page_size broken.patch broken.full (fits broken.patch broken.full f).lengths in
    let empty : slot_of broken.patch 0 ≡ empty_slot = laid_lower 1 (lit< tt) (3 ∷ []) (lit≤ tt) 0 (lit< tt) in
    not_ones
    (sym (zeroed_cleared (refers broken.patch) page_size broken.full (places page_size broken.full) w 0 one_place
    (refers_other broken.patch 0 (empty_not_full (slot_of broken.patch 0) empty)))
    ∙ ap (λ (x : List ℕ). place_of page_size x 0) (claim.kept broken (λ z. omega (arith, six, z))) ∙ large_place)

-- Refused with 10 where there is something to be swept

unfoldable pub refuses_strays : SweepProgram
refuses_strays s = cond (same (sweeping page_size s).full s.full) (sweeping page_size s) (record { number = 10; full = s.full })

pub not_refuses_strays : SweepsClean refuses_strays → ⊥
unfolding refuses_strays run
not_refuses_strays claim =
    let s : Areas = stopped page_size sample 1 (to 0 (many 1)) in
    go (same (sweeping page_size s).full s.full) refl
    ((claim.numbers s 0).1 ((sweep_gives s.patch s.full 0).0 stray_accepted))
  where
    go : (t : Bool) → same (sweeping page_size (stopped page_size sample 1 (to 0 (many 1)))).full (stopped page_size sample 1 (to 0 (many 1))).full ≡ t
        → (cond t (sweeping page_size (stopped page_size sample 1 (to 0 (many 1))))
        (record { number = 10; full = (stopped page_size sample 1 (to 0 (many 1))).full })).number ≡ 0
        → ⊥
    go true e z =
        let s : Areas = stopped page_size sample 1 (to 0 (many 1)) in
        let made = page_made sample (to 0 (many 1)) large_ones in
        let empty : slot_of s.patch 0 ≡ empty_slot = ap (λ (x : List ℕ). slot_of x 0) made.0 ∙ fresh_slot 0 (lit< tt) in
        let page : place_of page_size s.full 0 ≡ many 1 = ap (λ (x : List ℕ). place_of page_size x 0) made.1 ∙ large_place in
        not_ones
        (sym ((sweeps s.patch s.full stray_accepted).zeroed 0 (rw made.1 one_place) (empty_not_full (slot_of s.patch 0) empty))
        ∙ ap (λ (x : List ℕ). place_of page_size x 0) (same_is _ _ e) ∙ page)
    go false e z = omega (arith, z)

-- Payloads looked at: refused with 7

unfoldable pub checks_payloads : SweepProgram
checks_payloads s =
    cond (eqb (slot_numbers (slot_of s.patch 0)).kind 1 && not (sound page_size (payload_of (slot_of s.patch 0)))) (record { number = 7; full = s.full })
    (sweeping page_size s)

-- payload 01: an entry that breaks off
short : length (patch_slot (1 ∷ [])) ≤ slot_size
short = omega (arith, patch_slot_length (1 ∷ []) (lit≤ tt))

abbrev odd : Areas
odd = record { patch = laid 0 (lit< tt) (patch_slot (1 ∷ [])) short; full = sample.full }

odd_slot : PatchOf (slot_of odd.patch 0) (1 ∷ [])
unfolding slot_of
odd_slot =
    let l = patch_slot_length (1 ∷ []) (lit≤ tt) in
    record {
      image = part_splice sample.patch (slot_at 0) (patch_slot (1 ∷ [])) slot_size l (rw l at (within 0 (lit< tt) (patch_slot (1 ∷ [])) short));
      some = lit≤ tt;
      room_for = lit≤ tt;
    }

odd_gives : SweepGives page_size odd.patch odd.full 0
unfolding run
odd_gives =
    let f = laid_frame 0 (lit< tt) (patch_slot (1 ∷ [])) short sample.full (same_frame sample.patch sample.full) in
    SweepGives.done (fits odd.patch odd.full f)
    (λ b l.
    let n : b < 2 = rw (f.patch_length, two_blocks []) at l in
    elim (dec_lt 0 b) [
      | yes h ↦
          let e : slot_of odd.patch b ≡ empty_slot = laid_upper 0 (lit< tt) (patch_slot (1 ∷ [])) short b h n in
          record { sound = SoundSlot.empty e; there = λ q. absurd (empty_not_full (slot_of odd.patch b) e q) }
      | no h ↦
          let z : b ≡ 0 = omega arith in
          rw z (record { sound = SoundSlot.patch (1 ∷ []) odd_slot; there = λ q. absurd (patch_not_full (slot_of odd.patch 0) (1 ∷ []) odd_slot q) })
    ])

odd_unsound : sound page_size (payload_of (slot_of odd.patch 0)) ≡ false
unfolding sound whole stream in_page
odd_unsound = ap (sound page_size) (patch_of (slot_of odd.patch 0) (1 ∷ []) odd_slot).1

pub not_checks_payloads : SweepsClean checks_payloads → ⊥
unfolding checks_payloads
not_checks_payloads claim =
    let k : (slot_numbers (slot_of odd.patch 0)).kind ≡ 1 =
    ap (λ (x : SlotNumbers). x.kind) (patch_of (slot_of odd.patch 0) (1 ∷ []) odd_slot).0 in
    let seven : (checks_payloads odd).number ≡ 7 = rw (eq-eqb (slot_numbers (slot_of odd.patch 0)).kind 1 k, odd_unsound) in
    omega (arith, seven, (claim.numbers odd 0).1 odd_gives)
