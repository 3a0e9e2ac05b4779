-- The reader keeps the request's words, and so does every step program that meets the contract of `step_at`.
use Prim.Native.Nat.{ℕ, zero, suc, ◌≤◌}
use Rattle.std.proofs.Common.{arith, ◌∙◌}
use Rattle.std.specs.Prelude.{◌≡◌, Bool, true, false, List, [], ◌++◌, length}
use Rattle.std.proofs.Math.Path.{refl, sym, ap}
use Rattle.std.proofs.Math.Bool.{cond}
use Rattle.std.proofs.lemmas.Bool.{false≢true}
use Rattle.layout.specs.Sizes.{page_size}
use Rattle.payload.specs.Entries.{payload_stream, sound, breaks_at}
use Rattle.payload.specs.Listing.{Listed, listed_count}
use Rattle.entry_reader.specs.Turns.{roomy, turn_at}
use Rattle.entry_reader.specs.Walk.{Standing, StepProgram, turn_by, onward_by, standing_by, finds_by, given_by, entry_of}
use Rattle.entry_reader.specs.Walk.{turn_from, standing, finds, given, shown, ending}
use Rattle.entry_reader.specs.FitLaws.{fit_shown, unfit_sound}
use Rattle.entry_reader.specs.Reads.{reads, none}
use Rattle.entry_reader.specs.Claims.{before, many, StopsAt, Keeps, Right}
use Rattle.entry_reader.specs.declared.Found.TheVariants.{End, Stopped}
use Rattle.entry_reader.specs.declared.Turn.{Turn}

-- The reader's own step

module _ (payload : List ℕ) where
  sound_fits : sound page_size payload ≡ true → roomy payload ≡ true
  sound_fits h = go (roomy payload) refl
    where
      go : (t : Bool) → roomy payload ≡ t → roomy payload ≡ true
      go true e = e
      go false e = absurd (false≢true (sym (unfit_sound page_size payload e) ∙ h))

  -- as many steps as there are entries
  enough : (k : ℕ) → roomy payload ≡ true → many payload ≤ k → length (shown page_size payload) ≤ k
  enough k fits h =
      let e : length (shown page_size payload) ≡ many payload =
      ap length (fit_shown page_size payload fits) ∙ listed_count (payload_stream page_size payload) in
      omega arith

  gives : (k : ℕ) → roomy payload ≡ true → many payload ≤ k → given page_size payload k ≡ before payload
  gives k fits h = (reads page_size payload).all k (enough k fits h) ∙ fit_shown page_size payload fits

  stops : (offset : ℕ) (gave : List Listed) (k : ℕ) → sound page_size payload ≡ false → offset ≡ breaks_at page_size payload
      → given page_size payload k ≡ gave → length (shown page_size payload) ≤ k → StopsAt turn_at payload offset gave k
  unfolding ending
  stops offset gave k broken is g h = record {
    given = g;
    stands = (reads page_size payload).at k h ∙ ap (λ (t : Bool). cond t (length payload) (breaks_at page_size payload)) broken ∙ sym is;
    says =
        (reads page_size payload).ends k h
        ∙ ap (λ (t : Bool). cond t End (Stopped (breaks_at page_size payload))) broken
        ∙ ap (λ (x : ℕ). Stopped x) (sym is);
  }

  shown_none : (k : ℕ) → roomy payload ≡ false → length (shown page_size payload) ≤ k
  shown_none k unfit =
      let e : length (shown page_size payload) ≡ 0 = ap length (none page_size payload unfit).0 in
      omega arith

pub reader_keeps : Keeps turn_at
reader_keeps = record {
  joined = λ payload k h l. gives payload k (sound_fits payload h) l;
  there = λ payload k fits broken l.
      stops payload (breaks_at page_size payload) (before payload) k broken refl (gives payload k fits l) (enough payload k fits l);
  once = λ payload k unfit.
      stops payload 0 [] k (unfit_sound page_size payload unfit) (sym (none page_size payload unfit).1)
      ((reads page_size payload).all k (shown_none payload k unfit) ∙ (none page_size payload unfit).0) (shown_none payload k unfit);
}

-- Any step program that the contract is met by: the predicate leaves it no other turn

module _ (step : StepProgram) (right : Right step) (payload : List ℕ) where
  same_turn : (s : Standing) → turn_by step page_size payload s ≡ turn_from page_size payload s
  same_turn s = (right payload s.at s.position).turn

  same_standing : (k : ℕ) → standing_by step page_size payload k ≡ standing page_size payload k
  unfolding standing_by
  same_standing zero = refl
  same_standing (suc k) =
      ap (λ (s : Standing). onward_by step page_size payload s) (same_standing k)
      ∙ ap (λ (t : Turn). record { at = t.at; position = t.position }) (same_turn (standing page_size payload k))

  same_finds : (k : ℕ) → finds_by step page_size payload k ≡ finds page_size payload k
  same_finds k =
      ap (λ (s : Standing). (turn_by step page_size payload s).found) (same_standing k)
      ∙ ap (λ (t : Turn). t.found) (same_turn (standing page_size payload k))

  same_given : (k : ℕ) → given_by step page_size payload k ≡ given page_size payload k
  unfolding given_by
  same_given zero = refl
  same_given (suc k) = λ i. same_given k i ++ entry_of (same_finds k i)

  same_stop : (offset : ℕ) (gave : List Listed) (k : ℕ) → StopsAt turn_at payload offset gave k → StopsAt step payload offset gave k
  same_stop offset gave k s = record {
    given = same_given k ∙ s.given;
    stands = ap (λ (s : Standing). s.at) (same_standing k) ∙ s.stands;
    says = same_finds k ∙ s.says;
  }

pub right_keeps : (step : StepProgram) → Right step → Keeps step
right_keeps step right = record {
  joined = λ payload k h l. same_given step right payload k ∙ reader_keeps.joined payload k h l;
  there = λ payload k fits broken l.
      same_stop step right payload (breaks_at page_size payload) (before payload) k (reader_keeps.there payload k fits broken l);
  once = λ payload k unfit. same_stop step right payload 0 [] k (reader_keeps.once payload k unfit);
}
