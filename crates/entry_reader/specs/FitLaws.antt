-- What a reader gives by the payload's length: of 1 to 504 bytes what the stream says, of none or too many nothing.
use Prim.Native.Nat.{ℕ, zero, suc}
use Rattle.std.proofs.Common.{arith, sym, ◌∙◌, true≢false, le-leb}
use Rattle.std.specs.Prelude.{◌≡◌, Bool, ◌&&◌, List, [], ◌∷◌, ◌++◌, leb, length}
use Rattle.std.proofs.Math.Path.{refl, ap}
use Rattle.std.proofs.Math.Bool.{true, false, cond}
use Rattle.std.proofs.lemmas.Bool.{false≢true}
use Rattle.layout.specs.Sizes.{room}
use Rattle.payload.specs.Entries.{stream, start, payload_stream, whole, used, sound, breaks_at}
use Rattle.payload.specs.Listing.{listed}
use Rattle.entry_reader.specs.Turns.{roomy}
use Rattle.entry_reader.specs.TurnLaws.{turn_unfit}
use Rattle.entry_reader.specs.Walk.{Standing, standing_by, given_by, turn_from, onward, standing, finds, entry_of, given, shown, ending}
use Rattle.payload.specs.RestLaws.{whole_used}
use Rattle.entry_reader.specs.declared.Found.TheVariants.{End, Stopped}
use Rattle.entry_reader.specs.declared.Turn.{Turn}

-- A payload of 1 to 504 bytes

module _ (n : ℕ) (payload : List ℕ) (fits : roomy payload ≡ true) where
  pub fit_shown : shown n payload ≡ listed (payload_stream n payload)
  unfolding shown
  fit_shown = rw fits

  fit_sound : sound n payload ≡ whole (payload_stream n payload)
  unfolding sound roomy
  fit_sound = go (leb 1 (length payload)) (leb (length payload) room) fits
    where
      go : (a b : Bool) → (a && b) ≡ true → (a && b && whole (payload_stream n payload)) ≡ whole (payload_stream n payload)
      go true true e = refl
      go true false e = absurd (false≢true e)
      go false b e = absurd (false≢true e)

  fit_breaks : breaks_at n payload ≡ used (payload_stream n payload)
  unfolding breaks_at roomy
  fit_breaks = go (leb 1 (length payload)) (leb (length payload) room) fits
    where
      go : (a b : Bool) → (a && b) ≡ true → cond b (used (payload_stream n payload)) 0 ≡ used (payload_stream n payload)
      go true true e = refl
      go true false e = absurd (false≢true e)
      go false b e = absurd (false≢true e)

  pub ends_whole : whole (payload_stream n payload) ≡ true → ending n payload ≡ End
  unfolding ending
  ends_whole e = rw (fit_sound, e)

  pub ends_broken : (at : ℕ) → whole (payload_stream n payload) ≡ false → at ≡ used (payload_stream n payload) → ending n payload ≡ Stopped at
  unfolding ending
  ends_broken at e h = rw (fit_sound, e, fit_breaks) (ap (λ (x : ℕ). Stopped x) (sym h))

  pub at_whole : (at : ℕ) → whole (payload_stream n payload) ≡ true → at ≡ used (payload_stream n payload)
      → at ≡ cond (sound n payload) (length payload) (breaks_at n payload)
  at_whole at e h = rw (fit_sound, e) (h ∙ whole_used n start payload e)

  pub at_broken : (at : ℕ) → whole (payload_stream n payload) ≡ false → at ≡ used (payload_stream n payload)
      → at ≡ cond (sound n payload) (length payload) (breaks_at n payload)
  at_broken at e h = rw (fit_sound, e, fit_breaks) h

-- An empty or overlong payload

module _ (n : ℕ) (payload : List ℕ) (unfit : roomy payload ≡ false) where
  pub unfit_shown : shown n payload ≡ []
  unfolding shown
  unfit_shown = rw unfit

  pub unfit_sound : sound n payload ≡ false
  unfolding sound roomy
  unfit_sound = go (leb 1 (length payload)) (leb (length payload) room) unfit
    where
      go : (a b : Bool) → (a && b) ≡ false → (a && b && whole (payload_stream n payload)) ≡ false
      go true true e = absurd (true≢false e)
      go true false e = refl
      go false b e = refl

  pub stays_there : (k : ℕ) → standing n payload k ≡ record { at = 0; position = start }
  unfolding standing_by
  stays_there zero = refl
  stays_there (suc k) =
      ap (λ (s : Standing). onward n payload s) (stays_there k)
      ∙ ap (λ (t : Turn). record { at = t.at; position = t.position }) (turn_unfit n payload 0 start unfit)

  pub stops_there : (k : ℕ) → finds n payload k ≡ Stopped 0
  stops_there k =
      ap (λ (s : Standing). (turn_from n payload s).found) (stays_there k)
      ∙ ap (λ (t : Turn). t.found) (turn_unfit n payload 0 start unfit)

  pub gives_none : (k : ℕ) → given n payload k ≡ []
  unfolding given_by
  gives_none zero = refl
  gives_none (suc k) = λ i. gives_none k i ++ entry_of (stops_there k i)

pub unfit_breaks : (n : ℕ) (payload : List ℕ) → roomy payload ≡ false → breaks_at n payload ≡ 0
unfolding breaks_at roomy used stream
unfit_breaks n [] e = refl
unfit_breaks n (b ∷ bs) e =
    let f : leb (length (b ∷ bs)) room ≡ false = rw (le-leb 1 (length (b ∷ bs)) (omega arith)) at e in
    rw f
