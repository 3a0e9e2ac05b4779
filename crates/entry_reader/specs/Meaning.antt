-- What the reader gives, said by the entries that spell the payload and not by reading it: those entries, each value at its position, in
-- order; then the end, or the stop at the offset where the entries break off. An empty or overlong payload gives none, and 0.
use Rattle.std.specs.Prelude.{ℕ, ◌+◌, ◌≤◌, ◌<◌, ◌≡◌, refl, Bool, true, false, cond, ◌⊎◌, ℤ, pos, ◌+ℤ◌}
use Rattle.std.proofs.Common.{arith, sym, ◌∙◌, inl, inr}
use Rattle.std.proofs.Math.Path.{ap}
use mathlib.Core.List.{List, [], ◌∷◌}
use Rattle.std.proofs.Math.ListN.{length}
use Rattle.layout.specs.Sizes.{room}
use Rattle.payload.specs.Entries.{start, sound, breaks_at}
use Rattle.payload.specs.Listing.{Listed}
use Rattle.payload.specs.Spelling.{Spelt, Spelled, Bytes, landed}
use Rattle.payload.specs.Soundness.{spelled_sound, spelled_lists}
use Rattle.payload.specs.Breaking.{Breaks, broken, breaks_lists, unsound_iff}
use Rattle.entry_reader.specs.Turns.{roomy}
use Rattle.entry_reader.specs.TurnLaws.{room_empty, room_long, room_some}
use Rattle.entry_reader.specs.Walk.{standing, finds, given, shown, ending}
use Rattle.entry_reader.specs.FitLaws.{fit_shown, unfit_sound}
use Rattle.entry_reader.specs.Reads.{reads, none}
use Rattle.entry_reader.specs.declared.Found.{Found}
use Rattle.entry_reader.specs.declared.Found.TheVariants.{End, Stopped}

-- after k steps it has given these entries, stands at this offset, and finds this
pub record ReadsTo (n : ℕ) (payload : List ℕ) (k : ℕ) (entries : List Listed) (found : Found) (offset : ℕ) : Type 0 where
  pub gave : given n payload k ≡ entries
  pub then : finds n payload k ≡ found
  pub stands_at : (standing n payload k).at ≡ offset

landed_length : (p : ℤ) (es : List Spelt) → length (landed p es) ≡ length es
landed_length p [] = refl
landed_length p (e ∷ es) = omega (arith, landed_length (p +ℤ pos (e.jump + 1)) es)

module _ (n : ℕ) (payload : List ℕ) where
  -- after all entries that it shows, by whether the payload is sound
  by_end : (t : Bool) (at : ℕ) (es : List Listed) (k : ℕ) → shown n payload ≡ es → sound n payload ≡ t → breaks_at n payload ≡ at → length es ≤ k
      → ReadsTo n payload k es (cond t End (Stopped at)) (cond t (length payload) at)
  unfolding ending
  by_end t at es k e s b l =
      let h : length (shown n payload) ≤ k = omega (arith, ap (λ (xs : List Listed). length xs) e) in
      record {
        gave = (reads n payload).all k h ∙ e;
        then = (reads n payload).ends k h ∙ rw (s, b);
        stands_at = (reads n payload).at k h ∙ rw (s, b);
      }

  module _ (some : 1 ≤ length payload) (few : length payload ≤ room) where
    pub reads_spelled : (w : Spelled n start payload) (k : ℕ) → length w.entries ≤ k
        → ReadsTo n payload k (landed start w.entries) End (length payload)
    reads_spelled w k l =
        by_end true (breaks_at n payload) (landed start w.entries) k
        (fit_shown n payload (room_some payload some few) ∙ spelled_lists n payload w) (spelled_sound n payload some few w) refl
        (omega (arith, landed_length start w.entries))

    pub reads_broken : Bytes payload → (Spelled n start payload → ⊥) → (at : ℕ) (b : Breaks n payload at) (k : ℕ)
        → length b.before.entries ≤ k
        → ReadsTo n payload k (landed start b.before.entries) (Stopped at) at
    reads_broken bytes unspelled at b k l =
        let u = (unsound_iff n payload bytes at).1 (broken some few unspelled b) in
        by_end false at (landed start b.before.entries) k
        (fit_shown n payload (room_some payload some few) ∙ breaks_lists n payload bytes at b) u.0 (sym u.1)
        (omega (arith, landed_length start b.before.entries))

  pub reads_none : (length payload ≡ 0) ⊎ (room < length payload) → (k : ℕ) → ReadsTo n payload k [] (Stopped 0) 0
  reads_none h k =
      let e : roomy payload ≡ false = unfit h in
      by_end false 0 [] k (none n payload e).0 (unfit_sound n payload e) (none n payload e).1 (omega arith)
    where
      unfit : (length payload ≡ 0) ⊎ (room < length payload) → roomy payload ≡ false
      unfit (inl q) = room_empty payload q
      unfit (inr q) = room_long payload q
