-- The entry reader beside Apply. "Its entries, joined, are those Apply uses; on an unsound payload it stops at that offset."
--
-- `given`, `finds` and `standing` are what a reader gave in its first k steps, what its next one finds, and where it stands (`Walk` of
-- `entry_reader`, whose `held` and `told` tie them to the struct that `entries` makes and `next` moves).
use Rattle.std.specs.Prelude.{ℕ, ◌≤◌, ◌≡◌, refl, Bool, cond, ◌⊎◌, ℤ, Result, Ok}
use native.Mathlib.Omega.{arith}
use Rattle.std.proofs.Math.Path.{sym, ap}
use Rattle.std.proofs.Common.{◌∙◌}
use Rattle.std.proofs.Math.Bool.{true, false}
use mathlib.Core.List.{List}
use Rattle.std.proofs.Math.ListN.{length}
use Rattle.layout.specs.Sizes.{page_size}
use Rattle.layout.specs.Refusals.{first_of}
use Rattle.layout.specs.declared.Refusal.TheVariants.{Payload}
use Rattle.payload.specs.Entries.{payload_stream, sound, breaks_at, entries}
use Rattle.payload.specs.Listing.{Listed, overwritten, listed_count}
use Rattle.entry_reader.specs.Walk.{standing, finds, given, shown, ending}
use Rattle.entry_reader.specs.Reads.{reads, writes, sound_shown}
use Rattle.entry_reader.specs.declared.Found.TheVariants.{End, Stopped}
use Rattle.stream.specs.Calls.{page_of, AppliedNumbers, applied_numbers, apply_rows, Apply}
use Rattle.stream.specs.Laws.{pages_fit_is, apply_number, apply_done_is, apply_not}
use Rattle.payload.specs.declared.Sound.{Sound}
use Rattle.layout.specs.declared.RefusedAt.{RefusedAt}
use Rattle.layout.specs.Numbers.{refused_at}

module _ (base payload page : List ℕ) (answer : Result Sound RefusedAt) (after : List ℕ) (call : Apply page_size base payload page answer after)
    (base_fits : (length base ≡ 0) ⊎ (length base ≡ page_size)) (page_fits : length page ≡ page_size) where
  -- Apply is done: the reader gives as many entries as Apply counts, written over the base they are the page, and then comes the end
  pub record Joined (count k : ℕ) : Type 0 where
    pub counted : length (given page_size payload k) ≡ count
    pub written : overwritten (page_of page_size base) (given page_size payload k) ≡ after
    pub ended : finds page_size payload k ≡ End
    pub stands_at : (standing page_size payload k).at ≡ length payload

  -- Apply gives 7 and an offset: there the reader stops, after any number of steps that is enough for its entries
  pub record StopsThere (at k : ℕ) : Type 0 where
    pub stopped : finds page_size payload k ≡ Stopped at
    pub stands_at : (standing page_size payload k).at ≡ at

  number : (t : Bool) → sound page_size payload ≡ t → first_of (apply_rows page_size base payload page) ≡ cond t 0 7
  number t e = apply_number page_size base payload page ∙ rw (pages_fit_is page_size base page base_fits page_fits, e)

  -- what an answer's number tells of the payload
  told : (t : Bool) → sound page_size payload ≡ t → (applied_numbers answer).number ≡ cond t 0 7
  told true e = ap (λ (x : AppliedNumbers). x.number) (call.numbers ∙ (apply_done_is page_size base payload page (number true e)).0)
  told false e = ap (λ (x : AppliedNumbers). x.number) (call.numbers ∙ (apply_not page_size base payload page 6 (number false e)).0)

  is_sound : (applied_numbers answer).number ≡ 0 → sound page_size payload ≡ true
  is_sound z = go (sound page_size payload) refl
    where
      go : (t : Bool) → sound page_size payload ≡ t → sound page_size payload ≡ true
      go true e = e
      go false e = absurd (omega (arith, z, told false e))

  not_sound : (applied_numbers answer).number ≡ 7 → sound page_size payload ≡ false
  not_sound z = go (sound page_size payload) refl
    where
      go : (t : Bool) → sound page_size payload ≡ t → sound page_size payload ≡ false
      go true e = absurd (omega (arith, z, told true e))
      go false e = e

  pub joined : (count : ℕ) (last : ℤ) → answer ≡ Ok (record { entries = count; last = last }) → (k : ℕ) → count ≤ k → Joined count k
  unfolding ending
  joined count last is k l =
      let s : sound page_size payload ≡ true = is_sound (ap (λ (a : Result Sound RefusedAt). (applied_numbers a).number) is) in
      let d = apply_done_is page_size base payload page (number true s) in
      let c : count ≡ entries (payload_stream page_size payload) = ap (λ (x : AppliedNumbers). x.entries) (sym (ap applied_numbers is)
      ∙ call.numbers ∙ d.0) in
      let m : length (shown page_size payload) ≡ count = ap (λ (xs : List Listed). length xs) (sound_shown page_size payload s)
      ∙ listed_count (payload_stream page_size payload) ∙ sym c in
      let h : length (shown page_size payload) ≤ k = omega arith in
      record {
        counted = ap (λ (xs : List Listed). length xs) ((reads page_size payload).all k h) ∙ m;
        written = writes page_size payload (page_of page_size base) k s h ∙ sym (call.bytes ∙ d.1);
        ended = (reads page_size payload).ends k h ∙ rw s;
        stands_at = (reads page_size payload).at k h ∙ rw s;
      }

  pub stops_there : (at : ℕ) → answer ≡ refused_at Payload at → (k : ℕ) → length (shown page_size payload) ≤ k → StopsThere at k
  unfolding ending
  stops_there at is k h =
      let s : sound page_size payload ≡ false = not_sound (ap (λ (a : Result Sound RefusedAt). (applied_numbers a).number) is) in
      let o : at ≡ breaks_at page_size payload = ap (λ (x : AppliedNumbers). x.offset) (sym (ap applied_numbers is)
      ∙ call.numbers ∙ (apply_not page_size base payload page 6 (number false s)).0) in
      record {
        stopped = (reads page_size payload).ends k h ∙ rw s (ap (λ (x : ℕ). Stopped x) (sym o));
        stands_at = (reads page_size payload).at k h ∙ rw s (sym o);
      }
