-- What a reader gives from a payload's beginning to its end: the entries that Apply uses, in order, then the end or the stop, and the
-- same again at every further step.
use Rattle.std.specs.Prelude.{ℕ, zero, suc, ◌≤◌, ◌<◌, ◌≡◌, refl, Bool, true, false, cond, List, [], length, take, get_or}
use Rattle.std.proofs.Common.{arith, sym, ap, ◌∙◌, subst, true≢false, take_all}
use Rattle.std.proofs.Math.Seq.{take-nil}
use Rattle.std.specs.Borrow.{Bor}
use Rattle.layout.specs.Sizes.{page_size}
use Rattle.payload.specs.Entries.{payload_stream, sound, breaks_at, applied}
use Rattle.payload.specs.Steps.{reach}
use Rattle.payload.specs.Listing.{Listed, listed, overwritten, listed_page}
use Rattle.entry_reader.specs.Turns.{roomy}
use Rattle.entry_reader.specs.Reader.{opened, turned, moved}
use Rattle.entry_reader.specs.Walk.{Standing, standing_by, standing, finds, given, shown, ending, moved_times}
use Rattle.entry_reader.specs.FitLaws.{fit_shown, unfit_shown, unfit_sound, unfit_breaks, stays_there, stops_there, gives_none}
use Rattle.entry_reader.specs.WalkLaws.{gone, fit_each, fit_ends}
use Rattle.entry_reader.specs.declared.EntryReader.{EntryReader}
use Rattle.entry_reader.specs.declared.Found.TheVariants.{Entry}

pub record Reads (n : ℕ) (payload : List ℕ) : Type 0 where
  -- "Its entries, joined, are those Apply uses", as far as it has gone
  pub entries : (k : ℕ) → given n payload k ≡ take k (shown n payload)
  -- each of them at its own step
  pub each : (d : Listed) (k : ℕ) → k < length (shown n payload)
      → finds n payload k ≡ Entry (get_or (shown n payload) k d).position (get_or (shown n payload) k d).value
  -- all of them, once it has made as many steps
  pub all : (k : ℕ) → length (shown n payload) ≤ k → given n payload k ≡ shown n payload
  -- then the end or the stop, and the same again at every further step
  pub ends : (k : ℕ) → length (shown n payload) ≤ k → finds n payload k ≡ ending n payload
  -- where it stands: at the payload's end, or where the payload breaks
  pub at : (k : ℕ) → length (shown n payload) ≤ k
      → (standing n payload k).at ≡ cond (sound n payload) (length payload) (breaks_at n payload)

-- a payload of 1 to 504 bytes
module _ (n : ℕ) (payload : List ℕ) (fits : roomy payload ≡ true) where
  few : (k : ℕ) → length (shown n payload) ≤ k → length (listed (payload_stream n payload)) ≤ k
  few k h = subst (λ (xs : List Listed). length xs ≤ k) (fit_shown n payload fits) h

  reads_fit : Reads n payload
  reads_fit =
      let is : shown n payload ≡ listed (payload_stream n payload) = fit_shown n payload fits in
      record {
        entries = λ k. rw is (gone n payload fits k).front;
        each = λ d k h. rw is (fit_each n payload fits k d (subst (λ (xs : List Listed). k < length xs) is h));
        all = λ k h. rw is ((gone n payload fits k).front ∙ take_all k (listed (payload_stream n payload)) (few k h));
        ends = λ k h. (fit_ends n payload fits k (few k h)).0;
        at = λ k h. (fit_ends n payload fits k (few k h)).1;
      }

-- an empty or overlong payload gives no entry, and the reader stands at 0
pub none : (n : ℕ) (payload : List ℕ) → roomy payload ≡ false → (shown n payload ≡ []) × (breaks_at n payload ≡ 0)
none n payload e = (unfit_shown n payload e, unfit_breaks n payload e)

reads_unfit : (n : ℕ) (payload : List ℕ) → roomy payload ≡ false → Reads n payload
unfolding ending
reads_unfit n payload u = record {
  entries = λ k. rw (unfit_shown n payload u) (gives_none n payload u k ∙ sym (take-nil k));
  each = λ d k h. let l : length (shown n payload) ≡ 0 = ap length (unfit_shown n payload u) in absurd (omega arith);
  all = λ k h. rw (unfit_shown n payload u) (gives_none n payload u k);
  ends = λ k h. rw (unfit_sound n payload u, unfit_breaks n payload u) (stops_there n payload u k);
  at = λ k h. rw (unfit_sound n payload u, unfit_breaks n payload u) (ap (λ (s : Standing). s.at) (stays_there n payload u k));
}

pub reads : (n : ℕ) (payload : List ℕ) → Reads n payload
reads n payload = go (roomy payload) refl
  where
    go : (t : Bool) → roomy payload ≡ t → Reads n payload
    go true e = reads_fit n payload e
    go false e = reads_unfit n payload e

-- a sound payload shows the entries that Apply uses
pub sound_shown : (n : ℕ) (payload : List ℕ) → sound n payload ≡ true → shown n payload ≡ listed (payload_stream n payload)
sound_shown n payload h = go (roomy payload) refl
  where
    go : (t : Bool) → roomy payload ≡ t → shown n payload ≡ listed (payload_stream n payload)
    go true e = fit_shown n payload e
    go false e = absurd (true≢false (sym h ∙ unfit_sound n payload e))

-- "Its entries, joined, are those Apply uses": written over a page, the entries of a sound payload give what Apply gives there
pub writes : (n : ℕ) (payload page : List ℕ) (k : ℕ) → sound n payload ≡ true → length (shown n payload) ≤ k
    → overwritten page (given n payload k) ≡ applied page (payload_stream n payload)
writes n payload page k h l =
    ap (λ (xs : List Listed). overwritten page xs) ((reads n payload).all k l ∙ sound_shown n payload h)
    ∙ listed_page (payload_stream n payload) page

-- The theorems are about the reader's own steps: a reader that `entries` made and `next` moved k times stands there,
pub held : (payload : Bor (List ℕ)) (k : ℕ)
    → moved_times k (opened payload)
    ≡ record {
      payload = payload;
      size = page_size;
      at = (standing (reach page_size) payload.now k).at;
      position = (standing (reach page_size) payload.now k).position;
    }
unfolding standing_by
held payload zero = refl
held payload (suc k) = ap (λ (r : EntryReader). moved r) (held payload k)

-- and what `next` then gives is what step k finds.
pub told : (payload : Bor (List ℕ)) (k : ℕ) → (turned (moved_times k (opened payload))).found ≡ finds (reach page_size) payload.now k
told payload k = ap (λ (r : EntryReader). (turned r).found) (held payload k)
