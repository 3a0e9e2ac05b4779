-- The laws of Compare's and Apply's definitions: when the pages fit, what the refusals come to, and each call's outcome by its number.
use Prim.Native.Nat.{ℕ, suc, ◌<◌, ◌≤◌}
use Rattle.std.proofs.Common.{arith, sym, ◌∙◌, inl, inr, eq-eqb, ne_eqb, eqb-true, le-leb}
use Rattle.std.specs.Prelude.{◌≡◌, Bool, ◌&&◌, ◌||◌, List, [], ◌∷◌, ◌⊎◌, eqb, ltb}
use Rattle.std.proofs.Math.Path.{refl, ap}
use Rattle.std.proofs.Math.Bool.{true, false, not, cond, and-true, and-false, or-true}
use Rattle.std.proofs.lemmas.Bool.{false≢true, eqb-false, lt-leb}
use Rattle.std.proofs.Math.ListN.{length}
use Rattle.std.proofs.Math.IntN.{pos}
use Rattle.std.proofs.Math.Decide.{dec_lt}
use Rattle.span.specs.Bytes.{zeros, splice}
use Rattle.span.specs.Laws.{zeros_length}
use Rattle.layout.specs.Sizes.{room}
use Rattle.layout.specs.Refusals.{◌⇐◌, first_of, or_else}
use Rattle.layout.specs.RefusalLaws.{decided_done, decided_refused}
use Rattle.layout.specs.Groups.{ordered}
use Rattle.payload.specs.Entries.{payload_stream, sound, offset_with, entries, last, start, applied}
use Rattle.writer.specs.Differences.{diffs, coded}
use Rattle.stream.specs.Calls.{page_of, pages_fit, kind_for, compare_rows, comparison, compare_numbers, compare_buffer, ComparedNumbers}
use Rattle.stream.specs.Calls.{apply_done, apply_refused}
use Rattle.stream.specs.Calls.{apply_rows, apply_numbers, apply_page}

-- Pages

pub fits_other : (P : ℕ) (base page : List ℕ) → (length page ≡ P → ⊥) → pages_fit P base page ≡ false
unfolding pages_fit
fits_other P base page h =
    ap (λ (t : Bool). (eqb (length base) 0 || eqb (length base) P) && t) (ne_eqb (length page) P h)
    ∙ and-false (eqb (length base) 0 || eqb (length base) P)

pub fits_none : (P : ℕ) (base page : List ℕ) → length page ≡ P → length base ≡ 0 → pages_fit P base page ≡ true
unfolding pages_fit
fits_none P base page h k = rw (eq-eqb (length base) 0 k, eq-eqb (length page) P h)

pub fits_some : (P : ℕ) (base page : List ℕ) → length page ≡ P → (length base ≡ 0 → ⊥) → pages_fit P base page ≡ eqb (length base) P
unfolding pages_fit
fits_some P base page h k = rw (ne_eqb (length base) 0 k) (ap (λ (t : Bool). eqb (length base) P && t) (eq-eqb (length page) P h)
    ∙ and-true (eqb (length base) P))

pub pages_fit_is : (P : ℕ) (base page : List ℕ) → (length base ≡ 0) ⊎ (length base ≡ P) → length page ≡ P → pages_fit P base page ≡ true
unfolding pages_fit
pages_fit_is P base page (inl k) h = fits_none P base page h k
pages_fit_is P base page (inr k) h = rw (eq-eqb (length page) P h, eq-eqb (length base) P k, or-true (eqb (length base) 0))

pub page_length : (P : ℕ) (base page : List ℕ) → pages_fit P base page ≡ true → length page ≡ P
unfolding pages_fit
page_length P base page h = go (eqb (length page) P) refl h
  where
    go : (t : Bool) → eqb (length page) P ≡ t → ((eqb (length base) 0 || eqb (length base) P) && t) ≡ true → length page ≡ P
    go true e k = eqb-true (length page) P e
    go false e k = absurd (false≢true (sym (and-false (eqb (length base) 0 || eqb (length base) P)) ∙ k))

pub base_length : (P : ℕ) (base page : List ℕ) → pages_fit P base page ≡ true → (length base ≡ 0 → ⊥) → length base ≡ P
base_length P base page h k = eqb-true (length base) P (sym (fits_some P base page (page_length P base page h) k) ∙ h)

-- a base that was tested for bytes
pub tested_none : (P : ℕ) (base : List ℕ) → eqb (length base) 0 ≡ true → page_of P base ≡ zeros P
unfolding page_of
tested_none P base e = rw e

pub tested_some : (P : ℕ) (base : List ℕ) → eqb (length base) 0 ≡ false → page_of P base ≡ base
unfolding page_of
tested_some P base e = rw e

pub base_none : (P : ℕ) (base : List ℕ) → length base ≡ 0 → page_of P base ≡ zeros P
base_none P base h = tested_none P base (eq-eqb (length base) 0 h)

pub base_some : (P : ℕ) (base : List ℕ) → (length base ≡ 0 → ⊥) → page_of P base ≡ base
base_some P base h = tested_some P base (ne_eqb (length base) 0 h)

-- a base of zeros is its own page
pub zeros_base : (P : ℕ) → page_of P (zeros P) ≡ zeros P
unfolding page_of
zeros_base P = go (eqb (length (zeros P)) 0)
  where
    go : (t : Bool) → cond t (zeros P) (zeros P) ≡ zeros P
    go true = refl
    go false = refl

-- the page that a base stands for has the size
pub present_length : (P : ℕ) (base page : List ℕ) → pages_fit P base page ≡ true → length (page_of P base) ≡ P
present_length P base page h = go (eqb (length base) 0) refl
  where
    go : (t : Bool) → eqb (length base) 0 ≡ t → length (page_of P base) ≡ P
    go true e = ap (λ (l : List ℕ). length l) (tested_none P base e) ∙ zeros_length P
    go false e =
        let d : length base ≡ 0 → ⊥ = eqb-false (length base) 0 e in
        ap (λ (l : List ℕ). length l) (base_some P base d) ∙ base_length P base page h d

-- Apply

module _ (P : ℕ) (base payload page : List ℕ) where
  -- 1, then 7
  pub apply_number : first_of (apply_rows P base payload page) ≡ cond (pages_fit P base page) (cond (sound P payload) 0 7) 1
  unfolding apply_rows ordered first_of or_else
  apply_number = go (pages_fit P base page) (sound P payload)
    where
      go : (f s : Bool) → first_of ((1 ⇐ not f) ∷ (7 ⇐ not s) ∷ []) ≡ cond f (cond s 0 7) 1
      go true true = refl
      go true false = refl
      go false s = refl

  pub apply_done_is : first_of (apply_rows P base payload page) ≡ 0
      → (apply_numbers P base payload page
      ≡ apply_done (entries (payload_stream P payload)) (last start (payload_stream P payload)))
      × (apply_page P base payload page ≡ applied (page_of P base) (payload_stream P payload))
  unfolding apply_numbers apply_page
  apply_done_is e = (
    decided_done _ _ (first_of (apply_rows P base payload page)) e,
    decided_done _ _ (first_of (apply_rows P base payload page))
        e,
  )

  pub apply_not : (m : ℕ) → first_of (apply_rows P base payload page) ≡ suc m
      → (apply_numbers P base payload page ≡ apply_refused (suc m) (offset_with (suc m) P payload)) × (apply_page P base payload page ≡ page)
  unfolding apply_numbers apply_page
  apply_not m e = (
    decided_refused _ _ (first_of (apply_rows P base payload page)) (suc m) e (λ q. omega arith),
    decided_refused _ _ (first_of (apply_rows P base payload page)) (suc m) e (λ q. omega arith),
  )

-- Kinds, by the stream's length

pub kind_none : (n : ℕ) → n ≡ 0 → 0 ≡ kind_for n
unfolding kind_for
kind_none n e = rw (eq-eqb n 0 e)

pub kind_large : (n : ℕ) → room < n → 2 ≡ kind_for n
unfolding kind_for
kind_large n h = rw (ne_eqb n 0 (λ q. omega arith), lt-leb n room h)

pub kind_patch : (n : ℕ) → (n ≡ 0 → ⊥) → n ≤ room → 1 ≡ kind_for n
unfolding kind_for
kind_patch n h k = rw (ne_eqb n 0 h, le-leb n room k)

-- a patch fits
pub patch_fits_at : (n : ℕ) → 1 ≡ kind_for n → n ≤ room
unfolding kind_for
patch_fits_at n e =
    elim (dec_lt room n) [
      | yes h ↦ absurd (omega (arith, e ∙ sym (kind_large n h)))
      | no h ↦ omega arith
    ]

-- Compare

module _ (P : ℕ) (base page buffer : List ℕ) where
  -- 1, then 9
  pub compare_number : first_of (compare_rows P base page buffer) ≡ cond (pages_fit P base page) (cond (ltb (length buffer) room) 9 0) 1
  unfolding compare_rows ordered first_of or_else
  compare_number = go (pages_fit P base page) (ltb (length buffer) room)
    where
      go : (f s : Bool) → first_of ((1 ⇐ not f) ∷ (9 ⇐ s) ∷ []) ≡ cond f (cond s 9 0) 1
      go true true = refl
      go true false = refl
      go false s = refl

  pub compare_done : first_of (compare_rows P base page buffer) ≡ 0
      → compare_numbers P base page buffer ≡ comparison (diffs 0 (page_of P base) page)
  unfolding compare_numbers
  compare_done e = decided_done _ _ (first_of (compare_rows P base page buffer)) e

  pub compare_not : (m : ℕ) → first_of (compare_rows P base page buffer) ≡ suc m
      → (compare_numbers P base page buffer ≡ record { number = suc m; kind = 0; length = 0; entries = 0; last = pos 0 })
      × (compare_buffer P base page buffer ≡ buffer)
  unfolding compare_numbers compare_buffer
  compare_not m e =
      let f : compare_numbers P base page buffer ≡ record { number = suc m; kind = 0; length = 0; entries = 0; last = pos 0 } =
      decided_refused _ _ (first_of (compare_rows P base page buffer)) (suc m) e (λ q. omega arith) in
      (f, ap (λ (x : ComparedNumbers). cond (eqb x.kind 1) (splice buffer 0 (coded 0 (diffs 0 (page_of P base) page))) buffer) f)

  -- by the kind, where nothing is refused
  pub compare_kept : (k : ℕ) → (compare_numbers P base page buffer).kind ≡ k → (k ≡ 1 → ⊥) → compare_buffer P base page buffer ≡ buffer
  unfolding compare_buffer
  compare_kept k e h = ap (λ (t : ℕ). cond (eqb t 1) (splice buffer 0 (coded 0 (diffs 0 (page_of P base) page))) buffer) e
      ∙ rw (ne_eqb k 1 h)

  pub compare_written : (compare_numbers P base page buffer).kind ≡ 1
      → compare_buffer P base page buffer ≡ splice buffer 0 (coded 0 (diffs 0 (page_of P base) page))
  unfolding compare_buffer
  compare_written e = ap (λ (t : ℕ). cond (eqb t 1) (splice buffer 0 (coded 0 (diffs 0 (page_of P base) page))) buffer) e

-- the page that a base stands for stands for itself
pub present_again : (P : ℕ) (base : List ℕ) → page_of P base ≡ page_of P (page_of P base)
present_again P base = go (eqb (length base) 0) refl
  where
    go : (t : Bool) → eqb (length base) 0 ≡ t → page_of P base ≡ page_of P (page_of P base)
    go true e =
        let z : page_of P base ≡ zeros P = tested_none P base e in
        z ∙ sym (zeros_base P) ∙ ap (λ (l : List ℕ). page_of P l) (sym z)
    go false e =
        let s : page_of P base ≡ base = tested_some P base e in
        ap (λ (l : List ℕ). page_of P l) (sym s)
