-- What Compare decides, and that Apply gives back what it wrote: "same" iff the pages are equal, "patch" iff the stream takes 1 to 504
-- bytes, "large" otherwise.
use Prim.Native.Nat.{ℕ, suc, ◌+◌, ◌-◌, ◌≤◌, ◌<◌}
use Rattle.std.proofs.Common.{arith, ◌∙◌, eq-eqb, eqb-true, ltb-false}
use Rattle.std.proofs.Math.Decide.{dec_lt}
use Rattle.std.specs.Prelude.{◌≡◌, Bool, false, cond, ◌&&◌, ◌||◌, ◌↔◌, ltb, pos}
use Rattle.std.proofs.Math.Path.{refl, sym, ap}
use Rattle.std.proofs.Math.Bool.{true}
use mathlib.Core.List.{List, [], ◌∷◌, ◌++◌}
use Rattle.std.proofs.Math.Dec.{eqb}
use Rattle.std.proofs.Math.ListN.{length, take}
use Rattle.span.specs.Bytes.{part}
use Rattle.span.specs.Laws.{part_splice}
use Rattle.layout.specs.Sizes.{room}
use Rattle.layout.specs.Numbers.{le}
use Rattle.layout.specs.Refusals.{first_of}
use Rattle.layout.specs.RefusalLaws.{decided_number}
use Rattle.payload.specs.Entries.{start, sound}
use Rattle.writer.specs.Differences.{Change, diffs, spelled, coded, written, last_place}
use Rattle.writer.specs.Writer.{diffs_rising}
use Rattle.writer.specs.LastPlace.{LastDiffers, last_none, last_differs}
use Rattle.stream.specs.Calls.{page_of, pages_fit, kind_for, comparison, compare_rows, compare_numbers, compare_buffer, ComparedNumbers}
use Rattle.stream.specs.Calls.{apply_done}
use Rattle.stream.specs.Calls.{apply_rows, apply_numbers, apply_page}
use Rattle.stream.specs.Laws.{page_length, present_length, kind_none, kind_large, kind_patch, patch_fits_at, compare_number}
use Rattle.stream.specs.Laws.{compare_done, compare_written, apply_number, apply_done_is}
use Rattle.writer.specs.ReadBack.{Back, read_back}

-- By the stream

-- a page has no difference from itself
pub diffs_none : (q : ℕ) (xs : List ℕ) → diffs q xs xs ≡ []
unfolding diffs
diffs_none q [] = refl
diffs_none q (x ∷ xs) =
    ap (λ (t : Bool). elim t as (λ _. List Change) [
      | true ↦ diffs (q + 1) xs xs
      | false ↦ record { place = q; value = x }
          ∷ diffs (q + 1) xs xs
    ]) (eq-eqb x x refl)
    ∙ diffs_none (q + 1) xs

none_same : (q : ℕ) (xs ys : List ℕ) → length xs ≡ length ys → length (diffs q xs ys) ≡ 0 → xs ≡ ys
unfolding diffs
none_same q [] [] e h = refl
none_same q [] (y ∷ ys) e h = absurd (omega arith)
none_same q (x ∷ xs) [] e h = absurd (omega arith)
none_same q (x ∷ xs) (y ∷ ys) e h = go (eqb x y) refl (none_same (q + 1) xs ys (omega arith)) h
  where
    go : (t : Bool) → eqb x y ≡ t → (length (diffs (q + 1) xs ys) ≡ 0 → xs ≡ ys)
        → length {A = Change} (elim t as (λ _. List Change) [
          | true ↦ diffs (q + 1) xs ys
          | false ↦ record { place = q; value = y }
              ∷ diffs (q + 1) xs ys
        ]) ≡ 0
        → x ∷ xs ≡ y ∷ ys
    go true k rest m = λ i. eqb-true x y k i ∷ rest m i
    go false k rest m = absurd (omega arith)

-- an entry takes some bytes, so a stream of none has no entries
coded_none : (ds : List Change) (next : ℕ) → length (coded next ds) ≡ 0 → length ds ≡ 0
unfolding coded spelled le
coded_none [] next h = refl
coded_none (c ∷ cs) next h = go (ltb (c.place - next) 255) h
  where
    go : (t : Bool) → length (cond t ((c.place - next) ∷ c.value ∷ []) (255 ∷ (le 2 (c.place - next) ++ (c.value ∷ [])))
        ++ coded (c.place + 1) cs) ≡ 0
        → suc (length cs) ≡ 0
    go true k = absurd (omega arith)
    go false k = absurd (omega arith)

-- a page equals its base iff its stream is empty
pub same_iff : (base page : List ℕ) → length base ≡ length page → (length (written base page) ≡ 0) ↔ (base ≡ page)
unfolding written coded
same_iff base page e = (
  λ h. none_same 0 base page e (coded_none (diffs 0 base page) 0 h),
  λ h. ap (λ (l : List ℕ). length (coded 0 (diffs 0 l page))) h ∙ ap (λ (ds : List Change). length (coded 0 ds)) (diffs_none 0 page),
)

pub kind_0 : (n : ℕ) → (kind_for n ≡ 0) ↔ (n ≡ 0)
kind_0 n = (
  λ e.
      elim (dec_lt 0 n) [
        | yes h ↦
            elim (dec_lt room n) [
              | yes k ↦ absurd (omega (arith, kind_large n k))
              | no k ↦ absurd (omega (arith, kind_patch n (λ q. omega arith) (omega arith)))
            ]
        | no h ↦ omega arith
      ],
  λ e. sym (kind_none n e),
)

pub kind_1 : (n : ℕ) → (kind_for n ≡ 1) ↔ ((1 ≤ n) × (n ≤ room))
kind_1 n = (
  λ e.
      elim (dec_lt 0 n) [
        | yes h ↦ (omega arith, patch_fits_at n (sym e))
        | no h ↦
            let z : n ≡ 0 = omega arith in
            absurd (omega (arith, kind_none n z))
      ],
  λ h. sym (kind_patch n (λ q. omega arith) h.1),
)

pub kind_2 : (n : ℕ) → (kind_for n ≡ 2) ↔ (room < n)
kind_2 n = (
  λ e.
      elim (dec_lt room n) [
        | yes h ↦ h
        | no h ↦
            elim (dec_lt 0 n) [
              | yes k ↦ absurd (omega (arith, kind_patch n (λ q. omega arith) (omega arith)))
              | no k ↦
                  let z : n ≡ 0 = omega arith in
                  absurd (omega (arith, kind_none n z))
            ]
      ],
  λ h. sym (kind_large n h),
)

-- By the calls: what holds of a Compare that is not refused

module _ (P : ℕ) (base page buffer : List ℕ) where
  -- the number it gives is that of the first refusal
  pub compare_gives : (compare_numbers P base page buffer).number ≡ first_of (compare_rows P base page buffer)
  unfolding compare_numbers comparison
  compare_gives = decided_number (λ (x : ComparedNumbers). x.number) _ _ (first_of (compare_rows P base page buffer)) refl (λ k. refl)

  module _ (h : (compare_numbers P base page buffer).number ≡ 0) where
    accepted : first_of (compare_rows P base page buffer) ≡ 0
    accepted = sym compare_gives ∙ h

    pub accepted_fits : pages_fit P base page ≡ true
    accepted_fits = go (pages_fit P base page) refl
      where
        go : (t : Bool) → pages_fit P base page ≡ t → t ≡ true
        go true e = refl
        go false e = absurd (omega (
          arith,
          sym accepted ∙ compare_number P base page buffer
              ∙ ap (λ (t : Bool). cond t (cond (ltb (length buffer) room) 9 0) 1) e,
        ))

    pub accepted_room : room ≤ length buffer
    accepted_room = go (ltb (length buffer) room) refl
      where
        go : (t : Bool) → ltb (length buffer) room ≡ t → room ≤ length buffer
        go true e =
            absurd
            (omega (
              arith,
              sym accepted
                  ∙ compare_number P base page buffer
                  ∙ ap (λ (t : Bool). cond t (cond (ltb (length buffer) room) 9 0) 1) accepted_fits
                  ∙ ap (λ (t : Bool). cond t 9 0) e,
            ))
        go false e = ltb-false (length buffer) room e

    numbers : compare_numbers P base page buffer ≡ comparison (diffs 0 (page_of P base) page)
    numbers = compare_done P base page buffer accepted

    pub base_is : length (page_of P base) ≡ length page
    base_is = present_length P base page accepted_fits ∙ sym (page_length P base page accepted_fits)

    -- the numbers are the whole stream's, for large too
    pub compare_length : (compare_numbers P base page buffer).length ≡ length (written (page_of P base) page)
    unfolding comparison written
    compare_length = ap (λ (x : ComparedNumbers). x.length) numbers

    pub compare_kind : (compare_numbers P base page buffer).kind ≡ kind_for (length (written (page_of P base) page))
    unfolding comparison written
    compare_kind = ap (λ (x : ComparedNumbers). x.kind) numbers

    pub compare_same : ((compare_numbers P base page buffer).kind ≡ 0) ↔ (page_of P base ≡ page)
    compare_same =
        let s : (length (written (page_of P base) page) ≡ 0) ↔ (page_of P base ≡ page) = same_iff (page_of P base) page base_is in
        let k : (kind_for (length (written (page_of P base) page)) ≡ 0) ↔ (length (written (page_of P base) page) ≡ 0) = kind_0
        (length (written (page_of P base) page)) in
        (λ e. s.0 (k.0 (sym compare_kind ∙ e)), λ e. compare_kind ∙ k.1 (s.1 e))

    -- the last differing position, and −1 just where the pages are equal
    compare_last : (compare_numbers P base page buffer).last ≡ last_place start (diffs 0 (page_of P base) page)
    unfolding comparison
    compare_last = ap (λ (x : ComparedNumbers). x.last) numbers

    pub compare_last_at : (i : ℕ) → ((compare_numbers P base page buffer).last ≡ pos i) ↔ LastDiffers (page_of P base) page i
    compare_last_at i =
        let d : (last_place start (diffs 0 (page_of P base) page) ≡ pos i) ↔ LastDiffers (page_of P base) page i =
        last_differs (page_of P base) page base_is i in
        (λ e. d.0 (sym compare_last ∙ e), λ w. compare_last ∙ d.1 w)

    pub compare_last_none : ((compare_numbers P base page buffer).last ≡ start) ↔ (page_of P base ≡ page)
    compare_last_none =
        let d : (last_place start (diffs 0 (page_of P base) page) ≡ start) ↔ (diffs 0 (page_of P base) page ≡ []) =
        last_none 0 (diffs 0 (page_of P base) page) (diffs_rising 0 (page_of P base) page) in (
          λ e. none_same 0 (page_of P base) page base_is (ap (λ (ds : List Change). length ds) (d.0 (sym compare_last ∙ e))),
          λ e. compare_last ∙ d.1 (ap (λ (l : List ℕ). diffs 0 l page) e ∙ diffs_none 0 page),
        )

    pub compare_patch : ((compare_numbers P base page buffer).kind ≡ 1)
        ↔ ((1 ≤ length (written (page_of P base) page)) × (length (written (page_of P base) page) ≤ room))
    compare_patch =
        let k = kind_1 (length (written (page_of P base) page)) in
        (λ e. k.0 (sym compare_kind ∙ e), λ e. compare_kind ∙ k.1 e)

    pub compare_large : ((compare_numbers P base page buffer).kind ≡ 2) ↔ (room < length (written (page_of P base) page))
    compare_large =
        let k = kind_2 (length (written (page_of P base) page)) in
        (λ e. k.0 (sym compare_kind ∙ e), λ e. compare_kind ∙ k.1 e)

    -- the first `length` bytes of the buffer are the stream
    pub compare_payload : (compare_numbers P base page buffer).kind ≡ 1
        → take (compare_numbers P base page buffer).length (compare_buffer P base page buffer) ≡ written (page_of P base) page
    unfolding written part
    compare_payload k =
        ap (λ (x : List ℕ). take (compare_numbers P base page buffer).length x) (compare_written P base page buffer k)
        ∙ part_splice buffer 0 (written (page_of P base) page) (compare_numbers P base page buffer).length (sym compare_length)
        (omega (arith, compare_length, accepted_room, (compare_patch.0 k).1))

    -- Applying what Compare wrote to the same base gives the page, with Compare's own numbers.
    pub compare_apply : P ≤ 65536 → (compare_numbers P base page buffer).kind ≡ 1 → (lent : List ℕ) → length lent ≡ P
        → (apply_numbers P base (take (compare_numbers P base page buffer).length (compare_buffer P base page buffer)) lent
        ≡ apply_done (compare_numbers P base page buffer).entries (compare_numbers P base page buffer).last)
        × (apply_page P base (take (compare_numbers P base page buffer).length (compare_buffer P base page buffer)) lent ≡ page)
    unfolding comparison written pages_fit
    compare_apply small k lent l =
        let w : List ℕ = written (page_of P base) page in
        let p : length page ≡ P = page_length P base page accepted_fits in
        let n : (1 ≤ length w) × (length w ≤ room) = compare_patch.0 k in
        let b : Back P (page_of P base) page = read_back P (page_of P base) page small (base_is ∙ p) p in
        let s : sound P w ≡ true = b.is_sound n.0 n.1 in
        let t : take (compare_numbers P base page buffer).length (compare_buffer P base page buffer) ≡ w = compare_payload k in
        let f : pages_fit P base lent ≡ true = fits_like lent l p in
        let a : first_of (apply_rows P base w lent) ≡ 0 = apply_number P base w lent ∙ rw (f, s) in
        let d = apply_done_is P base w lent a in (
          ap (λ (x : List ℕ). apply_numbers P base x lent) t
              ∙ d.0
              ∙ (λ i. apply_done ((b.entries ∙ sym (ap (λ (x : ComparedNumbers). x.entries) numbers)) i)
              ((b.last ∙ sym (ap (λ (x : ComparedNumbers). x.last) numbers)) i)),
          ap (λ (x : List ℕ). apply_page P base x lent) t ∙ d.1 ∙ b.page,
        )
      where
        fits_like : (lent : List ℕ) → length lent ≡ P → length page ≡ P → pages_fit P base lent ≡ true
        fits_like lent l p =
            ap (λ (k : ℕ). (eqb (length base) 0 || eqb (length base) P) && eqb k P) (l ∙ sym p) ∙ accepted_fits
