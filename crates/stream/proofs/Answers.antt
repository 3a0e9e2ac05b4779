-- The answers of Compare and Apply, from what their pieces give, over plain lists.
use Prim.Native.Nat.{ℕ, ◌≤◌, ◌<◌}
use native.Mathlib.Omega.{arith}
use mathlib.Core.Path.{◌≡◌, refl, sym, ap, ◌∙◌, subst}
use mathlib.Core.Bool.{Bool, true, false, cond}
use mathlib.Core.List.{List}
use lib.Dec.{eqb}
use lib.ListN.{length, take, length-take}
use lib.Seq.{take_all}
use lib.IntN.{ℤ}
use borrow.Author.Tests.{ne_eqb, lt-ltb, le-ltb}
use Rattle.span.specs.Bytes.{splice, part}
use Rattle.span.specs.Laws.{splice_length, copied_whole, part_splice}
use Rattle.layout.specs.Sizes.{room}
use Rattle.layout.specs.Refusals.{first_of}
use Rattle.layout.specs.Numbers.{kind_number}
use Rattle.layout.specs.declared.Kind.{Kind}
use Rattle.layout.specs.declared.Refusal.TheVariants.{Page, Payload, Buffer}
use Rattle.payload.specs.Entries.{payload_stream, sound, applied}
use Rattle.writer.specs.Differences.{diffs, coded, written}
use Rattle.payload.specs.Steps.{farthest, reach}
use Rattle.payload.specs.StepLaws.{SoundAs, UnsoundAt}
use Rattle.writer.specs.Steps.{near, Differs}
use Rattle.stream.specs.Steps.{Applies, application, Compares}
use Rattle.stream.specs.Calls.{page_of, pages_fit, apply_rows, Apply, applied_numbers, kind_for, compare_rows, comparison, compare_numbers, compare_buffer}
use Rattle.stream.specs.Calls.{apply_done, apply_refused}
use Rattle.stream.specs.Calls.{ComparedNumbers, compared_numbers, Compare}
use Rattle.stream.specs.Laws.{patch_fits_at, page_length, apply_number, apply_done_is, apply_not, compare_number, compare_done, compare_not}
use Rattle.writer.specs.StepLaws.{differs_near}
use Rattle.writer.specs.declared.Difference.{Difference}
use Rattle.stream.specs.declared.Compared.{Compared}
use Rattle.std.specs.Prelude.{Result, Ok, Err}
use Rattle.layout.specs.Numbers.{refused_at}
use Rattle.layout.specs.declared.RefusedAt.{RefusedAt}
use Rattle.payload.specs.declared.Sound.{Sound}

-- Apply

pub applies_unsound : (n : ℕ) (base payload page : List ℕ) (offset : ℕ) → UnsoundAt n payload offset
    → Applies n base payload page (refused_at Payload offset) page
applies_unsound n base payload page offset u = record { numbers = rw u.is (ap (λ (o : ℕ). apply_refused 7 o) u.at); bytes = rw u.is }

pub applies_sound : (base payload page copied after : List ℕ) (s : Sound)
    → SoundAs (reach (length page)) payload s.entries s.last
    → copied ≡ splice page 0 (take (length page) base)
    → after ≡ applied copied (payload_stream (reach (length copied)) payload)
    → Applies (reach (length page)) base payload page (Ok s) after
applies_sound base payload page copied after s k f g =
    let c : List ℕ = splice page 0 (take (length page) base) in
    let q : length c ≡ length page = splice_length page 0 (take (length page) base) (simp length-take (omega arith)) in
    let g' : after ≡ applied c (payload_stream (reach (length page)) payload) =
    g ∙ ap (λ (x : List ℕ). applied x (payload_stream (reach (length x)) payload)) f ∙ ap (λ (x : ℕ). applied c (payload_stream (reach x) payload)) q in
    let z : applied_numbers (Ok s) ≡ application true (reach (length page)) payload = λ i. apply_done (k.entries i) (k.last i) in
    record { numbers = rw k.is z; bytes = rw k.is g' }

pub apply_refused_is : (P : ℕ) (base payload page : List ℕ) → pages_fit P base page ≡ false → Apply P base payload page (refused_at Page 0) page
apply_refused_is P base payload page h =
    let e : first_of (apply_rows P base payload page) ≡ 1 = apply_number P base payload page ∙ rw h in
    let d = apply_not P base payload page 0 e in
    record { numbers = sym d.0; bytes = sym d.1 }

-- over the page that the base stands for
pub apply_over : (P : ℕ) (base present payload page after : List ℕ) (answer : Result Sound RefusedAt) → pages_fit P base page ≡ true → P ≤ 65536
    → length present ≡ length page → page_of P base ≡ present
    → Applies (reach (length page)) present payload page answer after → Apply P base payload page answer after
apply_over P base present payload page after answer h k there e a =
    let n : reach (length page) ≡ P = omega (arith, page_length P base page h) in
    let b : Applies P present payload page answer after = subst (λ (x : ℕ). Applies x present payload page answer after) n a in
    go (sound P payload) refl b
  where
    number : first_of (apply_rows P base payload page) ≡ cond (sound P payload) 0 7
    number = apply_number P base payload page ∙ rw h

    go : (t : Bool) → sound P payload ≡ t → Applies P present payload page answer after → Apply P base payload page answer after
    go true s b =
        let d = apply_done_is P base payload page (number ∙ rw s) in
        record {
          numbers = b.numbers ∙ ap (λ (t : Bool). application t P payload) s ∙ sym d.0;
          bytes =
              b.bytes
              ∙ ap (λ (t : Bool). cond t (applied (splice page 0 (take (length page) present)) (payload_stream P payload)) page) s
              ∙ ap (λ (l : List ℕ). applied l (payload_stream P payload)) (copied_whole page present there ∙ sym e)
              ∙ sym d.1;
        }
    go false s b =
        let d = apply_not P base payload page 6 (number ∙ rw s) in
        record {
          numbers = b.numbers ∙ ap (λ (t : Bool). application t P payload) s ∙ sym d.0;
          bytes = b.bytes ∙ ap (λ (t : Bool). cond t (applied (splice page 0 (take (length page) present)) (payload_stream P payload)) page) s ∙ sym d.1;
        }

-- Compare

module _ (base page room₀ room₁ buffer : List ℕ) (d : Difference) (k : Kind) (l : ℤ) (e : l ≡ d.last) (h : length page ≤ farthest)
    (w : Differs base (near page) room₀ d room₁) (q : kind_number k ≡ kind_for d.length) where
  abbrev pub found : Compared
  found = record { kind = k; length = d.length; entries = d.entries; last = l }

  w' : Differs base page room₀ d room₁
  w' = differs_near base page room₀ room₁ d h w

  done_numbers : compared_numbers (Ok found) ≡ comparison (diffs 0 base page)
  unfolding comparison written
  done_numbers = λ i. record {
    number = 0;
    kind = (q ∙ ap kind_for w'.numbers.length) i;
    length = w'.numbers.length i;
    entries = w'.numbers.entries i;
    last = (e ∙ w'.numbers.last) i;
  }

  done_kind : kind_for (length (written base page)) ≡ kind_number k
  done_kind = sym (q ∙ ap kind_for w'.numbers.length)

  -- same or large: the buffer stays
  pub compares_kept : (kind_number k ≡ 1 → ⊥) → Compares base page buffer found buffer
  compares_kept n = record {
    numbers = done_numbers;
    bytes =
        sym
        (ap (λ (t : ℕ). cond (eqb t 1) (splice buffer 0 (written base page)) buffer) done_kind
        ∙ ap (λ (t : Bool). cond t (splice buffer 0 (written base page)) buffer) (ne_eqb (kind_number k) 1 n));
  }

  -- patch: the stream is in the room, and goes to the buffer
  pub compares_patch : (after : List ℕ) → length room₀ ≡ room → room ≤ length buffer → kind_number k ≡ 1
      → after ≡ splice buffer 0 (take (length buffer) (part 0 d.length room₁))
      → Compares base page buffer found after
  compares_patch after r b o f =
      let n : d.length ≤ room = patch_fits_at d.length (sym o ∙ q) in
      let m : d.length ≡ length (written base page) = w'.numbers.length in
      let t : take (length room₀) (written base page) ≡ written base page = take_all (length room₀) (written base page) (omega arith) in
      let g : part 0 d.length room₁ ≡ written base page =
      ap (λ (x : List ℕ). part 0 d.length x) (w'.bytes ∙ ap (λ (x : List ℕ). splice room₀ 0 x) t)
      ∙ part_splice room₀ 0 (written base page) d.length (sym m) (omega arith) in
      let u : take (length buffer) (written base page) ≡ written base page = take_all (length buffer) (written base page) (omega arith) in
      record {
        numbers = done_numbers;
        bytes =
            f
            ∙ ap (λ (x : List ℕ). splice buffer 0 (take (length buffer) x)) g
            ∙ ap (λ (x : List ℕ). splice buffer 0 x) u
            ∙ sym (ap (λ (t : ℕ). cond (eqb t 1) (splice buffer 0 (written base page)) buffer) (done_kind ∙ o));
      }

pub compare_refused_page : (P : ℕ) (base page buffer : List ℕ) → pages_fit P base page ≡ false → Compare P base page buffer (Err Page) buffer
compare_refused_page P base page buffer h =
    let e : first_of (compare_rows P base page buffer) ≡ 1 = compare_number P base page buffer ∙ rw h in
    let d = compare_not P base page buffer 0 e in
    record { numbers = sym d.0; bytes = sym d.1 }

pub compare_refused_buffer : (P : ℕ) (base page buffer : List ℕ) → pages_fit P base page ≡ true → length buffer < room
    → Compare P base page buffer (Err Buffer) buffer
compare_refused_buffer P base page buffer h k =
    let e : first_of (compare_rows P base page buffer) ≡ 9 = compare_number P base page buffer ∙ rw (h, lt-ltb (length buffer) room k) in
    let d = compare_not P base page buffer 8 e in
    record { numbers = sym d.0; bytes = sym d.1 }

-- with the page that the base stands for
pub compare_with : (P : ℕ) (base present page buffer after : List ℕ) (answer : Compared) → pages_fit P base page ≡ true → room ≤ length buffer
    → page_of P base ≡ present
    → Compares present page buffer answer after → Compare P base page buffer (Ok answer) after
unfolding compare_buffer comparison written
compare_with P base present page buffer after answer h k e a =
    let f : first_of (compare_rows P base page buffer) ≡ 0 = compare_number P base page buffer ∙ rw (h, le-ltb (length buffer) room k) in
    let g : compare_numbers P base page buffer ≡ comparison (diffs 0 present page) =
    compare_done P base page buffer f ∙ ap (λ (x : List ℕ). comparison (diffs 0 x page)) e in
    record {
      numbers = a.numbers ∙ sym g;
      bytes =
          a.bytes
          ∙ sym
          (ap (λ (x : ComparedNumbers). cond (eqb x.kind 1) (splice buffer 0 (coded 0 (diffs 0 (page_of P base) page))) buffer) g
          ∙ ap (λ (x : List ℕ). cond (eqb (kind_for (length (written present page))) 1) (splice buffer 0 (coded 0 (diffs 0 x page))) buffer) e);
    }
