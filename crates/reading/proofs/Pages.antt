-- What Apply's answer tells of a patched block, and what copying leaves in a page of its size.
use Prim.Native.Nat.{ℕ, ◌≤◌}
use native.Mathlib.Omega.{arith}
use mathlib.Core.Path.{◌≡◌, refl, sym, ap, ◌∙◌, subst}
use mathlib.Core.Bool.{Bool, true, false}
use mathlib.Core.List.{List}
use lib.ListN.{length, take}
use Rattle.span.specs.Bytes.{splice}
use Rattle.span.specs.Laws.{copied_whole}
use Rattle.layout.specs.Numbers.{refusal_number}
use Rattle.layout.specs.NumberLaws.{refusal_some}
use Rattle.layout.specs.declared.Kind.TheVariants.{Patch}
use Rattle.payload.specs.Entries.{payload_stream, sound, breaks_at, applied}
use Rattle.stream.specs.Calls.{AppliedNumbers}
use Rattle.payload.specs.Steps.{farthest, reach}
use Rattle.stream.specs.Steps.{Applies, application}
use Rattle.std.specs.Prelude.{Result, Ok, Err}
use Rattle.layout.specs.declared.RefusedAt.{RefusedAt}
use Rattle.payload.specs.declared.Sound.{Sound}
use Rattle.reading.specs.Parts.{PatchRead}

-- a page-sized list copied over a page
pub copied_page : (P : ℕ) (page src after : List ℕ) → length page ≡ P → length src ≡ P → after ≡ splice page 0 (take (length page) src) → after ≡ src
copied_page P page src after e f c = c ∙ copied_whole page src (f ∙ sym e)

module _ (base payload page after : List ℕ) (lb : length base ≡ length page) (lp : length page ≤ farthest) where
  own : (r : Result Sound RefusedAt) → Applies (reach (length page)) base payload page r after → Applies (length page) base payload page r after
  own r w =
      let e : reach (length page) ≡ length page = omega arith in
      subst (λ (n : ℕ). Applies n base payload page r after) e w

  pub apply_reads : (x : Sound) → Applies (reach (length page)) base payload page (Ok x) after
      → PatchRead (length page) base payload page (Ok Patch) after
  apply_reads x told = go (sound (length page) payload) refl
    where
      w : Applies (length page) base payload page (Ok x) after
      w = own (Ok x) told

      go : (t : Bool) → sound (length page) payload ≡ t → PatchRead (length page) base payload page (Ok Patch) after
      go true s =
          let b : after ≡ applied (splice page 0 (take (length page) base)) (payload_stream (length page) payload) = w.bytes ∙ rw s refl in
          record { numbers = rw s; bytes = rw s (b ∙ ap (λ (x : List ℕ). applied x (payload_stream (length page) payload)) (copied_whole page base lb)) }
      go false s =
          let z : ◌≡◌ {A = ℕ} 0 7 =
          ap (λ (x : AppliedNumbers). x.number) w.numbers ∙ ap (λ (t : Bool). (application t (length page) payload).number) s in
          absurd (omega arith)

  pub apply_refuses : (x : RefusedAt) → Applies (reach (length page)) base payload page (Err x) after
      → PatchRead (length page) base payload page (Err x) after
  apply_refuses x told = go (sound (length page) payload) refl
    where
      w : Applies (length page) base payload page (Err x) after
      w = own (Err x) told

      number : (t : Bool) → sound (length page) payload ≡ t → refusal_number x.refusal ≡ (application t (length page) payload).number
      number t s = ap (λ (y : AppliedNumbers). y.number) w.numbers ∙ ap (λ (t : Bool). (application t (length page) payload).number) s

      go : (t : Bool) → sound (length page) payload ≡ t → PatchRead (length page) base payload page (Err x) after
      go true s = absurd (refusal_some x.refusal (number true s))
      go false s =
          let at : x.offset ≡ breaks_at (length page) payload =
          ap (λ (y : AppliedNumbers). y.offset) w.numbers ∙ ap (λ (t : Bool). (application t (length page) payload).offset) s in
          let b : after ≡ page = w.bytes ∙ rw s refl in
          record { numbers = rw s (λ i. record { number = number false s i; kind = 0; offset = at i }); bytes = rw s b }
