-- What the answers of the slot's and the payload's checks tell, over plain lists and numbers.
use Prim.Native.Nat.{ℕ}
use mathlib.Core.Path.{◌≡◌, sym, ap, ◌∙◌, subst}
use mathlib.Core.List.{List}
use lib.ListN.{length as length_of}
use lib.IntN.{ℤ}
use Rattle.span.specs.Bytes.{part}
use Rattle.layout.specs.Sizes.{slot_size, payload_at}
use Rattle.slots.specs.Slots.{slot_numbers, sound_slot}
use Rattle.std.specs.Prelude.{Ok, Err}
use Rattle.payload.specs.Entries.{sound}
use Rattle.payload.specs.Steps.{checked_numbers, check_numbers}
use Rattle.payload.specs.StepLaws.{SoundAs, judged}
use Rattle.payload.specs.declared.Sound.{Sound}
use Rattle.payload.specs.declared.Unsound.{Unsound}
use Rattle.info.specs.Info.{info_numbers, refused_info}
use Rattle.info.specs.InfoLaws.{info_broken, info_patch}

module _ (P : ℕ) (bytes payload : List ℕ) (n : ℕ) (l : length_of bytes ≡ slot_size) (e : slot_numbers bytes ≡ sound_slot 1 n)
    (p : payload ≡ part payload_at n bytes) where
  pub broken_told : (u : Unsound) → checked_numbers (Err u) ≡ check_numbers P payload → info_numbers P bytes ≡ refused_info 7
  broken_told u j = info_broken P bytes l n e (sym (ap (λ (x : List ℕ). sound P x) p) ∙ (judged P payload (Err u) j).is)

  pub patch_told : (s : Sound) (last : ℤ) → checked_numbers (Ok s) ≡ check_numbers P payload → last ≡ s.last
      → info_numbers P bytes ≡ record { number = 0; kind = 1; length = n; entries = s.entries; last = last }
  patch_told s last j q =
      let w : SoundAs P (part payload_at n bytes) s.entries s.last =
      subst (λ (x : List ℕ). SoundAs P x s.entries s.last) p (judged P payload (Ok s) j) in
      info_patch P bytes l n e w.is ∙ (λ i. record { number = 0; kind = 1; length = n; entries = sym w.entries i; last = (sym w.last ∙ sym q) i })
