-- What the opened frame tells of a cut, over plain lists and numbers.
use Prim.Native.Nat.{ℕ, ◌≤◌, ◌<◌}
use native.Mathlib.Omega.{arith}
use mathlib.Core.Path.{◌≡◌, sym, ap, ◌∙◌}
use mathlib.Core.Bool.{Bool, true}
use mathlib.Core.List.{List, []}
use Rattle.std.specs.Prelude.{Ok, Err}
use Rattle.layout.specs.Numbers.{refusal_number}
use Rattle.layout.specs.NumberLaws.{refusal_some}
use Rattle.layout.specs.Refusals.{first_of}
use Rattle.layout.specs.RefusalLaws.{or_none}
use Rattle.layout.specs.declared.Refusal.{Refusal}
use Rattle.store.specs.Frame.{frame_rows}
use Rattle.store.specs.Open.{open_numbers, opened_numbers}
use Rattle.store.specs.OpenLaws.{Opening, nothing_wrong, opened_frame, opened_refused}
use Rattle.store.specs.declared.frame.Frame.{Frame}
use Rattle.cutting.specs.Cut.{cut_done, cut_refused, cut_by}
use Rattle.cutting.specs.CutLaws.{cut_rows_is, cut_number, cut_frame, cut_above, cut_within, told_frame}
use Rattle.cutting.specs.Parts.{told_rows}

module _ (P : ℕ) (fits : Bool) (patch full : List ℕ) (K : ℕ) where
  pub told_refused : (r : Refusal) → opened_numbers (Err r) ≡ open_numbers P true fits patch full
      → cut_by P (told_rows fits) patch full K ≡ cut_refused (refusal_number r) patch full
  told_refused r told =
      cut_frame P (told_rows fits) patch full K (refusal_number r)
      (told_frame P fits patch full ∙ opened_refused P true fits patch full r told) (refusal_some r)

  module _ (f : Frame) (told : opened_numbers (Ok f) ≡ open_numbers P true fits patch full) where
    frame : Opening P true fits patch full f.size f.n f.m
    frame = opened_frame P true fits patch full f told

    none : first_of (frame_rows P [] (told_rows fits) patch full) ≡ 0
    none = told_frame P fits patch full ∙ frame.framed.none

    pub told_above : f.n < K → cut_by P (told_rows fits) patch full K ≡ cut_refused 5 patch full
    told_above h = cut_above P (told_rows fits) patch full K none (omega (arith, frame.blocks))

    pub told_within : K ≤ f.n → cut_by P (told_rows fits) patch full K ≡ cut_done f.size patch full K
    told_within h =
        cut_within P (told_rows fits) patch full K none (omega (arith, frame.blocks))
        ∙ ap (λ (s : ℕ). cut_done s patch full K) (sym frame.own)

  -- a cut that is done had a buffer that is long enough
  pub told_fits : (cut_by P (told_rows fits) patch full K).number ≡ 0 → fits ≡ true
  told_fits z =
      let w = or_none (first_of (frame_rows P [] (told_rows fits) patch full)) _
      (sym (cut_rows_is P (told_rows fits) patch full K) ∙ sym (cut_number P (told_rows fits) patch full K) ∙ z) in
      (nothing_wrong P true fits patch full (sym (told_frame P fits patch full) ∙ w.0)).buffers_fit
