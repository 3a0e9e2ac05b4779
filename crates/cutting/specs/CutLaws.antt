-- The laws of Cut: its outcome by what is wrong first, and what it comes to with a map.
use Rattle.std.specs.Prelude.{ℕ, ◌-◌, ◌≤◌, ◌<◌, ◌≡◌, Bool, true, leb, ltb, length}
use Rattle.std.proofs.Common.{arith, ◌∙◌, le-ltb, lt-ltb}
use Rattle.std.proofs.Math.Path.{refl, sym, ap}
use Rattle.std.proofs.Math.Bool.{not}
use mathlib.Core.List.{List, [], ◌∷◌}
use Rattle.layout.specs.Refusals.{Row, ◌⇐◌, first_of, or_else}
use Rattle.layout.specs.RefusalLaws.{first_hit, first_skip, or_skip, or_some, decided_done, decided_refused, decided_number}
use Rattle.layout.specs.Groups.{ordered}
use Rattle.layout.specs.GroupLaws.{in_halves}
use Rattle.layout.specs.Lengths.{blocks_in, length_rows}
use Rattle.blockmap.specs.Pairs.{map_bytes}
use Rattle.blockmap.specs.Pack.{clear_pairs}
use Rattle.blockmap.specs.Calls.{short_map}
use Rattle.blockmap.specs.CallLaws.{not_fits}
use Rattle.store.specs.Frame.{frame_rows}
use Rattle.store.specs.Open.{open_rows}
use Rattle.cutting.specs.Cut.{cut_rows, CutOutcome, cut_done, cut_refused, cut_by}
use Rattle.cutting.specs.Mapped.{cut_mapped_rows, cut_mapped_outcome}
use Rattle.cutting.specs.Parts.{told_rows}

module _ (P : ℕ) (buffers : List Row) (patch full : List ℕ) (K : ℕ) where
  above : List Row
  above = (5 ⇐ ltb (blocks_in (length patch)) K) ∷ []

  pub cut_rows_is : first_of (cut_rows P buffers patch full K)
      ≡ or_else (first_of (frame_rows P [] buffers patch full)) (first_of ((5 ⇐ ltb (blocks_in (length patch)) K) ∷ []))
  unfolding cut_rows frame_rows
  cut_rows_is = in_halves _

  pub cut_number : (cut_by P buffers patch full K).number ≡ first_of (cut_rows P buffers patch full K)
  unfolding cut_by
  cut_number = decided_number (λ (o : CutOutcome). o.number) _ _ (first_of (cut_rows P buffers patch full K)) refl (λ k. refl)

  -- the outcome by its number
  pub cut_done_is : (cut_by P buffers patch full K).number ≡ 0 → cut_by P buffers patch full K ≡ cut_done P patch full K
  unfolding cut_by
  cut_done_is e = decided_done _ _ (first_of (cut_rows P buffers patch full K)) (sym cut_number ∙ e)

  pub cut_not : ((cut_by P buffers patch full K).number ≡ 0 → ⊥)
      → cut_by P buffers patch full K ≡ cut_refused (cut_by P buffers patch full K).number patch full
  unfolding cut_by
  cut_not h = decided_refused _ _ (first_of (cut_rows P buffers patch full K)) _ (sym cut_number) h

  -- and by what is wrong first: the frame's refusal is the call's
  pub cut_frame : (k : ℕ) → first_of (frame_rows P [] buffers patch full) ≡ k → (k ≡ 0 → ⊥)
      → cut_by P buffers patch full K ≡ cut_refused k patch full
  unfolding cut_by above
  cut_frame k e h =
      decided_refused _ _ (first_of (cut_rows P buffers patch full K)) k
      (cut_rows_is ∙ ap (λ (n : ℕ). or_else n (first_of above)) e ∙ or_some k (first_of above) h) h

  module _ (e : first_of (frame_rows P [] buffers patch full) ≡ 0) where
    pub cut_above : blocks_in (length patch) < K → cut_by P buffers patch full K ≡ cut_refused 5 patch full
    unfolding cut_by above
    cut_above h =
        decided_refused _ _ (first_of (cut_rows P buffers patch full K)) 5
        (cut_rows_is ∙ or_skip (first_of (frame_rows P [] buffers patch full)) (first_of above) e
        ∙ first_hit 4 (ltb (blocks_in (length patch)) K) [] (lt-ltb (blocks_in (length patch)) K h)) (λ q. omega arith)

    pub cut_within : K ≤ blocks_in (length patch) → cut_by P buffers patch full K ≡ cut_done P patch full K
    unfolding cut_by above first_of
    cut_within h =
        decided_done _ _ (first_of (cut_rows P buffers patch full K))
        (cut_rows_is ∙ or_skip (first_of (frame_rows P [] buffers patch full)) (first_of above) e
        ∙ first_skip 5 (ltb (blocks_in (length patch)) K) [] (le-ltb (blocks_in (length patch)) K h))

-- the frame that the code opens, told whether the buffer is long enough
pub told_frame : (P : ℕ) (fits : Bool) (patch full : List ℕ)
    → first_of (frame_rows P [] (told_rows fits) patch full) ≡ first_of (open_rows P true fits patch full)
unfolding frame_rows first_of or_else length_rows
told_frame P fits patch full = refl

-- a call without a buffer has no short one
pub cut_alone : (P : ℕ) (patch full : List ℕ) (K : ℕ) → cut_by P (told_rows true) patch full K ≡ cut_by P [] patch full K
unfolding cut_by cut_rows ordered length_rows first_of or_else
cut_alone P patch full K = refl

-- With a map

module _ (P : ℕ) (patch full map : List ℕ) (K : ℕ) where
  n : ℕ
  n = blocks_in (length patch)

  -- the code's test of the map's length
  pub cut_told : (fits : Bool) → fits ≡ leb (map_bytes (blocks_in (length patch))) (length map)
      → cut_by P (told_rows fits) patch full K ≡ (cut_mapped_outcome P patch full map K).areas
  unfolding cut_mapped_outcome
  cut_told fits e =
      ap (λ (t : Bool). cut_by P ((9 ⇐ t) ∷ []) patch full K)
      (ap not e ∙ sym (not_fits (map_bytes (blocks_in (length patch))) (length map)))

  pub cut_mapped_number : (cut_mapped_outcome P patch full map K).areas.number ≡ first_of (cut_mapped_rows P patch full map K)
  unfolding cut_mapped_outcome cut_mapped_rows
  cut_mapped_number = cut_number P (short_map map (blocks_in (length patch))) patch full K

  -- the map by the number
  pub map_done : (cut_mapped_outcome P patch full map K).areas.number ≡ 0
      → (cut_mapped_outcome P patch full map K).map ≡ clear_pairs map K (blocks_in (length patch) - K)
  unfolding cut_mapped_outcome
  map_done e = decided_done _ _ (first_of (cut_mapped_rows P patch full map K)) (sym cut_mapped_number ∙ e)

  pub map_not : ((cut_mapped_outcome P patch full map K).areas.number ≡ 0 → ⊥) → (cut_mapped_outcome P patch full map K).map ≡ map
  unfolding cut_mapped_outcome
  map_not h = decided_refused _ _ (first_of (cut_mapped_rows P patch full map K)) _ (sym cut_mapped_number) h
