-- A map that is lent to operations and stopped writes: both areas are as without it, and it keeps its length.
use Rattle.std.specs.Prelude.{ℕ, zero, suc, ◌≡◌, Bool, true, false, cond, length}
use Rattle.std.proofs.Math.Path.{refl, ap}
use Rattle.std.proofs.Common.{sym, ◌∙◌}
use mathlib.Core.List.{List, [], ◌∷◌}
use Rattle.layout.specs.Refusals.{first_of, decided}
use Rattle.blockmap.specs.Pairs.{map_bytes}
use Rattle.blockmap.specs.Pack.{pair_of, set_pair}
use Rattle.blockmap.specs.SetLaws.{set_length}
use Rattle.blockmap.specs.ClearLaws.{clear_length}
use Rattle.layout.specs.Lengths.{blocks_in}
use Rattle.carrying.specs.Puts.{Decision, all, told_all}
use Rattle.carrying.specs.Mapped.{carry_mapped_rows, carry_mapped_told}
use Rattle.cutting.specs.Cut.{CutOutcome}
use Rattle.cutting.specs.Mapped.{cut_mapped_rows, cut_mapped_outcome}
use Rattle.promises.specs.CarryTables.{mapped_as_told}
use Rattle.promises.specs.CutTables.{mapped_as_cut}
use Rattle.promises.specs.Runs.{run, write, wipe}
use Rattle.promises.specs.Stops.{whole, stop, sweep}
use Rattle.promises.specs.RunWords.{Areas}
use Rattle.promises.specs.RunStoreLaws.{store_laws}
use Rattle.promises.specs.MapWords.{Mapped, map_room, Long}
use Rattle.promises.specs.MapStoreLaws.{room_kept}
use Rattle.promises.specs.StopWords.{left_by, AreaEvent, happens, happens_with, after_all, after_all_with}
use Rattle.promises.specs.StopStoreLaws.{stop_length}

-- a buffer that is set if no row applies, and else stays
decided_length : (n : ℕ) (set kept : List ℕ) → length set ≡ length kept → length (decided n set (λ _. kept)) ≡ length kept
unfolding decided
decided_length zero set kept e = e
decided_length (suc n) set kept e = refl

told_length : (P : ℕ) (patch full map : List ℕ) (b : ℕ) (d : Decision) (k : ℕ) → length (carry_mapped_told P patch full map b d k).map ≡ length map
unfolding carry_mapped_told
told_length P patch full map b d k =
    decided_length (first_of (carry_mapped_rows P patch full map b d)) (cond (told_all k) (set_pair map b (pair_of d.kind)) map) map (go (told_all k))
  where
    go : (t : Bool) → length (cond t (set_pair map b (pair_of d.kind)) map) ≡ length map
    go true = set_length map b (pair_of d.kind)
    go false = refl

cut_map_length : (P : ℕ) (patch full map : List ℕ) (K : ℕ) → length (cut_mapped_outcome P patch full map K).map ≡ length map
unfolding cut_mapped_outcome
cut_map_length P patch full map K = decided_length (first_of (cut_mapped_rows P patch full map K)) _ map (clear_length map K _)

module _ (P : ℕ) where
  length_same : (x : Mapped) (e : AreaEvent) → length (happens_with P x e).map ≡ length x.map
  length_same x (whole (write w)) = told_length P x.areas.patch x.areas.full x.map w.block w.decision all
  length_same x (whole (wipe K)) = cut_map_length P x.areas.patch x.areas.full x.map K
  length_same x (stop k w) = told_length P x.areas.patch x.areas.full x.map w.block w.decision k
  length_same x sweep = refl

  -- One event, lent a map that is long enough

  module _ (x : Mapped) (long : Long x.areas x.map) where
    areas_same : (e : AreaEvent) → (happens_with P x e).areas ≡ happens P x.areas e
    areas_same (whole (write w)) = ap left_by (mapped_as_told P x.areas.patch x.areas.full x.map w.block w.decision long all)
    areas_same (whole (wipe K)) =
        ap (λ (o : CutOutcome). record { patch = o.patch; full = o.full }) (mapped_as_cut P x.areas.patch x.areas.full x.map K long)
    areas_same (stop k w) = ap left_by (mapped_as_told P x.areas.patch x.areas.full x.map w.block w.decision long k)
    areas_same sweep = refl

    room_same : (e : AreaEvent) → map_room (happens P x.areas e) ≡ map_room x.areas
    room_same (whole o) =
        sym (room_kept P (happens P x.areas (whole o))) ∙ ap map_room ((store_laws P).frame_kept x.areas o) ∙ room_kept P x.areas
    room_same (stop k w) = ap (λ (l : ℕ). map_bytes (blocks_in l)) (stop_length P x.areas k w)
    room_same sweep = refl

    long_same : (e : AreaEvent) → Long (happens_with P x e).areas (happens_with P x e).map
    long_same e = rw (areas_same e, room_same e, length_same x e) long

  pub all_with : (x : Mapped) → Long x.areas x.map → (es : List AreaEvent) → (after_all_with P x es).areas ≡ after_all P x.areas es
  unfolding run
  all_with x long [] = refl
  all_with x long (e ∷ es) =
      all_with (happens_with P x e) (long_same x long e) es ∙ ap (λ (s : Areas). after_all P s es) (areas_same x long e)

  -- and the map keeps its length, so that Build has room in it
  pub all_length : (x : Mapped) (es : List AreaEvent) → length (after_all_with P x es).map ≡ length x.map
  unfolding run
  all_length x [] = refl
  all_length x (e ∷ es) = all_length (happens_with P x e) es ∙ length_same x e
