-- Runs from fresh areas with stopped writes and sweeps among their operations, over any page size, from what is proved of stops in general.
use Rattle.std.specs.Prelude.{ℕ, zero, suc, ◌≤◌, ◌≡◌, Bool, cond, ◌⊎◌}
use Rattle.std.proofs.Common.{arith, sym, ◌∙◌, subst, eqb-true}
use Rattle.std.proofs.Math.Path.{refl, ap}
use Rattle.std.proofs.Math.Bool.{true, false, true≢false}
use Rattle.std.proofs.Math.Logic.{inl, inr}
use mathlib.Core.List.{List, [], ◌∷◌, ◌++◌}
use Rattle.store.specs.Block.{slot_of}
use Rattle.carrying.specs.Puts.{all}
use Rattle.carrying.specs.CarryOut.{carry_numbers, CarryOutcome}
use Rattle.carrying.specs.CarryLaws.{carry_done_is, map_done, map_not}
use Rattle.promises.specs.Words.{MapFits}
use Rattle.promises.specs.CarryTables.{mapped_as_told, mapped_as_carry}
use Rattle.promises.specs.SweptLaws.{sweep_reads}
use Rattle.promises.specs.Runs.{run, write}
use Rattle.promises.specs.Stops.{whole, stop, sweep, happen, kept, comes, comes_to, Tidies}
use Rattle.promises.specs.SweepRuns.{sweepable, sweep_same, finished, events_tidied, stop_tidied}
use Rattle.promises.specs.RunWords.{Areas, read_at, Lent, Operation, outcome, taken, next, after, FreshAreas}
use Rattle.promises.specs.MapWords.{Mapped, mapped}
use Rattle.promises.specs.RunStore.{store}
use Rattle.promises.specs.RunStoreLaws.{taken_frame, accepted_write, good_frame, store_laws}
use Rattle.promises.specs.RunLaws.{fresh}
use Rattle.promises.specs.StopWords.{left_by, happens, stopped, stopped_with, sweeping, swept, AreaEvent, after_all, Holds}
use Rattle.promises.specs.StopWords.{ComesTo, nothing, made, held, lost, tidied}
use Rattle.promises.specs.StopStore.{takes_hold, stopping}
use Rattle.promises.specs.StopStoreLaws.{stop_refused, stop_frame, stop_length, sweep_taken, stop_laws}
use Rattle.promises.specs.StopReads.{holds_iff, not_held}
use Rattle.promises.specs.ToldLaws.{map_kept}

-- The words are those of `Stops`

module _ (P : ℕ) where
  all_happen : (s : Areas) (es : List AreaEvent) → after_all P s es ≡ run (happen (store P) (stopping P)) s es
  unfolding run happen
  all_happen s [] = refl
  all_happen s (whole o ∷ es) = all_happen (happens P s (whole o)) es
  all_happen s (stop k w ∷ es) = all_happen (happens P s (stop k w)) es
  all_happen s (sweep ∷ es) = all_happen (happens P s sweep) es

  comes_are : {s : Areas} {es : List AreaEvent} {os : List Operation} → ComesTo P s es os → os ≡ comes_to (store P) (stopping P) s es
  unfolding comes_to comes kept happen
  comes_are nothing = refl
  comes_are (made {s} {o} c) = ap (λ (xs : List Operation). o ∷ xs) (comes_are c)
  comes_are (held {s} {k} {w} h c) =
      rw ((holds_iff k w.decision (slot_of s.patch w.block)).1 h) (ap (λ (xs : List Operation). write w ∷ xs) (comes_are c))
  comes_are (lost {s} {k} {w} n c) = rw (not_held s k w n) (comes_are c)
  comes_are (tidied c) = comes_are c

  -- there is such a list for every list of events
  pub comes_exist : (s : Areas) (es : List AreaEvent) → (os : List Operation) × ComesTo P s es os
  comes_exist s [] = ([], nothing)
  comes_exist s (whole o ∷ es) = let r = comes_exist _ es in (o ∷ r.0, made r.1)
  comes_exist s (stop k w ∷ es) = go (takes_hold k w.decision (slot_of s.patch w.block)) refl (comes_exist (stopped P s k w) es)
    where
      go : (t : Bool) → takes_hold k w.decision (slot_of s.patch w.block) ≡ t
          → ((os : List Operation) × ComesTo P (stopped P s k w) es os) → (os : List Operation) × ComesTo P s (stop k w ∷ es) os
      go true e r = (write w ∷ r.0, held ((holds_iff k w.decision (slot_of s.patch w.block)).0 e) r.1)
      go false e r =
          (r.0, lost (λ h. true≢false (sym ((holds_iff k w.decision (slot_of s.patch w.block)).1 h) ∙ e)) r.1)
  comes_exist s (sweep ∷ es) = let r = comes_exist (swept P s) es in (r.0, tidied r.1)

  -- Areas that tidied are those of a run: a sweep accepts them and leaves those, and every block reads as in those already

  module _ (s t : Areas) (h : Tidies (store P) (stopping P) s t) where
    pub tidied_taken : (sweeping P s).number ≡ 0
    tidied_taken =
        sweep_taken P s (subst (λ (f : Areas). (store P).Good f) (sym h.frames) h.good)
        (sweepable (store P) (stopping P) (store_laws P) (stop_laws P) s t h)

    pub tidied_swept : swept P s ≡ t
    tidied_swept = sweep_same (store P) (stopping P) (store_laws P) (stop_laws P) s t h

    pub tidied_reads : (b : ℕ) (base page : List ℕ) → read_at P s b base page ≡ read_at P t b base page
    tidied_reads b base page =
        sym (sweep_reads P s.patch s.full b base page) ∙ ap (λ (x : Areas). read_at P x b base page) tidied_swept

  -- The same write told all after a stop: the whole write, in answer and areas
  pub finish : (s : Areas) (k : ℕ) (w : Lent) → outcome P (stopped P s k w) w ≡ outcome P s w
  finish s k w = go (taken P s w) refl
    where
      again : taken P s w ≡ true → taken P (stopped P s k w) w ≡ true
      again e =
          sym (taken_frame P (stopped P s k w) w) ∙ ap (λ (f : Areas). taken P f w) (stop_frame P s k w) ∙ taken_frame P s w ∙ e

      numbers : taken P s w ≡ true → carry_numbers (outcome P (stopped P s k w) w) ≡ carry_numbers (outcome P s w)
      numbers e =
          ap carry_numbers
          (carry_done_is P [] (stopped P s k w).patch (stopped P s k w).full w.block w.decision all
          (eqb-true (outcome P (stopped P s k w) w).number 0 (again e)))
          ∙ sym (ap carry_numbers
          (carry_done_is P [] s.patch s.full w.block w.decision all (eqb-true (outcome P s w).number 0 e)))

      go : (t : Bool) → taken P s w ≡ t → outcome P (stopped P s k w) w ≡ outcome P s w
      go true e =
          let f = (accepted_write P s w e).fits in
          let areas : next P (stopped P s k w) w ≡ next P s w =
          finished (store P) (stopping P) (store_laws P) (stop_laws P) s ((good_frame P s).0 (f.lengths, f.headers)) k w in
          let n = numbers e in
          λ i. record { number = (n i).number; kind = (n i).kind; length = (n i).length; patch = (areas i).patch; full = (areas i).full }
      go false e = ap (λ (t : Areas). outcome P t w) (stop_refused P s k w e)

  -- and with a lent map, which a stop leaves as it was
  pub finish_mapped : (x : Mapped) (k : ℕ) (w : Lent) → MapFits x.areas.patch x.map → k ≤ 1
      → mapped P (stopped_with P x k w) w ≡ mapped P x w
  finish_mapped x k w fits h =
      ap (λ (y : Mapped). mapped P y w) left
      ∙ (λ i. record { areas = same i; map = pairs (outcome P x.areas w).number refl i })
    where
      left : stopped_with P x k w ≡ record { areas = stopped P x.areas k w; map = x.map }
      left = λ i. record {
        areas = left_by (mapped_as_told P x.areas.patch x.areas.full x.map w.block w.decision fits k i);
        map = map_kept P x.areas.patch x.areas.full x.map w.block w.decision k h i;
      }

      fits' : MapFits (stopped P x.areas k w).patch x.map
      fits' = rw (stop_length P x.areas k w) fits

      same : (mapped P (record { areas = stopped P x.areas k w; map = x.map }) w).areas ≡ (mapped P x w).areas
      same =
          mapped_as_carry P (stopped P x.areas k w).patch (stopped P x.areas k w).full x.map w.block w.decision fits'
          ∙ finish x.areas k w
          ∙ sym (mapped_as_carry P x.areas.patch x.areas.full x.map w.block w.decision fits)

      number : (mapped P x w).areas.number ≡ (outcome P x.areas w).number
      number =
          ap (λ (o : CarryOutcome). o.number)
          (mapped_as_carry P x.areas.patch x.areas.full x.map w.block w.decision fits)

      number' : (mapped P (record { areas = stopped P x.areas k w; map = x.map }) w).areas.number ≡ (outcome P x.areas w).number
      number' = ap (λ (o : CarryOutcome). o.number) same ∙ number

      -- both maps, accepted and refused
      pairs : (n : ℕ) → (outcome P x.areas w).number ≡ n
          → (mapped P (record { areas = stopped P x.areas k w; map = x.map }) w).map ≡ (mapped P x w).map
      pairs zero e =
          map_done P (stopped P x.areas k w).patch (stopped P x.areas k w).full x.map w.block w.decision all (number' ∙ e)
          ∙ sym (map_done P x.areas.patch x.areas.full x.map w.block w.decision all (number ∙ e))
      pairs (suc n) e =
          map_not P (stopped P x.areas k w).patch (stopped P x.areas k w).full x.map w.block w.decision all
          (λ z. omega (arith, e, sym number' ∙ z))
          ∙ sym (map_not P x.areas.patch x.areas.full x.map w.block w.decision all (λ z. omega (arith, e, sym number ∙ z)))

  module _ (s : Areas) (h : FreshAreas P s) where
    pub events_tidy : (es : List AreaEvent) (os : List Operation) → ComesTo P s es os
        → Tidies (store P) (stopping P) (after_all P s es) (after P s os)
    events_tidy es os c =
        rw (all_happen s es, comes_are c)
        (events_tidied (store P) (stopping P) (store_laws P) (stop_laws P) s (fresh P s h) es)

    -- one stop: the run with that write whole, or without it
    pub one_stop : (ws : List Operation) (k : ℕ) (w : Lent) (vs : List Operation)
        → (Holds (after P s ws) k w × Tidies (store P) (stopping P) (after P (stopped P (after P s ws) k w) vs) (after P s (ws ++ (write w ∷ vs))))
        ⊎ ((Holds (after P s ws) k w → ⊥)
        × Tidies (store P) (stopping P) (after P (stopped P (after P s ws) k w) vs) (after P s (ws ++ vs)))
    unfolding kept
    one_stop ws k w vs =
        go (takes_hold k w.decision (slot_of (after P s ws).patch w.block)) refl
        (stop_tidied (store P) (stopping P) (store_laws P) (stop_laws P) s (fresh P s h) ws k w vs)
      where
        go : (t : Bool) → takes_hold k w.decision (slot_of (after P s ws).patch w.block) ≡ t
            → Tidies (store P) (stopping P) (after P (stopped P (after P s ws) k w) vs) (after P s (ws ++ (cond t (write w ∷ []) [] ++ vs)))
            → (Holds (after P s ws) k w
            × Tidies (store P) (stopping P) (after P (stopped P (after P s ws) k w) vs) (after P s (ws ++ (write w ∷ vs))))
            ⊎ ((Holds (after P s ws) k w → ⊥)
            × Tidies (store P) (stopping P) (after P (stopped P (after P s ws) k w) vs) (after P s (ws ++ vs)))
        go true e r = inl ((holds_iff k w.decision (slot_of (after P s ws).patch w.block)).0 e, r)
        go false e r =
            inr ((λ q. true≢false (sym ((holds_iff k w.decision (slot_of (after P s ws).patch w.block)).1 q) ∙ e)), r)
