-- How many stores are made: "0, 1 or, for any other number, all". The definitions take the first `stores` of two.
use Rattle.std.specs.Prelude.{ℕ, ◌<◌, ◌≡◌, refl, Bool, true, false, cond, eqb, take}
use Rattle.std.proofs.Common.{arith, sym, ◌∙◌, take_all, lt-ltb, eq-eqb, ne_eqb}
use Rattle.std.proofs.Math.Path.{ap}
use mathlib.Core.List.{List, [], ◌∷◌}
use Rattle.std.proofs.Math.ListN.{length}
use Rattle.layout.specs.Sizes.{full_kind}
use Rattle.layout.specs.Lengths.{blocks_in}
use Rattle.layout.specs.Refusals.{Row, first_of, decided}
use Rattle.blockmap.specs.Calls.{short_map}
use Rattle.carrying.specs.Puts.{Decision, Areas, Put, slot, place, puts, order, carried, all}
use Rattle.carrying.specs.CarryOut.{CarryOutcome, carry_rows, carry_done, carry_refused, carry_by}
use Rattle.carrying.specs.Mapped.{carry_mapped_told}

two_stores : (k : ℕ) → length (order k) ≡ 2
unfolding order
two_stores k = go (eqb k full_kind)
  where
    go : (t : Bool) → length {A = Put} (cond t (place ∷ slot ∷ []) (slot ∷ place ∷ [])) ≡ 2
    go true = refl
    go false = refl

module _ (k : ℕ) where
  -- 0: none
  pub none_told : take 0 (order k) ≡ []
  none_told = refl

  -- 1: the page for FULL_REF, the slot for the other kinds
  pub first_page : k ≡ full_kind → take 1 (order k) ≡ place ∷ []
  unfolding order
  first_page e = rw (eq-eqb k full_kind e)

  pub first_slot : (k ≡ full_kind → ⊥) → take 1 (order k) ≡ slot ∷ []
  unfolding order
  first_slot h = rw (ne_eqb k full_kind h)

  -- any other number: both
  pub both_told : (stores : ℕ) → 1 < stores → take stores (order k) ≡ take all (order k)
  both_told stores h =
      take_all stores (order k) (omega (arith, two_stores k)) ∙ sym (take_all all (order k) (omega (arith, two_stores k)))

-- so every such number gives one outcome, with a map and without
module _ (P : ℕ) (patch full : List ℕ) (b : ℕ) (d : Decision) (stores : ℕ) (h : 1 < stores) where
  pub all_told : (buffers : List Row) → carry_by P buffers patch full b d stores ≡ carry_by P buffers patch full b d all
  unfolding carry_by carried
  all_told buffers =
      ap (λ (xs : List Put). decided (first_of (carry_rows P buffers patch full b d)) (made xs) (λ n. carry_refused n patch full))
      (both_told d.kind stores h)
    where
      made : List Put → CarryOutcome
      made xs =
          let s : Areas = puts P b d xs (record { patch = patch; full = full }) in
          record {
            number = 0;
            kind = d.kind;
            length = (carry_done P patch full b d all).length;
            patch = s.patch;
            full = s.full;
          }

  pub told_all_mapped : (map : List ℕ) → carry_mapped_told P patch full map b d stores ≡ carry_mapped_told P patch full map b d all
  unfolding carry_mapped_told
  told_all_mapped map = λ i. record {
    areas = all_told (short_map map (blocks_in (length patch))) i;
    map = pairs i;
  }
    where
      pairs : (carry_mapped_told P patch full map b d stores).map ≡ (carry_mapped_told P patch full map b d all).map
      pairs = rw (lt-ltb 1 stores h)
