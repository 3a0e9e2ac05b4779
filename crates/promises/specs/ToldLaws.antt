-- What a call gives and leaves by how many stores it is told to make.
use Rattle.std.specs.Prelude.{ℕ, zero, suc, ◌≤◌, ◌≡◌, refl, Bool, true, false, cond, ◌⊎◌, ◌↔◌, List, []}
use Rattle.std.proofs.Common.{arith, sym, ap, ◌∙◌, inl, inr, eq-eqb, ne_eqb, le-ltb}
use Rattle.layout.specs.Refusals.{Row}
use Rattle.blockmap.specs.Calls.{short_map}
use Rattle.store.specs.Block.{slot_of}
use Rattle.reading.specs.Read.{ReadOutcome}
use Rattle.carrying.specs.Puts.{Decision, put_slot, put_place, put, puts, carried, all}
use Rattle.carrying.specs.CarryOut.{carry_numbers, CarryOutcome, carry_by}
use Rattle.carrying.specs.Mapped.{carry_mapped_told, carry_mapped_outcome}
use Rattle.carrying.specs.CarryLaws.{carried_is, carry_number, carry_done_is, carry_not, map_done, map_not}
use Rattle.carrying.specs.Told.{first_page, first_slot}
use Rattle.promises.specs.Words.{blocks}
use Rattle.promises.specs.StoreLaws.{told_number}
use Rattle.promises.specs.RunWords.{Areas, read_at, Lent, outcome, next}
use Rattle.promises.specs.StopWords.{told, stopped, Holds}
use Rattle.promises.specs.StopStore.{takes_hold}
use Rattle.promises.specs.StopStoreLaws.{stop_refused}
use Rattle.promises.specs.StopReads.{holds_iff, not_held, stop_reads}

-- "with the same refusals and answer", whatever buffer is lent beside the areas
same_by : (P : ℕ) (buffers : List Row) (patch full : List ℕ) (b : ℕ) (d : Decision) (k : ℕ)
    → carry_numbers (carry_by P buffers patch full b d k) ≡ carry_numbers (carry_by P buffers patch full b d all)
same_by P buffers patch full b d k = go (carry_by P buffers patch full b d all).number refl
  where
    number : (carry_by P buffers patch full b d k).number ≡ (carry_by P buffers patch full b d all).number
    number = carry_number P buffers patch full b d k ∙ sym (carry_number P buffers patch full b d all)

    go : (n : ℕ) → (carry_by P buffers patch full b d all).number ≡ n
        → carry_numbers (carry_by P buffers patch full b d k) ≡ carry_numbers (carry_by P buffers patch full b d all)
    go zero e =
        ap carry_numbers (carry_done_is P buffers patch full b d k (number ∙ e)) ∙ sym (ap carry_numbers (carry_done_is P buffers patch full b d all e))
    go (suc n) e =
        let x = carry_not P buffers patch full b d k (λ z. omega (arith, e, sym number ∙ z)) in
        let y = carry_not P buffers patch full b d all (λ z. omega (arith, e, z)) in
        ap carry_numbers x ∙ (λ i. record { number = number i; kind = 0; length = 0 }) ∙ sym (ap carry_numbers y)

module _ (P : ℕ) (s : Areas) (w : Lent) where
  number : (k : ℕ) → (told P s w k).number ≡ (outcome P s w).number
  number k = told_number P s.patch s.full w.block w.decision k

  pub same_numbers : (k : ℕ) → carry_numbers (told P s w k) ≡ carry_numbers (outcome P s w)
  same_numbers k = same_by P [] s.patch s.full w.block w.decision k

  abbrev areas : CarryOutcome → Areas
  areas o = record { patch = o.patch; full = o.full }

  -- both areas, accepted and refused
  made : (outcome P s w).number ≡ 0 → (k : ℕ) → stopped P s k w ≡ carried P w.block w.decision k s
  made e k = ap areas (carry_done_is P [] s.patch s.full w.block w.decision k (number k ∙ e))

  unmade : {n : ℕ} → (outcome P s w).number ≡ suc n → (k : ℕ) → stopped P s k w ≡ s
  unmade e k = stop_refused P s k w (ne_eqb (outcome P s w).number 0 (λ z. omega (arith, e, z)))

  -- the first store
  first_put : w.decision.kind ≡ 2 → carried P w.block w.decision 1 s
      ≡ record { patch = s.patch; full = put_place P s.full w.block w.decision.kind w.decision.page }
  unfolding carried puts put
  first_put k = rw (first_page w.decision.kind k)

  other_put : (w.decision.kind ≡ 2 → ⊥) → carried P w.block w.decision 1 s
      ≡ record { patch = put_slot s.patch w.block w.decision.kind w.decision.payload; full = s.full }
  unfolding carried puts put
  other_put n = rw (first_slot w.decision.kind n)

  pub page_first : w.decision.kind ≡ 2 → ((stopped P s 1 w).patch ≡ s.patch) × ((stopped P s 1 w).full ≡ (next P s w).full)
  page_first k = go (outcome P s w).number refl
    where
      go : (n : ℕ) → (outcome P s w).number ≡ n → ((stopped P s 1 w).patch ≡ s.patch) × ((stopped P s 1 w).full ≡ (next P s w).full)
      go zero e =
          let x = made e 1 ∙ first_put k in
          let y = made e all ∙ carried_is P w.block w.decision s in
          (ap (λ (t : Areas). t.patch) x, ap (λ (t : Areas). t.full) x ∙ sym (ap (λ (t : Areas). t.full) y))
      go (suc n) e = (ap (λ (t : Areas). t.patch) (unmade e 1), ap (λ (t : Areas). t.full) (unmade e 1 ∙ sym (unmade e all)))

  pub slot_before_page : (w.decision.kind ≡ 2 → ⊥) → ((stopped P s 1 w).patch ≡ (next P s w).patch) × ((stopped P s 1 w).full ≡ s.full)
  slot_before_page k = go (outcome P s w).number refl
    where
      go : (n : ℕ) → (outcome P s w).number ≡ n → ((stopped P s 1 w).patch ≡ (next P s w).patch) × ((stopped P s 1 w).full ≡ s.full)
      go zero e =
          let x = made e 1 ∙ other_put k in
          let y = made e all ∙ carried_is P w.block w.decision s in
          (ap (λ (t : Areas). t.patch) x ∙ sym (ap (λ (t : Areas). t.patch) y), ap (λ (t : Areas). t.full) x)
      go (suc n) e = (ap (λ (t : Areas). t.patch) (unmade e 1 ∙ sym (unmade e all)), ap (λ (t : Areas). t.full) (unmade e 1))

  -- How the block reads after it, accepted and refused

  module _ (k : ℕ) (base page : List ℕ) where
    iff : (takes_hold k w.decision (slot_of s.patch w.block) ≡ true) ↔ Holds s k w
    iff = holds_iff k w.decision (slot_of s.patch w.block)

    abbrev read : Areas → ReadOutcome
    read t = read_at P t w.block base page

    by : (t : Bool) → takes_hold k w.decision (slot_of s.patch w.block) ≡ t
        → read_at P (stopped P s k w) w.block base page
        ≡ cond t (read_at P (next P s w) w.block base page) (read_at P s w.block base page)
    by t e = go (outcome P s w).number refl
      where
        same : {n : ℕ} → (outcome P s w).number ≡ suc n → (u : Bool) → read (stopped P s k w) ≡ cond u (read (next P s w)) (read s)
        same r true = ap read (unmade r k ∙ sym (unmade r all))
        same r false = ap read (unmade r k)

        go : (n : ℕ) → (outcome P s w).number ≡ n → read (stopped P s k w) ≡ cond t (read (next P s w)) (read s)
        go zero done =
            stop_reads P s w (eq-eqb (outcome P s w).number 0 done) base page k ∙ ap (λ (u : Bool). cond u (read (next P s w)) (read s)) e
        go (suc n) r = same r t

    pub reads_new : Holds s k w → read_at P (stopped P s k w) w.block base page ≡ read_at P (next P s w) w.block base page
    reads_new h = by true (iff.1 h)

    pub reads_old : (Holds s k w → ⊥) → read_at P (stopped P s k w) w.block base page ≡ read_at P s w.block base page
    reads_old n = by false (not_held s k w n)

    pub reads_either : (read_at P (stopped P s k w) w.block base page ≡ read_at P s w.block base page)
        ⊎ (read_at P (stopped P s k w) w.block base page ≡ read_at P (next P s w) w.block base page)
    reads_either = go (takes_hold k w.decision (slot_of s.patch w.block)) refl
      where
        go : (t : Bool) → takes_hold k w.decision (slot_of s.patch w.block) ≡ t
            → (read_at P (stopped P s k w) w.block base page ≡ read_at P s w.block base page)
            ⊎ (read_at P (stopped P s k w) w.block base page ≡ read_at P (next P s w) w.block base page)
        go true e = inr (by true e)
        go false e = inl (by false e)

-- With a lent map

pub same_numbers_mapped : (P : ℕ) (patch full map : List ℕ) (b : ℕ) (d : Decision) (k : ℕ)
    → carry_numbers (carry_mapped_told P patch full map b d k).areas ≡ carry_numbers (carry_mapped_outcome P patch full map b d).areas
unfolding carry_mapped_told
same_numbers_mapped P patch full map b d k = same_by P (short_map map (blocks patch)) patch full b d k

pub map_kept : (P : ℕ) (patch full map : List ℕ) (b : ℕ) (d : Decision) (k : ℕ) → k ≤ 1 → (carry_mapped_told P patch full map b d k).map ≡ map
map_kept P patch full map b d k h = go (carry_mapped_told P patch full map b d k).areas.number refl
  where
    go : (n : ℕ) → (carry_mapped_told P patch full map b d k).areas.number ≡ n → (carry_mapped_told P patch full map b d k).map ≡ map
    go zero e = map_done P patch full map b d k e ∙ rw (le-ltb 1 k h)
    go (suc n) e = map_not P patch full map b d k (λ z. omega (arith, e, z))
