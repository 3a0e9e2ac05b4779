-- What is left where a decision was carried out, said in words (`Carried`), is said of no other areas; and the length that is answered.
use Rattle.std.specs.Prelude.{ℕ, ◌<◌, ◌≡◌, refl, Bool, true, false, cond, List, [], eqb, ltb, length}
use Rattle.std.proofs.Common.{arith, sym, ap, ◌∙◌, ne_eqb, eqb-true, ltb-true}
use Rattle.std.proofs.lemmas.Bool.{eqb-false}
use Rattle.span.specs.Bytes.{zeros}
use Rattle.store.specs.Block.{slot_of, place_of}
use Rattle.carrying.specs.Puts.{Decision, Areas, all}
use Rattle.carrying.specs.CarryOut.{CarryOutcome, carry_outcome}
use Rattle.carrying.specs.CarryLaws.{carry_done_is}
use Rattle.promises.specs.Words.{places}
use Rattle.promises.specs.FrameLaws.{lengths_moved, headers_moved}
use Rattle.promises.specs.CarryWords.{CarriedAs, Carried}
use Rattle.promises.specs.CarryTables.{accepted}
use Rattle.promises.specs.StoreLaws.{carries}
use Rattle.promises.specs.RunStore.{cell_at}
use Rattle.promises.specs.RunStoreLaws.{frame_is, good_frame, store_laws}

pub carried_length : (P : ℕ) (patch full : List ℕ) (b : ℕ) (d : Decision) → (carry_outcome P patch full b d).number ≡ 0
    → (d.kind ≡ 1 → (carry_outcome P patch full b d).length ≡ length d.payload)
    × ((d.kind ≡ 1 → ⊥) → (carry_outcome P patch full b d).length ≡ 0)
carried_length P patch full b d e =
    let l : (carry_outcome P patch full b d).length ≡ cond (eqb d.kind 1) (length d.payload) 0 =
    ap (λ (o : CarryOutcome). o.length) (carry_done_is P [] patch full b d all e) in
    (λ k. l ∙ rw k, λ k. l ∙ rw (ne_eqb d.kind 1 k))

-- one kind has one slot and one place
one_image : (P : ℕ) (d : Decision) {j k : ℕ} {s t c x : List ℕ} → j ≡ k → CarriedAs P d j s c → CarriedAs P d k t x → (s ≡ t) × (c ≡ x)
one_image P d e CarriedAs.empty CarriedAs.empty = (refl, refl)
one_image P d e CarriedAs.empty CarriedAs.patch = absurd (omega arith)
one_image P d e CarriedAs.empty CarriedAs.full = absurd (omega arith)
one_image P d e CarriedAs.patch CarriedAs.empty = absurd (omega arith)
one_image P d e CarriedAs.patch CarriedAs.patch = (refl, refl)
one_image P d e CarriedAs.patch CarriedAs.full = absurd (omega arith)
one_image P d e CarriedAs.full CarriedAs.empty = absurd (omega arith)
one_image P d e CarriedAs.full CarriedAs.patch = absurd (omega arith)
one_image P d e CarriedAs.full CarriedAs.full = (refl, refl)

module _ (P : ℕ) (patch full : List ℕ) (b : ℕ) (d : Decision) where
  -- two pairs of areas that are so have the same cells
  same_cells : (s t : Areas) → Carried P patch full b d s.patch s.full → Carried P patch full b d t.patch t.full
      → (c : ℕ) → cell_at P s c ≡ cell_at P t c
  same_cells s t x y c = go (eqb c b) refl
    where
      one : (slot_of s.patch b ≡ slot_of t.patch b) × (x.content ≡ y.content)
      one = one_image P d refl x.carried y.carried

      place : (u : Bool) → ltb b (places P full) ≡ u
          → cond u (place_of P s.full b) (zeros P) ≡ cond u (place_of P t.full b) (zeros P)
      place true q =
          let m : b < places P full = ltb-true b (places P full) q in
          x.place m ∙ one.1 ∙ sym (y.place m)
      place false q = refl

      go : (u : Bool) → eqb c b ≡ u → cell_at P s c ≡ cell_at P t c
      go true q =
          rw (eqb-true c b q, x.frame.full_length, y.frame.full_length)
          (λ i. record { slot = one.0 i; place = place (ltb b (places P full)) refl i })
      go false q =
          let other = eqb-false c b q in
          rw (
            x.frame.full_length,
            y.frame.full_length,
            x.other_slots c other,
            y.other_slots c other,
            x.other_places c other,
            y.other_places c other,
          )

  pub carried_one : (carry_outcome P patch full b d).number ≡ 0 → (p f : List ℕ) → Carried P patch full b d p f
      → (p ≡ (carry_outcome P patch full b d).patch) × (f ≡ (carry_outcome P patch full b d).full)
  carried_one e p f x =
      let s : Areas = record { patch = p; full = f } in
      let t : Areas = record { patch = (carry_outcome P patch full b d).patch; full = (carry_outcome P patch full b d).full } in
      let lent : Areas = record { patch = patch; full = full } in
      let y = carries P patch full b d e in
      let h = (accepted P patch full b d e).fits in
      let good = (good_frame P s).0
      (lengths_moved P patch full p f x.frame h.lengths, headers_moved P patch full p f x.frame h.headers) in
      let same : s ≡ t = (store_laws P).ext s t good (frame_is lent s x.frame ∙ sym (frame_is lent t y.frame))
      (λ c n. same_cells s t x y c) in
      (ap (λ (z : Areas). z.patch) same, ap (λ (z : Areas). z.full) same)
