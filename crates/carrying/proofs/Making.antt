-- How the code makes as many stores as it is told, over plain lists and numbers.
use Prim.Native.Nat.{ℕ, ◌+◌, ◌≤◌}
use native.Mathlib.Omega.{arith}
use mathlib.Core.Path.{◌≡◌, refl, sym, ap, subst, ◌∙◌}
use mathlib.Core.Bool.{Bool, true, false, not, cond}
use mathlib.Core.List.{List, [], ◌∷◌}
use lib.Dec.{eqb, ltb}
use Rattle.std.proofs.Common.{eqb-true, ltb-true}
use lib.ListN.{length, take}
use lib.Seq.{take_all}
use Rattle.span.specs.Bytes.{zeros, splice}
use Rattle.span.specs.Laws.{splice_again, splice_length, zeros_length}
use Rattle.layout.specs.Sizes.{full_kind, room, slot_size, slot_at, page_at}
use Rattle.layout.specs.Lengths.{pages_in}
use Rattle.slots.specs.Slots.{slot_image}
use Rattle.slots.specs.SlotLaws.{slot_image_length}
use Rattle.store.specs.Block.{Places}
use Rattle.carrying.specs.Puts.{Decision, slot, place, put_slot, put_place, put, puts, order}
use Rattle.carrying.specs.Parts.{SlotWithin, PageLent, Due, Made}

-- places are there by the area's length
pub places_kept : (P : ℕ) (full full' : List ℕ) → length full' ≡ length full → Places P full → Places P full'
places_kept P full full' e p = rw e p

module _ (P b : ℕ) (d : Decision) (patch full : List ℕ) where
  -- one store
  pub place_made : (t : Bool) (full' : List ℕ) → t ≡ true → full' ≡ put_place P full b d.kind d.page
      → Made P b d (cond t place slot ∷ []) patch full patch full'
  unfolding puts put
  place_made t full' e h = rw e (record { patch_bytes = refl; full_bytes = h })

  pub slot_made : (t : Bool) (patch' : List ℕ) → t ≡ false → patch' ≡ put_slot patch b d.kind d.payload
      → Made P b d (cond t place slot ∷ []) patch full patch' full
  unfolding puts put
  slot_made t patch' e h = rw e (record { patch_bytes = h; full_bytes = refl })

  -- none
  pub none_told : (stores : ℕ) → stores ≡ 0 → Made P b d (take stores (order d.kind)) patch full patch full
  unfolding puts
  none_told stores e = rw e (record { patch_bytes = refl; full_bytes = refl })

  module _ (t : Bool) (first : t ≡ eqb d.kind full_kind) (p f : List ℕ) (made : Made P b d (cond t place slot ∷ []) patch full p f) where
    order_is : order d.kind ≡ cond t (place ∷ slot ∷ []) (slot ∷ place ∷ [])
    unfolding order
    order_is = rw first

    -- the first
    pub one_told : (stores : ℕ) → stores ≡ 1 → Made P b d (take stores (order d.kind)) patch full p f
    one_told stores e = rw (e, order_is) (go t made)
      where
        go : (t : Bool) → Made P b d (cond t place slot ∷ []) patch full p f
            → Made P b d (take 1 (cond t (place ∷ slot ∷ []) (slot ∷ place ∷ []))) patch full p f
        go true m = m
        go false m = m

    -- both
    pub both_told : (stores : ℕ) → (stores ≡ 0 → ⊥) → (stores ≡ 1 → ⊥) → (p' f' : List ℕ)
        → Made P b d (cond (not t) place slot ∷ []) p f p' f' → Made P b d (take stores (order d.kind)) patch full p' f'
    unfolding puts
    both_told stores some many p' f' more = rw (order_is) (go t made more)
      where
        go : (t : Bool) → Made P b d (cond t place slot ∷ []) patch full p f → Made P b d (cond (not t) place slot ∷ []) p f p' f'
            → Made P b d (take stores (cond t (place ∷ slot ∷ []) (slot ∷ place ∷ []))) patch full p' f'
        go true m n = rw (take_all stores (place ∷ slot ∷ []) (omega arith)) (record {
          patch_bytes = n.patch_bytes ∙ λ i. (put P b d slot (record { patch = m.patch_bytes i; full = m.full_bytes i })).patch;
          full_bytes = n.full_bytes ∙ λ i. (put P b d slot (record { patch = m.patch_bytes i; full = m.full_bytes i })).full;
        })
        go false m n = rw (take_all stores (slot ∷ place ∷ []) (omega arith)) (record {
          patch_bytes = n.patch_bytes ∙ λ i. (put P b d place (record { patch = m.patch_bytes i; full = m.full_bytes i })).patch;
          full_bytes = n.full_bytes ∙ λ i. (put P b d place (record { patch = m.patch_bytes i; full = m.full_bytes i })).full;
        })

module _ (P b : ℕ) (d : Decision) (patch full : List ℕ) where
  slot_again : (p : List ℕ) → SlotWithin patch b → length d.payload ≤ room → p ≡ put_slot patch b d.kind d.payload
      → p ≡ put_slot p b d.kind d.payload
  unfolding put_slot
  slot_again p h few e =
      let l : length (slot_image d.kind d.payload) ≡ slot_size = slot_image_length d.kind d.payload few in
      subst (λ (x : List ℕ). x ≡ splice x (slot_at b) (slot_image d.kind d.payload)) (sym e)
      (splice_again patch (slot_at b) (slot_image d.kind d.payload) (omega (arith, h, l)))

  -- what the place is to hold
  abbrev held : List ℕ
  held = cond (eqb d.kind full_kind) d.page (zeros P)

  held_length : PageLent P d → length held ≡ P
  held_length page = go (eqb d.kind full_kind) refl
    where
      go : (k : Bool) → eqb d.kind full_kind ≡ k → length (cond k d.page (zeros P)) ≡ P
      go true e = page (eqb-true d.kind full_kind e)
      go false e = zeros_length P

  place_again : (f : List ℕ) → Places P full → PageLent P d → f ≡ put_place P full b d.kind d.page → f ≡ put_place P f b d.kind d.page
  unfolding put_place
  place_again f there page e =
      subst (λ (x : List ℕ). x ≡ put_place P x b d.kind d.page) (sym e) (go (ltb b (pages_in P (length full))) refl)
    where
      go : (t : Bool) → ltb b (pages_in P (length full)) ≡ t
          → put_place P full b d.kind d.page ≡ put_place P (put_place P full b d.kind d.page) b d.kind d.page
      go true q =
          let h : page_at P b + length held ≤ length full =
          omega (arith, there b (ltb-true b (pages_in P (length full)) q), held_length page) in
          let l : ltb b (pages_in P (length (splice full (page_at P b) held))) ≡ true =
          ap (λ (n : ℕ). ltb b (pages_in P n)) (splice_length full (page_at P b) held h) ∙ q in
          rw q (rw l (splice_again full (page_at P b) held h))
      go false q = rw q (rw q refl)

  -- the first store is due
  pub due_first : (t : Bool) → t ≡ eqb d.kind full_kind → Due P b d t patch full
  due_first t e = λ n. absurd (n e)

  -- and after it the other
  pub due_after : (t : Bool) (p f : List ℕ) → SlotWithin patch b → length d.payload ≤ room → Places P full → PageLent P d
      → Made P b d (cond t place slot ∷ []) patch full p f → Due P b d (not t) p f
  unfolding puts put
  due_after true p f h few there page m = λ n. record { patch_bytes = refl; full_bytes = place_again f there page m.full_bytes }
  due_after false p f h few there page m = λ n. record { patch_bytes = slot_again p h few m.patch_bytes; full_bytes = refl }
