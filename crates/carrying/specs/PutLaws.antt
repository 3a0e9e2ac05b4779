-- The laws of the two stores: what they leave of an area, from the part that the code wrote, and what both leave of both areas.
use Rattle.std.specs.Prelude.{ℕ, ◌+◌, ◌-◌, ◌≤◌, ◌<◌, ◌≡◌, ◌&&◌, cond, List, eqb, leb, length, take}
use Rattle.std.proofs.Common.{arith, ◌∙◌}
use Rattle.std.proofs.Math.Path.{sym, ap}
use borrow.Author.Tests.{le-leb, lt-ltb, le-ltb, eq-eqb, ne_eqb}
use borrow.Rule.Slice.PartMut.{mid_of, put_mid}
use Rattle.span.specs.Laws.{mid_length, put_splice, put_copied, put_filled}
use Rattle.span.specs.Bytes.{zeros, splice}
use Rattle.layout.specs.Sizes.{slot_size, room, slot_at, page_at}
use Rattle.layout.specs.Lengths.{pages_in}
use Rattle.slots.specs.Slots.{slot_image}
use Rattle.slots.specs.SlotLaws.{slot_image_length}
use Rattle.carrying.specs.Puts.{put_slot, put_place}

-- what the two stores leave, from what their parts hold
pub slot_stored : (patch : List ℕ) (b at k : ℕ) (payload after : List ℕ) → at ≡ slot_at b → slot_at b + slot_size ≤ length patch
    → length payload ≤ room
    → after ≡ cond (eqb (length (mid_of at (at + slot_size - at) patch)) slot_size && leb (length payload) room) (slot_image k payload)
    (mid_of at (at + slot_size - at) patch)
    → put_mid at (at + slot_size - at) patch after ≡ put_slot patch b k payload
unfolding put_slot
slot_stored patch b at k payload after e h f c =
    let q : at + slot_size - at ≡ slot_size = omega arith in
    let l : length (mid_of at (at + slot_size - at) patch) ≡ slot_size = ap (λ (n : ℕ). length (mid_of at n patch)) q
    ∙ mid_length at slot_size patch (omega arith) in
    let d : after ≡ slot_image k payload = c
    ∙ rw (eq-eqb (length (mid_of at (at + slot_size - at) patch)) slot_size l, le-leb (length payload) room f) in
    put_splice at (at + slot_size - at) patch after (ap (λ (x : List ℕ). length x) d ∙ slot_image_length k payload f ∙ sym q)
    ∙ ap (λ (x : List ℕ). splice patch at x) d
    ∙ ap (λ (n : ℕ). splice patch n (slot_image k payload)) e

module _ (P : ℕ) (full : List ℕ) (b at : ℕ) (page after : List ℕ) (e : at ≡ page_at P b) (below : b < pages_in P (length full))
    (fits : page_at P b + P ≤ length full) where
  pub q : at + P - at ≡ P
  q = omega arith

  pub page_stored : (k : ℕ) → k ≡ 2 → length page ≡ P
      → after ≡ splice (mid_of at (at + P - at) full) 0 (take (length (mid_of at (at + P - at) full)) page)
      → put_mid at (at + P - at) full after ≡ put_place P full b k page
  unfolding put_place
  page_stored k h l c =
      rw (lt-ltb b (pages_in P (length full)) below, eq-eqb k 2 h)
      (put_copied at (at + P - at) full after page (l ∙ sym q) (omega (arith, q, e, fits)) c ∙ ap (λ (n : ℕ). splice full n page) e)

  pub zeros_stored : (k : ℕ) → (k ≡ 2 → ⊥) → after ≡ zeros (length (mid_of at (at + P - at) full))
      → put_mid at (at + P - at) full after ≡ put_place P full b k page
  unfolding put_place
  zeros_stored k h c =
      rw (lt-ltb b (pages_in P (length full)) below, ne_eqb k 2 h)
      (put_filled at (at + P - at) full after (omega (arith, q, e, fits)) c ∙ ap (λ (n : ℕ). splice full at (zeros n)) q
      ∙ ap (λ (n : ℕ). splice full n (zeros P)) e)

pub nothing_stored : (P : ℕ) (full : List ℕ) (b k : ℕ) (page : List ℕ) → pages_in P (length full) ≤ b → full ≡ put_place P full b k page
unfolding put_place
nothing_stored P full b k page h = rw (le-ltb b (pages_in P (length full)) h)
