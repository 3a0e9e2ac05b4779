-- What sound lengths are: n and m are those of the lengths, and slots lie in the area.
use Rattle.std.specs.Prelude.{ℕ, ◌+◌, ◌-◌, ◌*◌, ◌/◌, ◌≤◌, ◌<◌, ◌⊎◌, Bool, true, false, ◌&&◌, ◌||◌, ◌≡◌, refl, eqb, leb}
use Rattle.std.proofs.Common.{div-le_self, arith, inl, inr, ap, ◌∙◌, eqb-true, leb-true, eq-eqb, ne_eqb, le-leb}
use Rattle.std.proofs.Math.Nat.{mul-div_cancel_left}
use Rattle.std.proofs.lemmas.Bool.{false≢true}
use Rattle.std.proofs.Math.Bool.{or-true}
use Rattle.layout.specs.Sizes.{segment, blocks_at_most, full_head, slot_size, slot_at, page_at}
use Rattle.layout.specs.Lengths.{blocks_in, pages_in, patch_fits, full_fits}

-- what sound lengths are: 512 + 512·n bytes with n not above the most, and 0 or 4,096 + P·m bytes with m not above n
pub patch_fits_is : (P l : ℕ) → patch_fits P l ≡ true → (l ≡ slot_at (blocks_in l)) × (blocks_in l ≤ blocks_at_most P)
unfolding patch_fits
patch_fits_is P l h = go (eqb l (slot_at (blocks_in l))) (leb (blocks_in l) (blocks_at_most P)) refl refl h
  where
    go : (a b : Bool) → eqb l (slot_at (blocks_in l)) ≡ a → leb (blocks_in l) (blocks_at_most P) ≡ b → (a && b) ≡ true
        → (l ≡ slot_at (blocks_in l)) × (blocks_in l ≤ blocks_at_most P)
    go true true p q k = (eqb-true l (slot_at (blocks_in l)) p, leb-true (blocks_in l) (blocks_at_most P) q)
    go true false p q k = absurd (false≢true k)
    go false b p q k = absurd (false≢true k)

pub full_fits_is : (P n l : ℕ) → full_fits P n l ≡ true → (l ≡ 0) ⊎ ((l ≡ page_at P (pages_in P l)) × (pages_in P l ≤ n))
unfolding full_fits
full_fits_is P n l h = go (eqb l 0) (eqb l (page_at P (pages_in P l))) (leb (pages_in P l) n) refl refl refl h
  where
    go : (z a b : Bool) → eqb l 0 ≡ z → eqb l (page_at P (pages_in P l)) ≡ a → leb (pages_in P l) n ≡ b → (z || (a && b)) ≡ true
        → (l ≡ 0) ⊎ ((l ≡ page_at P (pages_in P l)) × (pages_in P l ≤ n))
    go true a b r p q k = inl (eqb-true l 0 r)
    go false true true r p q k = inr (eqb-true l (page_at P (pages_in P l)) p, leb-true (pages_in P l) n q)
    go false true false r p q k = absurd (false≢true k)
    go false false b r p q k = absurd (false≢true k)

-- a page has at least one byte, so there are no more blocks than bytes
pub most_blocks : (P : ℕ) → blocks_at_most P ≤ segment
most_blocks P = div-le_self segment P

-- and n and m are those of the lengths
pub blocks_of : (n : ℕ) → blocks_in (slot_at n) ≡ n
unfolding blocks_in
blocks_of n = omega arith

pub patch_fits_at : (P n : ℕ) → n ≤ blocks_at_most P → patch_fits P (slot_at n) ≡ true
unfolding patch_fits
patch_fits_at P n h =
    let e : blocks_in (slot_at n) ≡ n = blocks_of n in
    rw (e, eq-eqb (slot_at n) (slot_at n) refl, le-leb n (blocks_at_most P) h)

pub pages_of : (P m : ℕ) → 0 < P → pages_in P (page_at P m) ≡ m
unfolding pages_in
pages_of P m h =
    let e : full_head + P * m - full_head ≡ P * m = omega arith in
    ap (λ (k : ℕ). k / P) e ∙ mul-div_cancel_left m h

pub full_fits_at : (P n m : ℕ) → 0 < P → m ≤ n → full_fits P n (page_at P m) ≡ true
unfolding full_fits
full_fits_at P n m h k =
    let e : pages_in P (page_at P m) ≡ m = pages_of P m h in
    rw (ne_eqb (page_at P m) 0 (λ q. omega arith), e, eq-eqb (page_at P m) (page_at P m) refl, le-leb m n k)

pub absent_fits : (P n : ℕ) → full_fits P n 0 ≡ true
unfolding full_fits
absent_fits P n = refl

-- a slot of a block below n lies in the area
pub slot_within : (P l b : ℕ) → patch_fits P l ≡ true → b < blocks_in l → slot_at b + slot_size ≤ l
slot_within P l b h k =
    let e : l ≡ slot_at (blocks_in l) = (patch_fits_is P l h).0 in
    omega arith

-- The full area's length

pub fits_full : (P n l : ℕ) → (l ≡ 0) ⊎ ((l ≡ page_at P (pages_in P l)) × (pages_in P l ≤ n)) → full_fits P n l ≡ true
unfolding full_fits
fits_full P n l (inl e) = rw (eq-eqb l 0 e)
fits_full P n l (inr h) = rw (eq-eqb l (page_at P (pages_in P l)) h.0, le-leb (pages_in P l) n h.1) (or-true (eqb l 0))
