-- Signed numbers of the code, over plain numbers: a position that moved, and whether it lies in a page.
use Prim.Native.Nat.{ℕ, ◌^◌, ◌≤◌, ◌<◌}
use native.Mathlib.Omega.{arith}
use mathlib.Core.Path.{◌≡◌, refl, sym, ap, ◌∙◌, subst}
use lib.IntN.{ℤ, pos, negsuc, nat_abs}
use mir.Syntax.{w32, w64}
use mir.Val.{SFits, to_z}
use mir.ValLaws.{to_z_pos}
use Rattle.std.specs.Prelude.{unsigned_abs}
use Rattle.std.specs.Int.{FitsUnsignedBits}
use borrow.Author.Tests.{lt-ltb, le-ltb}
use Rattle.payload.specs.Entries.{in_page}
use Rattle.payload.specs.Steps.{landing}
use Rattle.payload.specs.declared.Step.TheVariants.{Broken, Entry}

-- Where an entry lands. The code reads the place that it moved to, q, back from its bits, as r, and takes it as an index, if it is one.

pub below : (n : ℕ) (r q : ℤ) (v next : ℕ) → r ≡ q → SFits w64 q → (FitsUnsignedBits 64 r → ⊥) → Broken ≡ landing (in_page n q) q v next
unfolding in_page
below n r (pos a) v next e f h =
    let g : a < 2 ^ 63 = f.sfits in
    absurd (h (subst (FitsUnsignedBits 64) (sym e) (omega arith)))
below n r (negsuc k) v next e f h = refl

module _ (r : ℤ) (at : ℕ) (is : FitsUnsignedBits 64 r × (at ≡ unsigned_abs r)) where
  pub place_is : r ≡ pos at
  place_is = go r is
    where
      go : (z : ℤ) → FitsUnsignedBits 64 z × (at ≡ unsigned_abs z) → z ≡ pos at
      go (pos a) k = ap pos (sym k.1)
      go (negsuc a) k = absurd k.0

  module _ (n : ℕ) (q : ℤ) (v next : ℕ) (e : r ≡ q) where
    pub beyond : n ≤ at → Broken ≡ landing (in_page n q) q v next
    unfolding in_page
    beyond h = rw (sym e ∙ place_is, le-ltb at n h)

    pub landed_in : at < n → n ≤ 65536 → Entry (to_z w32 at) v next ≡ landing (in_page n q) q v next
    unfolding in_page
    landed_in h k = rw (sym e ∙ place_is, lt-ltb at n h) (ap (λ (z : ℤ). Entry z v next) (to_z_pos w32 at (omega arith)))
