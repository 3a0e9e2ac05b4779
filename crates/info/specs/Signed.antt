-- A position that is not below 0, read back from its bits as r.
use Rattle.std.specs.Prelude.{◌<◌, ◌^◌, ◌≡◌, false, T, ℤ, pos, negsuc, nat_abs}
use Rattle.std.proofs.Common.{arith, sym, ap, ◌∙◌, true≢false, Fits, SFits}
use Rattle.std.specs.Int.Signed.{lt_z, non_neg}
use Rattle.std.specs.Int.{w32, w64}

pub not_below : (r : ℤ) → lt_z r (pos 0) ≡ false → T (non_neg r)
not_below (pos a) h = tt
not_below (negsuc k) h = absurd (true≢false h)

pub read_fits : (r q : ℤ) → r ≡ q → SFits w32 q → lt_z r (pos 0) ≡ false → Fits w64 (nat_abs r)
read_fits r (pos a) e f h =
    let n : nat_abs r ≡ a = ap nat_abs e in
    let b : a < 2 ^ 31 = f.sfits in
    record { fits = omega arith }
read_fits r (negsuc k) e f h = absurd (true≢false (sym (ap (λ (z : ℤ). lt_z z (pos 0)) e) ∙ h))
