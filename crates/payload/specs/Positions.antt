-- The position before a place, and where a jump from there leads.
use Rattle.std.specs.Prelude.{ℕ, zero, suc, ◌+◌, ◌-◌, ◌≤◌, ◌≡◌, ℤ, pos, ◌+ℤ◌, ◌-ℤ◌}
use Rattle.std.proofs.Common.{arith, ap, ◌∙◌, SFits, to_z, of_z, le-ltb}
use Rattle.std.proofs.Math.IntN.{sub_ℕ}
use Rattle.std.specs.Int.{w32}
use Rattle.std.proofs.lemmas.Int.{to_z_pos, to_z-of_z}

-- −1 before the first
abbrev pub before : ℕ → ℤ
before next = sub_ℕ next 1

pub before_next : (at : ℕ) → before (at + 1) ≡ pos at
before_next at =
    let e : at + 1 - 1 ≡ at = omega arith in
    rw (le-ltb (at + 1) 1 (omega arith)) (ap pos e)

pub moved : (next j : ℕ) → before next +ℤ pos (j + 1) ≡ pos (next + j)
moved zero j =
    let e : j + 1 - 1 ≡ 0 + j = omega arith in
    rw (le-ltb (j + 1) 1 (omega arith)) (ap pos e)
moved (suc k) j =
    let q : suc k ≡ k + 1 = omega arith in
    let e : k + (j + 1) ≡ suc k + j = omega arith in
    ap (λ (z : ℤ). z +ℤ pos (j + 1)) (ap before q ∙ before_next k) ∙ ap pos e

-- up to 65,536 it is a signed 32-bit number, and the code finds it by a difference
pub before_fits : (n : ℕ) → n ≤ 65536 → SFits w32 (before n)
before_fits zero h = record { sfits = omega arith }
before_fits (suc k) h = rw (le-ltb (suc k) 1 (omega arith)) (record { sfits = omega arith })

pub before_read : (n : ℕ) → n ≤ 65536 → to_z w32 n -ℤ pos 1 ≡ before n
before_read n h = ap (λ (z : ℤ). z -ℤ pos 1) (to_z_pos w32 n (omega arith))

pub difference_fits : (n : ℕ) → n ≤ 65536 → SFits w32 (to_z w32 n -ℤ pos 1)
difference_fits n h = rw (before_read n h) (before_fits n h)

-- and reads it back from its bits
pub difference_back : (n : ℕ) → n ≤ 65536 → to_z w32 (of_z w32 (to_z w32 n -ℤ pos 1)) ≡ before n
difference_back n h = to_z-of_z w32 (to_z w32 n -ℤ pos 1) (difference_fits n h) ∙ before_read n h
