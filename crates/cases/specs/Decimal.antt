-- The number that a text's decimal digits say.
use Rattle.std.specs.Prelude.{ℕ, ◌+◌, ◌-◌, ◌*◌, ◌≤◌, ◌<◌, ◌≡◌, refl, cond, List, ltb, length, drop, get_or}
use Rattle.std.specs.List.{fold}
use Rattle.std.proofs.Common.{sym, ap, ◌∙◌, drop_of_length-le}
use Rattle.span.specs.Tests.{tests}
use Rattle.span.specs.Laws.{peel}

-- the largest number that another digit fits after
abbrev pub top : ℕ
top = 1844674407370955160

-- one more digit: any other byte, and a digit that does not fit, leaves the number
unfoldable pub grow : ℕ → ℕ → ℕ
grow value digit = cond (ltb digit 48) value (cond (ltb 57 digit) value (cond (ltb top value) value (value * 10 + (digit - 48))))

-- a number, and after it the digits of a text
abbrev pub decimal : ℕ → List ℕ → ℕ
decimal value digits = fold grow value digits

-- a digit that fits
grow_is : (v d : ℕ) → 48 ≤ d → d ≤ 57 → v ≤ top → grow v d ≡ v * 10 + (d - 48)
unfolding grow
grow_is v d low high fits = search tests

-- and one that is told by its value
pub grow_digit : (v d w : ℕ) → 48 ≤ d → d ≤ 57 → v ≤ top → w ≡ d - 48 → v * 10 + w ≡ grow v d
grow_digit v d w low high fits e = ap (λ (x : ℕ). v * 10 + x) e ∙ sym (grow_is v d low high fits)

-- one digit read
pub decimal_turn : (s : List ℕ) (v at w : ℕ) → at < length s → w ≡ grow v (get_or s at 0)
    → decimal v (drop at s) ≡ decimal w (drop (at + 1) s)
decimal_turn s v at w h e =
    ap (λ (l : List ℕ). decimal v l) (peel s at (at + 1) h refl) ∙ ap (λ (x : ℕ). decimal x (drop (at + 1) s)) (sym e)

-- nothing left to read
pub decimal_end : (s : List ℕ) (v at : ℕ) → length s ≤ at → decimal v (drop at s) ≡ v
decimal_end s v at h = ap (λ (l : List ℕ). decimal v l) (drop_of_length-le s h)
