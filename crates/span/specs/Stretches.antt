-- A list cut into stretches of one length: what is left after the whole ones.
use Rattle.std.specs.Prelude.{ℕ, ◌+◌, ◌-◌, ◌%◌, ◌<◌, ◌≡◌, List, ◌++◌, length, drop}
use native.Mathlib.Omega.{arith}
use Rattle.std.proofs.Math.Nat.{add-mod_left, mod-eq_of_lt, mod-le}
use Rattle.std.proofs.Common.{sym, ap, ◌∙◌, length-append, drop-drop, drop_at}

-- what is left of a list after its whole stretches
abbrev pub tail : ℕ → List ℕ → List ℕ
tail n xs = drop (length xs - length xs % n) xs

pub tail_step : (n : ℕ) (xs ys : List ℕ) → length xs ≡ n → tail n (xs ++ ys) ≡ tail n ys
tail_step n xs ys e =
    let l : length (xs ++ ys) ≡ n + length ys = length-append xs ys ∙ ap (λ (k : ℕ). k + length ys) e in
    let m : length (xs ++ ys) % n ≡ length ys % n = ap (λ (k : ℕ). k % n) l ∙ add-mod_left n (length ys) in
    let q : length (xs ++ ys) - length (xs ++ ys) % n ≡ n + (length ys - length ys % n) = omega (arith, mod-le (length ys) n) in
    ap (λ (k : ℕ). drop k (xs ++ ys)) q
    ∙ sym (drop-drop (length ys - length ys % n) n (xs ++ ys))
    ∙ ap (λ (l : List ℕ). drop (length ys - length ys % n) l) (drop_at xs ys n e)

pub tail_short : (n : ℕ) (xs : List ℕ) → length xs < n → tail n xs ≡ xs
tail_short n xs h =
    let m : length xs % n ≡ length xs = mod-eq_of_lt h in
    let q : length xs - length xs % n ≡ 0 = omega arith in
    ap (λ (k : ℕ). drop k xs) q
