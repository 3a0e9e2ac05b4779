-- Words one after the other, and a number's digits.
use Prim.Native.Nat.{ℕ, zero, suc, ◌+◌, ◌-◌, ◌*◌, ◌/◌, ◌%◌, ◌^◌, ◌≤◌, ◌<◌}
use Prim.Native.Char.{code}
use native.Mathlib.Omega.{arith}
use native.Mathlib.Nat.{pow-suc, one-le-pow, pow-le-pow_right, zero-lt-suc}
use native.Mathlib.Decide.{dec_lt}
use mathlib.Core.Path.{◌≡◌, refl, sym, ap, ◌∙◌, subst}
use mathlib.Core.Bool.{true, false}
use mathlib.Core.List.{List, [], ◌∷◌, ◌++◌}
use lib.Dec.{ltb}
use lib.IntN.{ℤ, pos, negsuc, nat_abs}
use Rattle.std.specs.Int.{FitsUnsignedBits}
use mir.Syntax.{w32}
use mir.Val.{SFits}
use lib.ListN.{length, set, take, get_or, length-append}
use lib.Seq.{sets, take-suc, take_all, length-take-le}
use borrow.Author.Tests.{lt-ltb, le-ltb, ne_eqb}
use Rattle.layout.specs.Numbers.{kind_number, refusal_number}
use Rattle.layout.specs.NumberLaws.{refusal_some}
use Rattle.layout.specs.declared.Refusal.{Refusal}
use Rattle.std.specs.Prelude.{Ok, Err}
use Rattle.info.specs.Info.{told_numbers}
use Rattle.info.specs.declared.Info.{Info}
use Rattle.io.specs.Digits.{last_digits, hex_digit_ascii, IsDigitCount}
use Rattle.span.specs.Bytes.{Put}
use Rattle.span.specs.Ascii.{ascii}
use Rattle.info.specs.Text.{decimal_in, decimal, number_line, kind_line, last_line, slot_text, text}

pub sets_join : (l : List ℕ) (at : ℕ) (xs ys : List ℕ) → sets (sets l at xs) (at + length xs) ys ≡ sets l at (xs ++ ys)
sets_join l at [] ys =
    let q : at + 0 ≡ at = omega arith in
    ap (λ (k : ℕ). sets l k ys) q
sets_join l at (x ∷ xs) ys =
    let q : at + suc (length xs) ≡ suc at + length xs = omega arith in
    ap (λ (k : ℕ). sets (sets (set l at x) (suc at) xs) k ys) q ∙ sets_join (set l at x) (suc at) xs ys

pub put_then : {out mid after : List ℕ} {at r s : ℕ} (xs ys : List ℕ)
    → Put out at xs r mid → Put mid r ys s after → Put out at (xs ++ ys) s after
put_then {out} {mid} {after} {at} {r} {s} xs ys p q =
    let n : length (xs ++ ys) ≡ length xs + length ys = length-append xs ys in
    let a : r ≡ at + length xs = p.next in
    let b : s ≡ r + length ys = q.next in
    record {
      next = omega arith;
      bytes =
          q.bytes
          ∙ ap (λ (l : List ℕ). sets l r ys) p.bytes
          ∙ ap (λ (k : ℕ). sets (sets out at xs) k ys) a
          ∙ sets_join out at xs ys;
    }

-- one byte of a word more
pub word_turn : (out₀ out word : List ℕ) (at i : ℕ) → i < length word → out ≡ sets out₀ at (take i word)
    → set out (at + i) (get_or word i 0) ≡ sets out₀ at (take (i + 1) word)
word_turn out₀ out word at i h e =
    let t : List ℕ = take i word in
    let n : length t ≡ i = length-take-le i word (omega arith) in
    let k : at + i ≡ at + length t = omega arith in
    let j : i + 1 ≡ suc i = omega arith in
    ap (λ (l : List ℕ). set l (at + i) (get_or word i 0)) e
    ∙ ap (λ (m : ℕ). set (sets out₀ at t) m (get_or word i 0)) k
    ∙ sets_join out₀ at t (get_or word i 0 ∷ [])
    ∙ ap (λ (l : List ℕ). sets out₀ at l) (sym (take-suc word i 0 h))
    ∙ ap (λ (m : ℕ). sets out₀ at (take m word)) (sym j)

pub word_whole : (out₀ out word : List ℕ) (at i : ℕ) → i ≡ length word → out ≡ sets out₀ at (take i word) → Put out₀ at word (at + length word) out
word_whole out₀ out word at i e h =
    record { next = refl; bytes = h ∙ ap (λ (l : List ℕ). sets out₀ at l) (take_all i word (omega arith)) }

-- the digits that `io` writes are those of the definition
digit : (n : ℕ) → hex_digit_ascii (n % 10) ≡ code "0" + n % 10
digit n = rw (lt-ltb (n % 10) 10 (omega arith))

pub digits_are : (k f n : ℕ) → k ≤ f → IsDigitCount 10 1 n k → last_digits 10 k n ≡ decimal_in f n
unfolding decimal_in
digits_are zero f n h w = absurd (omega (arith, w.0))
digits_are (suc k) zero n h w = absurd (omega arith)
digits_are (suc zero) (suc f) n h w =
    let e : ltb n 10 ≡ true = lt-ltb n 10 (omega (arith, w.1)) in
    rw e (ap (λ (d : ℕ). d ∷ []) (digit n))
digits_are (suc (suc k)) (suc f) n h w =
    let p : 10 ^ suc (suc k) ≡ 10 ^ suc k * 10 = pow-suc 10 (suc k) in
    let q : 10 ^ suc k ≡ 10 ^ k * 10 = pow-suc 10 k in
    let back : suc (suc k) - 1 ≡ suc k = omega arith in
    let low : 10 ^ suc k ≤ n = subst (λ (j : ℕ). 10 ^ j ≤ n) back (w.2 (omega arith)) in
    let high : n < 10 ^ suc (suc k) = w.1 in
    let one : 1 ≤ 10 ^ k = one-le-pow k 10 (zero-lt-suc 9) in
    let back' : suc k - 1 ≡ k = omega arith in
    let same : 10 ^ (suc k - 1) ≡ 10 ^ k = ap (λ (j : ℕ). 10 ^ j) back' in
    let e : ltb n 10 ≡ false = le-ltb n 10 (omega arith) in
    let rest : last_digits 10 (suc k) (n / 10) ≡ decimal_in f (n / 10) =
    digits_are (suc k) f (n / 10) (omega arith) (omega arith, omega arith, λ i. omega arith) in
    rw e ((λ i. rest i ++ (digit n i ∷ [])))

-- and 20 of them are enough
pub digit_count : (n k : ℕ) → n < 2 ^ 64 → IsDigitCount 10 1 n k → k ≤ 20
digit_count n k h w =
    elim (dec_lt 20 k) [
      | yes g ↦
          let low : 10 ^ (k - 1) ≤ n = w.2 (omega arith) in
          let far : 20 ≤ k - 1 = omega arith in
          let big : 10 ^ 20 ≤ 10 ^ (k - 1) = pow-le-pow_right (zero-lt-suc 9) far in
          absurd (omega arith)
      | no g ↦ omega arith
    ]

pub number_put : (out after : List ℕ) (at n k r : ℕ) (room : List ℕ) → n < 2 ^ 64 → IsDigitCount 10 1 n k
    → take k room ≡ last_digits 10 k n → k ≡ length (take k room) → Put out at (take k room) r after
    → (Put out at (decimal n) r after) × (r ≤ at + 20)
number_put out after at n k r room h w e l p =
    let q : k ≤ 20 = digit_count n k h w in
    (subst (λ (l : List ℕ). Put out at l r after) (e ∙ digits_are k 20 n q w) p, omega (arith, p.next))

-- The last position. The code reads it back from its bits, as r.

pub last_some : {out after : List ℕ} {at s : ℕ} (r q : ℤ) (n : ℕ) → r ≡ q → FitsUnsignedBits 64 r → n ≡ nat_abs r
    → Put out at (number_line (ascii "last ") n) s after → Put out at (last_line q) s after
unfolding last_line
last_some {out} {after} {at} {s} r (pos a) n e f h p =
    subst (λ (m : ℕ). Put out at (number_line (ascii "last ") m) s after) (h ∙ ap nat_abs e) p
last_some r (negsuc k) n e f h p = absurd (subst (FitsUnsignedBits 64) e f)

pub last_none : {out after : List ℕ} {at s : ℕ} (r q : ℤ) → r ≡ q → SFits w32 q → (FitsUnsignedBits 64 r → ⊥)
    → Put out at (ascii "last -1\n") s after → Put out at (last_line q) s after
unfolding last_line
last_none r (pos a) e w h p =
    let b : a < 2 ^ 31 = w.sfits in
    let fits : a < 2 ^ 64 = omega arith in
    absurd (h (subst (FitsUnsignedBits 64) (sym e) fits))
last_none r (negsuc k) e w h p = p

-- The whole text

pub refused_put : {out after : List ℕ} (r : Refusal) {n s : ℕ} → n ≡ refusal_number r
    → Put out 0 (number_line (ascii "refused ") n) s after → Put out 0 (text (told_numbers (Err r))) s after
unfolding text
refused_put {out} {after} r {n} {s} q p =
    let t : text (told_numbers (Err r)) ≡ number_line (ascii "refused ") (refusal_number r) =
    rw (ne_eqb (refusal_number r) 0 (refusal_some r)) in
    subst (λ (w : List ℕ). Put out 0 w s after) (ap (λ (m : ℕ). number_line (ascii "refused ") m) q ∙ sym t) p

pub slot_put : {out after : List ℕ} (i : Info) {l' : ℤ} {s : ℕ} (m₁ m₂ m₃ : List ℕ) (a b d : ℕ)
    → l' ≡ i.last
    → Put out 0 (kind_line (kind_number i.kind)) a m₁
    → Put m₁ a (number_line (ascii "length ") i.length) b m₂
    → Put m₂ b (number_line (ascii "entries ") i.entries) d m₃
    → Put m₃ d (last_line l') s after
    → Put out 0 (text (told_numbers (Ok i))) s after
unfolding text slot_text
slot_put {out} {after} i {l'} {s} m₁ m₂ m₃ a b d z p₁ p₂ p₃ p₄ =
    let p₄' : Put m₃ d (last_line i.last) s after = subst (λ (x : ℤ). Put m₃ d (last_line x) s after) z p₄ in
    let rest₂ : List ℕ = number_line (ascii "entries ") i.entries ++ last_line i.last in
    let rest₁ : List ℕ = number_line (ascii "length ") i.length ++ rest₂ in
    put_then (kind_line (kind_number i.kind)) rest₁ p₁
    (put_then (number_line (ascii "length ") i.length) rest₂ p₂ (put_then (number_line (ascii "entries ") i.entries) (last_line i.last) p₃ p₄'))
