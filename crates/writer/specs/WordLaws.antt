-- The laws of bytes as a number: joined, loaded, compared, and their lowest difference.
use Prim.Native.Nat.{ℕ, zero, suc, ◌+◌, ◌-◌, ◌*◌, ◌/◌, ◌%◌, ◌^◌, ◌≤◌, ◌<◌}
use native.Mathlib.Omega.{arith}
use Rattle.std.proofs.Common.{mul_assoc, mod-eq_of_lt, ◌∙◌, subst, pow-add, shr-shr}
use Rattle.std.proofs.Math.Decide.{dec_lt}
use Rattle.std.specs.Prelude.{◌≡◌, Bool, List, length, take, drop}
use Rattle.std.specs.Int.{w64, from_le_bytes}
use Rattle.std.proofs.lemmas.List.{get_or-take, get_or-drop}
use Rattle.std.proofs.Math.Path.{refl, sym, ap}
use Rattle.std.proofs.Math.Bool.{true, false}
use Rattle.std.specs.Int.Bits.{bit_or, bit_xor, differ, or_shifted_r, xor_step, xor_block, xor_self, xor_lt, shifted_half, shifted_even, block_half, block_odd}
use Rattle.std.specs.Int.Count.{count_trailing_zeros, under}
use Rattle.std.proofs.Math.Dec.{eqb}
use Rattle.std.proofs.Math.ListN.{get_or}
use Rattle.std.proofs.Math.Pow.{high}
use Rattle.std.proofs.lemmas.Nat.{shl-shr}
use borrow.Author.Tests.{eqb-true, eqb-false}
use Rattle.differ.specs.Differ.{Same, next_diff}
use Rattle.differ.specs.DifferLaws.{next_is}
use Rattle.writer.specs.Words.{word_bytes, numeral, unlike, FirstIn}
pub use Rattle.writer.specs.Words.{Bytes}

-- Joined numbers

pub join : (s : List ℕ) (at j k : ℕ) → numeral s at (j + k) ≡ numeral s (at + j) k * 2 ^ (8 * j) + numeral s at j
unfolding numeral
join s at zero k =
    let q : at + 0 ≡ at = omega arith in
    let n : 0 + k ≡ k = omega arith in
    let e : numeral s (at + 0) k ≡ numeral s at k = ap (λ (i : ℕ). numeral s i k) q in
    let f : numeral s at (0 + k) ≡ numeral s at k = ap (λ (i : ℕ). numeral s at i) n in
    omega arith
join s at (suc j) k =
    let h : suc j + k ≡ suc (j + k) = omega arith in
    let e : numeral s at (suc j + k) ≡ numeral s at (suc (j + k)) = ap (λ (i : ℕ). numeral s at i) h in
    let q : at + suc j ≡ at + 1 + j = omega arith in
    let n : ℕ = numeral s (at + 1 + j) k in
    let m : ℕ = numeral s (at + 1) j in
    let p : ℕ = 2 ^ (8 * j) in
    let t : 8 * suc j ≡ 8 * j + 8 = omega arith in
    let f : n * 2 ^ (8 * suc j) ≡ n * p * 2 ^ 8 = ap (λ (i : ℕ). n * 2 ^ i) t ∙ ap (λ (i : ℕ). n * i) (pow-add 2 (8 * j) 8) ∙ sym (mul_assoc n p (2 ^ 8)) in
    let g : numeral s (at + suc j) k * 2 ^ (8 * suc j) ≡ n * 2 ^ (8 * suc j) = ap (λ (i : ℕ). numeral s i k * 2 ^ (8 * suc j)) q in
    omega (arith, join s (at + 1) j k)

-- one byte
pub one : (s : List ℕ) (at : ℕ) → get_or s at 0 ≡ numeral s at 1
unfolding numeral
one s at = omega arith

pub below : (s : List ℕ) → Bytes s → (k at : ℕ) → numeral s at k < 2 ^ (8 * k)
unfolding numeral
below s w zero at = omega arith
below s w (suc k) at =
    let t : 8 * suc k ≡ 8 * k + 8 = omega arith in
    let p : 2 ^ (8 * suc k) ≡ 2 ^ (8 * k) * 2 ^ 8 = ap (λ (i : ℕ). 2 ^ i) t ∙ pow-add 2 (8 * k) 8 in
    omega (arith, w at, below s w k (at + 1))

-- ored together they are joined
pub or_joined : (s : List ℕ) → Bytes s → (at j k low up : ℕ) → low ≡ numeral s at j → up ≡ numeral s (at + j) k → up * 2 ^ (8 * j) < 2 ^ 64
    → bit_or low (up * 2 ^ (8 * j) % 2 ^ 64) ≡ numeral s at (j + k)
or_joined s w at j k low up e f h =
    ap (bit_or low) (mod-eq_of_lt h)
    ∙ or_shifted_r up (8 * j) low (subst (λ (n : ℕ). n < 2 ^ (8 * j)) (sym e) (below s w j at))
    ∙ (λ i. f i * 2 ^ (8 * j) + e i)
    ∙ sym (join s at j k)

-- eight bytes that are loaded at one go
pub loaded : (s bs : List ℕ) (at : ℕ) → bs ≡ take word_bytes (drop at s) → from_le_bytes w64 bs ≡ numeral s at word_bytes
unfolding numeral
loaded s bs at e =
    omega (
      arith,
      byte 0 at (omega arith) (omega arith),
      byte 1 (at + 1) (omega arith) (omega arith),
      byte 2 (at + 1 + 1) (omega arith) (omega arith),
      byte 3 (at + 1 + 1 + 1) (omega arith) (omega arith),
      byte 4 (at + 1 + 1 + 1 + 1) (omega arith) (omega arith),
      byte 5 (at + 1 + 1 + 1 + 1 + 1) (omega arith) (omega arith),
      byte 6 (at + 1 + 1 + 1 + 1 + 1 + 1) (omega arith) (omega arith),
      byte 7 (at + 1 + 1 + 1 + 1 + 1 + 1 + 1) (omega arith) (omega arith),
    )
  where
    byte : (i j : ℕ) → i < word_bytes → at + i ≡ j → get_or bs i 0 ≡ get_or s j 0
    byte i j h q =
        ap (λ (l : List ℕ). get_or l i 0) e ∙ get_or-take word_bytes (drop at s) i 0 h ∙ get_or-drop at s i 0 ∙ ap (λ (k : ℕ). get_or s k 0) q

-- The digits in which two numbers differ

differ_none : (p q : ℕ) → differ p q ≡ 0 → p ≡ q
differ_none zero q e = sym e
differ_none (suc p) zero e = absurd (omega arith)
differ_none (suc p) (suc q) e = ap suc (differ_none p q e)

xor_none : (n x y : ℕ) → x ≤ n → bit_xor x y ≡ 0 → x ≡ y
xor_none zero x y h e =
    let z : x ≡ 0 = omega arith in
    z ∙ sym (ap (λ (v : ℕ). bit_xor v y) (sym z) ∙ e)
xor_none (suc n) x y h e =
    let s : bit_xor x y ≡ bit_xor (x / 2) (y / 2) * 2 + differ (x % 2) (y % 2) = xor_step x y in
    let f : x / 2 ≡ y / 2 = xor_none n (x / 2) (y / 2) (omega arith) (omega arith) in
    let g : x % 2 ≡ y % 2 = differ_none (x % 2) (y % 2) (omega arith) in
    omega arith

pub unlike_none : (a b : List ℕ) → Bytes a → Bytes b → (k at : ℕ) → unlike a b at k ≡ 0 → Same a b at (at + k)
unfolding numeral Same
unlike_none a b wa wb zero at e i h l = absurd (omega arith)
unlike_none a b wa wb (suc k) at e i h l =
    let s : unlike a b at (suc k) ≡ unlike a b (at + 1) k * 2 ^ 8 + bit_xor (get_or a at 0) (get_or b at 0) =
    xor_block 8 (numeral a (at + 1) k) (numeral b (at + 1) k) (get_or a at 0) (get_or b at 0) (wa at) (wb at) in
    elim (dec_lt at i) [
      | yes m ↦ unlike_none a b wa wb k (at + 1) (omega arith) i (omega arith) (omega arith)
      | no m ↦
          let q : i ≡ at = omega arith in
          ap (λ (j : ℕ). get_or a j 0) q
          ∙ xor_none (get_or a at 0) (get_or a at 0) (get_or b at 0) (omega arith) (omega arith)
          ∙ ap (λ (j : ℕ). get_or b j 0) (sym q)
    ]

-- The zeros below the lowest digit that is set

pub zeros_even : (k n : ℕ) → n % 2 ≡ 0 → count_trailing_zeros (suc k) n ≡ suc (count_trailing_zeros k (n / 2))
unfolding count_trailing_zeros
zeros_even k n e = ap (λ (r : ℕ). under r (count_trailing_zeros k (n / 2))) e

pub zeros_odd : (k n : ℕ) → n % 2 ≡ 1 → count_trailing_zeros (suc k) n ≡ 0
unfolding count_trailing_zeros
zeros_odd k n e = ap (λ (r : ℕ). under r (count_trailing_zeros k (n / 2))) e

-- of a number that was moved up j digits
pub zeros_shifted : (j w x : ℕ) → count_trailing_zeros (j + w) (x * 2 ^ j) ≡ j + count_trailing_zeros w x
zeros_shifted zero w x =
    let q : 0 + w ≡ w = omega arith in
    let p : x * 2 ^ 0 ≡ x = omega arith in
    (λ i. count_trailing_zeros (q i) (p i)) ∙ omega arith
zeros_shifted (suc j) w x =
    let q : suc j + w ≡ suc (j + w) = omega arith in
    ap (λ (i : ℕ). count_trailing_zeros i (x * 2 ^ suc j)) q
    ∙ zeros_even (j + w) (x * 2 ^ suc j) (shifted_even x j)
    ∙ ap (λ (n : ℕ). suc (count_trailing_zeros (j + w) n)) (shifted_half x j)
    ∙ omega (arith, zeros_shifted j w x)

-- one of the j lowest digits is set
zeros_few : (j w x r : ℕ) → 0 < r → r < 2 ^ j → count_trailing_zeros (j + w) (x * 2 ^ j + r) < j
zeros_few zero w x r h l = absurd (omega arith)
zeros_few (suc j) w x r h l =
    let n : ℕ = x * 2 ^ suc j + r in
    let odd : n % 2 ≡ r % 2 = block_odd x j r in
    let half : n / 2 ≡ x * 2 ^ j + r / 2 = block_half x j r in
    let q : suc j + w ≡ suc (j + w) = omega arith in
    let p : 2 ^ suc j ≡ 2 ^ j * 2 = pow_two j in
    let first : count_trailing_zeros (suc j + w) n ≡ count_trailing_zeros (suc (j + w)) n = ap (λ (i : ℕ). count_trailing_zeros i n) q in
    elim (dec_lt (r % 2) 1) [
      | yes even ↦
          let f : count_trailing_zeros (suc (j + w)) n ≡ suc (count_trailing_zeros (j + w) (n / 2)) = zeros_even (j + w) n (omega arith) in
          let g : count_trailing_zeros (j + w) (n / 2) ≡ count_trailing_zeros (j + w) (x * 2 ^ j + r / 2) = ap (count_trailing_zeros (j + w)) half in
          omega (arith, zeros_few j w x (r / 2) (omega arith) (omega arith))
      | no odd_digit ↦ omega (arith, zeros_odd (j + w) n (omega arith))
    ]
  where
    pow_two : (j : ℕ) → 2 ^ suc j ≡ 2 ^ j * 2
    pow_two j =
        let q : suc j ≡ j + 1 = omega arith in
        ap (λ (i : ℕ). 2 ^ i) q ∙ pow-add 2 j 1

module _ (a b : List ℕ) (wa : Bytes a) (wb : Bytes b) where
  -- the bits of one byte, below those of the others
  abbrev byte_at : ℕ → ℕ
  byte_at at = bit_xor (get_or a at 0) (get_or b at 0)

  unlike_first : (at k : ℕ) → unlike a b at (suc k) ≡ unlike a b (at + 1) k * 2 ^ 8 + byte_at at
  unfolding numeral
  unlike_first at k = xor_block 8 (numeral a (at + 1) k) (numeral b (at + 1) k) (get_or a at 0) (get_or b at 0) (wa at) (wb at)

  -- the first byte is alike: what the others tell
  first_later : (at k m x i : ℕ) → x ≡ unlike a b (at + 1) k * 2 ^ 8 → get_or a at 0 ≡ get_or b at 0
      → FirstIn a b (at + 1) k (unlike a b (at + 1) k) (count_trailing_zeros (8 * m) (unlike a b (at + 1) k) / 8)
      → i ≡ count_trailing_zeros (8 * suc m) x / 8 → FirstIn a b at (suc k) x i
  unfolding Same
  first_later at k m x i e same f q =
      let y : ℕ = unlike a b (at + 1) k in
      let j : ℕ = count_trailing_zeros (8 * m) y / 8 in
      let t : 8 * suc m ≡ 8 + 8 * m = omega arith in
      let z : count_trailing_zeros (8 * suc m) x ≡ 8 + count_trailing_zeros (8 * m) y =
      (λ l. count_trailing_zeros (t l) (e l)) ∙ zeros_shifted 8 (8 * m) y in
      let is : i ≡ suc j = omega arith in
      let here : at + i ≡ at + 1 + j = omega arith in
      let then : at + i + 1 ≡ at + 1 + j + 1 = omega arith in
      let many : suc k - (i + 1) ≡ k - (j + 1) = omega arith in
      let far : 8 * i ≡ 8 + 8 * j = omega arith in
      let down : x / 2 ^ (8 * i) ≡ y / 2 ^ (8 * j) =
      ap (λ (n : ℕ). x / 2 ^ n) far ∙ sym (shr-shr x 8 (8 * j)) ∙ ap (λ (n : ℕ). n / 2 ^ 8 / 2 ^ (8 * j)) e
      ∙ ap (λ (n : ℕ). n / 2 ^ (8 * j)) (shl-shr y 8) in
      record {
        within = omega (arith, f.within);
        alike =
            λ n h l.
            elim (dec_lt at n) [
              | yes o ↦ f.alike n (omega arith) (omega arith)
              | no o ↦
                  let r : n ≡ at = omega arith in
                  ap (λ (p : ℕ). get_or a p 0) r ∙ same ∙ ap (λ (p : ℕ). get_or b p 0) (sym r)
            ];
        differ = λ r. f.differ (ap (λ (p : ℕ). get_or a p 0) (sym here) ∙ r ∙ ap (λ (p : ℕ). get_or b p 0) here);
        left = ap (λ (n : ℕ). n / 2 ^ 8) down ∙ f.left ∙ (λ l. unlike a b (sym then l) (sym many l));
      }

  -- the first byte differs
  first_here : (at k m x i : ℕ) → x ≡ unlike a b (at + 1) k * 2 ^ 8 + byte_at at → (get_or a at 0 ≡ get_or b at 0 → ⊥)
      → i ≡ count_trailing_zeros (8 * suc m) x / 8 → FirstIn a b at (suc k) x i
  unfolding Same
  first_here at k m x i e other q =
      let y : ℕ = unlike a b (at + 1) k in
      let d : ℕ = byte_at at in
      let few : d < 2 ^ 8 = xor_lt 8 (get_or a at 0) (get_or b at 0) (wa at) (wb at) in
      let some : 0 < d =
      elim (dec_lt 0 d) [
        | yes h ↦ h
        | no h ↦ absurd (other (xor_none (get_or a at 0) (get_or a at 0) (get_or b at 0) (omega arith) (omega arith)))
      ] in
      let t : 8 * suc m ≡ 8 + 8 * m = omega arith in
      let z : count_trailing_zeros (8 * suc m) x ≡ count_trailing_zeros (8 + 8 * m) (y * 2 ^ 8 + d) = λ l. count_trailing_zeros (t l) (e l) in
      let is : i ≡ 0 = omega (arith, zeros_few 8 (8 * m) y d some few) in
      let here : at + i ≡ at = omega arith in
      let then : at + i + 1 ≡ at + 1 = omega arith in
      let many : suc k - (i + 1) ≡ k = omega arith in
      let none : 8 * i ≡ 0 = omega arith in
      let one : x / 2 ^ 0 ≡ x = omega arith in
      record {
        within = omega arith;
        alike = λ n h l. absurd (omega arith);
        differ = λ r. other (ap (λ (p : ℕ). get_or a p 0) (sym here) ∙ r ∙ ap (λ (p : ℕ). get_or b p 0) here);
        left =
            ap (λ (n : ℕ). x / 2 ^ n / 2 ^ 8) none ∙ ap (λ (n : ℕ). n / 2 ^ 8) (one ∙ e) ∙ high y 8 few
            ∙ (λ l. unlike a b (sym then l) (sym many l));
      }

  pub first_in : (k at m x i : ℕ) → k ≤ m → x ≡ unlike a b at k → (x ≡ 0 → ⊥) → i ≡ count_trailing_zeros (8 * m) x / 8 → FirstIn a b at k x i
  unfolding numeral
  first_in zero at m x i h e n q = absurd (n e)
  first_in (suc k) at zero x i h e n q = absurd (omega arith)
  first_in (suc k) at (suc m) x i h e n q =
      go (eqb (get_or a at 0) (get_or b at 0)) refl
      (first_in k (at + 1) m (unlike a b (at + 1) k) (count_trailing_zeros (8 * m) (unlike a b (at + 1) k) / 8) (omega arith) refl)
    where
      go : (t : Bool) → eqb (get_or a at 0) (get_or b at 0) ≡ t
          → ((unlike a b (at + 1) k ≡ 0 → ⊥) → count_trailing_zeros (8 * m) (unlike a b (at + 1) k) / 8
          ≡ count_trailing_zeros (8 * m) (unlike a b (at + 1) k) / 8
          → FirstIn a b (at + 1) k (unlike a b (at + 1) k) (count_trailing_zeros (8 * m) (unlike a b (at + 1) k) / 8))
          → FirstIn a b at (suc k) x i
      go true s rest =
          let same : get_or a at 0 ≡ get_or b at 0 = eqb-true (get_or a at 0) (get_or b at 0) s in
          let none : byte_at at ≡ 0 = ap (λ (v : ℕ). bit_xor v (get_or b at 0)) same ∙ xor_self (get_or b at 0) in
          let y : x ≡ unlike a b (at + 1) k * 2 ^ 8 = omega (arith, unlike_first at k) in
          first_later at k m x i y same (rest (λ z. n (omega arith)) refl) q
      go false s rest = first_here at k m x i (e ∙ unlike_first at k) (eqb-false (get_or a at 0) (get_or b at 0) s) q

  -- so it is where a and b differ next
  pub first_next : (at k x i : ℕ) → at + k ≤ length a → at + k ≤ length b → FirstIn a b at k x i → at + i ≡ next_diff a b at
  first_next at k x i la lb f =
      sym
      (next_is a b at (at + i)
      (record {
        on = omega arith;
        within = λ h. (omega (arith, f.within), omega (arith, f.within));
        alike = f.alike;
        differ = λ h l. f.differ;
      }))
