-- The laws of a packed map, and that a map is determined by its pairs.
use Prim.Native.Nat.{ℕ, zero, suc, ◌+◌, ◌*◌, ◌/◌, ◌%◌, ◌^◌, ◌≤◌, ◌<◌}
use native.Mathlib.Omega.{arith}
use Rattle.std.proofs.Common.{div-one, ◌∙◌, lt-ltb, le-ltb}
use Rattle.std.proofs.Math.Nat.{div-div-eq-div-mul, div-add-mod, mod-mod, mod-eq_of_lt}
use Rattle.std.proofs.Math.Numerals.{add-one}
use Rattle.std.proofs.Math.Decide.{dec_lt}
use Rattle.std.specs.Prelude.{◌≡◌}
use Rattle.std.proofs.Math.Path.{refl, sym, ap}
use mathlib.Core.List.{List, [], ◌∷◌, ◌++◌}
use Rattle.std.proofs.Math.ListN.{length, get_or, length-append, get_or-append, get_or-eq_default}
use Rattle.std.proofs.Math.Seq.{get_or_at}
use Rattle.span.specs.Laws.{ext}
use Rattle.blockmap.specs.Pairs.{map_bytes, pair_at, reserved_pair}
use Rattle.blockmap.specs.PairLaws.{pair_within}
use Rattle.blockmap.specs.Pack.{pair_of, byte_of, pair_in, packed_byte, packed_first, packed}

-- Kinds

pub pair_of_below : (k : ℕ) → pair_of k < reserved_pair
unfolding pair_of
pair_of_below zero = omega arith
pair_of_below (suc zero) = omega arith
pair_of_below (suc (suc k)) = omega arith

-- Bytes

module _ (p q r s : ℕ) where
  pub byte_of_below : byte_of p q r s < 256
  unfolding byte_of
  byte_of_below = omega arith

  pub byte_0 : byte_of p q r s % 4 ≡ p % 4
  unfolding byte_of
  byte_0 = omega arith

  pub byte_1 : byte_of p q r s / 4 % 4 ≡ q % 4
  unfolding byte_of
  byte_1 = omega arith

  pub byte_2 : byte_of p q r s / 16 % 4 ≡ r % 4
  unfolding byte_of
  byte_2 = omega arith

  pub byte_3 : byte_of p q r s / 64 % 4 ≡ s % 4
  unfolding byte_of
  byte_3 = omega arith

zero_byte : byte_of 0 0 0 0 ≡ 0
unfolding byte_of
zero_byte = refl

-- a byte is its four pairs

joined : (x a b c p q r : ℕ) → x ≡ 4 * a + p → a ≡ 4 * b + q → b ≡ 4 * c + r → p + (4 * q + (16 * r + 64 * c)) ≡ x
joined x a b c p q r d e f = omega arith

pub byte_back : (x : ℕ) → x < 256 → byte_of (x % 4) (x / 4 % 4) (x / 16 % 4) (x / 64 % 4) ≡ x
unfolding byte_of
byte_back x h =
    let small : x / 64 < 4 = omega arith in
    rw
    (mod-mod x 4, mod-mod (x / 4) 4, mod-mod (x / 16) 4, mod-mod (x / 64) 4, mod-eq_of_lt small)
    (joined x (x / 4) (x / 16) (x / 64) (x % 4) (x / 4 % 4) (x / 16 % 4) (sym (div-add-mod x 4))
    (sym (div-add-mod (x / 4) 4) ∙ ap (λ (d : ℕ). 4 * d + x / 4 % 4) (div-div-eq-div-mul x 4 4))
    (sym (div-add-mod (x / 16) 4) ∙ ap (λ (d : ℕ). 4 * d + x / 16 % 4) (div-div-eq-div-mul x 16 4)))

-- Packed bytes

pub pair_used : (f : ℕ → ℕ) (n b : ℕ) → b < n → pair_in f n b ≡ f b
unfolding pair_in
pair_used f n b h = rw (lt-ltb b n h)

pub pair_unused : (f : ℕ → ℕ) (n b : ℕ) → n ≤ b → pair_in f n b ≡ 0
unfolding pair_in
pair_unused f n b h = rw (le-ltb b n h)

module _ (f : ℕ → ℕ) (n : ℕ) where
  pub packed_more : (i : ℕ) → packed_first f n (i + 1) ≡ packed_first f n i ++ (packed_byte f n i ∷ [])
  unfolding packed_first
  packed_more i = rw add-one

  pub packed_first_length : (k : ℕ) → length (packed_first f n k) ≡ k
  unfolding packed_first
  packed_first_length zero = refl
  packed_first_length (suc i) = let h : length (packed_first f n i) ≡ i = packed_first_length i in simp length-append (omega arith)

  pub packed_length : length (packed f n) ≡ map_bytes n
  unfolding packed
  packed_length = packed_first_length (map_bytes n)

  pub packed_first_at : (k i : ℕ) → i < k → get_or (packed_first f n k) i 0 ≡ packed_byte f n i
  unfolding packed_first
  packed_first_at zero i h = absurd (omega arith)
  packed_first_at (suc k) i h =
      elim (dec_lt i k) [
        | yes l ↦
            get_or-append (packed_first f n k) (packed_byte f n k ∷ []) 0 i (rw (packed_first_length k) l)
            ∙ packed_first_at k i l
        | no l ↦
            let e : i ≡ k = omega arith in
            get_or_at (packed_first f n k) (packed_byte f n k) [] 0 i (packed_first_length k ∙ sym e)
            ∙ ap (packed_byte f n) (sym e)
      ]

  pub packed_at : (i : ℕ) → i < map_bytes n → get_or (packed f n) i 0 ≡ packed_byte f n i
  unfolding packed
  packed_at i h = packed_first_at (map_bytes n) i h

  pub packed_below : (i : ℕ) → get_or (packed f n) i 0 < 256
  unfolding packed_byte
  packed_below i =
      elim (dec_lt i (map_bytes n)) [
        | yes l ↦
            rw (packed_at i l)
            (byte_of_below (pair_in f n (4 * i)) (pair_in f n (4 * i + 1)) (pair_in f n (4 * i + 2)) (pair_in f n (4 * i + 3)))
        | no l ↦
            let e : length (packed f n) ≡ map_bytes n = packed_length in
            let z : get_or (packed f n) i 0 ≡ 0 = get_or-eq_default (packed f n) 0 (omega arith) in
            omega arith
      ]

  -- the pair at place k of byte i
  inside : (i k : ℕ) → k < 4 → packed_byte f n i / 4 ^ k % 4 ≡ pair_in f n (4 * i + k) % 4
  unfolding packed_byte
  inside i zero h =
      let e : 4 * i + 0 ≡ 4 * i = omega arith in
      rw (div-one, e) (byte_0 (pair_in f n (4 * i)) (pair_in f n (4 * i + 1)) (pair_in f n (4 * i + 2)) (pair_in f n (4 * i + 3)))
  inside i (suc zero) h = byte_1 (pair_in f n (4 * i)) (pair_in f n (4 * i + 1)) (pair_in f n (4 * i + 2)) (pair_in f n (4 * i + 3))
  inside i (suc (suc zero)) h = byte_2 (pair_in f n (4 * i)) (pair_in f n (4 * i + 1)) (pair_in f n (4 * i + 2)) (pair_in f n (4 * i + 3))
  inside i (suc (suc (suc zero))) h = byte_3 (pair_in f n (4 * i)) (pair_in f n (4 * i + 1)) (pair_in f n (4 * i + 2))
      (pair_in f n (4 * i + 3))
  inside i (suc (suc (suc (suc k)))) h = absurd (omega arith)

  pub packed_pair : (b : ℕ) → b < 4 * map_bytes n → pair_at (packed f n) b ≡ pair_in f n b % 4
  packed_pair b h =
      let e : 4 * (b / 4) + b % 4 ≡ b = div-add-mod b 4 in
      pair_within (packed f n) (b / 4) (b % 4) b (omega arith) (sym e)
      ∙ ap (λ (x : ℕ). x / 4 ^ (b % 4) % 4) (packed_at (b / 4) (omega arith))
      ∙ inside (b / 4) (b % 4) (omega arith)
      ∙ ap (λ (k : ℕ). pair_in f n k % 4) e

  pub packed_used : (b : ℕ) → b < n → f b < 4 → pair_at (packed f n) b ≡ f b
  unfolding map_bytes
  packed_used b h small = packed_pair b (omega arith) ∙ ap (λ (x : ℕ). x % 4) (pair_used f n b h) ∙ mod-eq_of_lt small

  pub packed_unused : (b : ℕ) → n ≤ b → b < 4 * map_bytes n → pair_at (packed f n) b ≡ 0
  packed_unused b h k = packed_pair b k ∙ ap (λ (x : ℕ). x % 4) (pair_unused f n b h)

-- A map is determined by its pairs

pub byte_one : (xs ys : List ℕ) (i : ℕ) → get_or xs i 0 < 256 → get_or ys i 0 < 256
    → ((b : ℕ) → b < 4 * (i + 1) → 4 * i ≤ b → pair_at xs b ≡ pair_at ys b) → get_or xs i 0 ≡ get_or ys i 0
byte_one xs ys i h k e =
    let x : ℕ = get_or xs i 0 in
    let y : ℕ = get_or ys i 0 in
    let p : x % 4 ≡ y % 4 =
    ap (λ (z : ℕ). z % 4) (sym (div-one x)) ∙ at 0 (omega arith) ∙ ap (λ (z : ℕ). z % 4) (div-one y) in
    let q : x / 4 % 4 ≡ y / 4 % 4 = at 1 (omega arith) in
    let r : x / 16 % 4 ≡ y / 16 % 4 = at 2 (omega arith) in
    let s : x / 64 % 4 ≡ y / 64 % 4 = at 3 (omega arith) in
    sym (byte_back x h) ∙ rw (p, q, r, s) (byte_back y k)
  where
    at : (k : ℕ) → k < 4 → get_or xs i 0 / 4 ^ k % 4 ≡ get_or ys i 0 / 4 ^ k % 4
    at k h = sym (pair_within xs i k (4 * i + k) h refl) ∙ e (4 * i + k) (omega arith) (omega arith) ∙ pair_within ys i k (4 * i + k) h refl

pub map_one : (xs ys : List ℕ) (n : ℕ) → length xs ≡ map_bytes n → length ys ≡ map_bytes n
    → ((i : ℕ) → get_or xs i 0 < 256) → ((i : ℕ) → get_or ys i 0 < 256)
    → ((b : ℕ) → b < 4 * map_bytes n → pair_at xs b ≡ pair_at ys b) → xs ≡ ys
map_one xs ys n lx ly bx by e = ext xs ys (lx ∙ sym ly) (λ i h. byte_one xs ys i (bx i) (by i) (λ b k _. e b (omega arith)))

-- so a packed map depends on the pairs of its n blocks alone
pub packed_same : (f g : ℕ → ℕ) (n : ℕ) → ((b : ℕ) → b < n → f b ≡ g b) → packed f n ≡ packed g n
packed_same f g n e =
    map_one (packed f n) (packed g n) n (packed_length f n) (packed_length g n) (packed_below f n) (packed_below g n)
    (λ b h. packed_pair f n b h ∙ ap (λ (x : ℕ). x % 4) (like b) ∙ sym (packed_pair g n b h))
  where
    like : (b : ℕ) → pair_in f n b ≡ pair_in g n b
    like b =
        elim (dec_lt b n) [
          | yes k ↦ pair_used f n b k ∙ e b k ∙ sym (pair_used g n b k)
          | no k ↦ pair_unused f n b (omega arith) ∙ sym (pair_unused g n b (omega arith))
        ]

-- and one of n blocks that all have pair 0 is zero
pub packed_zero : (f : ℕ → ℕ) (n : ℕ) → ((b : ℕ) → b < n → f b ≡ 0) → (i : ℕ) → i < map_bytes n → get_or (packed f n) i 0 ≡ 0
unfolding packed_byte
packed_zero f n e i h =
    packed_at f n i h ∙ rw (none (4 * i), none (4 * i + 1), none (4 * i + 2), none (4 * i + 3)) zero_byte
  where
    none : (b : ℕ) → pair_in f n b ≡ 0
    none b = elim (dec_lt b n) [ yes k ↦ pair_used f n b k ∙ e b k | no k ↦ pair_unused f n b (omega arith) ]
