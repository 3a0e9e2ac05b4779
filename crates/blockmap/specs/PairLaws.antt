-- From a byte to its four blocks: the laws by which a loop over bytes meets the definitions over blocks.
use Prim.Native.Nat.{ℕ, zero, suc, ◌+◌, ◌-◌, ◌*◌, ◌/◌, ◌%◌, ◌^◌, ◌≤◌, ◌<◌}
use native.Mathlib.Omega.{arith}
use Rattle.std.proofs.Common.{div-one, pow-add, ◌∙◌, eq-eqb, ne_eqb, eqb-true}
use Rattle.std.proofs.Math.Nat.{zero-div, div-div-eq-div-mul}
use Rattle.std.specs.Prelude.{◌≡◌, Bool, ◌||◌, cond, List}
use Rattle.std.proofs.Math.Path.{refl, sym, ap}
use Rattle.std.proofs.Math.Bool.{true, false, not, or-true}
use Rattle.std.proofs.Math.Dec.{eqb}
use Rattle.std.proofs.Math.ListN.{get_or}
use Rattle.std.proofs.lemmas.Bool.{eqb-false}
use Rattle.blockmap.specs.Pairs.{map_bytes, pair_at, pairs, reserved_pair, some_reserved, some_used, bad_pairs, in_byte}

-- a pair by its byte and its place there
pub pair_within : (map : List ℕ) (i k b : ℕ) → k < 4 → b ≡ 4 * i + k → pair_at map b ≡ get_or map i 0 / 4 ^ k % 4
unfolding pair_at
pair_within map i k b h e =
    let q : b / 4 ≡ i = omega arith in
    let r : b % 4 ≡ k = omega arith in
    rw (q, r)

pub one_most : (t : Bool) → cond t 1 0 ≤ 1
one_most true = omega arith
one_most false = omega arith

-- Counts

pub pairs_more : (v : ℕ) (map : List ℕ) (b : ℕ) → (pairs v map b ≤ pairs v map (suc b)) × (pairs v map (suc b) ≤ pairs v map b + 1)
unfolding pairs
pairs_more v map b = (omega arith, let h : cond (eqb (pair_at map b) v) 1 0 ≤ 1 = one_most (eqb (pair_at map b) v) in omega arith)

pub pairs_most : (v : ℕ) (map : List ℕ) (n : ℕ) → pairs v map n ≤ n
unfolding pairs
pairs_most v map zero = omega arith
pairs_most v map (suc b) =
    let h : cond (eqb (pair_at map b) v) 1 0 ≤ 1 = one_most (eqb (pair_at map b) v) in
    let k : pairs v map b ≤ b = pairs_most v map b in
    omega arith

pub pairs_rise : (v : ℕ) (map : List ℕ) (n k : ℕ) → pairs v map n ≤ pairs v map (n + k)
pairs_rise v map n zero = let e : n + 0 ≡ n = omega arith in rw e (omega arith)
pairs_rise v map n (suc k) =
    let e : n + suc k ≡ suc (n + k) = omega arith in
    let h : pairs v map n ≤ pairs v map (n + k) = pairs_rise v map n k in
    let m : pairs v map (n + k) ≤ pairs v map (suc (n + k)) = (pairs_more v map (n + k)).0 in
    rw e (omega arith)

-- one byte more is four blocks more
pub pairs_byte : (v : ℕ) (map : List ℕ) (i : ℕ) → pairs v map (4 * (i + 1)) ≡ pairs v map (4 * i) + in_byte v (get_or map i 0)
unfolding pairs in_byte
pairs_byte v map i =
    let x : ℕ = get_or map i 0 in
    let e : 4 * (i + 1) ≡ suc (suc (suc (suc (4 * i)))) = omega arith in
    let p : pair_at map (4 * i) ≡ x % 4 = pair_within map i 0 (4 * i) (omega arith) (omega arith) ∙ ap (λ (y : ℕ). y % 4) (div-one x) in
    let q : pair_at map (suc (4 * i)) ≡ x / 4 % 4 = pair_within map i 1 (suc (4 * i)) (omega arith) (omega arith) in
    let r : pair_at map (suc (suc (4 * i))) ≡ x / 16 % 4 = pair_within map i 2 (suc (suc (4 * i))) (omega arith) (omega arith) in
    let s : pair_at map (suc (suc (suc (4 * i)))) ≡ x / 64 % 4 = pair_within map i 3 (suc (suc (suc (4 * i)))) (omega arith) (omega arith) in
    rw (e, p, q, r, s) (omega arith)

-- The reserved pair

pub reserved_none : (map : List ℕ) (n : ℕ) → pairs reserved_pair map n ≡ 0 → some_reserved map n ≡ false
unfolding pairs some_reserved
reserved_none map zero e = refl
reserved_none map (suc b) e =
    let z : pairs reserved_pair map b ≡ 0 = omega arith in
    go (eqb (pair_at map b) reserved_pair) refl (reserved_none map b z)
  where
    go : (t : Bool) → eqb (pair_at map b) reserved_pair ≡ t → some_reserved map b ≡ false
        → (some_reserved map b || eqb (pair_at map b) reserved_pair) ≡ false
    go true q h = absurd (let z : ◌≡◌ {A = ℕ} (cond (eqb (pair_at map b) reserved_pair) 1 0) 1 = rw q in omega arith)
    go false q h = rw (h, q)

pub reserved_some : (map : List ℕ) (n : ℕ) → (pairs reserved_pair map n ≡ 0 → ⊥) → some_reserved map n ≡ true
unfolding pairs some_reserved
reserved_some map zero h = absurd (h refl)
reserved_some map (suc b) h = go (eqb (pair_at map b) reserved_pair) refl (reserved_some map b)
  where
    go : (t : Bool) → eqb (pair_at map b) reserved_pair ≡ t → ((pairs reserved_pair map b ≡ 0 → ⊥) → some_reserved map b ≡ true)
        → (some_reserved map b || eqb (pair_at map b) reserved_pair) ≡ true
    go true q r = rw q (or-true (some_reserved map b))
    go false q r =
        let z : ◌≡◌ {A = ℕ} (cond (eqb (pair_at map b) reserved_pair) 1 0) 0 = rw q in
        rw (r (λ w. h (omega arith)))

-- Unused pairs

pub used_none : (map : List ℕ) (b k : ℕ) → ((j : ℕ) → j < k → pair_at map (b + j) ≡ 0) → some_used map b k ≡ false
unfolding some_used
used_none map b zero h = refl
used_none map b (suc k) h =
    let e : some_used map b k ≡ false = used_none map b k (λ j l. h j (omega arith)) in
    rw (e, eq-eqb (pair_at map (b + k)) 0 (h k (omega arith)))

pub none_used : (map : List ℕ) (b k : ℕ) → some_used map b k ≡ false → (j : ℕ) → j < k → pair_at map (b + j) ≡ 0
unfolding some_used
none_used map b zero e j h = absurd (omega arith)
none_used map b (suc k) e j h = go (some_used map b k) (eqb (pair_at map (b + k)) 0) refl refl (none_used map b k) e
  where
    go : (s t : Bool) → some_used map b k ≡ s → eqb (pair_at map (b + k)) 0 ≡ t
        → (some_used map b k ≡ false → (i : ℕ) → i < k → pair_at map (b + i) ≡ 0) → (s || not t) ≡ false → pair_at map (b + j) ≡ 0
    go true t p q r w = absurd (let z : ◌≡◌ {A = ℕ} 0 1 = cc in omega arith)
    go false false p q r w = absurd (let z : ◌≡◌ {A = ℕ} 0 1 = cc in omega arith)
    go false true p q r w = at (eqb j k) refl
      where
        at : (u : Bool) → eqb j k ≡ u → pair_at map (b + j) ≡ 0
        at true g =
            let jk : j ≡ k = eqb-true j k g in
            ap (λ (i : ℕ). pair_at map (b + i)) jk ∙ eqb-true (pair_at map (b + k)) 0 q
        at false g =
            let jk : j ≡ k → ⊥ = eqb-false j k g in
            r p j (omega arith)

-- pairs past n that are 0 add nothing
pub pairs_past : (v : ℕ) (map : List ℕ) (n k : ℕ) → (v ≡ 0 → ⊥) → some_used map n k ≡ false → pairs v map (n + k) ≡ pairs v map n
unfolding pairs
pairs_past v map n k h e = go k (none_used map n k e)
  where
    go : (k : ℕ) → ((j : ℕ) → j < k → pair_at map (n + j) ≡ 0) → pairs v map (n + k) ≡ pairs v map n
    go zero z = let q : n + 0 ≡ n = omega arith in rw q
    go (suc k) z =
        let q : n + suc k ≡ suc (n + k) = omega arith in
        let p : pair_at map (n + k) ≡ 0 = z k (omega arith) in
        let r : pairs v map (n + k) ≡ pairs v map n = go k (λ j l. z j (omega arith)) in
        let f : eqb 0 v ≡ false = ne_eqb 0 v (λ w. h (sym w)) in
        rw (q, p, f) (omega arith)

-- The unused pairs of the last byte are what stands above its own

pub unused_none : (map : List ℕ) (n : ℕ) → n % 4 ≡ 0 → some_used map n (4 * map_bytes n - n) ≡ false
unfolding map_bytes some_used
unused_none map n h =
    let q : 4 * ((n + 3) / 4) - n ≡ 0 = omega arith in
    rw q

module _ (map : List ℕ) (n : ℕ) (whole : n % 4 ≡ 0 → ⊥) where
  -- pair j past n, in the last byte
  past : (j : ℕ) → n % 4 + j < 4 → pair_at map (n + j) ≡ get_or map (n / 4) 0 / 4 ^ (n % 4 + j) % 4
  past j h = pair_within map (n / 4) (n % 4 + j) (n + j) h (omega arith)

  all_clear : get_or map (n / 4) 0 / 4 ^ (n % 4) ≡ 0 → (j : ℕ) → j < 4 * map_bytes n - n → pair_at map (n + j) ≡ 0
  unfolding map_bytes
  all_clear e j h =
      let x : ℕ = get_or map (n / 4) 0 in
      let q : x / 4 ^ (n % 4 + j) ≡ 0 =
      ap (λ (d : ℕ). x / d) (pow-add 4 (n % 4) j)
      ∙ sym (div-div-eq-div-mul x (4 ^ (n % 4)) (4 ^ j))
      ∙ ap (λ (y : ℕ). y / 4 ^ j) e
      ∙ zero-div (4 ^ j) in
      past j (omega arith) ∙ ap (λ (y : ℕ). y % 4) q

  -- a byte without this pair and those above it
  clear : (r : ℕ) → n % 4 ≡ r → get_or map (n / 4) 0 < 256 → ((j : ℕ) → r + j < 4 → get_or map (n / 4) 0 / 4 ^ (r + j) % 4 ≡ 0)
      → get_or map (n / 4) 0 / 4 ^ r ≡ 0
  clear zero e s h = absurd (whole e)
  clear (suc zero) e s h =
      let x : ℕ = get_or map (n / 4) 0 in
      let a : x / 64 ≡ 0 = omega (arith, h 2 (omega arith)) in
      let b : x / 16 ≡ 0 = omega (arith, h 1 (omega arith)) in
      omega (arith, h 0 (omega arith))
  clear (suc (suc zero)) e s h =
      let x : ℕ = get_or map (n / 4) 0 in
      let a : x / 64 ≡ 0 = omega (arith, h 1 (omega arith)) in
      omega (arith, h 0 (omega arith))
  clear (suc (suc (suc zero))) e s h = omega (arith, h 0 (omega arith))
  clear (suc (suc (suc (suc r)))) e s h = absurd (omega arith)

  pub unused_is : get_or map (n / 4) 0 < 256 → some_used map n (4 * map_bytes n - n) ≡ not (eqb (get_or map (n / 4) 0 / 4 ^ (n % 4)) 0)
  unfolding map_bytes
  unused_is s = go (eqb (get_or map (n / 4) 0 / 4 ^ (n % 4)) 0) (some_used map n (4 * map_bytes n - n)) refl refl
    where
      go : (t u : Bool) → eqb (get_or map (n / 4) 0 / 4 ^ (n % 4)) 0 ≡ t → some_used map n (4 * map_bytes n - n) ≡ u → u ≡ not t
      go true u e f = sym f ∙ used_none map n (4 * map_bytes n - n) (all_clear (eqb-true (get_or map (n / 4) 0 / 4 ^ (n % 4)) 0 e))
      go false true e f = refl
      go false false e f =
          absurd
          (eqb-false (get_or map (n / 4) 0 / 4 ^ (n % 4)) 0 e
          (clear (n % 4) refl s (λ j h. sym (past j h) ∙ none_used map n (4 * map_bytes n - n) f j (omega arith))))

-- What the unused pairs and the bytes say of the map

pub unused_bad : (map : List ℕ) (n : ℕ) → some_used map n (4 * map_bytes n - n) ≡ true → bad_pairs map n ≡ true
unfolding bad_pairs
unused_bad map n e = rw e (or-true (some_reserved map n))

module _ (map : List ℕ) (n : ℕ) (clean : some_used map n (4 * map_bytes n - n) ≡ false) where
  pub pairs_whole : (v : ℕ) → (v ≡ 0 → ⊥) → pairs v map (4 * map_bytes n) ≡ pairs v map n
  unfolding map_bytes
  pairs_whole v h =
      let q : 4 * map_bytes n ≡ n + (4 * map_bytes n - n) = omega arith in
      ap (pairs v map) q ∙ pairs_past v map n (4 * map_bytes n - n) h clean

  pub good_bytes : pairs reserved_pair map (4 * map_bytes n) ≡ 0 → bad_pairs map n ≡ false
  unfolding bad_pairs
  good_bytes e = rw (reserved_none map n (sym (pairs_whole reserved_pair (λ z. omega arith)) ∙ e)) clean

  pub bad_bytes : (k : ℕ) → k ≤ map_bytes n → (pairs reserved_pair map (4 * k) ≡ 0 → ⊥) → bad_pairs map n ≡ true
  unfolding bad_pairs
  bad_bytes k h bad =
      let j : ℕ = 4 * map_bytes n - 4 * k in
      let q : 4 * k + j ≡ 4 * map_bytes n = omega arith in
      let w : pairs reserved_pair map (4 * map_bytes n) ≡ pairs reserved_pair map n = pairs_whole reserved_pair (λ z. omega arith) in
      let r : pairs reserved_pair map (4 * k) ≤ pairs reserved_pair map (4 * k + j) = pairs_rise reserved_pair map (4 * k) j in
      let r' : pairs reserved_pair map (4 * k) ≤ pairs reserved_pair map (4 * map_bytes n) = rw q at r in
      rw (reserved_some map n (λ z. bad (omega arith)))

-- shifts by pairs

pub four_power : (k : ℕ) → k < 4 → 2 ^ (2 * k) ≡ 4 ^ k
four_power zero h = refl
four_power (suc zero) h = refl
four_power (suc (suc zero)) h = refl
four_power (suc (suc (suc zero))) h = refl
four_power (suc (suc (suc (suc k)))) h = absurd (omega arith)
