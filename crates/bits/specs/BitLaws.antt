-- The bits of bytes: what holds at each of a byte's 256 values, and how the bytes of a map are joined.
use Rattle.std.specs.Prelude.{ℕ, zero, suc, ◌+◌, ◌-◌, ◌*◌, ◌/◌, ◌%◌, ◌≤◌, ◌<◌, min, List, length, get_or}
use Rattle.std.specs.Prelude.{◌≡◌, refl, Bool, true, false, not, ◌&&◌, ◌||◌, eqb, leb}
use native.Mathlib.Omega.{arith}
use Rattle.std.proofs.Math.Decide.{dec_lt}
use Rattle.std.proofs.Common.{add-one, ◌∙◌, ne_eqb, eqb-true, leb-true}
use Rattle.std.proofs.Math.Path.{sym, ap}
use Rattle.std.proofs.Math.Bool.{or-false, or_assoc, not-not}
use Rattle.std.proofs.lemmas.Bool.{false≢true, eqb-false}
use Rattle.std.proofs.Math.ListN.{get_or-eq_default}
use Rattle.std.proofs.Math.Arith.{bin_ind}
use Rattle.std.specs.Int.Bits.{bit_or, or_add_and, or_zero_l}
use Rattle.std.proofs.lemmas.Nat.{and_le_r}
use Rattle.std.specs.Int.Count.{ones_in, ones, ones_step}
use Rattle.bits.specs.Bits.{low_bits, high_bits, threes, added, highs, lows, some_three, together, Counts}
use Rattle.bits.specs.declared.Counted.{Counted}

-- A byte

-- what a test says of every number below n
abbrev every : (ℕ → Bool) → ℕ → Bool
every test zero = true
every test (suc n) = test n && every test n

each : (test : ℕ → Bool) (n : ℕ) → every test n ≡ true → (x : ℕ) → x < n → test x ≡ true
each test zero e x h = absurd (omega arith)
each test (suc n) e x h = go (test n) (every test n) refl refl e (each test n)
  where
    go : (s t : Bool) → test n ≡ s → every test n ≡ t → (s && t) ≡ true → (every test n ≡ true → (y : ℕ) → y < n → test y ≡ true)
        → test x ≡ true
    go true true p q w rest = elim (dec_lt x n) [ yes l ↦ rest q x l | no l ↦ let i : x ≡ n = omega arith in ap test i ∙ p ]
    go true false p q w rest = absurd (false≢true w)
    go false t p q w rest = absurd (false≢true w)

-- two rules that agree at every byte
pub at_each_byte : (f g : ℕ → ℕ) → every (λ x. eqb (f x) (g x)) 256 ≡ true → (x : ℕ) → x < 256 → f x ≡ g x
at_each_byte f g e x h = eqb-true (f x) (g x) (each (λ y. eqb (f y) (g y)) 256 e x h)

-- a number without bits is 0
pub ones_none : (x : ℕ) → ones x ≡ 0 → x ≡ 0
ones_none = bin_ind (λ (x : ℕ). ones x ≡ 0 → x ≡ 0) (λ e. refl) step
  where
    step : (x : ℕ) → (ones (x / 2) ≡ 0 → x / 2 ≡ 0) → ones x ≡ 0 → x ≡ 0
    step x rest e =
        let s : ones x ≡ x % 2 + ones (x / 2) = ones_step x in
        let h : x / 2 ≡ 0 = rest (omega arith) in
        omega arith

-- bytes ored together are 0 where each is
pub ored_none : (a b : ℕ) (t : Bool) → eqb a 0 ≡ not t → eqb (bit_or a b) 0 ≡ not (t || not (eqb b 0))
ored_none a b true e =
    ne_eqb (bit_or a b) 0 (λ z. eqb-false a 0 e (omega (arith, z, or_add_and a b, and_le_r a b)))
ored_none a b false e =
    let z : a ≡ 0 = eqb-true a 0 e in
    rw (z, or_zero_l b) (sym (not-not (eqb b 0)))

-- a byte has at most four bits of a sort
low_most : (x : ℕ) → x < 256 → ones (low_bits x) ≤ 4
unfolding ones ones_in low_bits
low_most x h = leb-true (ones (low_bits x)) 4 (each (λ y. leb (ones (low_bits y)) 4) 256 refl x h)

high_most : (x : ℕ) → x < 256 → ones (high_bits x) ≤ 4
unfolding high_bits
high_most x h = low_most (x / 2) (omega arith)

-- Bytes joined

-- one byte more
pub added_next : (f : ℕ → ℕ) (map : List ℕ) (i k : ℕ) → added f map i (k + 1) ≡ added f map i k + f (get_or map (i + k) 0)
unfolding added
added_next f map i k = rw (add-one k)

pub three_next : (map : List ℕ) (i k : ℕ) → some_three map i (k + 1) ≡ (some_three map i k || not (eqb (threes (get_or map (i + k) 0)) 0))
unfolding some_three
three_next map i k = rw (add-one k)

-- the first k bytes, and j from byte k on
added_more : (f : ℕ → ℕ) (map : List ℕ) (k j : ℕ) → added f map 0 (k + j) ≡ added f map 0 k + added f map k j
unfolding added
added_more f map k zero = let e : k + 0 ≡ k = omega arith in rw e (omega arith)
added_more f map k (suc j) =
    let e : k + suc j ≡ suc (k + j) = omega arith in
    let p : 0 + (k + j) ≡ k + j = omega arith in
    let h : added f map 0 (k + j) ≡ added f map 0 k + added f map k j = added_more f map k j in
    rw (e, p) (omega arith)

three_more : (map : List ℕ) (k j : ℕ) → some_three map 0 (k + j) ≡ (some_three map 0 k || some_three map k j)
unfolding some_three
three_more map k zero = let e : k + 0 ≡ k = omega arith in rw e (sym (or-false (some_three map 0 k)))
three_more map k (suc j) =
    let e : k + suc j ≡ suc (k + j) = omega arith in
    let p : 0 + (k + j) ≡ k + j = omega arith in
    rw (e, p, three_more map k j) (or_assoc (some_three map 0 k) (some_three map k j) (not (eqb (threes (get_or map (k + j) 0)) 0)))

-- so two counts are joined
pub counts_more : (map : List ℕ) (k j : ℕ) (r s : Counted) → Counts map 0 k r → Counts map k j s
    → Counts map 0 (k + j) (together r s)
counts_more map k j r s p q =
    record {
      high = omega (arith, p.high, q.high, added_more (λ x. ones (high_bits x)) map k j);
      low = omega (arith, p.low, q.low, added_more (λ x. ones (low_bits x)) map k j);
      three = rw (p.three, q.three) (sym (three_more map k j));
    }

-- the count of bytes goes by the bytes alone
added_same : (f : ℕ → ℕ) (xs ys : List ℕ) (i j k : ℕ) → ((m : ℕ) → m < k → get_or xs (i + m) 0 ≡ get_or ys (j + m) 0)
    → added f xs i k ≡ added f ys j k
unfolding added
added_same f xs ys i j zero e = refl
added_same f xs ys i j (suc k) e =
    omega (arith, added_same f xs ys i j k (λ m h. e m (omega arith)), ap f (e k (omega arith)))

three_same : (xs ys : List ℕ) (i j k : ℕ) → ((m : ℕ) → m < k → get_or xs (i + m) 0 ≡ get_or ys (j + m) 0)
    → some_three xs i k ≡ some_three ys j k
unfolding some_three
three_same xs ys i j zero e = refl
three_same xs ys i j (suc k) e = rw (three_same xs ys i j k (λ m h. e m (omega arith)), e k (omega arith)) refl

pub counts_same : (xs ys : List ℕ) (i j k : ℕ) (r : Counted) → ((m : ℕ) → m < k → get_or xs (i + m) 0 ≡ get_or ys (j + m) 0)
    → Counts xs i k r → Counts ys j k r
counts_same xs ys i j k r e c =
    record {
      high = c.high ∙ added_same (λ x. ones (high_bits x)) xs ys i j k e;
      low = c.low ∙ added_same (λ x. ones (low_bits x)) xs ys i j k e;
      three = c.three ∙ three_same xs ys i j k e;
    }

-- two counts of the same bytes are one
pub counts_one : (map : List ℕ) (i k : ℕ) (r s : Counted) → Counts map i k r → Counts map i k s → r ≡ s
counts_one map i k r s p q =
    λ j.
    record { high = (p.high ∙ sym q.high) j; low = (p.low ∙ sym q.low) j; three = (p.three ∙ sym q.three) j }

-- bytes that a map does not have add nothing
added_past : (f : ℕ → ℕ) (map : List ℕ) (i k : ℕ) → f 0 ≡ 0 → length map ≤ i → added f map i k ≡ 0
unfolding added
added_past f map i zero z h = refl
added_past f map i (suc k) z h =
    let g : get_or map (i + k) 0 ≡ 0 = get_or-eq_default map 0 (omega arith) in
    omega (arith, added_past f map i k z h, ap f g, z)

three_past : (map : List ℕ) (i k : ℕ) → length map ≤ i → some_three map i k ≡ false
unfolding some_three threes low_bits high_bits
three_past map i zero h = refl
three_past map i (suc k) h =
    let g : get_or map (i + k) 0 ≡ 0 = get_or-eq_default map 0 (omega arith) in
    rw (three_past map i k h, g)

module _ (map : List ℕ) (k : ℕ) where
  -- what the map has of its first k bytes
  had : ℕ
  had = min (length map) k

  added_had : (f : ℕ → ℕ) → f 0 ≡ 0 → added f map 0 had ≡ added f map 0 k
  unfolding had
  added_had f z =
      elim (dec_lt k (length map)) [
        | yes h ↦ let e : had ≡ k = omega arith in ap (added f map 0) e
        | no h ↦
            let e : had + (k - had) ≡ k = omega arith in
            omega (arith, ap (added f map 0) e, added_more f map had (k - had), added_past f map had (k - had) z (omega arith))
      ]

  three_had : some_three map 0 had ≡ some_three map 0 k
  unfolding had
  three_had =
      elim (dec_lt k (length map)) [
        | yes h ↦ let e : had ≡ k = omega arith in ap (some_three map 0) e
        | no h ↦
            let e : had + (k - had) ≡ k = omega arith in
            sym (or-false (some_three map 0 had)) ∙ ap (λ (t : Bool). some_three map 0 had || t) (sym (three_past map had (k - had) (omega arith)))
            ∙ sym (three_more map had (k - had))
            ∙ ap (some_three map 0) e
      ]

  pub counts_past : (r : Counted) → Counts map 0 (min (length map) k) r → Counts map 0 k r
  unfolding had ones ones_in low_bits high_bits
  counts_past r c =
      record {
        high = c.high ∙ added_had (λ x. ones (high_bits x)) refl;
        low = c.low ∙ added_had (λ x. ones (low_bits x)) refl;
        three = c.three ∙ three_had;
      }

added_most : (f : ℕ → ℕ) (most : ℕ) (map : List ℕ) (i k : ℕ) → ((j : ℕ) → f (get_or map j 0) ≤ most) → added f map i k ≤ most * k
unfolding added
added_most f most map i zero h = omega arith
added_most f most map i (suc k) h = omega (arith, added_most f most map i k h, h (i + k))

module _ (map : List ℕ) (bytes : (i : ℕ) → get_or map i 0 < 256) where
  pub highs_most : (i k : ℕ) → highs map i k ≤ 4 * k
  highs_most i k = added_most (λ x. ones (high_bits x)) 4 map i k (λ j. high_most (get_or map j 0) (bytes j))

  pub lows_most : (i k : ℕ) → lows map i k ≤ 4 * k
  lows_most i k = added_most (λ x. ones (low_bits x)) 4 map i k (λ j. low_most (get_or map j 0) (bytes j))

  pub counts_fit : (i k : ℕ) (r : Counted) → Counts map i k r → (r.high ≤ 4 * k) × (r.low ≤ 4 * k)
  counts_fit i k r c = (omega (arith, c.high, highs_most i k), omega (arith, c.low, lows_most i k))
