-- Short entries that are taken together, over plain lists.
use Prim.Native.Nat.{ℕ, zero, suc, ◌+◌, ◌-◌, ◌*◌, ◌≤◌, ◌<◌}
use native.Mathlib.Omega.{arith}
use native.Mathlib.Numerals.{add-one}
use native.Mathlib.Decide.{dec_lt}
use mathlib.Core.Path.{◌≡◌, refl, sym, ap, ◌∙◌, subst}
use mathlib.Core.Bool.{Bool, true, false, ◌||◌, cond, true≢false, false≢true}
use mathlib.Core.List.{List}
use lib.Dec.{eqb, ltb}
use lib.ListN.{length, drop, get_or, set}
use lib.IntN.{pos}
use borrow.Author.Tests.{eq-eqb, lt-ltb, le-ltb, ltb-true, ltb-false, eqb-false}
use Rattle.std.specs.Prelude.{Option, Some, None, is_some, IsSome}
use Rattle.payload.specs.Positions.{before, before_next}
use Rattle.payload.specs.Entries.{code, stream}
use Rattle.payload.specs.Steps.{Entered, long_among, jumps_of, after_together, LaysTo}
use Rattle.payload.specs.declared.reached.Reached.{Reached}
use Rattle.payload.proofs.Reading.{Opened, opened_short, enters}
use Rattle.payload.proofs.Turns.{Passed, passed_more, lays_more}

module _ (s : List ℕ) (at : ℕ) where
  -- none, and one entry more
  pub long_none : long_among s at 0 ≡ false
  unfolding long_among
  long_none = refl

  pub jumps_none : jumps_of s at 0 ≡ 0
  unfolding jumps_of
  jumps_none = refl

  pub long_next : (k : ℕ) → long_among s at (k + 1) ≡ (long_among s at k || eqb (get_or s (at + 2 * k) 0) 255)
  unfolding long_among
  long_next k = rw (add-one k)

  pub jumps_next : (k : ℕ) → jumps_of s at (k + 1) ≡ jumps_of s at k + get_or s (at + 2 * k) 0
  unfolding jumps_of
  jumps_next k = rw (add-one k)

  -- jumps are bytes, so that the sum of few fits
  pub jumps_few : ((i : ℕ) → get_or s i 0 < 256) → (k : ℕ) → jumps_of s at k ≤ 255 * k
  unfolding jumps_of
  jumps_few b zero = omega arith
  jumps_few b (suc k) = omega (arith, jumps_few b k, b (at + 2 * k))

  -- a long code at the first place is among them
  pub long_first : get_or s at 0 ≡ 255 → (k : ℕ) → long_among s at (suc k) ≡ true
  unfolding long_among
  long_first e zero =
      let f : at + 2 * 0 ≡ at = omega arith in
      eq-eqb (get_or s (at + 2 * 0) 0) 255 (ap (λ (i : ℕ). get_or s i 0) f ∙ e)
  long_first e (suc k) = ap (λ (t : Bool). t || eqb (get_or s (at + 2 * suc k) 0) 255) (long_first e k)

either : (t : Bool) → cond {A = Option ℕ} t None None ≡ None
either true = refl
either false = refl

-- The place after the last of eight, test by test
module _ (n : ℕ) (s : List ℕ) (place after : ℕ) where
  abbrev all : ℕ
  all = after + 8 + jumps_of s place 8

  pub together_cut : length s - place < 16 → after_together n s place after ≡ None
  unfolding after_together
  together_cut h = rw (lt-ltb (length s - place) 16 h)

  pub together_long : long_among s place 8 ≡ true → after_together n s place after ≡ None
  unfolding after_together
  together_long e = rw e (either (ltb (length s - place) 16))

  pub together_out : n < all → after_together n s place after ≡ None
  unfolding after_together
  together_out h = rw (lt-ltb n all h, either (long_among s place 8)) (either (ltb (length s - place) 16))

  pub together_in : 16 ≤ length s - place → long_among s place 8 ≡ false → all ≤ n → after_together n s place after ≡ Some all
  unfolding after_together
  together_in h e k = rw (le-ltb (length s - place) 16 h, e, le-ltb n all k)

neither : (a b : Bool) → (a || b) ≡ false → (a ≡ false) × (b ≡ false)
neither true b e = absurd (true≢false e)
neither false b e = (refl, e)

-- none of them is long, and positions only grow
pub short_at : (s : List ℕ) (at k : ℕ) → long_among s at k ≡ false → (i : ℕ) → i < k → get_or s (at + 2 * i) 0 ≡ 255 → ⊥
unfolding long_among
short_at s at zero e i h = absurd (omega arith)
short_at s at (suc k) e i h =
    let d = neither (long_among s at k) (eqb (get_or s (at + 2 * k) 0) 255) e in
    elim (dec_lt i k) [
      | yes l ↦ short_at s at k d.0 i l
      | no l ↦
          let q : i ≡ k = omega arith in
          λ f. eqb-false (get_or s (at + 2 * k) 0) 255 d.1 (ap (λ (x : ℕ). get_or s (at + 2 * x) 0) (sym q) ∙ f)
    ]

pub jumps_grow : (s : List ℕ) (at k i : ℕ) → i ≤ k → jumps_of s at i ≤ jumps_of s at k
unfolding jumps_of
jumps_grow s at zero i h =
    let q : i ≡ 0 = omega arith in
    let e : jumps_of s at i ≡ jumps_of s at 0 = ap (jumps_of s at) q in
    omega arith
jumps_grow s at (suc k) i h =
    elim (dec_lt k i) [
      | yes l ↦
          let q : i ≡ suc k = omega arith in
          let e : jumps_of s at i ≡ jumps_of s at (suc k) = ap (jumps_of s at) q in
          omega arith
      | no l ↦ omega (arith, jumps_grow s at k i (omega arith))
    ]

-- what is known of eight that can be taken together
pub record Taken (n : ℕ) (s : List ℕ) (place after : ℕ) : Type 0 where
  pub within : place + 16 ≤ length s
  pub short : long_among s place 8 ≡ false
  pub within_page : all n s place after ≤ n
  pub is : after_together n s place after ≡ Some (all n s place after)

pub taken : (n : ℕ) (s : List ℕ) (place after : ℕ) → IsSome (after_together n s place after) → Taken n s place after
taken n s place after d = go (ltb (length s - place) 16) (long_among s place 8) (ltb n last) refl refl refl
  where
    last : ℕ
    last = all n s place after

    none : after_together n s place after ≡ None → ⊥
    none e = false≢true (sym (ap (λ (o : Option ℕ). is_some o) e) ∙ d)

    go : (x y z : Bool) → ltb (length s - place) 16 ≡ x → long_among s place 8 ≡ y → ltb n last ≡ z → Taken n s place after
    go true y z p q r = absurd (none (together_cut n s place after (ltb-true (length s - place) 16 p)))
    go false true z p q r = absurd (none (together_long n s place after q))
    go false false true p q r = absurd (none (together_out n s place after (ltb-true n last r)))
    go false false false p q r =
        let k : 16 ≤ length s - place = ltb-false (length s - place) 16 p in
        let b : last ≤ n = ltb-false n last r in
        record { within = omega arith; short = q; within_page = b; is = together_in n s place after k q b }

pub taken_to : (n : ℕ) (s : List ℕ) (place after to : ℕ) → Some to ≡ after_together n s place after
    → Taken n s place after × (to ≡ after + 8 + jumps_of s place 8)
taken_to n s place after to e =
    let t : Taken n s place after = taken n s place after (ap (λ (o : Option ℕ). is_some o) (sym e)) in
    let is = t.is in
    (t, cc)

-- They are entries one by one: each is in the page if the last is, since positions only grow.
module _ (n : ℕ) (s : List ℕ) (place after : ℕ) (t : Taken n s place after) where
  module _ (i : ℕ) (h : i < 8) where
    abbrev x : ℕ
    x = place + 2 * i

    abbrev next : ℕ
    next = after + i + jumps_of s place i

    pub each_in : next + get_or s x 0 < n
    each_in = omega (arith, t.within_page, jumps_next s place i, jumps_grow s place 8 (i + 1) (omega arith))

    pub each_entered : Entered n s x (stream n (before next) code (drop x s)) (pos (next + get_or s x 0)) (get_or s (x + 1) 0) (x + 2)
    each_entered =
        let o : Opened s x (get_or s x 0) 2 = opened_short s x (omega (arith, t.within)) (short_at s place 8 t.short i h) in
        enters s x (get_or s x 0) 2 (x + 1) o (omega arith) n next each_in

    -- the place after the next one
    pub each_next : next + get_or s x 0 + 1 ≡ after + (i + 1) + jumps_of s place (i + 1)
    each_next = omega (arith, jumps_next s place i)

  module _ (count : ℕ) (h : Passed n s place (before after) count) where
    at : (x y a b c d : ℕ) → x ≡ y → a ≡ b → c ≡ d → Passed n s x (before a) c → Passed n s y (before b) d
    at x y a b c d e f g r =
        subst (λ (z : ℕ). Passed n s z (before b) d) e
        (subst (λ (z : ℕ). Passed n s x (before z) d) f (subst (Passed n s x (before a)) g r))

    passed_short : (k : ℕ) → k ≤ 8 → Passed n s (place + 2 * k) (before (after + k + jumps_of s place k)) (count + k)
    passed_short zero l =
        at place (place + 2 * 0) after (after + 0 + jumps_of s place 0) count (count + 0) (omega arith) (omega (arith, jumps_none s place)) (omega arith) h
    passed_short (suc k) l =
        let x : ℕ = place + 2 * k in
        let q : ℕ = after + k + jumps_of s place k + get_or s x 0 in
        let one : k + 1 ≡ suc k = omega arith in
        let e : q + 1 ≡ after + suc k + jumps_of s place (suc k) = each_next k (omega arith) ∙ ap (λ (z : ℕ). after + z + jumps_of s place z) one in
        at (x + 2) (place + 2 * suc k) (q + 1) (after + suc k + jumps_of s place (suc k)) (count + k + 1) (count + suc k) (omega arith) e (omega arith)
        (passed_more n s x (before (after + k + jumps_of s place k)) (count + k) (passed_short k (omega arith)) (pos q) (before (q + 1)) (get_or s (x + 1) 0)
        (x + 2) (before_next q) (each_entered k (omega arith)))

    pub passed_taken : Passed n s (place + 16) (before (all n s place after)) (count + 8)
    passed_taken = passed_short 8 (omega arith)

pub passed_together : (n : ℕ) (s : List ℕ) (place after count : ℕ) → Passed n s place (before after) count
    → (to : ℕ) → Some to ≡ after_together n s place after → (to ≤ n) × Passed n s (place + 16) (before to) (count + 8)
passed_together n s place after count h to e =
    let t = taken_to n s place after to e in
    (omega (arith, t.0.within_page, t.1), rw t.1 (passed_taken n s place after t.0 count h))

-- Laid one by one: the entry at `from.place + 2 * i`
module _ (n : ℕ) (s page : List ℕ) (from : Reached) (t : Taken n s from.place from.next) (i next : ℕ) (h : i < 8)
    (e : next ≡ from.next + i + jumps_of s from.place i) where
  abbrev on : ℕ
  on = from.place + 2 * i

  pub lands_in : next + get_or s on 0 < n
  lands_in = omega (arith, each_in n s from.place from.next t i h)

  pub lands_next : next + get_or s on 0 + 1 ≡ from.next + (i + 1) + jumps_of s from.place (i + 1)
  lands_next = omega (arith, each_next n s from.place from.next t i h)

  pub lays_each : (page₁ : List ℕ) → LaysTo n s page from page₁ on next
      → LaysTo n s page from (set page₁ (next + get_or s on 0) (get_or s (on + 1) 0)) (from.place + 2 * (i + 1)) (next + get_or s on 0 + 1)
  lays_each page₁ w =
      let q : on + 2 ≡ from.place + 2 * (i + 1) = omega arith in
      subst (λ (x : ℕ). LaysTo n s page from (set page₁ (next + get_or s on 0) (get_or s (on + 1) 0)) x (next + get_or s on 0 + 1)) q
      (lays_more n s page from page₁ on next w (next + get_or s on 0) (get_or s (on + 1) 0) (on + 2)
      (subst (λ (a : ℕ). Entered n s on (stream n (before a) code (drop on s)) (pos (a + get_or s on 0)) (get_or s (on + 1) 0) (on + 2)) (sym e)
      (each_entered n s from.place from.next t i h)))
