-- The laws of differences: the next one said of places and not by a walk, and counts of them.
use Prim.Native.Nat.{ℕ, zero, suc, ◌+◌, ◌-◌, ◌*◌, ◌≤◌, ◌<◌, min}
use native.Mathlib.Omega.{arith}
use Rattle.std.proofs.Math.Nat.{mul-le-mul_right, suc-mul}
use Rattle.std.proofs.Math.Decide.{dec_lt}
use Rattle.std.proofs.Common.{add-one, sym, ap, ◌∙◌, inl, inr, length-drop, get_or-drop, eq-eqb, ne_eqb, eqb-true, leb-true, le-leb}
use Rattle.std.specs.Prelude.{◌≡◌, Bool, true, false, ◌&&◌, ◌⊎◌, List, [], ◌∷◌, eqb, leb, drop, get_or}
use Rattle.std.proofs.Math.Path.{refl}
use Rattle.std.proofs.Math.Bool.{and-false}
use Rattle.std.proofs.lemmas.Bool.{false≢true, eqb-false, lt-leb}
use Rattle.std.proofs.Math.ListN.{length}
use Rattle.span.specs.Bytes.{same}
use Rattle.span.specs.Laws.{ext, same_true, same_false}
use Rattle.differ.specs.Differ.{chunk, agree, next_diff, Same, differs_at, diffs_in, after_last, has_chunk, chunk_diffs, chunk_after, NextChunk}

-- what the next difference is, said of places and not by a walk
pub record NextAt (a b : List ℕ) (from r : ℕ) : Type 0 where
  pub on : from ≤ r
  pub within : from < r → (r ≤ length a) × (r ≤ length b)
  pub alike : Same a b from r
  pub differ : r < length a → r < length b → get_or a r 0 ≡ get_or b r 0 → ⊥

agree_within : (xs ys : List ℕ) → (agree xs ys ≤ length xs) × (agree xs ys ≤ length ys)
unfolding agree
agree_within [] ys = omega arith
agree_within (x ∷ xs) [] = omega arith
agree_within (x ∷ xs) (y ∷ ys) = go (eqb x y) (agree_within xs ys)
  where
    go : (t : Bool) → (agree xs ys ≤ length xs) × (agree xs ys ≤ length ys)
        → (elim t as (λ _. ℕ) [ true ↦ suc (agree xs ys) | false ↦ 0 ] ≤ suc (length xs))
        × (elim t as (λ _. ℕ) [ true ↦ suc (agree xs ys) | false ↦ 0 ] ≤ suc (length ys))
    go true h = omega arith
    go false h = omega arith

agree_alike : (xs ys : List ℕ) (i : ℕ) → i < agree xs ys → get_or xs i 0 ≡ get_or ys i 0
unfolding agree
agree_alike [] ys i h = absurd (omega arith)
agree_alike (x ∷ xs) [] i h = absurd (omega arith)
agree_alike (x ∷ xs) (y ∷ ys) i h = go (eqb x y) refl i (agree_alike xs ys) h
  where
    go : (t : Bool) → eqb x y ≡ t → (i : ℕ) → ((j : ℕ) → j < agree xs ys → get_or xs j 0 ≡ get_or ys j 0)
        → i < elim t as (λ _. ℕ) [ true ↦ suc (agree xs ys) | false ↦ 0 ] → get_or (x ∷ xs) i 0 ≡ get_or (y ∷ ys) i 0
    go true e zero rest k = eqb-true x y e
    go true e (suc j) rest k = rest j (omega arith)
    go false e j rest k = absurd (omega arith)

agree_differ : (xs ys : List ℕ) → agree xs ys < length xs → agree xs ys < length ys → get_or xs (agree xs ys) 0 ≡ get_or ys (agree xs ys) 0
    → ⊥
unfolding agree
agree_differ [] ys h k e = omega arith
agree_differ (x ∷ xs) [] h k e = omega arith
agree_differ (x ∷ xs) (y ∷ ys) h k e = go (eqb x y) refl (agree_differ xs ys) h k e
  where
    go : (t : Bool) → eqb x y ≡ t → (agree xs ys < length xs → agree xs ys < length ys → get_or xs (agree xs ys) 0 ≡ get_or ys (agree xs ys) 0
        → ⊥)
        → elim t as (λ _. ℕ) [ true ↦ suc (agree xs ys) | false ↦ 0 ] < suc (length xs)
        → elim t as (λ _. ℕ) [ true ↦ suc (agree xs ys) | false ↦ 0 ] < suc (length ys)
        → get_or (x ∷ xs) (elim t as (λ _. ℕ) [ true ↦ suc (agree xs ys) | false ↦ 0 ]) 0
        ≡ get_or (y ∷ ys) (elim t as (λ _. ℕ) [ true ↦ suc (agree xs ys) | false ↦ 0 ]) 0
        → ⊥
    go true e rest h k f = rest (omega arith) (omega arith) f
    go false e rest h k f = eqb-false x y e f

-- the walk finds that place
pub next_at : (a b : List ℕ) (from : ℕ) → NextAt a b from (next_diff a b from)
unfolding next_diff Same
next_at a b from =
    let xs : List ℕ = drop from a in
    let ys : List ℕ = drop from b in
    let n : ℕ = agree xs ys in
    let w : (n ≤ length xs) × (n ≤ length ys) = agree_within xs ys in
    let la : length xs ≡ length a - from = length-drop from a in
    let lb : length ys ≡ length b - from = length-drop from b in
    record {
      on = omega arith;
      within = λ h. (omega arith, omega arith);
      alike =
          λ i h k.
          let j : ℕ = i - from in
          let q : from + j ≡ i = omega arith in
          ap (λ (p : ℕ). get_or a p 0) (sym q)
          ∙ sym (get_or-drop from a j 0)
          ∙ agree_alike xs ys j (omega arith)
          ∙ get_or-drop from b j 0
          ∙ ap (λ (p : ℕ). get_or b p 0) q;
      differ = λ h k e. agree_differ xs ys (omega arith) (omega arith) (get_or-drop from a n 0 ∙ e ∙ sym (get_or-drop from b n 0));
    }

-- and there is no second such place
pub next_one : (a b : List ℕ) (from r s : ℕ) → NextAt a b from r → NextAt a b from s → r ≡ s
unfolding Same
next_one a b from r s p q =
    elim (dec_lt r s) [
      | yes h ↦
          let w : (s ≤ length a) × (s ≤ length b) = q.within (omega (arith, p.on)) in
          absurd (p.differ (omega arith) (omega arith) (q.alike r p.on h))
      | no h ↦
          elim (dec_lt s r) [
            | yes k ↦
                let w : (r ≤ length a) × (r ≤ length b) = p.within (omega (arith, q.on)) in
                absurd (q.differ (omega arith) (omega arith) (p.alike s q.on k))
            | no k ↦ omega arith
          ]
    ]

pub next_is : (a b : List ℕ) (from r : ℕ) → NextAt a b from r → next_diff a b from ≡ r
next_is a b from r p = next_one a b from (next_diff a b from) r (next_at a b from) p

-- equal bytes may be passed over
pub next_skip : (a b : List ℕ) (from r : ℕ) → from ≤ r → r ≤ length a → r ≤ length b → Same a b from r
    → next_diff a b from ≡ next_diff a b r
unfolding Same
next_skip a b from r h la lb e =
    let n : NextAt a b r (next_diff a b r) = next_at a b r in
    next_is a b from (next_diff a b r)
    (record {
      on = omega arith;
      within =
          λ k.
          elim (dec_lt r (next_diff a b r)) [
            | yes m ↦ n.within m
            | no m ↦ (omega (arith, n.on), omega (arith, n.on))
          ];
      alike =
          λ i k m.
          elim (dec_lt i r) [
            | yes o ↦ e i k o
            | no o ↦ n.alike i (omega arith) m
          ];
      differ = n.differ;
    })

-- a difference, or an end, is where it stops
pub next_here : (a b : List ℕ) (r : ℕ) → (r < length a → r < length b → get_or a r 0 ≡ get_or b r 0 → ⊥) → next_diff a b r ≡ r
unfolding Same
next_here a b r d =
    next_is a b r r (record { on = omega arith; within = λ h. absurd (omega arith); alike = λ i h k. absurd (omega arith); differ = d })

-- The next chunk: no difference is passed on the way to it, and there is no second such place

module _ (width : ℕ) (a b : List ℕ) (from : ℕ) where
  pub chunk_on : (r : ℕ) → NextChunk width a b from r → from ≤ r
  chunk_on r c = omega (arith, c.on)

  pub chunk_ahead : (r : ℕ) → NextChunk width a b from r → next_diff a b from ≡ next_diff a b r
  chunk_ahead r c =
      elim (dec_lt from r) [
        | yes h ↦ next_skip a b from r (omega arith) (c.within h).0 (c.within h).1 c.alike
        | no h ↦
            let q : from ≡ r = omega (arith, c.on) in
            ap (λ (i : ℕ). next_diff a b i) q
      ]

  pub chunk_within : (r end : ℕ) → from ≤ end → end ≡ min (length a) (length b) → NextChunk width a b from r → r ≤ end
  chunk_within r end h e c =
      elim (dec_lt from r) [
        | yes k ↦
            let w : (r ≤ length a) × (r ≤ length b) = c.within k in
            omega arith
        | no k ↦ omega (arith, c.on)
      ]

  -- of two such places none comes first
  chunk_first : (r s : ℕ) → NextChunk width a b from r → NextChunk width a b from s → r < s → ⊥
  unfolding Same
  chunk_first r s p q h =
      let fewer : p.steps < q.steps =
      elim (dec_lt p.steps q.steps) [
        | yes k ↦ k
        | no k ↦
            let m : q.steps * width ≤ p.steps * width = mul-le-mul_right width (omega arith) in
            absurd (omega (arith, p.on, q.on))
      ] in
      let m : suc p.steps * width ≤ q.steps * width = mul-le-mul_right width fewer in
      let n : suc p.steps * width ≡ width + p.steps * width = suc_mul' p.steps width in
      let to : r + width ≤ s = omega (arith, p.on, q.on) in
      let w : (s ≤ length a) × (s ≤ length b) = q.within (omega (arith, p.on)) in
      p.differ (omega arith) (omega arith) (λ i l k. q.alike i (omega (arith, p.on)) (omega arith))
    where
      suc_mul' : (m n : ℕ) → suc m * n ≡ n + m * n
      suc_mul' m n = suc-mul m n ∙ omega arith

  pub chunk_one : (r s : ℕ) → NextChunk width a b from r → NextChunk width a b from s → r ≡ s
  chunk_one r s p q =
      elim (dec_lt r s) [
        | yes h ↦ absurd (chunk_first r s p q h)
        | no h ↦
            elim (dec_lt s r) [
              | yes k ↦ absurd (chunk_first s r q p k)
              | no k ↦ omega arith
            ]
      ]

-- The laws of that number

pub alike_at : (a b : List ℕ) (i : ℕ) → get_or a i 0 ≡ get_or b i 0 → differs_at a b i ≡ 0
unfolding differs_at
alike_at a b i e = ap (λ (t : Bool). elim t as (λ _. ℕ) [ true ↦ 0 | false ↦ 1 ]) (eq-eqb (get_or a i 0) (get_or b i 0) e)

pub unlike_at : (a b : List ℕ) (i : ℕ) → (get_or a i 0 ≡ get_or b i 0 → ⊥) → differs_at a b i ≡ 1
unfolding differs_at
unlike_at a b i d = ap (λ (t : Bool). elim t as (λ _. ℕ) [ true ↦ 0 | false ↦ 1 ]) (ne_eqb (get_or a i 0) (get_or b i 0) d)

at_most_one : (a b : List ℕ) (i : ℕ) → differs_at a b i ≤ 1
unfolding differs_at
at_most_one a b i = go (eqb (get_or a i 0) (get_or b i 0))
  where
    go : (t : Bool) → elim t as (λ _. ℕ) [ true ↦ 0 | false ↦ 1 ] ≤ 1
    go true = omega arith
    go false = omega arith

pub diffs_none : (a b : List ℕ) (from : ℕ) → diffs_in a b from 0 ≡ 0
unfolding diffs_in
diffs_none a b from = refl

pub diffs_few : (a b : List ℕ) (from n : ℕ) → diffs_in a b from n ≤ n
unfolding diffs_in
diffs_few a b from zero = omega arith
diffs_few a b from (suc n) = omega (arith, diffs_few a b from n, at_most_one a b (from + n))

-- a place more at the end
pub diffs_next : (a b : List ℕ) (from n : ℕ) → diffs_in a b from (n + 1) ≡ diffs_in a b from n + differs_at a b (from + n)
unfolding diffs_in
diffs_next a b from n = ap (λ (k : ℕ). diffs_in a b from k) (add-one n)

-- a place more at the start
pub diffs_first : (a b : List ℕ) (from n : ℕ) → diffs_in a b from (suc n) ≡ differs_at a b from + diffs_in a b (from + 1) n
unfolding diffs_in
diffs_first a b from zero =
    let q : from + 0 ≡ from = omega arith in
    let e : differs_at a b (from + 0) ≡ differs_at a b from = ap (λ (i : ℕ). differs_at a b i) q in
    omega arith
diffs_first a b from (suc n) =
    let q : from + suc n ≡ from + 1 + n = omega arith in
    let e : differs_at a b (from + suc n) ≡ differs_at a b (from + 1 + n) = ap (λ (i : ℕ). differs_at a b i) q in
    omega (arith, diffs_first a b from n)

-- equal places at the end count for nothing
pub diffs_alike : (a b : List ℕ) (from k n : ℕ) → Same a b (from + k) (from + (k + n)) → diffs_in a b from (k + n) ≡ diffs_in a b from k
unfolding Same diffs_in
diffs_alike a b from k zero s =
    let q : k + 0 ≡ k = omega arith in
    ap (λ (i : ℕ). diffs_in a b from i) q
diffs_alike a b from k (suc n) s =
    let q : k + suc n ≡ suc (k + n) = omega arith in
    let e : diffs_in a b from (k + suc n) ≡ diffs_in a b from (k + n) + differs_at a b (from + (k + n)) = ap (λ (i : ℕ). diffs_in a b from i)
    q in
    omega (
      arith,
      alike_at a b (from + (k + n)) (s (from + (k + n)) (omega arith) (omega arith)),
      diffs_alike a b from k n
          (λ i h l. s i h (omega arith)),
    )

-- lists of one length with no difference before their end are the same
pub same_by_next : (a b : List ℕ) → length a ≡ length b → eqb (next_diff a b 0) (length a) ≡ same a b
unfolding Same
same_by_next a b e = go (eqb (next_diff a b 0) (length a)) refl
  where
    n : NextAt a b 0 (next_diff a b 0)
    n = next_at a b 0

    go : (t : Bool) → eqb (next_diff a b 0) (length a) ≡ t → eqb (next_diff a b 0) (length a) ≡ same a b
    go true h =
        let q : next_diff a b 0 ≡ length a = eqb-true (next_diff a b 0) (length a) h in
        h ∙ sym (same_true a b (ext a b e (λ i k. n.alike i (omega arith) (omega arith))))
    go false h =
        h
        ∙ sym
        (same_false a b
        (λ f.
        eqb-false (next_diff a b 0) (length a) h
        (next_is a b 0 (length a)
        (record {
          on = omega arith;
          within = λ k. (omega arith, omega arith);
          alike = λ i k m. ap (λ (l : List ℕ). get_or l i 0) f;
          differ = λ k m q. omega arith;
        }))))

-- what the place after the last difference is, said of places; and there is just one
pub record AfterLast (a b : List ℕ) (from to r : ℕ) : Type 0 where
  pub on : from ≤ r
  pub within : r ≤ to
  pub alike : Same a b r to
  pub differ : from < r → get_or a (r - 1) 0 ≡ get_or b (r - 1) 0 → ⊥

pub after_last_tells : (a b : List ℕ) (from n : ℕ) → AfterLast a b from (from + n) (after_last a b from n)
unfolding after_last Same
after_last_tells a b from zero = record {
  on = omega arith;
  within = omega arith;
  alike = λ i h k. absurd (omega arith);
  differ = λ h. absurd
      (omega arith);
}
after_last_tells a b from (suc n) = go (eqb (get_or a (from + n) 0) (get_or b (from + n) 0)) refl (after_last_tells a b from n)
  where
    go : (t : Bool) → eqb (get_or a (from + n) 0) (get_or b (from + n) 0) ≡ t → AfterLast a b from (from + n) (after_last a b from n)
        → AfterLast a b from (from + suc n) (elim t as (λ _. ℕ) [ true ↦ after_last a b from n | false ↦ from + n + 1 ])
    go true e w =
        record {
          on = w.on;
          within = omega (arith, w.within);
          alike =
              λ i h k.
              elim (dec_lt i (from + n)) [
                | yes l ↦ w.alike i h l
                | no l ↦
                    let q : i ≡ from + n = omega arith in
                    ap (λ (j : ℕ). get_or a j 0) q ∙ eqb-true (get_or a (from + n) 0) (get_or b (from + n) 0) e
                    ∙ ap (λ (j : ℕ). get_or b j 0) (sym q)
              ];
          differ = w.differ;
        }
    go false e w =
        let q : from + n + 1 - 1 ≡ from + n = omega arith in
        record {
          on = omega arith;
          within = omega arith;
          alike = λ i h k. absurd (omega arith);
          differ = λ h f. eqb-false (get_or a (from + n) 0) (get_or b (from + n) 0) e
              (ap (λ (j : ℕ). get_or a j 0) (sym q) ∙ f ∙ ap (λ (j : ℕ). get_or b j 0) q);
        }

pub after_last_one : (a b : List ℕ) (from to r s : ℕ) → AfterLast a b from to r → AfterLast a b from to s → r ≡ s
unfolding Same
after_last_one a b from to r s p q =
    elim (dec_lt r s) [
      | yes h ↦ absurd (q.differ (omega (arith, p.on)) (p.alike (s - 1) (omega arith) (omega (arith, q.within))))
      | no h ↦
          elim (dec_lt s r) [
            | yes k ↦ absurd (p.differ (omega (arith, q.on)) (q.alike (r - 1) (omega arith) (omega (arith, p.within))))
            | no k ↦ omega arith
          ]
    ]

pub after_last_is : (a b : List ℕ) (from to r : ℕ) → AfterLast a b from to r → r ≡ after_last a b from (to - from)
after_last_is a b from to r w =
    let q : from + (to - from) ≡ to = omega (arith, w.on, w.within) in
    after_last_one a b from to r (after_last a b from (to - from)) w (rw q at (after_last_tells a b from (to - from)))

-- where nothing differs, the place is the first
pub diffs_zero : (a b : List ℕ) (from n : ℕ) → diffs_in a b from n ≡ 0 → Same a b from (from + n)
unfolding diffs_in differs_at Same
diffs_zero a b from zero e i h k = absurd (omega arith)
diffs_zero a b from (suc n) e i h k = go (eqb (get_or a (from + n) 0) (get_or b (from + n) 0)) refl e (diffs_zero a b from n)
  where
    go : (t : Bool) → eqb (get_or a (from + n) 0) (get_or b (from + n) 0) ≡ t
        → diffs_in a b from n + elim t as (λ _. ℕ) [ true ↦ 0 | false ↦ 1 ] ≡ 0
        → (diffs_in a b from n ≡ 0 → (i : ℕ) → from ≤ i → i < from + n → get_or a i 0 ≡ get_or b i 0) → get_or a i 0 ≡ get_or b i 0
    go true f z rest =
        elim (dec_lt i (from + n)) [
          | yes l ↦ rest (omega arith) i h l
          | no l ↦
              let q : i ≡ from + n = omega arith in
              ap (λ (j : ℕ). get_or a j 0) q ∙ eqb-true (get_or a (from + n) 0) (get_or b (from + n) 0) f ∙ ap (λ (j : ℕ). get_or b j 0) (sym q)
        ]
    go false f z rest = absurd (omega arith)

-- differences that stand within a byte's reach of `from`, all up to the last of them counted
pub record Near (a b : List ℕ) (from next count : ℕ) : Type 0 where
  pub on : from ≤ next
  pub near : next ≤ from + 255
  pub within : from < next → (next ≤ length a) × (next ≤ length b)
  pub counted : count ≡ diffs_in a b from (next - from)
  pub differ : from < next → get_or a (next - 1) 0 ≡ get_or b (next - 1) 0 → ⊥

-- two stretches are counted one after the other
pub diffs_join : (a b : List ℕ) (from j k : ℕ) → diffs_in a b from (j + k) ≡ diffs_in a b from j + diffs_in a b (from + j) k
unfolding diffs_in
diffs_join a b from j zero =
    let q : j + 0 ≡ j = omega arith in
    let e : diffs_in a b from (j + 0) ≡ diffs_in a b from j = ap (diffs_in a b from) q in
    omega arith
diffs_join a b from j (suc k) =
    let q : j + suc k ≡ suc (j + k) = omega arith in
    let r : from + (j + k) ≡ from + j + k = omega arith in
    let e : diffs_in a b from (j + suc k) ≡ diffs_in a b from (suc (j + k)) = ap (diffs_in a b from) q in
    let f : differs_at a b (from + (j + k)) ≡ differs_at a b (from + j + k) = ap (differs_at a b) r in
    omega (arith, diffs_join a b from j k)

-- equal places at the start count for nothing
pub diffs_same : (a b : List ℕ) (from n : ℕ) → Same a b from (from + n) → diffs_in a b from n ≡ 0
unfolding Same diffs_in
diffs_same a b from zero s = refl
diffs_same a b from (suc n) s =
    omega (arith, diffs_same a b from n (λ i h k. s i h (omega arith)), alike_at a b (from + n) (s (from + n) (omega arith) (omega arith)))

-- Whether a and b have a chunk whole
pub has_whole : (a b : List ℕ) (at : ℕ) → at + chunk ≤ length a → at + chunk ≤ length b → has_chunk a b at ≡ true
has_whole a b at la lb = rw (le-leb (at + chunk) (length a) la, le-leb (at + chunk) (length b) lb) refl

pub has_part : (a b : List ℕ) (at : ℕ) → (length a < at + chunk) ⊎ (length b < at + chunk) → has_chunk a b at ≡ false
has_part a b at (inl h) = rw (lt-leb (at + chunk) (length a) h) refl
has_part a b at (inr h) = rw (lt-leb (at + chunk) (length b) h) (and-false (leb (at + chunk) (length a)))

pub has_true : (a b : List ℕ) (at : ℕ) → has_chunk a b at ≡ true → (at + chunk ≤ length a) × (at + chunk ≤ length b)
has_true a b at e = go (leb (at + chunk) (length a)) (leb (at + chunk) (length b)) refl refl e
  where
    go : (s t : Bool) → leb (at + chunk) (length a) ≡ s → leb (at + chunk) (length b) ≡ t → (s && t) ≡ true
        → (at + chunk ≤ length a) × (at + chunk ≤ length b)
    go true true f g h = (leb-true (at + chunk) (length a) f, leb-true (at + chunk) (length b) g)
    go true false f g h = absurd (false≢true h)
    go false t f g h = absurd (false≢true h)

-- A chunk that a and b have whole and that differs: its first difference, its last one, and how many there are
module _ (a b : List ℕ) (at : ℕ) (la : at + chunk ≤ length a) (lb : at + chunk ≤ length b) where
  pub chunk_diffs_is : chunk_diffs a b at ≡ diffs_in a b at chunk
  unfolding chunk_diffs
  chunk_diffs_is = rw (has_whole a b at la lb) refl

  pub chunk_after_is : chunk_after a b at ≡ after_last a b at chunk
  unfolding chunk_after
  chunk_after_is = rw (has_whole a b at la lb) refl

  -- no difference after the last one
  pub after_ahead : next_diff a b (after_last a b at chunk) ≡ next_diff a b (at + chunk)
  after_ahead =
      let l : AfterLast a b at (at + chunk) (after_last a b at chunk) = after_last_tells a b at chunk in
      next_skip a b (after_last a b at chunk) (at + chunk) l.within la lb l.alike

  module _ (d : Same a b at (at + chunk) → ⊥) where
    pub chunk_first_in : next_diff a b at < at + chunk
    unfolding Same
    chunk_first_in =
        let n : NextAt a b at (next_diff a b at) = next_at a b at in
        elim (dec_lt (next_diff a b at) (at + chunk)) [
          | yes h ↦ h
          | no h ↦ absurd (d (λ i k m. n.alike i k (omega arith)))
        ]

    -- the last one is no earlier than the first
    pub chunk_last_in : next_diff a b at + 1 ≤ after_last a b at chunk
    unfolding Same
    chunk_last_in =
        let f : ℕ = next_diff a b at in
        let n : NextAt a b at f = next_at a b at in
        let l : AfterLast a b at (at + chunk) (after_last a b at chunk) = after_last_tells a b at chunk in
        let h : f < at + chunk = chunk_first_in in
        elim (dec_lt f (after_last a b at chunk)) [
          | yes k ↦ omega arith
          | no k ↦ absurd (n.differ (omega arith) (omega arith) (l.alike f (omega arith) h))
        ]

    -- what is counted after the first
    pub chunk_near : (count : ℕ) → count + 1 ≡ diffs_in a b at chunk → Near a b (next_diff a b at + 1) (after_last a b at chunk) count
    chunk_near count e =
        let f : ℕ = next_diff a b at in
        let r : ℕ = after_last a b at chunk in
        let n : NextAt a b at f = next_at a b at in
        let l : AfterLast a b at (at + chunk) r = after_last_tells a b at chunk in
        let h : f < at + chunk = chunk_first_in in
        let o : f + 1 ≤ r = chunk_last_in in
        let w : r ≤ at + chunk = l.within in
        let on : at ≤ f = n.on in
        let k : ℕ = r - (f + 1) in
        let m : ℕ = at + chunk - r in
        let all : chunk ≡ f - at + suc (k + m) = omega arith in
        let p : at + (f - at) ≡ f = omega arith in
        let q : f + 1 + k ≡ r = omega arith in
        let t : f + 1 + (k + m) ≡ at + chunk = omega arith in
        let none : diffs_in a b at (f - at) ≡ 0 = diffs_same a b at (f - at) (rw p n.alike) in
        let split : diffs_in a b at chunk ≡ diffs_in a b at (f - at) + diffs_in a b (at + (f - at)) (suc (k + m)) =
        ap (diffs_in a b at) all ∙ diffs_join a b at (f - at) (suc (k + m)) in
        let here : diffs_in a b (at + (f - at)) (suc (k + m)) ≡ diffs_in a b f (suc (k + m)) = ap (λ (i : ℕ). diffs_in a b i (suc (k + m))) p in
        let one : differs_at a b f ≡ 1 = unlike_at a b f (n.differ (omega arith) (omega arith)) in
        let rest : diffs_in a b (f + 1) (k + m) ≡ diffs_in a b (f + 1) k = diffs_alike a b (f + 1) k m (rw (q, t) l.alike) in
        record {
          on = o;
          near = omega arith;
          within = λ _. (omega arith, omega arith);
          counted = omega (arith, diffs_first a b f (k + m));
          differ = λ g. l.differ (omega arith);
        }
