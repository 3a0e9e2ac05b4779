-- The laws of a full area whose first k places are zeros but for those that are kept: one place more, what it depends on, its length, its
-- header and each of its places.
use Prim.Native.Nat.{ℕ, zero, suc, ◌+◌, ◌*◌, ◌≤◌, ◌<◌}
use Rattle.std.proofs.Common.{mul-le-mul_left, mul-suc, add-one, sym, ◌∙◌, true≢false}
use native.Mathlib.Omega.{arith}
use Rattle.std.proofs.Math.Decide.{dec_lt}
use Rattle.std.specs.Prelude.{◌≡◌, ◌⊎◌, Bool, cond, get_or}
use Rattle.std.proofs.Math.Path.{refl, ap}
use Rattle.std.proofs.Math.Logic.{inl, inr}
use Rattle.std.proofs.Math.Bool.{true, false}
use mathlib.Core.List.{List}
use Rattle.std.proofs.Math.ListN.{length}
use Rattle.span.specs.Bytes.{zeros, part, splice}
use Rattle.span.specs.Laws.{zeros_length, part_at, splice_length, part_splice, part_splice_before, part_splice_after, splice_is}
use Rattle.layout.specs.Sizes.{full_head, page_at}
use Rattle.sweeping.specs.Sweep.{zeroed_but}

-- the first k places lie in the area
abbrev pub Within : ℕ → ℕ → List ℕ → Type 0
Within P k full = (b : ℕ) → b < k → page_at P b + P ≤ length full

-- a part that a place does not touch: it ends before it, or it begins after it
abbrev pub Beside : ℕ → List ℕ → ℕ → ℕ → ℕ → Type 0
Beside P full i n b = (i + n ≤ page_at P b) ⊎ ((page_at P b + P ≤ i) × (i + n ≤ length full))

-- the place of a lower block ends before
pub place_before : (P b c : ℕ) → b < c → page_at P b + P ≤ page_at P c
place_before P b c h =
    let m : P * (b + 1) ≤ P * c = mul-le-mul_left P (omega arith) in
    let d : P * (b + 1) ≡ P * b + P = ap (λ (k : ℕ). P * k) (add-one b) ∙ mul-suc P b in
    omega arith

module _ (keeps : ℕ → Bool) (P : ℕ) (full : List ℕ) where
  pub zeroed_none : zeroed_but keeps P 0 full ≡ full
  unfolding zeroed_but
  zeroed_none = refl

  -- one place more
  pub zeroed_more : (b : ℕ)
      → zeroed_but keeps P (b + 1) full
      ≡ cond (keeps b) (zeroed_but keeps P b full) (splice (zeroed_but keeps P b full) (page_at P b) (zeros P))
  unfolding zeroed_but
  zeroed_more b = ap (λ (k : ℕ). zeroed_but keeps P k full) (add-one b)

  pub zeroed_length : (k : ℕ) → Within P k full → length (zeroed_but keeps P k full) ≡ length full
  unfolding zeroed_but
  zeroed_length zero h = refl
  zeroed_length (suc b) h = go (keeps b) (zeroed_but keeps P b full) (zeroed_length b (λ i l. h i (omega arith)))
    where
      go : (t : Bool) (rest : List ℕ) → length rest ≡ length full → length (cond t rest (splice rest (page_at P b) (zeros P))) ≡ length full
      go true rest e = e
      go false rest e = splice_length rest (page_at P b) (zeros P) (omega (arith, zeros_length P, h b (omega arith))) ∙ e

  -- what no place that becomes zeros touches is as it was
  pub zeroed_beside : (k : ℕ) → Within P k full → (i n : ℕ) → ((b : ℕ) → b < k → keeps b ≡ false → Beside P full i n b)
      → part i n (zeroed_but keeps P k full) ≡ part i n full
  unfolding zeroed_but
  zeroed_beside zero h i n apart = refl
  zeroed_beside (suc b) h i n apart =
      go (keeps b) refl (zeroed_but keeps P b full) (zeroed_length b (λ j l. h j (omega arith)))
      (zeroed_beside b (λ j l. h j (omega arith)) i n (λ j l. apart j (omega arith)))
    where
      go : (t : Bool) → keeps b ≡ t → (rest : List ℕ) → length rest ≡ length full → part i n rest ≡ part i n full
          → part i n (cond t rest (splice rest (page_at P b) (zeros P))) ≡ part i n full
      go true q rest l e = e
      go false q rest l e =
          elim (apart b (omega arith) q) [
            | inl m ↦ part_splice_before rest (page_at P b) (zeros P) i n (omega (arith, zeros_length P, h b (omega arith))) m ∙ e
            | inr m ↦
                part_splice_after rest (page_at P b) (zeros P) i n (omega (arith, zeros_length P, h b (omega arith)))
                (omega (arith, zeros_length P, m.0)) (omega (arith, m.1)) ∙ e
          ]

  module _ (k : ℕ) (within : Within P k full) where
    -- the header
    pub zeroed_head : part 0 full_head (zeroed_but keeps P k full) ≡ part 0 full_head full
    zeroed_head = zeroed_beside k within 0 full_head (λ b l q. inl (omega arith))

    -- a place that is kept, or that is not among the first k
    pub zeroed_kept : (c : ℕ) → page_at P c + P ≤ length full → keeps c ≡ true
        → part (page_at P c) P (zeroed_but keeps P k full) ≡ part (page_at P c) P full
    zeroed_kept c f e =
        zeroed_beside k within (page_at P c) P
        (λ b l q.
        elim (dec_lt b c) [
          | yes m ↦ inr (place_before P b c m, f)
          | no m ↦
              elim (dec_lt c b) [
                | yes o ↦ inl (place_before P c b o)
                | no o ↦
                    let same : b ≡ c = omega arith in
                    absurd (true≢false (sym e ∙ ap keeps (sym same) ∙ q))
              ]
        ])

    pub zeroed_later : (c : ℕ) → page_at P c + P ≤ length full → k ≤ c
        → part (page_at P c) P (zeroed_but keeps P k full) ≡ part (page_at P c) P full
    zeroed_later c f h = zeroed_beside k within (page_at P c) P (λ b l q. inr (place_before P b c (omega arith), f))

  -- and one that is among them and not kept
  pub zeroed_cleared : (k : ℕ) → Within P k full → (c : ℕ) → c < k → keeps c ≡ false
      → part (page_at P c) P (zeroed_but keeps P k full) ≡ zeros P
  unfolding zeroed_but
  zeroed_cleared zero h c l q = absurd (omega arith)
  zeroed_cleared (suc b) h c l q =
      elim (dec_lt c b) [
        | yes m ↦ lower m (keeps b) (zeroed_but keeps P b full) (zeroed_length b (λ j o. h j (omega arith)))
            (zeroed_cleared b (λ j o. h j (omega arith)) c m q)
        | no m ↦
            let same : b ≡ c = omega arith in
            rw (ap keeps same ∙ q, same) (own (zeroed_but keeps P c full)
            (zeroed_length c (λ j o. h j (omega arith))))
      ]
    where
      lower : c < b → (t : Bool) (rest : List ℕ) → length rest ≡ length full → part (page_at P c) P rest ≡ zeros P
          → part (page_at P c) P (cond t rest (splice rest (page_at P b) (zeros P))) ≡ zeros P
      lower m true rest e f = f
      lower m false rest e f =
          part_splice_before rest (page_at P b) (zeros P) (page_at P c) P (omega (arith, zeros_length P, h b (omega arith)))
          (place_before P c b m) ∙ f

      own : (rest : List ℕ) → length rest ≡ length full → part (page_at P c) P (splice rest (page_at P c) (zeros P)) ≡ zeros P
      own rest e = part_splice rest (page_at P c) (zeros P) P (zeros_length P) (omega (arith, h c l))

-- it depends on the tests of these blocks alone
pub zeroed_same : (keeps other : ℕ → Bool) (P k : ℕ) (full : List ℕ) → ((b : ℕ) → b < k → keeps b ≡ other b)
    → zeroed_but keeps P k full ≡ zeroed_but other P k full
unfolding zeroed_but
zeroed_same keeps other P zero full h = refl
zeroed_same keeps other P (suc b) full h =
    ap (λ (t : Bool). cond t (zeroed_but keeps P b full) (splice (zeroed_but keeps P b full) (page_at P b) (zeros P))) (h b (omega arith))
    ∙ ap (λ (rest : List ℕ). cond (other b) rest (splice rest (page_at P b) (zeros P))) (zeroed_same keeps other P b full (λ i l. h i (omega arith)))

-- zeros laid where zeros are change nothing
zeros_stay : (xs : List ℕ) (at n : ℕ) → at + n ≤ length xs → part at n xs ≡ zeros n → splice xs at (zeros n) ≡ xs
zeros_stay xs at n h e =
    let l : length (zeros n) ≡ n = zeros_length n in
    sym
    (splice_is xs at (zeros n) xs (omega arith) refl (λ i k. refl)
    (λ j k. sym (part_at at n xs j (omega arith)) ∙ ap (λ (x : List ℕ). get_or x j 0) e) (λ i k m. refl))

-- an area whose places are zeros but for those that are kept is as it was
pub zeroed_clean : (keeps : ℕ → Bool) (P k : ℕ) (full : List ℕ) → Within P k full
    → ((b : ℕ) → b < k → keeps b ≡ false → part (page_at P b) P full ≡ zeros P) → zeroed_but keeps P k full ≡ full
unfolding zeroed_but
zeroed_clean keeps P zero full h clean = refl
zeroed_clean keeps P (suc b) full h clean =
    ap (λ (rest : List ℕ). cond (keeps b) rest (splice rest (page_at P b) (zeros P)))
    (zeroed_clean keeps P b full (λ i l. h i (omega arith)) (λ i l. clean i (omega arith)))
    ∙ go (keeps b) refl
  where
    go : (t : Bool) → keeps b ≡ t → cond t full (splice full (page_at P b) (zeros P)) ≡ full
    go true q = refl
    go false q = zeros_stay full (page_at P b) P (h b (omega arith)) (clean b (omega arith) q)

-- so zeroing again changes nothing
pub zeroed_again : (keeps : ℕ → Bool) (P k : ℕ) (full : List ℕ) → Within P k full
    → zeroed_but keeps P k (zeroed_but keeps P k full) ≡ zeroed_but keeps P k full
zeroed_again keeps P k full h =
    let l : length (zeroed_but keeps P k full) ≡ length full = zeroed_length keeps P full k h in
    zeroed_clean keeps P k (zeroed_but keeps P k full) (λ b o. rw l (h b o)) (zeroed_cleared keeps P full k h)
