-- The laws of rows: what the first one that holds gives, and that it is given at no other time.
use Rattle.std.specs.Prelude.{ℕ, zero, suc, ◌≡◌, refl, Bool, true, false, cond, ◌↔◌, List, [], ◌∷◌, ◌++◌}
use Rattle.std.proofs.Common.{arith, sym, ap, ◌∙◌}
use Rattle.layout.specs.Refusals.{Row, ◌⇐◌, or_else, first_of, decided}

-- "Each refusal is given when its condition holds and no earlier one does, and at no other time", once and for every list of rows

abbrev pub NoneHolds : List Row → Type 0
NoneHolds [] = Unit {0}
NoneHolds (r ∷ rows) = (r.holds ≡ false) × NoneHolds rows

pub first_hit : (n : ℕ) (b : Bool) (rows : List Row) → b ≡ true → first_of ((suc n ⇐ b) ∷ rows) ≡ suc n
unfolding first_of or_else
first_hit n b rows e = rw e

pub first_skip : (n : ℕ) (b : Bool) (rows : List Row) → b ≡ false → first_of ((n ⇐ b) ∷ rows) ≡ first_of rows
unfolding first_of or_else
first_skip n b rows e = rw e

pub first_done : (rows : List Row) → NoneHolds rows → first_of rows ≡ 0
unfolding first_of or_else
first_done [] h = refl
first_done (r ∷ rows) h = rw h.0 (first_done rows h.1)

pub first_given : (before : List Row) (n : ℕ) (b : Bool) (after : List Row) → NoneHolds before → b ≡ true
    → first_of (before ++ ((suc n ⇐ b) ∷ after)) ≡ suc n
unfolding first_of or_else
first_given [] n b after h e = rw e
first_given (r ∷ rows) n b after h e = rw h.0 (first_given rows n b after h.1 e)

-- the row that gave a number: it stands in the list, its condition holds, and no earlier one does
pub record Gave (rows : List Row) (n : ℕ) : Type 0 where
  pub before : List Row
  pub after : List Row
  pub place : rows ≡ before ++ ((n ⇐ true) ∷ after)
  pub earlier : NoneHolds before

-- (a row of number 0 would refuse nothing: no list has one)
pub data Numbered : List Row → Type 0 where
  no_row : Numbered []
  one_more : {r : Row} {rows : List Row} → (r.number ≡ 0 → ⊥) → Numbered rows → Numbered (r ∷ rows)

pub first_only : (rows : List Row) (n : ℕ) → Numbered rows → first_of rows ≡ suc n → Gave rows (suc n)
unfolding first_of or_else
first_only [] n w e = absurd (omega arith)
first_only (r ∷ rows) n (one_more some w) e = go r.holds r.number refl refl (first_only rows n w) e
  where
    go : (b : Bool) (k : ℕ) → r.holds ≡ b → r.number ≡ k → (first_of rows ≡ suc n → Gave rows (suc n))
        → or_else (cond b k 0) (first_of rows) ≡ suc n → Gave (r ∷ rows) (suc n)
    go true zero p q rest h = absurd (some q)
    go true (suc k) p q rest h =
        let e' : r ≡ (suc n ⇐ true) = λ i. record { number = (q ∙ h) i; holds = p i } in
        record { before = []; after = rows; place = ap (λ (x : Row). x ∷ rows) e'; earlier = tt {0} }
    go false k p q rest h =
        let g : Gave rows (suc n) = rest h in
        record { before = r ∷ g.before; after = g.after; place = ap (λ (l : List Row). r ∷ l) g.place; earlier = (p, g.earlier) }

-- 0 says that no row held
pub or_none : (a b : ℕ) → or_else a b ≡ 0 → (a ≡ 0) × (b ≡ 0)
unfolding or_else
or_none zero b e = (refl, e)
or_none (suc a) b e = absurd (omega arith)

-- a number is given exactly when the condition of a row of that number holds and no earlier one does, and 0 exactly when none holds
pub record Exactly (rows : List Row) (n : ℕ) : Type 0 where
  pub done : (n ≡ 0) ↔ NoneHolds rows
  pub refused : (k : ℕ) → (n ≡ suc k) ↔ Gave rows (suc k)

pub first_none : (rows : List Row) → Numbered rows → first_of rows ≡ 0 → NoneHolds rows
unfolding first_of
first_none [] w e = tt {0}
first_none (r ∷ rows) (one_more some w) e =
    let z : (cond r.holds r.number 0 ≡ 0) × (first_of rows ≡ 0) = or_none (cond r.holds r.number 0) (first_of rows) e in
    (off r.holds z.0, first_none rows w z.1)
  where
    off : (b : Bool) → cond b r.number 0 ≡ 0 → b ≡ false
    off true q = absurd (some q)
    off false q = refl

pub gave_first : (rows : List Row) (k : ℕ) → Gave rows (suc k) → first_of rows ≡ suc k
gave_first rows k g = ap first_of g.place ∙ first_given g.before k true g.after g.earlier refl

pub exactly : (rows : List Row) (n : ℕ) → n ≡ first_of rows → Numbered rows → Exactly rows n
exactly rows n e w =
    record {
      done = (λ z. first_none rows w (sym e ∙ z), λ h. e ∙ first_done rows h);
      refused = λ k. (λ q. first_only rows k w (sym e ∙ q), λ g. e ∙ gave_first rows k g);
    }

-- the number of an outcome that rows decide, and where what is done has a number too
pub decided_number : {A : Type 0} (number : A → ℕ) (d : A) (r : ℕ → A) (n : ℕ) → number d ≡ 0 → ((k : ℕ) → number (r k) ≡ k)
    → number (decided n d r) ≡ n
unfolding decided
decided_number number d r zero e f = e
decided_number number d r (suc k) e f = f (suc k)

pub decided_or : {A : Type 0} (number : A → ℕ) (d : A) (r : ℕ → A) (n : ℕ) → ((k : ℕ) → number (r k) ≡ k)
    → number (decided n d r) ≡ or_else n (number d)
unfolding decided or_else
decided_or number d r zero f = refl
decided_or number d r (suc k) f = f (suc k)

-- a further number beside that: 0 where nothing is refused, else what goes with the number
pub decided_beside : {A : Type 0} (number beside : A → ℕ) (with : ℕ → ℕ) (d : A) (r : ℕ → A) (n : ℕ) → number d ≡ 0 → beside d ≡ 0
    → ((k : ℕ) → number (r k) ≡ k) → ((k : ℕ) → beside (r k) ≡ with k) → with 0 ≡ 0
    → beside (decided n d r) ≡ with (number (decided n d r))
unfolding decided
decided_beside number beside with d r zero e z f g o = z ∙ sym o ∙ ap with (sym e)
decided_beside number beside with d r (suc k) e z f g o = g (suc k) ∙ ap with (sym (f (suc k)))

-- a row before others, and two lists one after the other
pub row : {n : ℕ} {b : Bool} {rows : List Row} → Numbered rows → Numbered ((suc n ⇐ b) ∷ rows)
row {n} w = one_more (λ (e : suc n ≡ 0). omega arith) w

pub both : {xs ys : List Row} → Numbered xs → Numbered ys → Numbered (xs ++ ys)
both no_row w = w
both (one_more some v) w = one_more some (both v w)

-- a number that no row has is not given
pub data Lacks (k : ℕ) : List Row → Type 0 where
  no_such : Lacks k []
  another : {r : Row} {rows : List Row} → (r.number ≡ k → ⊥) → Lacks k rows → Lacks k (r ∷ rows)

pub lacks : {k : ℕ} {b : Bool} {rows : List Row} (m : ℕ) → (m ≡ k → ⊥) → Lacks k rows → Lacks k ((m ⇐ b) ∷ rows)
lacks m other w = another other w

pub lacks_both : {k : ℕ} {xs ys : List Row} → Lacks k xs → Lacks k ys → Lacks k (xs ++ ys)
lacks_both no_such w = w
lacks_both (another other v) w = another other (lacks_both v w)

pub first_lacks : (rows : List Row) (k : ℕ) → Lacks (suc k) rows → first_of rows ≡ suc k → ⊥
unfolding first_of or_else
first_lacks [] k w e = omega arith
first_lacks (r ∷ rows) k (another other w) e = go r.holds r.number refl (first_lacks rows k w) e
  where
    go : (b : Bool) (m : ℕ) → r.number ≡ m → (first_of rows ≡ suc k → ⊥) → or_else (cond b m 0) (first_of rows) ≡ suc k → ⊥
    go true zero q rest h = rest h
    go true (suc m) q rest h = other (q ∙ h)
    go false m q rest h = rest h

-- two lists of rows one after the other
or_assoc : (a b c : ℕ) → or_else (or_else a b) c ≡ or_else a (or_else b c)
unfolding or_else
or_assoc zero b c = refl
or_assoc (suc a) b c = refl

pub first_append : (xs ys : List Row) → first_of (xs ++ ys) ≡ or_else (first_of xs) (first_of ys)
unfolding first_of or_else
first_append [] ys = refl
first_append (r ∷ xs) ys =
    ap (λ (k : ℕ). or_else (cond r.holds r.number 0) k) (first_append xs ys)
    ∙ sym (or_assoc (cond r.holds r.number 0) (first_of xs) (first_of ys))

pub or_skip : (a b : ℕ) → a ≡ 0 → or_else a b ≡ b
unfolding or_else
or_skip a b e = rw e

pub or_some : (a b : ℕ) → (a ≡ 0 → ⊥) → or_else a b ≡ a
unfolding or_else
or_some zero b h = absurd (h refl)
or_some (suc a) b h = refl

pub decided_done : {A : Type 0} (d : A) (r : ℕ → A) (n : ℕ) → n ≡ 0 → decided n d r ≡ d
unfolding decided
decided_done d r n e = ap (λ (k : ℕ). decided k d r) e

pub decided_refused : {A : Type 0} (d : A) (r : ℕ → A) (n k : ℕ) → n ≡ k → (k ≡ 0 → ⊥) → decided n d r ≡ r k
unfolding decided
decided_refused d r n zero e h = absurd (h refl)
decided_refused d r n (suc k) e h = ap (λ (m : ℕ). decided m d r) e

pub row_off : (n : ℕ) (t : Bool) → cond t (suc n) 0 ≡ 0 → t ≡ false
row_off n true e = absurd (omega arith)
row_off n false e = refl
