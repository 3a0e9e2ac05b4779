-- What the definitions of Tally mean, said again without their recursion: counts are lengths of lists of blocks, and a bad map has a bad
-- pair.
use Rattle.std.specs.Prelude.{ℕ, zero, suc, ◌+◌, ◌-◌, ◌*◌, ◌≤◌, ◌<◌, ◌↔◌, ◌⊎◌, Bool, not, ◌||◌, eqb, length, Result, Ok, Err}
use Rattle.std.proofs.Common.{arith, sym, ◌∙◌, inl, inr, length-append, eq-eqb, eqb-true}
use Rattle.std.proofs.Math.Decide.{dec_lt}
use Rattle.std.proofs.Math.Path.{◌≡◌, refl, ap}
use Rattle.std.proofs.Math.Logic.{⊎_elim}
use Rattle.std.proofs.Math.Bool.{true, false, cond, or-true}
use mathlib.Core.List.Memᴰ
use mathlib.Core.List.{List, [], ◌∷◌, ◌++◌, Memᴰ}
use Rattle.std.proofs.lemmas.Bool.{eqb-false}
use Rattle.blockmap.specs.Pairs.{map_bytes, pair_at, pairs, patch_pair, full_pair, reserved_pair, some_reserved, some_used, bad_pairs}
use Rattle.blockmap.specs.PairLaws.{none_used}
use Rattle.blockmap.specs.Calls.{Tally}
use Rattle.blockmap.specs.CallLaws.{tally_pair, tally_done, tally_one}
use Rattle.blockmap.specs.declared.Tallied.{Tallied}
use Rattle.layout.specs.Sizes.{blocks_at_most}
use Rattle.layout.specs.declared.Refusal.{Refusal}
use Rattle.layout.specs.declared.Refusal.TheVariants.{Pair}

-- the blocks below n, in rising order
unfoldable pub up_to : ℕ → List ℕ
up_to zero = []
up_to (suc n) = up_to n ++ (n ∷ [])

-- those of a list that pass a test
unfoldable pub keep : (ℕ → Bool) → List ℕ → List ℕ
keep test [] = []
keep test (b ∷ bs) = cond (test b) (b ∷ keep test bs) (keep test bs)

-- the blocks below n with pair v
unfoldable pub blocks_with : ℕ → List ℕ → ℕ → List ℕ
blocks_with v map n = keep (λ b. eqb (pair_at map b) v) (up_to n)

keep_append : (test : ℕ → Bool) (xs ys : List ℕ) → keep test (xs ++ ys) ≡ keep test xs ++ keep test ys
unfolding keep
keep_append test [] ys = refl
keep_append test (x ∷ xs) ys = go (test x) (keep_append test xs ys)
  where
    go : (t : Bool) → keep test (xs ++ ys) ≡ keep test xs ++ keep test ys
        → cond t (x ∷ keep test (xs ++ ys)) (keep test (xs ++ ys)) ≡ cond t (x ∷ keep test xs) (keep test xs) ++ keep test ys
    go true e = ap (λ (l : List ℕ). x ∷ l) e
    go false e = e

-- The tally's numbers are counts

pub pairs_count : (v : ℕ) (map : List ℕ) (n : ℕ) → pairs v map n ≡ length (blocks_with v map n)
unfolding pairs blocks_with up_to keep
pairs_count v map zero = refl
pairs_count v map (suc b) =
    ap (λ (k : ℕ). k + cond (eqb (pair_at map b) v) 1 0) (pairs_count v map b)
    ∙ sym (ap length (keep_append test (up_to b) (b ∷ [])) ∙ length-append (keep test (up_to b)) (keep test (b ∷ [])) ∙ go (test b))
  where
    test : ℕ → Bool
    test i = eqb (pair_at map i) v

    go : (t : Bool) → length (keep test (up_to b)) + length (cond t (b ∷ []) []) ≡ length (keep test (up_to b)) + cond t 1 0
    go true = refl
    go false = refl

-- The list holds just those blocks, each once

abbrev pub Rising : List ℕ → Type 0
Rising [] = Unit {0}
Rising (b ∷ bs) = ((c : ℕ) → Memᴰ c bs → b < c) × Rising bs

pub record JustThose (those : ℕ → Type 0) (bs : List ℕ) : Type 0 where
  pub rising : Rising bs
  pub members : (b : ℕ) → Memᴰ b bs ↔ those b

rising_end : (bs : List ℕ) (n : ℕ) → Rising bs → ((b : ℕ) → Memᴰ b bs → b < n) → Rising (bs ++ (n ∷ []))
rising_end [] n r h = ((λ c m. absurd (Memᴰ.not-nil m)), tt {0})
rising_end (b ∷ bs) n r h = (
  (λ c m.
      ⊎_elim (λ i. r.0 c i)
      (λ e. let q : c ≡ n = Memᴰ.eq_of_singleton e in let l : b < n = h b (Memᴰ.head refl) in omega arith)
      (Memᴰ.append_cases bs m)),
  rising_end bs n r.1 (λ c m. h c (Memᴰ.tail m)),
)

pub up_to_below : (n b : ℕ) → Memᴰ b (up_to n) → b < n
unfolding up_to
up_to_below zero b m = absurd (Memᴰ.not-nil m)
up_to_below (suc n) b m =
    ⊎_elim (λ i. let l : b < n = up_to_below n b i in omega arith)
    (λ e. let q : b ≡ n = Memᴰ.eq_of_singleton e in omega arith)
    (Memᴰ.append_cases (up_to n) m)

below_up_to : (n b : ℕ) → b < n → Memᴰ b (up_to n)
unfolding up_to
below_up_to zero b h = absurd (omega arith)
below_up_to (suc n) b h =
    elim (dec_lt b n) [
      | yes l ↦ Memᴰ.append_left (n ∷ []) (below_up_to n b l)
      | no l ↦ Memᴰ.append_right (up_to n) (Memᴰ.head (omega arith))
    ]

up_to_rising : (n : ℕ) → Rising (up_to n)
unfolding up_to
up_to_rising zero = tt {0}
up_to_rising (suc n) = rising_end (up_to n) n (up_to_rising n) (up_to_below n)

module _ (test : ℕ → Bool) where
  kept : (bs : List ℕ) (b : ℕ) → Memᴰ b (keep test bs) → Memᴰ b bs × (test b ≡ true)
  unfolding keep
  kept [] b m = absurd (Memᴰ.not-nil m)
  kept (c ∷ bs) b m = go (test c) refl m (kept bs b)
    where
      go : (t : Bool) → test c ≡ t → Memᴰ b (cond t (c ∷ keep test bs) (keep test bs))
          → (Memᴰ b (keep test bs) → Memᴰ b bs × (test b ≡ true)) → Memᴰ b (c ∷ bs) × (test b ≡ true)
      go true q i rest =
          ⊎_elim (λ e. (Memᴰ.head e, ap test e ∙ q)) (λ j. (Memᴰ.tail (rest j).0, (rest j).1)) (Memᴰ.cases_cons i)
      go false q i rest = (Memᴰ.tail (rest i).0, (rest i).1)

  keeps : (bs : List ℕ) (b : ℕ) → Memᴰ b bs → test b ≡ true → Memᴰ b (keep test bs)
  unfolding keep
  keeps [] b m e = absurd (Memᴰ.not-nil m)
  keeps (c ∷ bs) b m e = go (test c) refl (Memᴰ.cases_cons m) (keeps bs b)
    where
      go : (t : Bool) → test c ≡ t → (b ≡ c) ⊎ Memᴰ b bs → (Memᴰ b bs → test b ≡ true → Memᴰ b (keep test bs))
          → Memᴰ b (cond t (c ∷ keep test bs) (keep test bs))
      go true q (inl i) rest = Memᴰ.head i
      go true q (inr i) rest = Memᴰ.tail (rest i e)
      go false q (inl i) rest = absurd (let z : ◌≡◌ {A = ℕ} 0 1 = cc (ap test i) in omega arith)
      go false q (inr i) rest = rest i e

  pub keep_same : (other : ℕ → Bool) (bs : List ℕ) → ((b : ℕ) → Memᴰ b bs → test b ≡ other b) → keep test bs ≡ keep other bs
  unfolding keep
  keep_same other [] h = refl
  keep_same other (c ∷ bs) h =
      ap (λ (t : Bool). cond t (c ∷ keep test bs) (keep test bs)) (h c (Memᴰ.head refl))
      ∙ ap (λ (l : List ℕ). cond (other c) (c ∷ l) l) (keep_same other bs (λ b m. h b (Memᴰ.tail m)))

  keep_rising : (bs : List ℕ) → Rising bs → Rising (keep test bs)
  unfolding keep
  keep_rising [] r = r
  keep_rising (c ∷ bs) r = go (test c) (keep_rising bs r.1)
    where
      go : (t : Bool) → Rising (keep test bs) → Rising (cond t (c ∷ keep test bs) (keep test bs))
      go true k = ((λ b m. r.0 b (kept bs b m).0), k)
      go false k = k

abbrev pub HasPair : ℕ → List ℕ → ℕ → ℕ → Type 0
HasPair v map n b = (b < n) × (pair_at map b ≡ v)

pub blocks_with_is : (v : ℕ) (map : List ℕ) (n : ℕ) → JustThose (HasPair v map n) (blocks_with v map n)
unfolding blocks_with
blocks_with_is v map n =
    record {
      rising = keep_rising test (up_to n) (up_to_rising n);
      members =
          λ b. (
            (λ m. (up_to_below n b (kept test (up_to n) b m).0, eqb-true (pair_at map b) v (kept test (up_to n) b m).1)),
            (λ h. keeps test (up_to n) b (below_up_to n b h.0) (eq-eqb (pair_at map b) v h.1)),
          );
    }
  where
    test : ℕ → Bool
    test b = eqb (pair_at map b) v

-- and no other rising list does

rising_one : (xs ys : List ℕ) → Rising xs → Rising ys → ((b : ℕ) → Memᴰ b xs → Memᴰ b ys)
    → ((b : ℕ) → Memᴰ b ys → Memᴰ b xs) → xs ≡ ys
rising_one [] [] r s to from = refl
rising_one [] (y ∷ ys) r s to from = absurd (Memᴰ.not-nil (from y (Memᴰ.head refl)))
rising_one (x ∷ xs) [] r s to from = absurd (Memᴰ.not-nil (to x (Memᴰ.head refl)))
rising_one (x ∷ xs) (y ∷ ys) r s to from =
    go
    (⊎_elim (λ e. e)
    (λ m. ⊎_elim (λ e. sym e) (λ k. absurd (let a : y < x = s.0 x m in let b : x < y = r.0 y k in omega arith))
    (Memᴰ.cases_cons (from y (Memᴰ.head refl))))
    (Memᴰ.cases_cons (to x (Memᴰ.head refl))))
    (rising_one xs ys r.1 s.1)
  where
    go : x ≡ y → (((b : ℕ) → Memᴰ b xs → Memᴰ b ys) → ((b : ℕ) → Memᴰ b ys → Memᴰ b xs) → xs ≡ ys) → x ∷ xs ≡ y ∷ ys
    go e rest =
        ap (λ (b : ℕ). b ∷ xs) e
        ∙ ap (λ (l : List ℕ). y ∷ l)
        (rest
        (λ b m. ⊎_elim (λ q. absurd (let a : x < b = r.0 b m in omega arith)) (λ k. k) (Memᴰ.cases_cons (to b (Memᴰ.tail m))))
        (λ b m. ⊎_elim (λ q. absurd (let a : y < b = s.0 b m in omega arith)) (λ k. k)
        (Memᴰ.cases_cons (from b (Memᴰ.tail m)))))

pub pairs_counted : (v : ℕ) (map : List ℕ) (n : ℕ) (bs : List ℕ) → JustThose (HasPair v map n) bs → pairs v map n ≡ length bs
pairs_counted v map n bs j =
    let k : JustThose (HasPair v map n) (blocks_with v map n) = blocks_with_is v map n in
    pairs_count v map n
    ∙ ap length
    (rising_one (blocks_with v map n) bs k.rising j.rising (λ b m. (j.members b).1 ((k.members b).0 m))
    (λ b m. (k.members b).1 ((j.members b).0 m)))

-- Number 11 of Tally: "pair 3 met, or a pair past n not 0", up to the end of the last byte

abbrev pub BadPair : List ℕ → ℕ → ℕ → Type 0
BadPair map n b = ((b < n) × (pair_at map b ≡ reserved_pair)) ⊎ ((n ≤ b) × (b < 4 * map_bytes n) × (pair_at map b ≡ 0 → ⊥))

reserved_at_is : (map : List ℕ) (n : ℕ) → some_reserved map n ≡ true → (b : ℕ) × (b < n) × (pair_at map b ≡ reserved_pair)
unfolding some_reserved
reserved_at_is map zero e = absurd (let z : ◌≡◌ {A = ℕ} 0 1 = cc in omega arith)
reserved_at_is map (suc n) e = go (some_reserved map n) (eqb (pair_at map n) reserved_pair) refl refl e (reserved_at_is map n)
  where
    go : (s t : Bool) → some_reserved map n ≡ s → eqb (pair_at map n) reserved_pair ≡ t → (s || t) ≡ true
        → (some_reserved map n ≡ true → (b : ℕ) × (b < n) × (pair_at map b ≡ reserved_pair))
        → (b : ℕ) × (b < suc n) × (pair_at map b ≡ reserved_pair)
    go true t p q w rest = let (b, h, k) = rest p in (b, omega arith, k)
    go false true p q w rest = (n, omega arith, eqb-true (pair_at map n) reserved_pair q)
    go false false p q w rest = absurd (let z : ◌≡◌ {A = ℕ} 0 1 = cc in omega arith)

at_reserved : (map : List ℕ) (n b : ℕ) → b < n → pair_at map b ≡ reserved_pair → some_reserved map n ≡ true
unfolding some_reserved
at_reserved map zero b h e = absurd (omega arith)
at_reserved map (suc n) b h e =
    elim (dec_lt b n) [
      | yes l ↦ rw (at_reserved map n b l e)
      | no l ↦
          let q : n ≡ b = omega arith in
          rw (eq-eqb (pair_at map n) reserved_pair (ap (pair_at map) q ∙ e)) (or-true (some_reserved map n))
    ]

used_at : (map : List ℕ) (n k : ℕ) → some_used map n k ≡ true → (b : ℕ) × (n ≤ b) × (b < n + k) × (pair_at map b ≡ 0 → ⊥)
unfolding some_used
used_at map n zero e = absurd (let z : ◌≡◌ {A = ℕ} 0 1 = cc in omega arith)
used_at map n (suc k) e = go (some_used map n k) (eqb (pair_at map (n + k)) 0) refl refl e (used_at map n k)
  where
    go : (s t : Bool) → some_used map n k ≡ s → eqb (pair_at map (n + k)) 0 ≡ t → (s || not t) ≡ true
        → (some_used map n k ≡ true → (b : ℕ) × (n ≤ b) × (b < n + k) × (pair_at map b ≡ 0 → ⊥))
        → (b : ℕ) × (n ≤ b) × (b < n + suc k) × (pair_at map b ≡ 0 → ⊥)
    go true t p q w rest = let (b, h, l, z) = rest p in (b, h, omega arith, z)
    go false false p q w rest = (n + k, omega arith, omega arith, eqb-false (pair_at map (n + k)) 0 q)
    go false true p q w rest = absurd (let z : ◌≡◌ {A = ℕ} 0 1 = cc in omega arith)

at_used : (map : List ℕ) (n k b : ℕ) → n ≤ b → b < n + k → (pair_at map b ≡ 0 → ⊥) → some_used map n k ≡ true
at_used map n k b h l z = go (some_used map n k) refl
  where
    go : (t : Bool) → some_used map n k ≡ t → t ≡ true
    go true e = refl
    go false e =
        let j : n + (b - n) ≡ b = omega arith in
        absurd (z (sym (ap (pair_at map) j) ∙ none_used map n k e (b - n) (omega arith)))

pub bad_iff : (map : List ℕ) (n : ℕ) → (bad_pairs map n ≡ true) ↔ ((b : ℕ) × BadPair map n b)
unfolding bad_pairs map_bytes
bad_iff map n = (to (some_reserved map n) refl, λ w. from w.0 w.1)
  where
    to : (t : Bool) → some_reserved map n ≡ t → (t || some_used map n (4 * map_bytes n - n)) ≡ true → (b : ℕ) × BadPair map n b
    to true p e = let (b, h, q) = reserved_at_is map n p in (b, inl (h, q))
    to false p e = let (b, h, l, z) = used_at map n (4 * map_bytes n - n) e in (b, inr (h, omega arith, z))

    from : (b : ℕ) → BadPair map n b → bad_pairs map n ≡ true
    from b (inl h) = rw (at_reserved map n b h.0 h.1)
    from b (inr h) = rw (at_used map n (4 * map_bytes n - n) b h.0 (omega arith) h.2) (or-true (some_reserved map n))

-- Tally in document 01's words: how many blocks are PATCH and how many full, each counted by a list of just those; or a bad pair, refused
pub record Tallies (map : List ℕ) (n : ℕ) (answer : Result Tallied Refusal) : Type 0 where
  pub counts : ((b : ℕ) → BadPair map n b → ⊥) → (ps fs : List ℕ) → JustThose (HasPair patch_pair map n) ps
      → JustThose (HasPair full_pair map n) fs → answer ≡ Ok (record { patch = length ps; full = length fs })
  pub refuses : (b : ℕ) → BadPair map n b → answer ≡ Err Pair

pub tally_says : (P : ℕ) (map : List ℕ) (n : ℕ) → n ≤ blocks_at_most P → map_bytes n ≤ length map → (answer : Result Tallied Refusal)
    → Tally P map n answer → Tallies map n answer
tally_says P map n few long answer h =
    record {
      counts =
          λ none ps fs jp jf.
          tally_one P map n answer (Ok (record { patch = length ps; full = length fs })) h
          (tally_done P map n few long (length ps) (length fs) (good none (bad_pairs map n) refl)
          (sym (pairs_counted patch_pair map n ps jp))
          (sym (pairs_counted full_pair map n fs jf)));
      refuses =
          λ b bad. tally_one P map n answer (Err Pair) h (tally_pair P map n few long ((bad_iff map n).1 (b, bad)));
    }
  where
    good : ((b : ℕ) → BadPair map n b → ⊥) → (t : Bool) → bad_pairs map n ≡ t → bad_pairs map n ≡ false
    good none true e = let (b, bad) = (bad_iff map n).0 e in absurd (none b bad)
    good none false e = e
