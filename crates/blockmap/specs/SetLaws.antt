-- The laws of setting one pair: what it leaves, that nothing else leaves the same, and what it makes of a packed map. The last is the one
-- law by which a map that is kept through writes meets the map that Build makes.
use Rattle.std.specs.Prelude.{ℕ, zero, suc, ◌+◌, ◌*◌, ◌/◌, ◌%◌, ◌^◌, ◌≤◌, ◌<◌, ◌≡◌, refl, Bool, true, false, cond, List}
use Rattle.std.specs.Prelude.{◌++◌, eqb, length, get_or, set, drop}
use native.Mathlib.Omega.{arith}
use Rattle.std.proofs.Common.{div-one, mod-eq_of_lt, sym, ap, ◌∙◌, eq-eqb, ne_eqb, eqb-true}
use Rattle.std.proofs.Math.Nat.{div-add-mod, mod-mod}
use Rattle.std.proofs.Math.Decide.{dec_lt}
use Rattle.std.proofs.Math.ListN.{length-set, get_or-append}
use Rattle.std.proofs.Math.Seq.{get_or-set_same, get_or-set_other, set_out}
use Rattle.std.proofs.lemmas.List.{set-append_left}
use Rattle.std.proofs.lemmas.Bool.{eqb-false}
use Rattle.span.specs.Bytes.{splice}
use Rattle.span.specs.Laws.{ext}
use Rattle.blockmap.specs.Pairs.{map_bytes, pair_at}
use Rattle.blockmap.specs.PairLaws.{pair_within}
use Rattle.blockmap.specs.Pack.{pair_of, kind_of, byte_of, pair_in, packed, with_pair, set_pair}
use Rattle.blockmap.specs.PackLaws.{byte_of_below, byte_0, byte_1, byte_2, byte_3, byte_one, map_one, packed_length, packed_below}
use Rattle.blockmap.specs.PackLaws.{packed_pair, pair_used, pair_unused}
use Rattle.blockmap.specs.SetPair.{PairSet}

-- Kinds and pairs

pub kind_back : (k : ℕ) → k < 3 → kind_of (pair_of k) ≡ k
unfolding kind_of pair_of
kind_back zero h = refl
kind_back (suc zero) h = refl
kind_back (suc (suc zero)) h = refl
kind_back (suc (suc (suc k))) h = absurd (omega arith)

pub pair_back : (p : ℕ) → p < 4 → (p ≡ 3 → ⊥) → pair_of (kind_of p) ≡ p
unfolding kind_of pair_of
pair_back zero h k = refl
pair_back (suc zero) h k = refl
pair_back (suc (suc zero)) h k = refl
pair_back (suc (suc (suc zero))) h k = absurd (k refl)
pair_back (suc (suc (suc (suc p)))) h k = absurd (omega arith)

-- A byte

pub with_below : (x k v : ℕ) → with_pair x k v < 256
unfolding with_pair
with_below x k v = byte_of_below (cond (eqb k 0) v (x % 4)) (cond (eqb k 1) v (x / 4 % 4)) (cond (eqb k 2) v (x / 16 % 4))
    (cond (eqb k 3) v (x / 64 % 4))

-- the same with the other three pairs where they stand, since of each number only the two lowest bits count
module _ (x v : ℕ) where
  pub with_first : byte_of v (x / 4) (x / 16) (x / 64) ≡ with_pair x 0 v
  unfolding with_pair byte_of
  with_first = omega arith

  pub with_second : byte_of x v (x / 16) (x / 64) ≡ with_pair x 1 v
  unfolding with_pair byte_of
  with_second = omega arith

  pub with_third : byte_of x (x / 4) v (x / 64) ≡ with_pair x 2 v
  unfolding with_pair byte_of
  with_third = omega arith

  pub with_fourth : byte_of x (x / 4) (x / 16) v ≡ with_pair x 3 v
  unfolding with_pair byte_of
  with_fourth = omega arith

-- pair j of a byte whose pair k is set
with_at : (x k v j : ℕ) → j < 4 → with_pair x k v / 4 ^ j % 4 ≡ cond (eqb j k) (v % 4) (x / 4 ^ j % 4)
unfolding with_pair
with_at x k v j h = go j h ∙ either (eqb k j) (eqb j k) turned
  where
    a : ℕ
    a = cond (eqb k 0) v (x % 4)

    b : ℕ
    b = cond (eqb k 1) v (x / 4 % 4)

    c : ℕ
    c = cond (eqb k 2) v (x / 16 % 4)

    d : ℕ
    d = cond (eqb k 3) v (x / 64 % 4)

    go : (j : ℕ) → j < 4 → with_pair x k v / 4 ^ j % 4 ≡ cond (eqb k j) v (x / 4 ^ j % 4) % 4
    go zero h = rw (div-one (with_pair x k v), div-one x) (byte_0 a b c d)
    go (suc zero) h = byte_1 a b c d
    go (suc (suc zero)) h = byte_2 a b c d
    go (suc (suc (suc zero))) h = byte_3 a b c d
    go (suc (suc (suc (suc i)))) h = absurd (omega arith)

    turned : eqb k j ≡ eqb j k
    turned = side (eqb j k) refl
      where
        side : (t : Bool) → eqb j k ≡ t → eqb k j ≡ t
        side true e = eq-eqb k j (sym (eqb-true j k e))
        side false e = ne_eqb k j (λ q. eqb-false j k e (sym q))

    either : (s t : Bool) → s ≡ t → cond s v (x / 4 ^ j % 4) % 4 ≡ cond t (v % 4) (x / 4 ^ j % 4)
    either true true e = refl
    either false false e = mod-mod (x / 4 ^ j) 4
    either true false e = absurd (let z : ◌≡◌ {A = ℕ} 0 1 = cc in omega arith)
    either false true e = absurd (let z : ◌≡◌ {A = ℕ} 0 1 = cc in omega arith)

-- A map

module _ (map : List ℕ) (b v : ℕ) where
  pub set_length : length (set_pair map b v) ≡ length map
  unfolding set_pair
  set_length = length-set map (b / 4) (with_pair (get_or map (b / 4) 0) (b % 4) v)

  pub set_other_byte : (i : ℕ) → (i ≡ b / 4 → ⊥) → get_or (set_pair map b v) i 0 ≡ get_or map i 0
  unfolding set_pair
  set_other_byte i h = get_or-set_other map (b / 4) i (with_pair (get_or map (b / 4) 0) (b % 4) v) 0 h

  pub set_short : length map ≤ b / 4 → set_pair map b v ≡ map
  unfolding set_pair
  set_short h = set_out map (b / 4) (with_pair (get_or map (b / 4) 0) (b % 4) v) h

  module _ (reaches : b / 4 < length map) where
    pub set_own_byte : get_or (set_pair map b v) (b / 4) 0 ≡ with_pair (get_or map (b / 4) 0) (b % 4) v
    unfolding set_pair
    set_own_byte = get_or-set_same map (b / 4) (with_pair (get_or map (b / 4) 0) (b % 4) v) 0 reaches

    -- each pair of the map, by whether it is the block's own
    pub set_pair_at : (c : ℕ) → pair_at (set_pair map b v) c ≡ cond (eqb c b) (v % 4) (pair_at map c)
    set_pair_at c = byte (eqb (c / 4) (b / 4)) refl
      where
        e : 4 * (c / 4) + c % 4 ≡ c
        e = div-add-mod c 4

        f : 4 * (b / 4) + b % 4 ≡ b
        f = div-add-mod b 4

        within_byte : (map : List ℕ) → pair_at map c ≡ get_or map (c / 4) 0 / 4 ^ (c % 4) % 4
        within_byte map = pair_within map (c / 4) (c % 4) c (omega arith) (sym e)

        place : c / 4 ≡ b / 4 → eqb (c % 4) (b % 4) ≡ eqb c b
        place q = side (eqb c b) refl
          where
            side : (t : Bool) → eqb c b ≡ t → eqb (c % 4) (b % 4) ≡ t
            side true r = let s : c ≡ b = eqb-true c b r in eq-eqb (c % 4) (b % 4) (ap (λ (i : ℕ). i % 4) s)
            side false r = ne_eqb (c % 4) (b % 4) (λ s. eqb-false c b r (omega (arith, e, f, q, s)))

        byte : (t : Bool) → eqb (c / 4) (b / 4) ≡ t → pair_at (set_pair map b v) c ≡ cond (eqb c b) (v % 4) (pair_at map c)
        byte true r =
            let q : c / 4 ≡ b / 4 = eqb-true (c / 4) (b / 4) r in
            within_byte (set_pair map b v)
            ∙ ap (λ (i : ℕ). get_or (set_pair map b v) i 0 / 4 ^ (c % 4) % 4) q
            ∙ ap (λ (x : ℕ). x / 4 ^ (c % 4) % 4) set_own_byte
            ∙ with_at (get_or map (b / 4) 0) (b % 4) v (c % 4) (omega arith)
            ∙ ap (λ (t : Bool). cond t (v % 4) (get_or map (b / 4) 0 / 4 ^ (c % 4) % 4)) (place q)
            ∙ ap (λ (x : ℕ). cond (eqb c b) (v % 4) x) (sym (within_byte map ∙ ap (λ (i : ℕ). get_or map i 0 / 4 ^ (c % 4) % 4) q))
        byte false r =
            let q : c / 4 ≡ b / 4 → ⊥ = eqb-false (c / 4) (b / 4) r in
            let n : c ≡ b → ⊥ = λ s. q (ap (λ (i : ℕ). i / 4) s) in
            within_byte (set_pair map b v)
            ∙ ap (λ (x : ℕ). x / 4 ^ (c % 4) % 4) (set_other_byte (c / 4) q)
            ∙ sym (within_byte map)
            ∙ rw (ne_eqb c b n)

    -- what is left, with none of the arithmetic
    pub pair_set : v < 4 → PairSet map b v (set_pair map b v)
    pair_set small =
        record {
          here = set_pair_at b ∙ rw (eq-eqb b b refl) (mod-eq_of_lt small);
          others = λ c h. set_pair_at c ∙ rw (ne_eqb c b h);
          bytes = set_other_byte;
          size = set_length;
        }

    -- and of maps of bytes there is no other
    pub pair_set_only : ((i : ℕ) → get_or map i 0 < 256) → (map' : List ℕ) → ((i : ℕ) → get_or map' i 0 < 256) → v < 4
        → PairSet map b v map' → map' ≡ set_pair map b v
    pair_set_only below map' below' small p =
        ext map' (set_pair map b v) (p.size ∙ sym set_length) (λ i h. byte i (eqb i (b / 4)) refl)
      where
        own : PairSet map b v (set_pair map b v)
        own = pair_set small

        same : (c : ℕ) → pair_at map' c ≡ pair_at (set_pair map b v) c
        same c = at (eqb c b) refl
          where
            at : (t : Bool) → eqb c b ≡ t → pair_at map' c ≡ pair_at (set_pair map b v) c
            at true r =
                let q : c ≡ b = eqb-true c b r in
                ap (pair_at map') q ∙ p.here ∙ sym own.here ∙ ap (pair_at (set_pair map b v)) (sym q)
            at false r = let n : c ≡ b → ⊥ = eqb-false c b r in p.others c n ∙ sym (own.others c n)

        byte : (i : ℕ) (t : Bool) → eqb i (b / 4) ≡ t → get_or map' i 0 ≡ get_or (set_pair map b v) i 0
        byte i true r =
            let q : i ≡ b / 4 = eqb-true i (b / 4) r in
            byte_one map' (set_pair map b v) i (below' i)
            (rw (q, set_own_byte) (with_below (get_or map (b / 4) 0) (b % 4) v)) (λ c _ _. same c)
        byte i false r = let n : i ≡ b / 4 → ⊥ = eqb-false i (b / 4) r in p.bytes i n ∙ sym (own.bytes i n)

-- laid over a buffer
pub set_laid : (buffer map : List ℕ) (b v : ℕ) → b / 4 < length map
    → set_pair (splice buffer 0 map) b v ≡ splice buffer 0 (set_pair map b v)
unfolding set_pair splice
set_laid buffer map b v h =
    let w : ℕ = with_pair (get_or map (b / 4) 0) (b % 4) v in
    let n : length (set map (b / 4) w) ≡ length map = length-set map (b / 4) w in
    ap (λ (x : ℕ). set (map ++ drop (0 + length map) buffer) (b / 4) (with_pair x (b % 4) v))
    (get_or-append map (drop (0 + length map) buffer) 0 (b / 4) h)
    ∙ set-append_left map (drop (0 + length map) buffer) (b / 4) w h
    ∙ ap (λ (k : ℕ). set map (b / 4) w ++ drop (0 + k) buffer) (sym n)

-- The map of n blocks with given pairs, one of them set: the law that Build's map and a map kept through writes share

abbrev pub put_at : (ℕ → ℕ) → ℕ → ℕ → ℕ → ℕ
put_at f b v c = cond (eqb c b) v (f c)

pub set_packed : (f : ℕ → ℕ) (n b v : ℕ) → b < n → set_pair (packed f n) b v ≡ packed (put_at f b v) n
unfolding map_bytes
set_packed f n b v h =
    map_one (set_pair (packed f n) b v) (packed (put_at f b v) n) n (set_length (packed f n) b v ∙ packed_length f n)
    (packed_length (put_at f b v) n) below (packed_below (put_at f b v) n)
    (λ c k. set_pair_at (packed f n) b v reaches c ∙ pair c k ∙ sym (packed_pair (put_at f b v) n c k))
  where
    reaches : b / 4 < length (packed f n)
    reaches = let l : length (packed f n) ≡ map_bytes n = packed_length f n in omega arith

    below : (i : ℕ) → get_or (set_pair (packed f n) b v) i 0 < 256
    below i = go (eqb i (b / 4)) refl
      where
        go : (t : Bool) → eqb i (b / 4) ≡ t → get_or (set_pair (packed f n) b v) i 0 < 256
        go true r =
            rw (eqb-true i (b / 4) r, set_own_byte (packed f n) b v reaches) (with_below (get_or (packed f n) (b / 4) 0) (b % 4) v)
        go false r = rw (set_other_byte (packed f n) b v i (eqb-false i (b / 4) r)) (packed_below f n i)

    pair : (c : ℕ) → c < 4 * map_bytes n → cond (eqb c b) (v % 4) (pair_at (packed f n) c) ≡ pair_in (put_at f b v) n c % 4
    pair c k = go (eqb c b) refl
      where
        go : (t : Bool) → eqb c b ≡ t → cond t (v % 4) (pair_at (packed f n) c) ≡ pair_in (put_at f b v) n c % 4
        go true r =
            let q : c ≡ b = eqb-true c b r in
            sym (ap (λ (x : ℕ). x % 4) (pair_used (put_at f b v) n c (omega arith) ∙ rw r))
        go false r =
            packed_pair f n c k
            ∙ elim (dec_lt c n) [
              | yes l ↦ ap (λ (x : ℕ). x % 4) (pair_used f n c l ∙ sym (pair_used (put_at f b v) n c l ∙ rw r))
              | no l ↦ ap (λ (x : ℕ). x % 4) (pair_unused f n c (omega arith) ∙ sym (pair_unused (put_at f b v) n c (omega arith)))
            ]
