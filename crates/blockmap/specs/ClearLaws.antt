-- The laws of clearing some pairs: what it leaves, that nothing else leaves the same, that whole bytes may be cleared at one go, and what
-- it makes of a packed map.
use Prim.Native.Nat.{ℕ, zero, suc, ◌+◌, ◌-◌, ◌*◌, ◌/◌, ◌%◌, ◌^◌, ◌≤◌, ◌<◌}
use native.Mathlib.Omega.{arith}
use Rattle.std.proofs.Math.Nat.{zero-div}
use Rattle.std.proofs.Math.Decide.{dec_lt}
use Rattle.std.specs.Prelude.{◌≡◌, Bool, true, false, cond, ◌⊎◌, eqb, leb, get_or}
use Rattle.std.proofs.Math.Path.{refl, ap}
use Rattle.std.proofs.Common.{sym, ◌∙◌, eq-eqb, ne_eqb, eqb-true, le-leb}
use Rattle.std.proofs.Math.Logic.{inl, inr}
use mathlib.Core.List.{List, []}
use Rattle.std.proofs.Math.ListN.{length}
use Rattle.std.proofs.lemmas.Bool.{eqb-false, lt-leb}
use Rattle.span.specs.Bytes.{zeros, splice}
use Rattle.span.specs.Laws.{ext, zeros_length, zeros_at, splice_is}
use Rattle.blockmap.specs.Pairs.{map_bytes, pair_at}
use Rattle.blockmap.specs.Pack.{pair_in, packed, set_pair, clear_pairs}
use Rattle.blockmap.specs.PackLaws.{byte_one, map_one, packed_length, packed_below, packed_pair, pair_used, pair_unused}
use Rattle.blockmap.specs.SetPair.{PairsCleared}
use Rattle.blockmap.specs.SetLaws.{with_below, set_length, set_other_byte, set_own_byte, set_pair_at, set_short, set_laid}

module _ (map : List ℕ) (b : ℕ) where
  pub clear_length : (count : ℕ) → length (clear_pairs map b count) ≡ length map
  unfolding clear_pairs
  clear_length zero = refl
  clear_length (suc k) = set_length (clear_pairs map b k) (b + k) 0 ∙ clear_length k

  -- none, and one more, as a loop from b on counts them
  pub clear_none : (count : ℕ) → count ≡ 0 → clear_pairs map b count ≡ map
  unfolding clear_pairs
  clear_none count e = ap (clear_pairs map b) e

  pub clear_next : (c : ℕ) → b ≤ c → clear_pairs map b (c + 1 - b) ≡ set_pair (clear_pairs map b (c - b)) c 0
  unfolding clear_pairs
  clear_next c h =
      let q : c + 1 - b ≡ suc (c - b) = omega arith in
      let r : b + (c - b) ≡ c = omega arith in
      ap (clear_pairs map b) q ∙ ap (λ (x : ℕ). set_pair (clear_pairs map b (c - b)) x 0) r

  -- a byte that has none of the pairs
  clear_other_byte : (count i : ℕ) → (i < b / 4) ⊎ (b + count ≤ 4 * i) → get_or (clear_pairs map b count) i 0 ≡ get_or map i 0
  unfolding clear_pairs
  clear_other_byte zero i h = refl
  clear_other_byte (suc k) i (inl h) =
      set_other_byte (clear_pairs map b k) (b + k) 0 i (λ e. omega arith) ∙ clear_other_byte k i (inl h)
  clear_other_byte (suc k) i (inr h) =
      set_other_byte (clear_pairs map b k) (b + k) 0 i (λ e. omega arith) ∙ clear_other_byte k i (inr (omega arith))

  -- one pair more, on a map that reaches so far
  clear_step : (k c : ℕ) → b + suc k ≤ 4 * length map
      → pair_at (clear_pairs map b (suc k)) c ≡ cond (eqb c (b + k)) 0 (pair_at (clear_pairs map b k) c)
  unfolding clear_pairs
  clear_step k c h =
      let l : length (clear_pairs map b k) ≡ length map = clear_length k in
      set_pair_at (clear_pairs map b k) (b + k) 0 (omega arith) c

  clear_gone : (count c : ℕ) → b + count ≤ 4 * length map → b ≤ c → c < b + count → pair_at (clear_pairs map b count) c ≡ 0
  clear_gone zero c h low high = absurd (omega arith)
  clear_gone (suc k) c h low high =
      elim (dec_lt c (b + k)) [
        | yes l ↦ clear_step k c h ∙ rw (ne_eqb c (b + k) (λ e. omega arith)) (clear_gone k c (omega arith) low l)
        | no l ↦ clear_step k c h ∙ rw (eq-eqb c (b + k) (omega arith))
      ]

  clear_kept : (count c : ℕ) → b + count ≤ 4 * length map → (c < b) ⊎ (b + count ≤ c)
      → pair_at (clear_pairs map b count) c ≡ pair_at map c
  unfolding clear_pairs
  clear_kept zero c h side = refl
  clear_kept (suc k) c h (inl l) = clear_step k c h ∙ rw (ne_eqb c (b + k) (λ e. omega arith)) (clear_kept k c (omega arith) (inl l))
  clear_kept (suc k) c h (inr l) =
      clear_step k c h ∙ rw (ne_eqb c (b + k) (λ e. omega arith)) (clear_kept k c (omega arith) (inr (omega arith)))

  -- a byte that has one of them is made anew, of four pairs
  clear_own_below : (count c : ℕ) → b + count ≤ 4 * length map → b ≤ c → c < b + count → get_or (clear_pairs map b count) (c / 4) 0 < 256
  unfolding clear_pairs
  clear_own_below zero c h low high = absurd (omega arith)
  clear_own_below (suc k) c h low high = go (eqb (c / 4) ((b + k) / 4)) refl (λ l. clear_own_below k c (omega arith) low l)
    where
      before : List ℕ
      before = clear_pairs map b k

      go : (t : Bool) → eqb (c / 4) ((b + k) / 4) ≡ t → (c < b + k → get_or before (c / 4) 0 < 256)
          → get_or (set_pair before (b + k) 0) (c / 4) 0 < 256
      go true e earlier =
          let l : length before ≡ length map = clear_length k in
          rw (eqb-true (c / 4) ((b + k) / 4) e, set_own_byte before (b + k) 0 (omega arith))
          (with_below (get_or before ((b + k) / 4) 0) ((b + k) % 4) 0)
      go false e earlier =
          let n : c / 4 ≡ (b + k) / 4 → ⊥ = eqb-false (c / 4) ((b + k) / 4) e in
          let below : c < b + k = elim (dec_lt c (b + k)) [
            | yes l ↦ l
            | no l ↦ let q : c ≡ b + k = omega arith in absurd (n (ap (λ (i : ℕ). i / 4) q))
          ] in
          rw (set_other_byte before (b + k) 0 (c / 4) n) (earlier below)

  -- cleared in two goes
  pub clear_append : (j k : ℕ) → clear_pairs map b (j + k) ≡ clear_pairs (clear_pairs map b j) (b + j) k
  unfolding clear_pairs
  clear_append j zero = let q : j + 0 ≡ j = omega arith in ap (clear_pairs map b) q
  clear_append j (suc k) =
      let q : j + suc k ≡ suc (j + k) = omega arith in
      let r : b + (j + k) ≡ b + j + k = omega arith in
      ap (clear_pairs map b) q ∙ ap (λ (m : List ℕ). set_pair m (b + (j + k)) 0) (clear_append j k)
      ∙ ap (λ (c : ℕ). set_pair (clear_pairs (clear_pairs map b j) (b + j) k) c 0) r

-- What is left, with none of the arithmetic

module _ (map : List ℕ) (from to : ℕ) (reaches : to ≤ 4 * length map) where
  -- (none are cleared where `to` is not above `from`)
  bound : from < to → from + (to - from) ≡ to
  bound h = omega arith

  pub pairs_cleared : PairsCleared map from to (clear_pairs map from (to - from))
  unfolding clear_pairs
  pairs_cleared =
      elim (dec_lt from to) [
        | yes h ↦
            let q : from + (to - from) ≡ to = bound h in
            record {
              gone = λ c low high. clear_gone map from (to - from) c (omega arith) low (omega arith);
              others =
                  λ c side.
                  clear_kept map from (to - from) c (omega arith)
                  (elim side [ inl l ↦ inl l | inr l ↦ inr (omega arith) ]);
              bytes =
                  λ i side. clear_other_byte map from (to - from) i (elim side [ inl l ↦ inl l | inr l ↦ inr (omega arith) ]);
              size = clear_length map from (to - from);
            }
        | no h ↦
            let z : to - from ≡ 0 = omega arith in
            rw z
            (record { gone = λ c low high. absurd (omega arith); others = λ c side. refl; bytes = λ i side. refl; size = refl })
      ]

  -- and of maps of bytes there is no other
  module _ (below : (i : ℕ) → get_or map i 0 < 256) where
    cleared_below : (count : ℕ) (i : ℕ) → get_or (clear_pairs map from count) i 0 < 256
    unfolding clear_pairs
    cleared_below zero i = below i
    cleared_below (suc k) i = go (eqb i ((from + k) / 4)) refl (cleared_below k i)
      where
        before : List ℕ
        before = clear_pairs map from k

        go : (t : Bool) → eqb i ((from + k) / 4) ≡ t → get_or before i 0 < 256 → get_or (set_pair before (from + k) 0) i 0 < 256
        go true e earlier =
            elim (dec_lt ((from + k) / 4) (length before)) [
              | yes l ↦
                  rw (eqb-true i ((from + k) / 4) e, set_own_byte before (from + k) 0 l)
                  (with_below (get_or before ((from + k) / 4) 0) ((from + k) % 4) 0)
              | no l ↦ rw (set_short before (from + k) 0 (omega arith)) earlier
            ]
        go false e earlier = rw (set_other_byte before (from + k) 0 i (eqb-false i ((from + k) / 4) e)) earlier

    pub pairs_cleared_only : (map' : List ℕ) → ((i : ℕ) → get_or map' i 0 < 256) → PairsCleared map from to map'
        → map' ≡ clear_pairs map from (to - from)
    pairs_cleared_only map' below' p =
        ext map' (clear_pairs map from (to - from)) (p.size ∙ sym (clear_length map from (to - from)))
        (λ i h. byte_one map' (clear_pairs map from (to - from)) i (below' i) (cleared_below (to - from) i) (λ c _ _. same c))
      where
        own : PairsCleared map from to (clear_pairs map from (to - from))
        own = pairs_cleared

        same : (c : ℕ) → pair_at map' c ≡ pair_at (clear_pairs map from (to - from)) c
        same c =
            elim (dec_lt c from) [
              | yes l ↦ p.others c (inl l) ∙ sym (own.others c (inl l))
              | no l ↦
                  elim (dec_lt c to) [
                    | yes m ↦ p.gone c (omega arith) m ∙ sym (own.gone c (omega arith) m)
                    | no m ↦ p.others c (inr (omega arith)) ∙ sym (own.others c (inr (omega arith)))
                  ]
            ]

-- Whole bytes at one go

none_at : (c : ℕ) → pair_at [] c ≡ 0
unfolding pair_at
none_at c = ap (λ (x : ℕ). x % 4) (zero-div (4 ^ (c % 4)))

pub clear_bytes : (map : List ℕ) (w k : ℕ) → w + k ≤ length map → clear_pairs map (4 * w) (4 * k) ≡ splice map w (zeros k)
clear_bytes map w k h =
    let l : length (zeros k) ≡ k = zeros_length k in
    splice_is map w (zeros k) (clear_pairs map (4 * w) (4 * k)) (omega arith) (clear_length map (4 * w) (4 * k))
    (λ i m. clear_other_byte map (4 * w) (4 * k) i (inl (omega arith)))
    (λ j m. byte (w + j) (omega arith) (omega arith) ∙ sym (zeros_at k j))
    (λ i m o. clear_other_byte map (4 * w) (4 * k) i (inr (omega arith)))
  where
    byte : (i : ℕ) → w ≤ i → i < w + k → get_or (clear_pairs map (4 * w) (4 * k)) i 0 ≡ 0
    byte i low high =
        let q : 4 * i / 4 ≡ i = omega arith in
        byte_one (clear_pairs map (4 * w) (4 * k)) [] i
        (rw q at (clear_own_below map (4 * w) (4 * k) (4 * i) (omega arith) (omega arith) (omega arith))) (omega arith)
        (λ c m n. clear_gone map (4 * w) (4 * k) c (omega arith) (omega arith) (omega arith) ∙ sym (none_at c))

-- in three goes: up to a whole byte, the whole bytes, and what is left
pub cleared_by_bytes : (map m₁ m₂ m₃ : List ℕ) (from to first last : ℕ) → map_bytes to ≤ length map → first ≡ map_bytes from → last ≡ to / 4
    → first ≤ last → m₁ ≡ clear_pairs map from (4 * first - from) → m₂ ≡ splice m₁ first (zeros (last - first))
    → m₃ ≡ clear_pairs m₂ (4 * last) (to - 4 * last) → m₃ ≡ clear_pairs map from (to - from)
unfolding map_bytes
cleared_by_bytes map m₁ m₂ m₃ from to first last fits e f h p q r =
    let j : ℕ = 4 * first - from in
    let k : ℕ = 4 * (last - first) in
    let l : ℕ = to - 4 * last in
    let start : from + j ≡ 4 * first = omega arith in
    let end : from + (j + k) ≡ 4 * last = omega arith in
    let all : to - from ≡ j + k + l = omega arith in
    let size : length (clear_pairs map from j) ≡ length map = clear_length map from j in
    let one : m₂ ≡ splice (clear_pairs map from j) first (zeros (last - first)) = q
    ∙ ap (λ (m : List ℕ). splice m first (zeros (last - first))) p in
    let two : m₂ ≡ clear_pairs (clear_pairs map from j) (4 * first) k = one
    ∙ sym (clear_bytes (clear_pairs map from j) first (last - first) (omega arith)) in
    let three : m₂ ≡ clear_pairs map from (j + k) = two
    ∙ sym (clear_append map from j k ∙ ap (λ (b : ℕ). clear_pairs (clear_pairs map from j) b k) start) in
    r ∙ ap (λ (m : List ℕ). clear_pairs m (4 * last) l) three
    ∙ sym (ap (clear_pairs map from) all ∙ clear_append map from (j + k) l ∙ ap (λ (b : ℕ). clear_pairs (clear_pairs map from (j + k)) b l) end)

-- Laid over a buffer

pub clear_laid : (buffer map : List ℕ) (b count : ℕ) → b + count ≤ 4 * length map
    → clear_pairs (splice buffer 0 map) b count ≡ splice buffer 0 (clear_pairs map b count)
unfolding clear_pairs
clear_laid buffer map b zero h = refl
clear_laid buffer map b (suc k) h =
    let l : length (clear_pairs map b k) ≡ length map = clear_length map b k in
    ap (λ (m : List ℕ). set_pair m (b + k) 0) (clear_laid buffer map b k (omega arith))
    ∙ set_laid buffer (clear_pairs map b k) (b + k) 0 (omega arith)

-- The map of n blocks with given pairs, those of blocks K and up cleared: the law that Build's map and a map kept through cuts share

abbrev pub none_from : (ℕ → ℕ) → ℕ → ℕ → ℕ
none_from f K c = cond (leb K c) 0 (f c)

pub clear_packed : (f : ℕ → ℕ) (n K : ℕ) → K ≤ n → clear_pairs (packed f n) K (n - K) ≡ packed (none_from f K) n
unfolding map_bytes
clear_packed f n K h =
    map_one (clear_pairs (packed f n) K (n - K)) (packed (none_from f K) n) n (own.size ∙ packed_length f n)
    (packed_length (none_from f K) n) (cleared_below (packed f n) K n reaches (packed_below f n) (n - K)) (packed_below (none_from f K) n)
    (λ c k. pair c k ∙ sym (packed_pair (none_from f K) n c k))
  where
    reaches : n ≤ 4 * length (packed f n)
    reaches = let l : length (packed f n) ≡ map_bytes n = packed_length f n in omega arith

    own : PairsCleared (packed f n) K n (clear_pairs (packed f n) K (n - K))
    own = pairs_cleared (packed f n) K n reaches

    pair : (c : ℕ) → c < 4 * map_bytes n → pair_at (clear_pairs (packed f n) K (n - K)) c ≡ pair_in (none_from f K) n c % 4
    pair c k =
        elim (dec_lt c K) [
          | yes l ↦
              own.others c (inl l) ∙ packed_pair f n c k
              ∙ ap (λ (x : ℕ). x % 4)
              (pair_used f n c (omega arith) ∙ sym (pair_used (none_from f K) n c (omega arith) ∙ rw (lt-leb K c l)))
          | no l ↦
              elim (dec_lt c n) [
                | yes m ↦
                    let z : none_from f K c ≡ 0 = rw (le-leb K c (omega arith)) in
                    own.gone c (omega arith) m ∙ sym (ap (λ (x : ℕ). x % 4) (pair_used (none_from f K) n c m ∙ z))
                | no m ↦
                    own.others c (inr (omega arith)) ∙ packed_pair f n c k
                    ∙ ap (λ (x : ℕ). x % 4) (pair_unused f n c (omega arith) ∙ sym (pair_unused (none_from f K) n c (omega arith)))
              ]
        ]
