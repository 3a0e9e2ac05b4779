-- The loop over a map's chunks, as `chunks_exact` gives them.
use Prim.Native.Nat.{ℕ, ◌+◌, ◌-◌, ◌≤◌, ◌<◌, ◌^◌}
use native.Mathlib.Omega.{arith}
use mathlib.Core.Path.{◌≡◌, refl, sym, ap, subst, ◌∙◌}
use mathlib.Core.Bool.{false}
use mathlib.Core.List.{List, [], ◌++◌, append-nil}
use lib.ListN.{length, get_or, take, drop, length-append, length-take, get_or-append, get_or-eq_default}
use lib.Seq.{drop-drop, drop_at, get_or-drop, get_or-take}
use Rattle.std.proofs.Math.Decide.{dec_lt}
use denote.Ref.{Bor}
use Rattle.std.specs.Prelude.{Some}
use Rattle.std.specs.declared.slice.ChunksExact.{ChunksExact}
use Rattle.std.specs.Slice.Iter.{chunks_exact_rest, chunks_exact_size, chunks_exact_steps}
use Rattle.span.specs.Stretches.{tail, tail_step, tail_short}
use Rattle.bits.specs.declared.TheConstants.{CHUNK}
use Rattle.bits.specs.declared.Counted.{Counted}
use Rattle.bits.specs.Bits.{added, some_three, together, Counts}
use Rattle.bits.specs.BitLaws.{counts_more, counts_same, counts_fit}

-- the place up to which the chunks of s have been given
abbrev pub place : List ℕ → ChunksExact ℕ → ℕ
place s it = length s - length (chunks_exact_rest it)

-- what is left of s is its end from that place on, and the bytes before it are counted
pub record Reached (s : List ℕ) (it : ChunksExact ℕ) (sum : Counted) : Type 0 where
  pub size : chunks_exact_size it ≡ CHUNK
  pub fits : length (chunks_exact_rest it) ≤ length s
  pub rest : chunks_exact_rest it ≡ drop (place s it) s
  pub left : tail CHUNK s ≡ tail CHUNK (chunks_exact_rest it)
  pub counts : Counts s 0 (place s it) sum

pub start : (s : List ℕ) (it : ChunksExact ℕ) → chunks_exact_size it ≡ CHUNK → chunks_exact_rest it ≡ s
    → Reached s it (record { high = 0; low = 0; three = false })
unfolding added some_three
start s it size e =
    let l : length (chunks_exact_rest it) ≡ length s = ap (λ (x : List ℕ). length x) e in
    let z : place s it ≡ 0 = omega arith in
    record {
      size = size;
      fits = omega arith;
      rest = e ∙ ap (λ (k : ℕ). drop k s) (sym z);
      left = ap (λ (x : List ℕ). tail CHUNK x) (sym e);
      counts = rw z (record { high = refl; low = refl; three = refl });
    }

-- a list counted that stands at a place of s
at_place : (s xs : List ℕ) (at : ℕ) (ys : List ℕ) (r : Counted) → drop at s ≡ xs ++ ys → Counts xs 0 (length xs) r → Counts s at (length xs) r
at_place s xs at ys r e =
    counts_same xs s 0 at (length xs) r
    (λ m h.
    let z : 0 + m ≡ m = omega arith in
    ap (λ (k : ℕ). get_or xs k 0) z
    ∙ sym (get_or-append xs ys 0 m h)
    ∙ ap (λ (l : List ℕ). get_or l m 0) (sym e)
    ∙ get_or-drop at s m 0)

pub step : (s : List ℕ) (it after : ChunksExact ℕ) (x : Bor (List ℕ)) (sum next : Counted) → chunks_exact_steps it (Some x) after → Reached s it sum
    → Counts x.now 0 (length x.now) next → Reached s after (together sum next)
step s it after x sum next cut r c =
    let old = chunks_exact_rest it in
    let new = chunks_exact_rest after in
    let n : length x.now ≡ CHUNK = cut.1.1 ∙ r.size in
    let l : length old ≡ length x.now + length new = ap (λ (y : List ℕ). length y) cut.1.0 ∙ length-append x.now new in
    let f : length old ≤ length s = r.fits in
    let p : place s it + length x.now ≡ place s after = omega arith in
    let here : drop (place s it) s ≡ x.now ++ new = sym r.rest ∙ cut.1.0 in
    record {
      size = cut.0 ∙ r.size;
      fits = omega arith;
      rest = sym (drop_at x.now new (length x.now) refl) ∙ ap (λ (y : List ℕ). drop (length x.now) y) (sym here)
          ∙ drop-drop (length x.now) (place s it) s
          ∙ ap (λ (k : ℕ). drop k s) p;
      left = r.left ∙ ap (λ (y : List ℕ). tail CHUNK y) cut.1.0 ∙ tail_step CHUNK x.now new n;
      counts = subst (λ (k : ℕ). Counts s 0 k (together sum next)) p
          (counts_more s (place s it) (length x.now) sum next r.counts (at_place s x.now (place s it) new next here c));
    }

-- what is left after the last chunk
pub finish : (s : List ℕ) (it : ChunksExact ℕ) (rest : List ℕ) (sum more : Counted) → length (chunks_exact_rest it) < chunks_exact_size it
    → Reached s it sum → rest ≡ tail CHUNK s → Counts rest 0 (length rest) more → Counts s 0 (length s) (together sum more)
finish s it rest sum more short r e c =
    let old = chunks_exact_rest it in
    let under : length old < CHUNK = omega (arith, short, r.size) in
    let same : rest ≡ old = e ∙ r.left ∙ tail_short CHUNK old under in
    let l : length rest ≡ length old = ap (λ (y : List ℕ). length y) same in
    let f : length old ≤ length s = r.fits in
    let p : place s it + length rest ≡ length s = omega arith in
    let here : drop (place s it) s ≡ rest ++ [] = sym r.rest ∙ sym same ∙ sym (append-nil rest) in
    subst (λ (k : ℕ). Counts s 0 k (together sum more)) p
    (counts_more s (place s it) (length rest) sum more r.counts (at_place s rest (place s it) [] more here c))

-- The part of a map that is counted

module _ (map : List ℕ) (n : ℕ) where
  bytes : ((i : ℕ) → get_or map i 0 < 256) → (i : ℕ) → get_or (take n map) i 0 < 256
  bytes h i =
      elim (dec_lt i n) [
        | yes l ↦ omega (arith, get_or-take n map i 0 l, h i)
        | no l ↦ let m : length (take n map) ≤ i = omega (arith, length-take n map) in omega (arith, get_or-eq_default (take n map) 0 m)
      ]

  -- its counts fit a number of 64 bits
  pub sums_fit : (k : ℕ) (sum more : Counted) → ((i : ℕ) → get_or map i 0 < 256) → k ≤ n → n < 2 ^ 32 → Counts (take n map) 0 k (together sum more)
      → (sum.high + more.high < 2 ^ 64) × (sum.low + more.low < 2 ^ 64)
  sums_fit k sum more h l f c =
      let most = counts_fit (take n map) (bytes h) 0 k (together sum more) c in
      (omega (arith, most.0), omega (arith, most.1))

  -- and are the map's
  pub of_map : (r : Counted) → Counts (take n map) 0 (length (take n map)) r → n ≤ length map → Counts map 0 n r
  of_map r c h =
      let l : length (take n map) ≡ n = omega (arith, length-take n map) in
      counts_same (take n map) map 0 0 n r
      (λ m k.
      let z : 0 + m ≡ m = omega arith in
      ap (λ (i : ℕ). get_or (take n map) i 0) z ∙ get_or-take n map m 0 k ∙ ap (λ (i : ℕ). get_or map i 0) (sym z))
      (subst (λ (k : ℕ). Counts (take n map) 0 k r) l c)
