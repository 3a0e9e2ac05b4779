-- How far the writer has come: one difference more, equal bytes more, and the end, over plain lists.
use Prim.Native.Nat.{ℕ, ◌+◌, ◌-◌, ◌*◌, ◌/◌, ◌^◌, ◌≤◌, ◌<◌, min}
use native.Mathlib.Omega.{arith}
use native.Mathlib.Decide.{dec_lt}
use mathlib.Core.Path.{◌≡◌, refl, sym, ap, ◌∙◌, subst}
use mathlib.Core.Logic.{◌⊎◌, inl, inr}
use mathlib.Core.List.{List}
use lib.ListN.{length, get_or}
use lib.Count.{count_trailing_zeros}
use lib.Seq.{sets, length-sets}
use Rattle.span.specs.Bytes.{Put}
use Rattle.differ.specs.Differ.{next_diff, Same, NextChunk}
use Rattle.differ.specs.DifferLaws.{NextAt, next_skip, next_at, next_here, chunk_on, chunk_within, chunk_ahead}
use Rattle.writer.specs.Differences.{spelled}
use Rattle.writer.specs.Steps.{before, width_of, Counted, Numbers, Differs, Stored, Reached, Spells}
use Rattle.writer.specs.Words.{word_bytes, unlike, FirstIn}
use Rattle.writer.specs.WordLaws.{Bytes, unlike_none, first_in, first_next}
use Rattle.writer.specs.declared.Difference.{Difference}
use Rattle.writer.specs.declared.Spelled.{Spelled}
use Rattle.writer.proofs.Counting.{width_is, counted_none, counted_more, counted_all}
use Rattle.writer.proofs.Writing.{stored_more, stored_all}

-- nothing yet
pub reached_none : (base page : List ℕ) → Reached base page 0 (record { used = 0; entries = 0; next = 0 })
reached_none base page = record { counted = counted_none base page; on = omega arith; ahead = refl }

pub spells_none : (base page room : List ℕ) (s : Spelled) → Spells base page room s room s
spells_none base page room s = (refl, λ room₀ w. w)

pub spells_then : (base page first : List ℕ) (old : Spelled) (room : List ℕ) (s : Spelled) (after : List ℕ) (r : Spelled) → Spells base page first old room s
    → Spells base page room s after r → Spells base page first old after r
spells_then base page first old room s after r f g = (g.0 ∙ f.0, λ room₀ w. g.1 room₀ (f.1 room₀ w))

-- what an entry more is
abbrev pub One : List ℕ → List ℕ → ℕ → Spelled → List ℕ → Spelled → Type 0
One page room at s after r =
    Put room s.used (spelled (at - s.next) (get_or page at 0)) r.used after × (r.entries ≡ s.entries + 1) × (r.next ≡ at + 1)

module _ (base page : List ℕ) (from : ℕ) (s : Spelled) (w : Reached base page from s) where
  -- equal bytes
  pub reached_on : (to : ℕ) → from ≤ to → to ≤ length base → to ≤ length page → Same base page from to → Reached base page to s
  reached_on to h l m e = record {
    counted = w.counted;
    on = omega (arith, w.on);
    ahead = w.ahead ∙ next_skip base page from to h l m e;
  }

  -- an equal byte
  pub reached_alike : from < length base → from < length page → get_or base from 0 ≡ get_or page from 0 → Reached base page (from + 1) s
  unfolding Same
  reached_alike l m e =
      reached_on (from + 1) (omega arith) (omega arith) (omega arith)
      (λ i h k.
      let q : i ≡ from = omega arith in
      ap (λ (j : ℕ). get_or base j 0) q ∙ e ∙ ap (λ (j : ℕ). get_or page j 0) (sym q))

  module _ (at : ℕ) (e : at ≡ next_diff base page from) (l : at < length base) (m : at < length page) where
    next_is : at ≡ next_diff base page s.next
    next_is = e ∙ sym w.ahead

    n : NextAt base page from at
    n = subst (λ (k : ℕ). NextAt base page from k) (sym e) (next_at base page from)

    pub differs_here : at ≡ next_diff base page at
    differs_here = sym (next_here base page at n.differ)

    -- all before it is counted
    pub reached_here : Reached base page at s
    reached_here = record { counted = w.counted; on = omega (arith, w.on, n.on); ahead = w.ahead ∙ sym e ∙ differs_here }

    -- a difference
    pub reached_next : (r : Spelled) → r.used ≡ s.used + width_of (at - s.next) → r.entries ≡ s.entries + 1 → r.next ≡ at + 1 → Reached base page (at + 1) r
    reached_next r u n q =
        let p : Counted base page (at + 1) r.used (s.entries + 1) =
        counted_more base page s.next s.used s.entries w.counted at next_is r.used l m u in
        record {
          counted =
              subst (λ (c : ℕ). Counted base page r.next r.used c) (sym n) (subst (λ (k : ℕ). Counted base page k r.used (s.entries + 1)) (sym q) p);
          on = omega arith;
          ahead = ap (λ (k : ℕ). next_diff base page k) q;
        }

    module _ (room after : List ℕ) (r : Spelled) (o : One page room at s after r) where
      pub reached_one : Reached base page (at + 1) r
      reached_one = reached_next r (omega (arith, o.0.next, width_is (at - s.next) (get_or page at 0))) o.1 o.2

      pub spells_one : (old : Spelled) (first : List ℕ) → Spells base page first old room s → Spells base page first old after r
      spells_one old first f =
          let q : at + 1 ≡ r.next = sym o.2 in
          let ys : List ℕ = spelled (at - s.next) (get_or page at 0) in
          let b : length after ≡ length (sets room s.used ys) = ap (λ (l : List ℕ). length l) o.0.bytes in (
            omega (arith, f.0, length-sets room s.used ys),
            λ room₀ g.
                subst (λ (k : ℕ). Stored base page room₀ after k r.used) q
                (stored_more base page room₀ room s.next s.used (f.1 room₀ g) at next_is r.used after l m o.0),
          )

-- equal chunks
pub record Chunk (base page : List ℕ) (from end r : ℕ) (s : Spelled) : Type 0 where
  pub on : from ≤ r
  pub within : r ≤ end
  pub reached : Reached base page r s

pub chunk_reached : (width : ℕ) (base page : List ℕ) (from end r : ℕ) (s : Spelled) → from ≤ end → end ≡ min (length base) (length page)
    → Reached base page from s
    → NextChunk width base page from r → Chunk base page from end r s
chunk_reached width base page from end r s h e w c = record {
  on = chunk_on width base page from r c;
  within = chunk_within width base page from r end h e c;
  reached = record {
    counted = w.counted;
    on = omega (arith, w.on, chunk_on width base page from r c);
    ahead = w.ahead ∙ chunk_ahead width base page from r c;
  };
}

-- the end: there is no difference more
module _ (base page : List ℕ) (from : ℕ) (s : Spelled) (w : Reached base page from s) (d : Difference)
    (f : (d.length ≡ s.used) × (d.entries ≡ s.entries) × (d.last ≡ before s.next)) where
  pub reached_end : (length base ≤ next_diff base page from) ⊎ (length page ≤ next_diff base page from) → Numbers base page d
  reached_end o =
      counted_all base page s.next s.used s.entries w.counted (next_diff base page from) (sym w.ahead) d o f

  pub spelled_all : from ≡ min (length base) (length page) → (room₀ room : List ℕ) → Stored base page room₀ room s.next s.used
      → Differs base page room₀ d room
  spelled_all e room₀ room g =
      let n : from ≤ next_diff base page from = (next_at base page from).on in
      let o : (length base ≤ next_diff base page from) ⊎ (length page ≤ next_diff base page from) =
      elim (dec_lt (length base) (length page)) [
        | yes h ↦ inl (omega arith)
        | no h ↦ inr (omega arith)
      ] in
      stored_all base page room₀ room s.next s.used g (next_diff base page from) (sym w.ahead) d o (reached_end o)

-- A word: what the bits in which both words differ still tell, before `end`

pub record NextIn (base page : List ℕ) (from end bits i : ℕ) : Type 0 where
  pub within : from + i < end
  pub place : from + i ≡ next_diff base page from
  pub left : bits / 2 ^ (8 * i) / 2 ^ 8 ≡ unlike base page (from + i + 1) (end - (from + i + 1))

module _ (base page : List ℕ) (wb : Bytes base) (wp : Bytes page) (from end left : ℕ) (l : end ≤ length base) (m : end ≤ length page) (h : from ≤ end)
    (e : left ≡ unlike base page from (end - from)) (s : Spelled) (w : Reached base page from s) where
  -- nothing
  pub word_done : left ≡ 0 → Reached base page end s
  word_done z =
      let q : from + (end - from) ≡ end = omega arith in
      reached_on base page from s w end h l m (rw q at (unlike_none base page wb wp (end - from) from (sym e ∙ z)))

  -- the place of the next difference
  module _ (few : end ≤ from + word_bytes) (some : left ≡ 0 → ⊥) where
    abbrev i : ℕ
    i = count_trailing_zeros 64 left / 8

    next_byte : FirstIn base page from (end - from) left i
    next_byte = first_in base page wb wp (end - from) from 8 left i (omega arith) e some refl

    pub next_in_word : NextIn base page from end left i
    next_in_word =
        let r : end - from - (i + 1) ≡ end - (from + i + 1) = omega arith in
        record {
          within = omega (arith, next_byte.within);
          place = first_next base page wb wp from (end - from) left i (omega arith) (omega arith) next_byte;
          left = next_byte.left ∙ ap (unlike base page (from + i + 1)) r;
        }
