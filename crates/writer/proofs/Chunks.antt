-- Chunks that are only counted, over plain lists.
use Prim.Native.Nat.{ℕ, ◌+◌, ◌-◌, ◌*◌, ◌≤◌, ◌<◌, min}
use native.Mathlib.Omega.{arith}
use native.Mathlib.Decide.{dec_lt}
use mathlib.Core.Path.{◌≡◌, refl, sym, ◌∙◌}
use mathlib.Core.List.{List}
use lib.ListN.{length}
use Rattle.differ.specs.Differ.{chunk, next_diff, diffs_in, after_last, chunk_diffs, NextChunk}
use Rattle.differ.specs.DifferLaws.{next_at, after_last_tells, diffs_zero, after_ahead, chunk_first_in, chunk_last_in, chunk_near, chunk_diffs_is}
use Rattle.payload.specs.Steps.{farthest}
use Rattle.writer.specs.Steps.{width_of, Counted, Reached, Unlike, excess_of}
use Rattle.writer.specs.declared.Spelled.{Spelled}
use Rattle.writer.proofs.Counting.{width_short, width_least, counted_more, counted_near}

-- a chunk at which the grid stops
pub unlike_at : (base page : List ℕ) (from end at : ℕ) → end ≡ min (length base) (length page) → at + chunk ≤ end → NextChunk chunk base page from at
    → Unlike base page at
unlike_at base page from end at e h c = record {
  in_base = omega arith;
  within_page = omega arith;
  differ = λ s. c.differ (omega arith) (omega arith) s;
}

-- the place after its last difference
pub after_some : (base page : List ℕ) (at : ℕ) → Unlike base page at → at < after_last base page at chunk
after_some base page at u =
    omega (arith, (next_at base page at).on, chunk_last_in base page at u.in_base u.within_page u.differ)

-- the first entry of a chunk that is near the one before is short
pub excess_none : (base page : List ℕ) (mark at : ℕ) → Unlike base page mark → Unlike base page at → at ≤ mark + 192
    → 0 ≡ excess_of base page at (after_last base page mark chunk)
excess_none base page mark at u v h =
    let f : ℕ = next_diff base page at in
    let n : ℕ = after_last base page mark chunk in
    let l : f < at + chunk = chunk_first_in base page at v.in_base v.within_page v.differ in
    omega (arith, after_some base page mark u, width_short (f - n) 0 (omega (arith, after_some base page mark u)))

-- what is known once the chunk at `mark` is counted; the place after its last difference is not looked for yet
abbrev pub after : List ℕ → List ℕ → ℕ → ℕ → ℕ → Spelled
after base page mark used entries = record { used = used; entries = entries; next = after_last base page mark chunk }

pub record Marked (base page : List ℕ) (mark used entries : ℕ) : Type 0 where
  pub unlike : Unlike base page mark
  pub reached : Reached base page (mark + chunk) (after base page mark used entries)

pub marked : (base page : List ℕ) (at : ℕ) (s : Spelled) → Reached base page at s → Unlike base page at → (extra count : ℕ)
    → extra ≡ excess_of base page at s.next → count ≡ chunk_diffs base page at
    → Marked base page at (s.used + (extra + 2 * count)) (s.entries + count)
marked base page at s w u extra count x c =
    let f : ℕ = next_diff base page at in
    let r : ℕ = after_last base page at chunk in
    let used : ℕ = s.used + (extra + 2 * count) in
    let entries : ℕ = s.entries + count in
    let e : f ≡ next_diff base page s.next = sym w.ahead in
    let l : f < at + chunk = chunk_first_in base page at u.in_base u.within_page u.differ in
    let all : count ≡ diffs_in base page at chunk = c ∙ chunk_diffs_is base page at u.in_base u.within_page in
    let some : 0 < count =
    elim (dec_lt 0 count) [
      | yes h ↦ h
      | no h ↦ absurd (u.differ (diffs_zero base page at chunk (omega arith)))
    ] in
    let one : Counted base page (f + 1) (s.used + width_of (f - s.next)) (s.entries + 1) =
    counted_more base page s.next s.used s.entries w.counted f e (s.used + width_of (f - s.next)) (omega (arith, u.in_base))
    (omega (arith, u.within_page)) refl in
    record {
      unlike = u;
      reached =
          record {
            counted =
                counted_near base page (f + 1) (s.used + width_of (f - s.next)) (s.entries + 1) one r (count - 1)
                (chunk_near base page at u.in_base u.within_page u.differ (count - 1) (omega arith)) used entries
                (omega (arith, width_least (f - s.next))) (omega arith);
            on = (after_last_tells base page at chunk).within;
            ahead = after_ahead base page at u.in_base u.within_page;
          };
    }

-- the numbers are small
pub marked_few : (base page : List ℕ) (mark used entries : ℕ) → length page ≤ farthest → Marked base page mark used entries
    → (used ≤ 2 * farthest) × (entries ≤ farthest)
marked_few base page mark used entries h m =
    let c : Counted base page (after_last base page mark chunk) used entries = m.reached.counted in
    (omega (arith, c.short, c.on), omega (arith, c.few, c.on))
