-- The laws of headers: what four comparisons come to, and both headers together.
use Prim.Native.Nat.{ℕ, ◌+◌, ◌-◌, ◌≤◌, ◌<◌}
use native.Mathlib.Omega.{arith}
use Rattle.std.specs.Prelude.{◌≡◌, Bool, true, false, not, cond, ◌&&◌, eqb}
use Rattle.std.proofs.Math.Path.{refl, ap}
use Rattle.std.proofs.Common.{◌∙◌, eq-eqb, ne_eqb}
use mathlib.Core.List.{List, [], ◌∷◌, ◌++◌}
use Rattle.std.proofs.Math.ListN.{length}
use Rattle.span.specs.Bytes.{zeros, part, same}
use Rattle.span.specs.Laws.{zeros_length, part_join, part_first, part_second, part_length, same_parts}
use Rattle.layout.specs.Sizes.{full_head, version_at, rest_at}
use Rattle.layout.specs.Refusals.{Row, ◌⇐◌, first_of, or_else}
use Rattle.layout.specs.RefusalLaws.{first_append, or_skip, or_some, Numbered, no_row, row, Lacks, no_such, lacks}
use Rattle.headers.specs.Headers.{header, full_header, head_rows, patch_head_rows, full_head_rows, header_rows}

-- the number that four comparisons give: magic, version, the other fields, the zero bytes
unfoldable pub head_number : Bool → Bool → Bool → Bool → ℕ
head_number a b c d = or_else (cond (not a) 3 0) (or_else (cond (not b) 4 0) (or_else (cond (not (c && d)) 3 0) 0))

module _ (fields area : List ℕ) (size : ℕ) (h : rest_at ≤ length fields) (k : length fields ≤ size) where
  pub head_rows_is : first_of (head_rows (header fields size) size area)
      ≡ head_number (same (part 0 version_at area) (part 0 version_at fields))
      (same (part version_at (rest_at - version_at) area) (part version_at (rest_at - version_at) fields))
      (same (part rest_at (length fields - rest_at) area) (part rest_at (length fields - rest_at) fields))
      (same (part (length fields) (size - length fields) area) (zeros (size - length fields)))
  unfolding head_rows header first_of head_number
  head_rows_is =
      let n : ℕ = length fields - rest_at in
      let m : ℕ = size - length fields in
      let q : size - rest_at ≡ n + m = omega arith in
      let r : rest_at + n ≡ length fields = omega arith in
      let e : part rest_at (size - rest_at) (fields ++ zeros m) ≡ part rest_at n fields ++ zeros m =
      ap (λ (x : ℕ). part rest_at x (fields ++ zeros m)) q
      ∙ part_join rest_at n m (fields ++ zeros m)
      ∙ ap (λ (l : List ℕ). l ++ part (rest_at + n) m (fields ++ zeros m)) (part_first rest_at n fields (zeros m) (omega arith))
      ∙ ap (λ (x : ℕ). part rest_at n fields ++ part x m (fields ++ zeros m)) r
      ∙ ap (λ (l : List ℕ). part rest_at n fields ++ l) (part_second fields (zeros m) (length fields) m refl (zeros_length m)) in
      let f : same (part rest_at (size - rest_at) area) (part rest_at n fields ++ zeros m)
      ≡ (same (part rest_at n area) (part rest_at n fields) && same (part (length fields) m area) (zeros m)) =
      ap (λ (x : ℕ). same (part rest_at x area) (part rest_at n fields ++ zeros m)) q
      ∙ same_parts rest_at n m area (part rest_at n fields) (zeros m) (part_length rest_at n fields (omega arith)) (zeros_length m)
      ∙ ap (λ (x : ℕ). same (part rest_at n area) (part rest_at n fields) && same (part x m area) (zeros m)) r in
      rw (
        part_first 0 version_at fields (zeros m) (omega arith),
        part_first version_at (rest_at - version_at) fields (zeros m) (omega arith),
        e,
        f,
      )

-- what the two headers give together
pub headers_are : (P : ℕ) (patch full : List ℕ)
    → first_of (header_rows P patch full) ≡ or_else (first_of (patch_head_rows P patch)) (first_of (full_head_rows P full))
unfolding header_rows
headers_are P patch full = first_append (patch_head_rows P patch) (full_head_rows P full)

pub full_absent : (P : ℕ) (full : List ℕ) → length full ≡ 0 → first_of (full_head_rows P full) ≡ 0
unfolding full_head_rows first_of
full_absent P full e = rw (eq-eqb (length full) 0 e)

pub full_present : (P : ℕ) (full : List ℕ) → (length full ≡ 0 → ⊥)
    → first_of (full_head_rows P full) ≡ first_of (head_rows (full_header P) full_head full)
unfolding full_head_rows
full_present P full h = rw (ne_eqb (length full) 0 h)

pub headers_none : (P : ℕ) (patch full : List ℕ) → first_of (patch_head_rows P patch) ≡ 0 → length full ≡ 0
    → first_of (header_rows P patch full) ≡ 0
headers_none P patch full e f = headers_are P patch full ∙ or_skip (first_of (patch_head_rows P patch)) (first_of (full_head_rows P full)) e
    ∙ full_absent P full f

pub headers_patch : (P k : ℕ) (patch full : List ℕ) → first_of (patch_head_rows P patch) ≡ k → (k ≡ 0 → ⊥)
    → first_of (header_rows P patch full) ≡ k
headers_patch P k patch full e h = headers_are P patch full ∙ ap (λ (n : ℕ). or_else n (first_of (full_head_rows P full))) e
    ∙ or_some k (first_of (full_head_rows P full)) h

pub headers_full : (P : ℕ) (patch full : List ℕ) → first_of (patch_head_rows P patch) ≡ 0 → (length full ≡ 0 → ⊥)
    → first_of (header_rows P patch full) ≡ first_of (head_rows (full_header P) full_head full)
headers_full P patch full e f = headers_are P patch full ∙ or_skip (first_of (patch_head_rows P patch)) (first_of (full_head_rows P full)) e
    ∙ full_present P full f

-- the headers' numbers are 3 and 4
pub headers_lack : (P : ℕ) (patch full : List ℕ) (k : ℕ) → 4 < k → Lacks k (header_rows P patch full)
unfolding header_rows patch_head_rows full_head_rows head_rows
headers_lack P patch full k h = three (go (eqb (length full) 0))
  where
    three : {a b c : Bool} {rows : List Row} → Lacks k rows → Lacks k ((3 ⇐ a) ∷ (4 ⇐ b) ∷ (3 ⇐ c) ∷ rows)
    three w = lacks 3 (λ e. omega arith) (lacks 4 (λ e. omega arith) (lacks 3 (λ e. omega arith) w))

    go : (t : Bool) → Lacks k (cond t [] (head_rows (full_header P) full_head full))
    go true = no_such
    go false = three no_such

pub headers_numbered : (P : ℕ) (patch full : List ℕ) → Numbered (header_rows P patch full)
unfolding header_rows patch_head_rows full_head_rows head_rows
headers_numbered P patch full = row (row (row (go (eqb (length full) 0))))
  where
    go : (t : Bool) → Numbered (cond t [] (head_rows (full_header P) full_head full))
    go true = no_row
    go false = row (row (row no_row))
