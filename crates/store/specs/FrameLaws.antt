-- The laws of the frame: its number by its tests, and what a sound one gives.
use Rattle.std.specs.Prelude.{ℕ, ◌+◌, ◌-◌, ◌*◌, ◌/◌, ◌≤◌, ◌<◌, ◌≡◌, Bool, not, ◌&&◌, cond, List, [], ◌∷◌, length}
use Rattle.std.proofs.Common.{mul-le-mul_left, mul-suc, add-one, arith, ap, ◌∙◌, ⊎_elim}
use Rattle.std.proofs.Math.Nat.{zero-div}
use Rattle.std.proofs.Math.Path.{refl}
use Rattle.std.proofs.Math.Bool.{true, false}
use Rattle.layout.specs.Sizes.{full_head, page_at}
use Rattle.layout.specs.Refusals.{Row, ◌⇐◌, first_of, or_else}
use Rattle.layout.specs.RefusalLaws.{Lacks, lacks, lacks_both}
use Rattle.headers.specs.Headers.{header_rows}
use Rattle.headers.specs.HeaderLaws.{headers_lack}
use Rattle.layout.specs.Lengths.{blocks_in, pages_in, patch_fits, full_fits, length_rows}
use Rattle.layout.specs.LengthLaws.{full_fits_is}
use Rattle.store.specs.Frame.{frame_rows}
use Rattle.store.specs.Block.{Places}

-- Laws

abbrev pub lengths_fit : ℕ → List ℕ → List ℕ → Bool
lengths_fit P patch full = patch_fits P (length patch) && full_fits P (blocks_in (length patch)) (length full)

-- the number of a frame, by its tests and the headers' number
unfoldable pub frame_by : Bool → Bool → Bool → ℕ → ℕ
frame_by pages lengths buffers headers = or_else (cond (not pages) 1 0)
    (or_else (cond (not lengths) 2 0) (or_else (cond (not buffers) 9 0) headers))

module _ (P : ℕ) (patch full : List ℕ) where
  pub frame_is : (a b : Bool) → first_of (frame_rows P ((1 ⇐ not a) ∷ []) ((9 ⇐ not b) ∷ []) patch full)
      ≡ frame_by a (lengths_fit P patch full) b (first_of (header_rows P patch full))
  unfolding frame_rows frame_by first_of length_rows
  frame_is a b = refl

  -- the frame's own numbers are 2, 3 and 4: another is one of the pages' or the buffers'
  pub frame_lacks : (pages buffers : List Row) (k : ℕ) → 4 < k → Lacks k pages → Lacks k buffers
      → Lacks k (frame_rows P pages buffers patch full)
  unfolding frame_rows length_rows
  frame_lacks pages buffers k h p b = lacks_both p (lacks 2 (λ e. omega arith) (lacks_both b (headers_lack P patch full k h)))

  -- a call without a buffer has no short one
  pub frame_pages : (a : Bool) → first_of (frame_rows P ((1 ⇐ not a) ∷ []) [] patch full)
      ≡ first_of (frame_rows P ((1 ⇐ not a) ∷ []) ((9 ⇐ not true) ∷ []) patch full)
  unfolding frame_rows first_of or_else length_rows
  frame_pages a = refl

  -- a frame that is sound has sound lengths and headers
  pub frame_sound : (a b : Bool) → frame_by a (lengths_fit P patch full) b (first_of (header_rows P patch full)) ≡ 0
      → (a ≡ true) × (lengths_fit P patch full ≡ true) × (b ≡ true) × (first_of (header_rows P patch full) ≡ 0)
  unfolding frame_by or_else
  frame_sound a b e = go a (lengths_fit P patch full) b e
    where
      go : (a l b : Bool) → or_else (cond (not a) 1 0)
          (or_else (cond (not l) 2 0) (or_else (cond (not b) 9 0) (first_of (header_rows P patch full)))) ≡ 0
          → (a ≡ true) × (l ≡ true) × (b ≡ true) × (first_of (header_rows P patch full) ≡ 0)
      go true true true e = (refl, refl, refl, e)
      go true true false e = absurd (omega arith)
      go true false b e = absurd (omega arith)
      go false l b e = absurd (omega arith)

-- an absent full area has no place
pub none_in : (P l : ℕ) → l ≡ 0 → pages_in P l ≡ 0
unfolding pages_in
none_in P l e =
    let q : l - full_head ≡ 0 = omega arith in
    ap (λ (k : ℕ). k / P) q ∙ zero-div P

-- and no area has more places than there are blocks
pub fewer_places : (P n l : ℕ) → full_fits P n l ≡ true → pages_in P l ≤ n
fewer_places P n l e = ⊎_elim (λ q. omega (arith, none_in P l q)) (λ q. q.1) (full_fits_is P n l e)

pub places : (P n : ℕ) (full : List ℕ) → 0 < P → full_fits P n (length full) ≡ true → Places P full
places P n full h e b k = ⊎_elim absent present (full_fits_is P n (length full) e)
  where
    absent : length full ≡ 0 → page_at P b + P ≤ length full
    absent q = absurd (omega (arith, none_in P (length full) q, k))

    present : (length full ≡ page_at P (pages_in P (length full))) × (pages_in P (length full) ≤ n) → page_at P b + P ≤ length full
    present q =
        let l : length full ≡ page_at P (pages_in P (length full)) = q.0 in
        let m : P * (b + 1) ≤ P * pages_in P (length full) = mul-le-mul_left P (omega arith) in
        let d : P * (b + 1) ≡ P * b + P = ap (λ (k : ℕ). P * k) (add-one b) ∙ mul-suc P b in
        omega arith
