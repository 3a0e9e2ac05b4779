-- The laws of a list emptied from some place on: its length, its parts before that place and after it, and what it says of the list.
use Prim.Native.Nat.{ℕ, ◌+◌, ◌-◌, ◌≤◌, ◌<◌, min}
use native.Mathlib.Omega.{arith}
use Rattle.std.proofs.Math.Decide.{dec_lt}
use Rattle.std.specs.Prelude.{◌≡◌, ◌↔◌, take}
use Rattle.std.proofs.Common.{sym, ◌∙◌, take_all}
use Rattle.std.proofs.Math.Path.{ap}
use mathlib.Core.List.{List, ◌++◌, append-nil}
use Rattle.std.proofs.Math.ListN.{length, length-append, get_or}
use Rattle.std.proofs.Math.Seq.{get_or-append-add}
use Rattle.span.specs.Bytes.{zeros, part, splice, emptied}
use Rattle.span.specs.Laws.{zeros_length, zeros_nil, zeros_at, part_length, part_short, part_part, part_at, part_first, ext, splice_is}

module _ (at : ℕ) (xs : List ℕ) where
  -- a list that ends there or before stays as it is
  pub emptied_short : length xs ≤ at → emptied at xs ≡ xs
  unfolding emptied part
  emptied_short h =
      let z : length xs - at ≡ 0 = omega arith in
      rw (z, zeros_nil, append-nil (take at xs)) (take_all at xs h)

  pub emptied_length : length (emptied at xs) ≡ length xs
  unfolding emptied
  emptied_length =
      let a : length (part 0 at xs ++ zeros (length xs - at)) ≡ length (part 0 at xs) + length (zeros (length xs - at)) =
      length-append (part 0 at xs) (zeros (length xs - at)) in
      let p : length (part 0 at xs) ≡ min at (length xs - 0) = part_short 0 at xs in
      let z : length (zeros (length xs - at)) ≡ length xs - at = zeros_length (length xs - at) in
      omega arith

  -- what lies before is as it was
  pub emptied_part : (i n : ℕ) → i + n ≤ at → part i n (emptied at xs) ≡ part i n xs
  unfolding emptied
  emptied_part i n h =
      elim (dec_lt (length xs) at) [
        | yes s ↦ ap (part i n) (emptied_short (omega arith))
        | no s ↦
            let l : length (part 0 at xs) ≡ at = part_length 0 at xs (omega arith) in
            let z : 0 + i ≡ i = omega arith in
            part_first i n (part 0 at xs) (zeros (length xs - at)) (omega arith) ∙ part_part i n 0 at xs h (omega arith)
            ∙ ap (λ (j : ℕ). part j n xs) z
      ]

  -- and what lies after is zero
  pub emptied_after : (i : ℕ) → at ≤ i → i < length xs → get_or (emptied at xs) i 0 ≡ 0
  unfolding emptied
  emptied_after i h k =
      let l : length (part 0 at xs) ≡ at = part_length 0 at xs (omega arith) in
      let q : i ≡ length (part 0 at xs) + (i - at) = omega arith in
      ap (λ (j : ℕ). get_or (part 0 at xs ++ zeros (length xs - at)) j 0) q
      ∙ get_or-append-add (part 0 at xs) (zeros (length xs - at)) (i - at) 0 ∙ zeros_at (length xs - at) (i - at)

  pub emptied_zeros : (i n : ℕ) → at ≤ i → i + n ≤ length xs → part i n (emptied at xs) ≡ zeros n
  emptied_zeros i n h k =
      let e : length (part i n (emptied at xs)) ≡ n = part_length i n (emptied at xs) (rw emptied_length k) in
      ext (part i n (emptied at xs)) (zeros n) (e ∙ sym (zeros_length n))
      (λ j m.
      let m' : j < n = omega arith in
      part_at i n (emptied at xs) j m' ∙ emptied_after (i + j) (omega arith) (omega arith) ∙ sym (zeros_at n j))

  -- a byte before it
  pub emptied_before : (i : ℕ) → i < at → get_or (emptied at xs) i 0 ≡ get_or xs i 0
  emptied_before i h =
      let z : 0 + i ≡ i = omega arith in
      ap (λ (j : ℕ). get_or (emptied at xs) j 0) (sym z) ∙ sym (part_at 0 at (emptied at xs) i h)
      ∙ ap (λ (l : List ℕ). get_or l i 0) (emptied_part 0 at (omega arith)) ∙ part_at 0 at xs i h ∙ ap (λ (j : ℕ). get_or xs j 0) z

  -- as zeros laid over the rest
  pub emptied_is : at ≤ length xs → splice xs at (zeros (length xs - at)) ≡ emptied at xs
  emptied_is h =
      let l : length (zeros (length xs - at)) ≡ length xs - at = zeros_length (length xs - at) in
      sym
      (splice_is xs at (zeros (length xs - at)) (emptied at xs) (omega arith) emptied_length emptied_before
      (λ j k. emptied_after (at + j) (omega arith) (omega arith) ∙ sym (zeros_at (length xs - at) j)) (λ i k m. absurd (omega arith)))

-- so it says no more and no less than the length and the part before that place
pub emptied_same : (at : ℕ) (xs ys : List ℕ)
    → (emptied at xs ≡ emptied at ys) ↔ ((length xs ≡ length ys) × (part 0 at xs ≡ part 0 at ys))
unfolding emptied
emptied_same at xs ys = (
  λ e. (
    sym (emptied_length at xs) ∙ ap (λ (l : List ℕ). length l) e
        ∙ emptied_length at ys,
    sym (emptied_part at xs 0 at (omega arith)) ∙ ap (part 0 at) e
        ∙ emptied_part at ys 0 at (omega arith),
  ),
  λ h. rw (h.0, h.1),
)
