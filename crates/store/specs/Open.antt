-- The opened frame: the page size, n and m of two areas, or the first refusal of what is decided before any block is looked at.
use Rattle.std.specs.Prelude.{ℕ, Bool, not, List, [], ◌∷◌, length, Result, Ok, Err}
use Rattle.layout.specs.Numbers.{refusal_number}
use Rattle.layout.specs.Refusals.{Row, ◌⇐◌, first_of, decided}
use Rattle.layout.specs.Lengths.{blocks_in, pages_in}
use Rattle.layout.specs.declared.Refusal.{Refusal}
use Rattle.store.specs.declared.frame.Frame.{Frame}
use Rattle.store.specs.Frame.{frame_rows}

-- the frame's rows, told whether the call's pages and its buffer have the lengths that they must have
abbrev pub open_rows : ℕ → Bool → Bool → List ℕ → List ℕ → List Row
open_rows P pages buffers patch full = frame_rows P ((1 ⇐ not pages) ∷ []) ((9 ⇐ not buffers) ∷ []) patch full

pub record FrameNumbers : Type 0 where
  pub number : ℕ
  pub size : ℕ
  pub n : ℕ
  pub m : ℕ

unfoldable pub open_numbers : ℕ → Bool → Bool → List ℕ → List ℕ → FrameNumbers
open_numbers P pages buffers patch full =
    decided (first_of (open_rows P pages buffers patch full))
    (record { number = 0; size = P; n = blocks_in (length patch); m = pages_in P (length full) })
    (λ k. record { number = k; size = 0; n = 0; m = 0 })

-- the numbers of each case of the answer
abbrev pub opened_numbers : Result Frame Refusal → FrameNumbers
opened_numbers (Ok f) = record { number = 0; size = f.size; n = f.n; m = f.m }
opened_numbers (Err r) = record { number = refusal_number r; size = 0; n = 0; m = 0 }
