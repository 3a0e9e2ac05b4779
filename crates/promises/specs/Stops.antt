-- Writes that are stopped halfway, and sweeps, on any store of `Runs`: what the words mean. Nothing here speaks of bytes. What is proved of
-- them is in `SweepRuns`.
use Rattle.std.specs.Prelude.{ℕ, ◌<◌, ◌≡◌, Bool, true, false, cond, List, [], ◌∷◌, ◌++◌}
use Rattle.promises.specs.Runs.{Op, write, Store, Ops, Left}

-- an operation made whole, a write that is told how many stores to make, a sweep
pub data Event (W C : Type 0) : Type 0 where
  whole : Op W C → Event W C
  stop : ℕ → W → Event W C
  sweep : Event W C

module _ (S : Store) where
  open S use {State, Frame, Write, Wipe, Cell, frame, blocks, at, block, cell, blank, accepts, step, Good}

  abbrev pub Events : Type 0
  Events = List (Event Write Wipe)

  pub record Stopping : Type 0 where
    -- the state after a write that is told how many stores to make, and after a sweep
    pub stopped : State → ℕ → Write → State
    pub swept : State → State
    -- the same of one block's cell
    pub half : ℕ → Write → Cell → Cell
    pub tidy : Cell → Cell
    -- whether a stopped write took hold, by what it was told and the cell that was there
    pub holds : ℕ → Write → Cell → Bool

  module _ (T : Stopping) where
    open T use {stopped, swept, half, tidy, holds}

    -- what they have to keep
    pub record StopLaws : Type 0 where
      pub stopped_frame : (s : State) (k : ℕ) (w : Write) → frame (stopped s k w) ≡ frame s
      pub stopped_refused : (s : State) (k : ℕ) (w : Write) → accepts (frame s) (write w) ≡ false → stopped s k w ≡ s
      pub stopped_here : (s : State) (k : ℕ) (w : Write) (b : ℕ) → accepts (frame s) (write w) ≡ true → b < blocks (frame s)
          → block w ≡ b → at (stopped s k w) b ≡ half k w (at s b)
      pub stopped_elsewhere : (s : State) (k : ℕ) (w : Write) (b : ℕ) → accepts (frame s) (write w) ≡ true → b < blocks (frame s)
          → (block w ≡ b → ⊥) → at (stopped s k w) b ≡ at s b
      pub tidy_blank : tidy blank ≡ blank
      pub tidy_cell_is : (f : Frame) (w : Write) → accepts f (write w) ≡ true → tidy (cell w) ≡ cell w
      -- over any cell, sound or not: this is what lets stops follow one another
      pub tidy_half : (f : Frame) (k : ℕ) (w : Write) (c : Cell) → accepts f (write w) ≡ true
          → tidy (half k w c) ≡ cond (holds k w c) (cell w) (tidy c)
      pub swept_frame : (s : State) → frame (swept s) ≡ frame s
      -- a sweep is refused where a slot is not sound, or needs a place that is not there; not where each cell, tidied, is one that a run leaves
      pub swept_at : (s : State) → Good (frame s) → ((b : ℕ) → b < blocks (frame s) → Left S (frame s) b (tidy (at s b)))
          → (b : ℕ) → b < blocks (frame s) → at (swept s) b ≡ tidy (at s b)

    -- the state after an event
    unfoldable pub happen : State → Event Write Wipe → State
    happen s (whole o) = step s o
    happen s (stop k w) = stopped s k w
    happen s sweep = swept s

    -- what a stopped write comes to: the write or nothing
    unfoldable pub kept : State → ℕ → Write → Ops S
    kept s k w = cond (holds k w (at s (block w))) (write w ∷ []) []

    -- and an event: the operation, the write or nothing, nothing
    unfoldable pub comes : State → Event Write Wipe → Ops S
    comes s (whole o) = o ∷ []
    comes s (stop k w) = kept s k w
    comes s sweep = []

    -- and events, one after the other
    unfoldable pub comes_to : State → Events → Ops S
    comes_to s [] = []
    comes_to s (e ∷ es) = comes s e ++ comes_to (happen s e) es

    -- t is s with every cell tidied, and each of its cells is one that a run leaves
    pub record Tidies (s t : State) : Type 0 where
      pub frames : frame s ≡ frame t
      pub good : Good (frame t)
      pub cells : (b : ℕ) → b < blocks (frame t) → tidy (at s b) ≡ at t b
      pub lefts : (b : ℕ) → b < blocks (frame t) → Left S (frame t) b (at t b)
