-- A buffer that every operation of a run is lent beside the state, and that is kept at what can be built from the state, such as a map of
-- its blocks. Nothing here speaks of bytes. One law for one operation (`moves`) carries whatever is proved of runs over to runs with the
-- buffer. A buffer that has no room is in the run too: every operation is then refused.
use Rattle.std.specs.Prelude.{◌≡◌, Bool, true, false}
use Rattle.std.proofs.Math.Path.{refl}
use Rattle.std.proofs.Common.{ap}
use Rattle.std.proofs.Math.Bool.{cond}
use mathlib.Core.List.{[], ◌∷◌}
use Rattle.promises.specs.Runs.{run, taking, Op, Store, Ops, Laws}

module _ (S : Store) where
  open S use {State, Frame, Write, Wipe, frame, takes, step}

  pub record Beside : Type 1 where
    pub Buffer : Type 0
    -- a state and the buffer
    pub Both : Type 0
    pub both : State → Buffer → Both
    -- whether the buffer has room
    pub fits : Frame → Buffer → Bool
    -- the operations, lent the buffer
    pub takes_with : Both → Op Write Wipe → Bool
    pub step_with : Both → Op Write Wipe → Both
    -- the buffer with what is built from a state in it
    pub built : State → Buffer → Buffer

  module _ (M : Beside) where
    open M use {Buffer, Both, both, fits, takes_with, step_with, built}

    -- what one operation has to keep
    pub record BesideLaws : Type 0 where
      -- lent what is built from the state before it, it leaves what is built from the state after it, which is the state without the buffer
      pub moves : (s : State) (m : Buffer) (o : Op Write Wipe) → fits (frame s) m ≡ true
          → step_with (both s (built s m)) o ≡ both (step s o) (built (step s o) m)
      pub takes_same : (s : State) (m : Buffer) (o : Op Write Wipe) → fits (frame s) m ≡ true
          → takes_with (both s (built s m)) o ≡ takes s o
      -- with a buffer that has no room it is refused, and changes nothing
      pub no_room : (s : State) (m : Buffer) (o : Op Write Wipe) → fits (frame s) m ≡ false
          → (takes_with (both s m) o ≡ false) × (step_with (both s m) o ≡ both s m)

    module _ (L : Laws S) (B : BesideLaws) where
      -- a run with the buffer is the run without it, and what is built from the state at its end
      pub run_with : (s : State) (m : Buffer) → fits (frame s) m ≡ true → (os : Ops S)
          → run step_with (both s (built s m)) os ≡ both (run step s os) (built (run step s os) m)
      unfolding run
      run_with s m fit [] = refl
      run_with s m fit (o ∷ os) = rw (B.moves s m o fit) (run_with (step s o) m (rw (L.frame_kept s o) fit) os)

      -- and accepts the same operations
      pub taking_with : (s : State) (m : Buffer) → fits (frame s) m ≡ true → (os : Ops S)
          → taking takes_with step_with (both s (built s m)) os ≡ taking takes step s os
      unfolding taking
      taking_with s m fit [] = refl
      taking_with s m fit (o ∷ os) =
          rw (B.takes_same s m o fit, B.moves s m o fit)
          (ap (λ (l : Ops S). cond (takes s o) (o ∷ l) l) (taking_with (step s o) m (rw (L.frame_kept s o) fit) os))

      module _ (s : State) (m : Buffer) (none : fits (frame s) m ≡ false) where
        pub run_without_room : (os : Ops S) → run step_with (both s m) os ≡ both s m
        unfolding run
        run_without_room [] = refl
        run_without_room (o ∷ os) = rw (B.no_room s m o none).1 (run_without_room os)

        pub taking_without_room : (os : Ops S) → taking takes_with step_with (both s m) os ≡ []
        unfolding taking
        taking_without_room [] = refl
        taking_without_room (o ∷ os) = rw ((B.no_room s m o none).0, (B.no_room s m o none).1) (taking_without_room os)
