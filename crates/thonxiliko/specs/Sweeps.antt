-- What the exported sweep owes: the struct's number and every byte of the full area afterwards are those of the call's definition.
use Rattle.std.specs.Prelude.{ℕ, ◌≡◌, List}
use Rattle.sweeping.specs.Sweep.{sweep_outcome}
use Rattle.thonxiliko.specs.declared.thx_done.{thx_done}

pub record ThxSweep (P : ℕ) (patch full : List ℕ) (r : thx_done) (full' : List ℕ) : Type 0 where
  pub numbers : r.number ≡ (sweep_outcome P patch full).number
  pub full_bytes : full' ≡ (sweep_outcome P patch full).full
