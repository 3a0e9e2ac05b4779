use Prim.Native.Nat.{◌-◌}
use mathlib.Core.Path.{◌≡◌}
use Rattle.layout.specs.FirstFault.{first_fault}
use Rattle.sweeping.specs.Parts.{slot_fault}
use Rattle.sweeping.proofs.check_slots.Given as goal

-- nothing is wrong below `block`, so that the rest decides
abbrev pub invariant-loop-block : goal.invariant-loop-block
invariant-loop-block l =
    first_fault (slot_fault l.frame.m l.patch) 0 l.frame.n ≡ first_fault (slot_fault l.frame.m l.patch) l.block (l.frame.n - l.block)
