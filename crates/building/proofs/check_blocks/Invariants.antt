use Rattle.std.specs.Prelude.{ℕ, ◌≡◌, ◌-◌}
use Rattle.layout.specs.FirstFault.{first_fault}
use Rattle.building.specs.Build.{block_fault}
use Rattle.building.proofs.check_blocks.Given as goal

abbrev pub invariant-loop-block : goal.invariant-loop-block
invariant-loop-block l =
    let test : ℕ → ℕ = block_fault l.areas.frame.size l.areas.patch.now l.areas.full.now in
    first_fault test 0 l.areas.frame.n ≡ first_fault test l.block (l.areas.frame.n - l.block)
