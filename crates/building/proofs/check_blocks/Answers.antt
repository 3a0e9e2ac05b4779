use Rattle.std.proofs.Common.{sym, ap, ◌∙◌}
use Rattle.layout.specs.FirstFault.{BlockFault}
use Rattle.layout.specs.FirstFaultLaws.{fault_end}
use Rattle.building.specs.Build.{block_fault}
use Rattle.building.specs.Steps.{fault_numbers}
use Rattle.building.proofs.check_blocks.Goals as goal

pub returns : goal.returns
returns c =
    let s = c.args.areas in
    let l = c.loop-block in
    let end = fault_end (block_fault s.frame.size s.patch.now s.full.now) l.block s.frame.n c.loop-block-test.false in
    sym (ap (λ (f : BlockFault). fault_numbers s.frame.size s.patch.now f) (l.invariant ∙ end))
