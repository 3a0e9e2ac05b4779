use Rattle.std.specs.Prelude.{ℕ}
use Rattle.std.proofs.Common.{ap, ◌∙◌}
use Rattle.span.specs.Bytes.{part}
use Rattle.layout.specs.Sizes.{slot_size}
use Rattle.store.specs.Block.{slot_of}
use Rattle.store.proofs.block.slot.Goals as goal

pub returns : goal.returns
unfolding slot_of
returns c = c.part.ensures.bytes ∙ ap (λ (k : ℕ). part k slot_size c.args.patch.now) c.slot_at.ensures
