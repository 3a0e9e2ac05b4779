use Rattle.std.proofs.Math.Path.{sym, ◌∙◌}
use Rattle.span.specs.Bytes.{zeros}
use Rattle.layout.specs.Sizes.{page_size}
use Rattle.stream.specs.Laws.{tested_none, tested_some}
use Rattle.stream.proofs.present.Goals as goal

pub returns-then-is_empty : goal.returns-then-is_empty
unfolding zeros
returns-then-is_empty c = sym (tested_none page_size c.args.base.now (sym c.is_empty.ensures ∙ c.if-is_empty.true))

pub returns-else-is_empty : goal.returns-else-is_empty
returns-else-is_empty c = sym (tested_some page_size c.args.base.now (sym c.is_empty.ensures ∙ c.if-is_empty.false))
