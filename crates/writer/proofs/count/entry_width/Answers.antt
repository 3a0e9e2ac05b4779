use mathlib.Core.Path.{sym}
use native.Mathlib.Omega.{arith}
use Rattle.writer.proofs.Counting.{width_short, width_long}
use Rattle.writer.proofs.count.entry_width.Goals as goal

pub returns-then-jump : goal.returns-then-jump
returns-then-jump c = sym (width_long c.args.jump 0 c.if-jump.true)

pub returns : goal.returns
returns c = sym (width_short c.args.jump 0 (omega arith))
