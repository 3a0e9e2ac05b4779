use Rattle.stream.specs.Laws.{kind_none, kind_large, kind_patch}
use native.Mathlib.Omega.{arith}
use Rattle.stream.proofs.kind_for.Goals as goal

pub returns-in-0 : goal.returns-in-0
returns-in-0 c = kind_none c.args.length c.in-0.is

pub returns-in-1-to-504 : goal.returns-in-1-to-504
returns-in-1-to-504 c = kind_patch c.args.length (λ q. omega (arith, c.in-1-to-504)) (omega (arith, c.in-1-to-504))

pub returns-in_default : goal.returns-in_default
returns-in_default c = kind_large c.args.length (omega (arith, c.in_default))
