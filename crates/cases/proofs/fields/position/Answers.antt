use mathlib.Core.Path.{◌∙◌}
use lib.IntN.{ℤ}
use mir.Syntax.{w32}
use mir.ValLaws.{to_z-of_z}
use Rattle.cases.proofs.Signs.{said_below, said_above}
use Rattle.cases.proofs.fields.position.Goals.{then-first-eq45, else-first-eq45}
use Rattle.cases.proofs.fields.position.Goals as goal

pub returns : goal.returns
returns c =
    let x : ℤ = c.unwrap_or.result in
    let n = c.number in
    let first = c.first in
    let wide = c.try_from in
    let size = c.unwrap_or-size in
    let at = c.if-first-eq45 in
    to_z-of_z w32 x (record { sfits = c.unwrap_or.type_inv })
    ∙ c.unwrap_or.ensures
    ∙ elim at.branch [
      | then-first-eq45 w ↦
          said_below c.args.text.now first.result n.result size.result _ wide.result c.try_from-2.result
          first.ensures n.ensures wide.ensures size.ensures c.try_from-2.ensures w.if-first-eq45.true w.at-is
      | else-first-eq45 w ↦
          said_above c.args.text.now first.result n.result size.result _ wide.result c.try_from-2.result
          first.ensures n.ensures wide.ensures size.ensures c.try_from-2.ensures w.if-first-eq45.false w.at-is
    ]
