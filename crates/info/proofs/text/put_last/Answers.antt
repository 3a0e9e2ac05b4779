use lib.IntN.{ℤ}
use mir.Syntax.{w32}
use mir.Val.{to_z, of_z}
use mir.ValLaws.{to_z-of_z}
use Rattle.info.proofs.Words.{last_none, last_some}
use Rattle.info.proofs.text.put_last.Goals as goal

pub returns-in-Ok-clause-bytes : goal.returns-in-Ok-clause-bytes
returns-in-Ok-clause-bytes c =
    let l : ℤ = c.args.last in
    let told = c.in-Ok.ensures in
    last_some (to_z w32 (of_z w32 l)) l c.in-Ok.n (to_z-of_z w32 l c.ranges.last) told.0 told.1 c.put_line.ensures.bytes

pub returns-in-Err-clause-bytes : goal.returns-in-Err-clause-bytes
returns-in-Err-clause-bytes c =
    let l : ℤ = c.args.last in
    last_none (to_z w32 (of_z w32 l)) l (to_z-of_z w32 l c.ranges.last) c.ranges.last c.in-Err.ensures c.put_word.ensures
