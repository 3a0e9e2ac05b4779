use mathlib.Core.Path.{sym}
use lib.ListN.{length}
use borrow.Author.Tests.{eqb-true}
use Rattle.payload.specs.Steps.{reach}
use Rattle.payload.specs.StepLaws.{unsound_told}
use Rattle.payload.proofs.Turns.{unsound_empty, unsound_long}
use Rattle.payload.proofs.check.Goals as goal
use Rattle.payload.proofs.check.Goals.{then-is_empty-via-then-is_empty, then-is_empty-via-else-is_empty+then-payload-gt-ROOM}

pub returns-then-is_empty : goal.returns-then-is_empty
returns-then-is_empty c =
    let n = reach c.args.size in
    let s = c.args.payload.now in
    elim c.then-is_empty.branch [
      | then-is_empty-via-then-is_empty w ↦
          unsound_told n s (record { offset = 0 }) (unsound_empty n s (eqb-true (length s) 0 (sym w.if-is_empty.ensures)))
      | then-is_empty-via-else-is_empty+then-payload-gt-ROOM w ↦ unsound_told n s (record { offset = 0 }) (unsound_long n s w.if-payload-gt-ROOM.true)
    ]
