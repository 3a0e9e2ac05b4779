use native.Mathlib.Omega.{arith}
use lib.ListN.{length}
use Rattle.payload.proofs.Together.{taken_to}
use Rattle.payload.proofs.lay.lay_together.Goals as goal
use Rattle.payload.proofs.lay.lay_together.Goals.{In-Some}

pub new-reached-requires : goal.new-reached-requires
new-reached-requires c =
    let l = c.loop-next in
    omega (
      arith,
      (taken_to (length l.page) c.args.payload.now l.reached.place l.reached.next c.in-Some.next c.in-Some.ensures).0.within_page,
      (taken_to (length l.page) c.args.payload.now l.reached.place l.reached.next c.in-Some.next c.in-Some.ensures).1,
    )
