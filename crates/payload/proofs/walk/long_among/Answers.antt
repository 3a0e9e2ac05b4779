use Prim.Native.Nat.{◌+◌, ◌*◌}
use mathlib.Core.Path.{sym, ap, ◌∙◌}
use mathlib.Core.Bool.{Bool, ◌||◌}
use lib.Dec.{eqb}
use lib.ListN.{get_or}
use Rattle.payload.proofs.Together.{long_none, long_next}
use Rattle.payload.proofs.walk.long_among.Goals as goal

pub loop-i-init : goal.loop-i-init
loop-i-init c = sym (long_none c.args.payload.now c.args.place)

pub loop-i-preserved : goal.loop-i-preserved
loop-i-preserved c =
    let a = c.args in
    let l = c.loop-i in
    ap (λ (t : Bool). t || eqb (get_or a.payload.now (a.place + 2 * l.i) 0) 255) l.invariant ∙ sym (long_next a.payload.now a.place l.i)
