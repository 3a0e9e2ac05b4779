use Prim.Native.Nat.{ℕ, ◌+◌}
use native.Mathlib.Omega.{arith}
use mathlib.Core.Bool.{Bool, true, false}
use mathlib.Core.Path.{◌≡◌, refl}
use lib.Dec.{ltb}
use lib.ListN.{length, get_or, set}
use borrow.Author.Tests.{ltb-true, ltb-false}
use Rattle.payload.specs.Steps.{Over}
use Rattle.payload.proofs.Reading.{opened_long, broken_long, enters, leaves}
use Rattle.payload.proofs.Turns.{lays_at, lays_more, over_broken}
use Rattle.payload.proofs.lay.lay_longs.Goals as goal

pub loop-reached-preserved : goal.loop-reached-preserved
loop-reached-preserved c =
    let a = c.args in
    let l = c.loop-reached in
    let s = a.payload.now in
    let n : ℕ = length a.page.now in
    let k : ℕ = l.reached.place in
    let j : ℕ = c.jump_or_out.result in
    let o = opened_long s k (omega arith) c.if-payload-reached.false j (c.jump_or_out.ensures.jump (omega arith)) in
    lays_at n s a.page.now a.from (set l.page (l.reached.next + j) (get_or s (k + 3) 0)) (k + 4) (l.reached.next + j + 1)
    (lays_more n s a.page.now a.from l.page k l.reached.next l.invariant (l.reached.next + j) (get_or s (k + 3) 0) (k + 4)
    (enters s k j 4 (k + 3) o (omega arith) n l.reached.next (omega arith)))
    c.new-reached.result c.new-reached.ensures.place c.new-reached.ensures.next

pub returns-then-page-at : goal.returns-then-page-at
returns-then-page-at c =
    let l = c.loop-reached in
    let s = c.args.payload.now in
    let n : ℕ = length c.args.page.now in
    let k : ℕ = l.reached.place in
    let j : ℕ = c.jump_or_out.result in
    let f = c.jump_or_out.ensures in (
      l.invariant,
      λ d.
          let over : (t : Bool) → ltb j 65536 ≡ t → Over n s l.reached = λ t.
          elim t as (λ t. ltb j 65536 ≡ t → Over n s l.reached) [
            | true ↦ λ e. over_broken n s l.reached
                (leaves s k j 4 (k + 3) (opened_long s k (omega arith) d j (f.jump (ltb-true j 65536 e))) (omega arith) n l.reached.next (omega arith))
            | false ↦ λ e. over_broken n s l.reached (broken_long s k (omega arith) d (f.out (ltb-false j 65536 e)) n _)
          ] in
          over (ltb j 65536) refl,
    )
