use Prim.Native.Nat.{ℕ, ◌+◌}
use native.Mathlib.Omega.{arith}
use lib.ListN.{length, get_or, set}
use Rattle.payload.proofs.Reading.{opened_short, enters, leaves}
use Rattle.payload.proofs.Turns.{lays_at, lays_more, over_broken, over_few}
use Rattle.payload.proofs.lay.lay_shorts.Goals as goal

pub loop-reached-preserved : goal.loop-reached-preserved
loop-reached-preserved c =
    let a = c.args in
    let l = c.loop-reached in
    let s = a.payload.now in
    let n : ℕ = length a.page.now in
    let k : ℕ = l.reached.place in
    let j : ℕ = get_or s k 0 in
    let o = opened_short s k (omega arith) c.if-first.false in
    rw c.from.ensures
    (lays_at n s a.page.now a.from (set l.page (l.reached.next + j) (get_or s (k + 1) 0)) (k + 2) (l.reached.next + j + 1)
    (lays_more n s a.page.now a.from l.page k l.reached.next l.invariant (l.reached.next + j) (get_or s (k + 1) 0) (k + 2)
    (enters s k j 2 (k + 1) o (omega arith) n l.reached.next (omega (arith, c.from.ensures))))
    c.new-reached.result c.new-reached.ensures.place (omega (arith, c.from.ensures, c.new-reached.ensures.next)))

pub returns-after-loop-reached : goal.returns-after-loop-reached
returns-after-loop-reached c =
    let l = c.loop-reached in
    (l.invariant, λ _. over_few (length c.args.page.now) c.args.payload.now l.reached (omega arith))

pub returns-then-page-at : goal.returns-then-page-at
returns-then-page-at c =
    let l = c.loop-reached in
    let s = c.args.payload.now in
    let n : ℕ = length c.args.page.now in
    let k : ℕ = l.reached.place in
    let j : ℕ = get_or s k 0 in (
      l.invariant,
      λ d. over_broken n s l.reached
          (leaves s k j 2 (k + 1) (opened_short s k (omega arith) d) (omega arith) n l.reached.next (omega (arith, c.from.ensures))),
    )
