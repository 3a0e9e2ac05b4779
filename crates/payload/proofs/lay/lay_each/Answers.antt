use Prim.Native.Nat.{ℕ, ◌+◌, ◌*◌, ◌<◌}
use native.Mathlib.Omega.{arith}
use mathlib.Core.Path.{◌≡◌, sym, ap, ◌∙◌, subst}
use lib.ListN.{length, get_or, set}
use Rattle.std.specs.Prelude.{Option, IfSome}
use Rattle.payload.specs.Steps.{jumps_of, LaysTo}
use Rattle.payload.proofs.Turns.{lays_none}
use Rattle.payload.proofs.Together.{jumps_none, Taken, taken, lands_in, lands_next, lays_each}
use Rattle.payload.proofs.lay.lay_each.Goals as goal
use Rattle.payload.proofs.lay.lay_each.Goals.{In-loop-i}

pub loop-i-init : goal.loop-i-init
loop-i-init c =
    let s = c.args.payload.now in
    let from = c.args.from in
    let page = c.args.page.now in
    let begin : from.place ≡ from.place + 0 = omega arith in (
      omega (arith, jumps_none s from.place),
      subst (λ (x : ℕ). LaysTo (length page) s page from page x from.next) begin
          (lays_none (length page) s page from (omega (arith, (taken (length page) s from.place from.next c.requires.1).within))),
    )

-- the entries are known to be short and in the page
known : (c : In-loop-i)
    → let a = c.args in
    let l = c.loop-i in
    Taken (length a.page.now) a.payload.now a.from.place a.from.next
    × (l.next + get_or a.payload.now (a.from.place + 2 * l.i) 0 < length a.page.now)
known c =
    let a = c.args in
    let l = c.loop-i in
    let n : ℕ = length a.page.now in
    let t : Taken n a.payload.now a.from.place a.from.next = taken n a.payload.now a.from.place a.from.next c.requires.1 in
    (t, lands_in n a.payload.now a.page.now a.from t l.i l.next c.loop-i-test.true l.invariant.0)

pub bounds-payload-first : goal.bounds-payload-first
bounds-payload-first c = omega (arith, (known (goal.at.bounds-payload-first c).In-loop-i).0.within)

pub overflow_add-at : goal.overflow_add-at
overflow_add-at c = omega (arith, (known (goal.at.overflow_add-at c).In-loop-i).1)

pub bounds-payload-first-in-loop-i : goal.bounds-payload-first-in-loop-i
bounds-payload-first-in-loop-i c = omega (arith, (known (goal.at.bounds-payload-first-in-loop-i c).In-loop-i).0.within)

pub bounds-page-at : goal.bounds-page-at
bounds-page-at c = omega (arith, (known (goal.at.bounds-page-at c).In-loop-i).1)

pub overflow_add-next : goal.overflow_add-next
overflow_add-next c = omega (arith, (known (goal.at.overflow_add-next c).In-loop-i).1)

pub loop-i-preserved : goal.loop-i-preserved
loop-i-preserved c =
    let a = c.args in
    let l = c.loop-i in
    let s = a.payload.now in
    let n : ℕ = length a.page.now in
    let x : ℕ = a.from.place + 2 * l.i in
    let t = (known (goal.at.loop-i-preserved c).In-loop-i).0 in (
      omega (arith, c.from.ensures, lands_next n s a.page.now a.from t l.i l.next c.loop-i-test.true l.invariant.0),
      subst
          (λ (j : ℕ). LaysTo n s a.page.now a.from (set l.page (l.next + j) (get_or s (x + 1) 0)) (a.from.place + 2 * (l.i + 1)) (l.next + j + 1))
          (sym c.from.ensures)
          (lays_each n s a.page.now a.from t l.i l.next c.loop-i-test.true l.invariant.0 l.page l.invariant.1),
    )

pub returns : goal.returns
returns c =
    let a = c.args in
    let l = c.loop-i in
    let s = a.payload.now in
    let n : ℕ = length a.page.now in
    let t : Taken n s a.from.place a.from.next = taken n s a.from.place a.from.next c.requires.1 in
    let e : l.i ≡ 8 = omega arith in
    let place : a.from.place + 2 * l.i ≡ a.from.place + 16 = omega arith in
    let next : l.next ≡ a.from.next + 8 + jumps_of s a.from.place 8 = l.invariant.0 ∙ ap (λ (x : ℕ). a.from.next + x + jumps_of s a.from.place x) e in
    subst (λ (o : Option ℕ). IfSome o (λ to. LaysTo n s a.page.now a.from l.page (a.from.place + 16) to)) (sym t.is)
    (subst (LaysTo n s a.page.now a.from l.page (a.from.place + 16)) next
    (subst (λ (x : ℕ). LaysTo n s a.page.now a.from l.page x l.next) place l.invariant.1))
