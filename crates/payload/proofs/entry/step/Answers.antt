use mathlib.Core.Path.{ap, ◌∙◌}
use mir.ValLaws.{to_z-of_z}
use mir.Val.{to_z, of_z}
use mir.Syntax.{w32}
use lib.IntN.{ℤ, pos, ◌+ℤ◌}
use lib.ListN.{get_or}
use Prim.Native.Nat.{ℕ, ◌+◌}
use native.Mathlib.Omega.{arith}
use Rattle.payload.specs.Entries.{in_page}
use Rattle.payload.specs.Steps.{reach, landing}
use Rattle.payload.proofs.Reading.{Opened, at_end, cut, opened_short, opened_long, broken_long, lands}
use Rattle.payload.proofs.entry.step.Goals as goal

pub returns-then-payload-place : goal.returns-then-payload-place
returns-then-payload-place c =
    let a = c.args in
    at_end a.payload.now a.place (reach a.size) a.position c.if-payload-place.true

pub returns-then-payload-place-lt-SHORT_WIDTH : goal.returns-then-payload-place-lt-SHORT_WIDTH
returns-then-payload-place-lt-SHORT_WIDTH c =
    let a = c.args in
    cut a.payload.now a.place (reach a.size) a.position (omega arith) c.if-payload-place-lt-SHORT_WIDTH.true

pub returns-then-first : goal.returns-then-first
returns-then-first c =
    let a = c.args in
    let s = a.payload.now in
    let p : ℤ = to_z w32 (of_z w32 a.position) in
    let o : Opened s a.place (get_or s a.place 0) 2 = opened_short s a.place (omega arith) c.if-first.true in
    lands s a.place (get_or s a.place 0) 2 (a.place + 1) o (omega arith) (reach a.size) a.position p c.landed.result
    (to_z-of_z w32 a.position c.ranges.position)
    (c.landed.ensures
    ∙ ap (λ (j : ℕ). landing (in_page (reach a.size) (p +ℤ pos (j + 1))) (p +ℤ pos (j + 1)) (get_or s (a.place + 1) 0) (a.place + 2)) c.from.ensures)

pub returns-in_default : goal.returns-in_default
returns-in_default c =
    let a = c.args in
    broken_long a.payload.now a.place (omega arith) c.if-first.false c.in_default.ensures (reach a.size) a.position

pub returns : goal.returns
returns c =
    let a = c.args in
    let s = a.payload.now in
    let j : ℕ = c.in-Some.jump in
    let o : Opened s a.place j 4 = opened_long s a.place (omega arith) c.if-first.false j c.in-Some.ensures in
    lands s a.place j 4 (a.place + 3) o (omega arith) (reach a.size) a.position (to_z w32 (of_z w32 a.position)) c.landed-2.result
    (to_z-of_z w32 a.position c.ranges.position) c.landed-2.ensures
