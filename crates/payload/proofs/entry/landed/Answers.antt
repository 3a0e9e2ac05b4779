use Prim.Native.Nat.{◌+◌}
use mathlib.Core.Path.{◌≡◌, ◌∙◌, subst}
use native.Mathlib.Omega.{arith}
use lib.IntN.{pos, ◌+ℤ◌}
use mir.Syntax.{w32, w64}
use mir.Val.{SFits, to_z, of_z}
use mir.ValLaws.{to_z-of_z}
use Rattle.payload.specs.Steps.{reach}
use Rattle.payload.proofs.Signed.{below, beyond, landed_in}
use Rattle.payload.proofs.entry.landed.Goals as goal
use Rattle.payload.proofs.entry.landed.Goals.{After-moved}

-- where the code moved to, which it reads back from its bits
to_is : (c : After-moved) → c.moved.result ≡ c.args.position +ℤ pos (c.args.jump + 1)
to_is c =
    let a = c.args in
    c.moved.ensures ∙ (λ i. to_z-of_z w32 a.position c.ranges.position i +ℤ pos (c.from.ensures i + 1))

fits : (c : After-moved) → SFits w64 c.moved.result
fits c = record { sfits = c.moved.type_inv }

to_read : (c : After-moved) → to_z w64 (of_z w64 c.moved.result) ≡ c.args.position +ℤ pos (c.args.jump + 1)
to_read c = to_z-of_z w64 c.moved.result (fits c) ∙ to_is c

pub returns-in_default : goal.returns-in_default
returns-in_default c =
    let g = goal.at.returns-in_default c in
    let a = c.args in
    below (reach a.size) (to_z w64 (of_z w64 c.moved.result)) (a.position +ℤ pos (a.jump + 1)) a.value a.next (to_read g.After-moved)
    (subst (SFits w64) (to_is g.After-moved) (fits g.After-moved)) c.in_default.ensures

pub returns-then-at-ge-REACH : goal.returns-then-at-ge-REACH
returns-then-at-ge-REACH c =
    let g = goal.at.returns-then-at-ge-REACH c in
    let a = c.args in
    beyond (to_z w64 (of_z w64 c.moved.result)) c.in-Ok.at c.in-Ok.ensures (reach a.size) (a.position +ℤ pos (a.jump + 1)) a.value a.next
    (to_read g.After-moved) (omega arith)

pub returns-then-size-at : goal.returns-then-size-at
returns-then-size-at c =
    let g = goal.at.returns-then-size-at c in
    let a = c.args in
    beyond (to_z w64 (of_z w64 c.moved.result)) c.in-Ok.at c.in-Ok.ensures (reach a.size) (a.position +ℤ pos (a.jump + 1)) a.value a.next
    (to_read g.After-moved) (omega arith)

pub returns : goal.returns
returns c =
    let g = goal.at.returns c in
    let a = c.args in
    landed_in (to_z w64 (of_z w64 c.moved.result)) c.in-Ok.at c.in-Ok.ensures (reach a.size) (a.position +ℤ pos (a.jump + 1)) a.value a.next
    (to_read g.After-moved) (omega arith) (omega arith)
