use mathlib.Core.Path.{◌≡◌, ap, ◌∙◌, subst}
use lib.Dec.{leb}
use lib.IntN.{ℤ, pos, ◌+ℤ◌}
use Prim.Native.Nat.{ℕ}
use mir.Syntax.{w32, w64}
use mir.Val.{SFits, to_z, of_z}
use mir.ValLaws.{to_z-of_z}
use Rattle.payload.specs.Steps.{reach}
use Rattle.entry_reader.proofs.Positions.{below, inside}
use Rattle.entry_reader.proofs.stands.Goals as goal
use Rattle.entry_reader.proofs.stands.Goals.{After-moved}

-- the place after the position, which the code reads back from its bits
after_is : (c : After-moved) → c.moved.result ≡ c.args.position +ℤ pos 1
after_is c = c.moved.ensures ∙ ap (λ (z : ℤ). z +ℤ pos 1) (to_z-of_z w32 c.args.position c.ranges.position)

fits : (c : After-moved) → SFits w64 c.moved.result
fits c = record { sfits = c.moved.type_inv }

after_read : (c : After-moved) → to_z w64 (of_z w64 c.moved.result) ≡ c.args.position +ℤ pos 1
after_read c = to_z-of_z w64 c.moved.result (fits c) ∙ after_is c

pub returns-in_default : goal.returns-in_default
returns-in_default c =
    let g = (goal.at.returns-in_default c).After-moved in
    below (reach c.args.size) (to_z w64 (of_z w64 c.moved.result)) c.args.position (after_read g) (subst (SFits w64) (after_is g) (fits g))
    c.in_default.ensures

pub returns : goal.returns
returns c =
    let g = (goal.at.returns c).After-moved in
    ap (λ (n : ℕ). leb c.in-Ok.next n) c.min.ensures
    ∙ inside (reach c.args.size) (to_z w64 (of_z w64 c.moved.result)) c.args.position (after_read g) c.in-Ok.next c.in-Ok.ensures
