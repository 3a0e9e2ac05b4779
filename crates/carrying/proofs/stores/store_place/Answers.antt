use Prim.Native.Nat.{◌+◌, ◌≤◌, ◌<◌}
use native.Mathlib.Omega.{arith}
use mathlib.Core.Path.{◌≡◌, ap}
use Rattle.std.proofs.Common.{⊎_elim}
use lib.ListN.{length}
use Rattle.layout.specs.Lengths.{pages_in}
use Rattle.layout.specs.Numbers.{kind_number}
use Rattle.layout.specs.Sizes.{page_at}
use Rattle.carrying.specs.PutLaws.{nothing_stored, zeros_stored, page_stored}
use Rattle.carrying.proofs.stores.store_place.Goals as goal
use Rattle.carrying.proofs.stores.store_place.Goals.{Else-frame-block}

-- the block has a place, which lies in the full area
below : (c : Else-frame-block) → let a = c.args in a.block < pages_in a.frame.size (length a.full.now)
below c = omega (arith, c.requires.full_area.0, c.if-frame-block.false)

within : (c : Else-frame-block) → let a = c.args in page_at a.frame.size a.block + a.frame.size ≤ length a.full.now
within c = c.requires.full_area.1 c.args.block (below c)

pub returns-then-frame-block : goal.returns-then-frame-block
returns-then-frame-block c =
    let a = c.args in
    nothing_stored a.frame.size a.full.now a.block (kind_number a.stored.kind) a.stored.page.now
    (omega (arith, c.requires.full_area.0, c.if-frame-block.true))

pub returns-in-Empty : goal.returns-in-Empty
returns-in-Empty c =
    let g = (goal.at.returns-in-Empty c).Else-frame-block in
    let a = c.args in
    let k = kind_number a.stored.kind in
    let other : k ≡ 2 → ⊥ = ⊎_elim (λ e q. omega (arith, ap kind_number e, q)) (λ e q. omega (arith, ap kind_number e, q)) c.in-Empty.is in
    zeros_stored a.frame.size a.full.now a.block c.page_at-at.result a.stored.page.now c.fill.new.dst c.page_at-at.ensures (below g) (within g) k
    other c.fill.ensures

pub returns-in-Full : goal.returns-in-Full
returns-in-Full c =
    let g = (goal.at.returns-in-Full c).Else-frame-block in
    let a = c.args in
    let e = ap kind_number c.in-Full.is in
    page_stored a.frame.size a.full.now a.block c.page_at-at.result a.stored.page.now c.copy.new.dst c.page_at-at.ensures (below g) (within g)
    (kind_number a.stored.kind) e (c.requires.page_lent e) c.copy.ensures
