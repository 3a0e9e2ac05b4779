use mathlib.Core.Path.{◌≡◌, ap, ◌∙◌}
use Prim.Native.Nat.{ℕ}
use lib.Dec.{leb}
use lib.ListN.{length}
use Rattle.layout.specs.Exits.{left_with}
use Rattle.layout.specs.Lengths.{blocks_in}
use Rattle.layout.specs.Sizes.{page_size}
use Rattle.blockmap.specs.Pairs.{map_bytes}
use Rattle.carrying.proofs.CarryTold.{mapped_refused, mapped_done}
use Rattle.carrying.proofs.mapped.carry_out_mapped.Goals as goal
use Rattle.carrying.proofs.mapped.carry_out_mapped.Goals.{After-carry_with}

-- what carrying out was told of the map
long : (c : After-carry_with) → let a = c.args in
    leb c.map_bytes.result (length a.map.now) ≡ leb (map_bytes (blocks_in (length a.patch.now))) (length a.map.now)
long c = ap (λ (k : ℕ). leb k (length c.args.map.now)) (c.map_bytes.ensures ∙ ap map_bytes c.blocks-2.ensures)

pub returns-in_err-written : goal.returns-in_err-written
returns-in_err-written c =
    let a = c.args in
    rw (left_with c.from_residual.ensures)
    (mapped_refused page_size _ a.patch.now a.full.now a.map.now a.block (record { kind = a.kind; payload = a.payload.now; page = a.page.now })
    a.stores _ _ (long (goal.at.returns-in_err-written c).After-carry_with) c.in_err-written.field-0.0 c.in_err-written.ensures)

pub returns : goal.returns
returns c =
    let a = c.args in
    mapped_done page_size _ a.patch.now a.full.now a.map.now a.block (record { kind = a.kind; payload = a.payload.now; page = a.page.now })
    a.stores _ _ (long (goal.at.returns c).After-carry_with) c.in_ok-written.written _ c.in_ok-written.ensures c.keep_pair.ensures
