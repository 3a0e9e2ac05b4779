use Rattle.std.specs.Prelude.{◌≡◌, length}
use Rattle.std.proofs.Common.{arith, refl, sym, ◌∙◌}
use Rattle.std.proofs.lemmas.Bool.{eqb-false}
use Rattle.span.specs.Bytes.{zeros}
use Rattle.layout.specs.Exits.{left_with}
use Rattle.layout.specs.Sizes.{page_size}
use Rattle.layout.specs.Numbers.{refusal_number}
use Rattle.layout.specs.NumberLaws.{refusal_some}
use Rattle.stream.specs.Laws.{tested_none, zeros_base}
use Rattle.reading.specs.Read.{read_refused}
use Rattle.reading.specs.Mapped.{read_mapped_outcome}
use Rattle.reading.specs.MappedLaws.{mapped_frame, mapped_looked}
use Rattle.reading.proofs.ByMap.{Lain, lain_refused, lain_frame, Found, pair_refused, pair_found, found_read}
use Rattle.reading.proofs.mapped.read_mapped.Goals as goal
use Rattle.reading.proofs.mapped.read_mapped.Goals.{In_ok-areas, In_ok-kind}

-- where the frame is opened, it has these numbers
opened : (c : In_ok-areas)
    → let a = c.args in
    let f = c.in_ok-areas.areas.frame in
    Lain page_size a.patch.now a.full.now a.map.now a.base.now a.page.now f.size f.n f.m
opened c =
    let a = c.args in
    lain_frame page_size a.patch.now a.full.now a.map.now a.base.now a.page.now c.blocks-2.result c.map_bytes-needed.result c.pages_fit-fit.result
    c.blocks-2.ensures c.map_bytes-needed.ensures c.pages_fit-fit.ensures c.in_ok-areas.areas.frame
    (c.in_ok-areas.ensures.numbers (omega arith, omega arith))

-- and where the block's pair is found
found : (c : In_ok-kind)
    → let a = c.args in
    let f = c.in_ok-areas.areas.frame in
    Lain page_size a.patch.now a.full.now a.map.now a.base.now a.page.now f.size f.n f.m
    → Found page_size a.patch.now a.full.now a.map.now a.block a.base.now a.page.now f.size f.n f.m c.in_ok-kind.kind
found c o =
    let a = c.args in
    let f = c.in_ok-areas.areas.frame in
    pair_found page_size a.patch.now a.full.now a.map.now a.block a.base.now a.page.now f.size f.n f.m o c.in_ok-kind.kind c.in_ok-kind.ensures

pub returns-in_err-areas : goal.returns-in_err-areas
returns-in_err-areas c =
    let a = c.args in
    let r = c.in_err-areas.field-0.0 in
    let told = lain_refused page_size a.patch.now a.full.now a.map.now a.base.now a.page.now c.blocks-2.result c.map_bytes-needed.result
    c.pages_fit-fit.result c.blocks-2.ensures c.map_bytes-needed.ensures c.pages_fit-fit.ensures r
    (c.in_err-areas.ensures.numbers (omega arith, omega arith)) in
    let e : read_mapped_outcome page_size a.patch.now a.full.now a.map.now a.block a.base.now a.page.now
    ≡ read_refused (refusal_number r) 0 a.page.now =
    mapped_frame page_size a.patch.now a.full.now a.map.now a.block a.base.now a.page.now (refusal_number r) told (refusal_some r) in
    rw (left_with c.from_residual.ensures) (record { numbers = rw e; bytes = rw e })

pub returns-in_err-kind : goal.returns-in_err-kind
returns-in_err-kind c =
    let a = c.args in
    let f = c.in_ok-areas.areas.frame in
    let o = opened (goal.at.returns-in_err-kind c).In_ok-areas in
    let r = c.in_err-kind.field-0.0 in
    let told = pair_refused page_size a.patch.now a.full.now a.map.now a.block a.base.now a.page.now f.size f.n f.m o r c.in_err-kind.ensures in
    let e : read_mapped_outcome page_size a.patch.now a.full.now a.map.now a.block a.base.now a.page.now
    ≡ read_refused (refusal_number r) 0 a.page.now =
    mapped_looked page_size a.patch.now a.full.now a.map.now a.block a.base.now a.page.now o.lent.none (refusal_number r) told (refusal_some r) in
    rw (left_with c.from_residual-in_err-kind.ensures) (record { numbers = rw e; bytes = rw e })

pub overflow_cast-block : goal.overflow_cast-block
overflow_cast-block c =
    let g = goal.at.overflow_cast-block c in
    omega (arith, (found g.In_ok-kind (opened g.In_ok-areas)).below)

pub read_as-requires : goal.read_as-requires
read_as-requires c =
    let o = (opened (goal.at.read_as-requires c).In_ok-areas).lent in
    (sym o.own, o.page_size_is)

pub returns-then-is_empty : goal.returns-then-is_empty
unfolding zeros
returns-then-is_empty c =
    let g = goal.at.returns-then-is_empty c in
    let a = c.args in
    let f = c.in_ok-areas.areas.frame in
    let lent = c.in_ok-areas.ensures.lent in
    let r = c.read_as in
    found_read page_size a.patch.now a.full.now a.map.now a.block a.base.now (zeros page_size) a.page.now f.size f.n f.m
    c.in_ok-kind.kind r.result r.new.page (found g.In_ok-kind (opened g.In_ok-areas))
    (tested_none page_size a.base.now (sym c.is_empty.ensures ∙ c.if-is_empty.true) ∙ sym (zeros_base page_size))
    (rw (lent.0, lent.1) at r.ensures)

pub read_as-requires-2 : goal.read_as-requires-2
read_as-requires-2 c =
    let o = (opened (goal.at.read_as-requires-2 c).In_ok-areas).lent in
    (o.base_size (eqb-false (length c.args.base.now) 0 (sym c.is_empty.ensures ∙ c.if-is_empty.false)), o.page_size_is)

pub returns : goal.returns
returns c =
    let g = goal.at.returns c in
    let a = c.args in
    let f = c.in_ok-areas.areas.frame in
    let lent = c.in_ok-areas.ensures.lent in
    let r = c.read_as-2 in
    found_read page_size a.patch.now a.full.now a.map.now a.block a.base.now a.base.now a.page.now f.size f.n f.m
    c.in_ok-kind.kind r.result r.new.page (found g.In_ok-kind (opened g.In_ok-areas)) refl (rw (lent.0, lent.1) at r.ensures)
