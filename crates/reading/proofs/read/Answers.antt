use Rattle.std.specs.Prelude.{ℕ, ◌<◌, ◌≡◌, List, [], length, Result}
use Rattle.std.proofs.Common.{arith, refl, sym, ◌∙◌, subst}
use Rattle.std.proofs.lemmas.Bool.{eqb-false}
use Rattle.span.specs.Bytes.{zeros}
use Rattle.layout.specs.declared.Kind.{Kind}
use Rattle.layout.specs.declared.RefusedAt.{RefusedAt}
use Rattle.layout.specs.Exits.{left_with}
use Rattle.layout.specs.Sizes.{page_size}
use Rattle.layout.specs.Numbers.{refusal_number}
use Rattle.layout.specs.NumberLaws.{refusal_some}
use Rattle.store.specs.OpenLaws.{Lent, lent_refused, lent_frame}
use Rattle.stream.specs.Calls.{page_of}
use Rattle.stream.specs.Laws.{tested_none, zeros_base}
use Rattle.reading.specs.Read.{Read, read_outcome, read_refused}
use Rattle.reading.specs.Parts.{slot_outcome, BlockRead}
use Rattle.reading.specs.ReadLaws.{read_frame, read_block, read_slot, same_base}
use Rattle.reading.proofs.read.Goals as goal
use Rattle.reading.proofs.read.Goals.{In_ok-areas}

-- where the frame is opened, it has these numbers
opened : (c : In_ok-areas)
    → let a = c.args in
    let f = c.in_ok-areas.areas.frame in
    Lent page_size [] a.patch.now a.full.now a.base.now a.page.now f.size f.n f.m
opened c =
    let a = c.args in
    lent_frame page_size a.patch.now a.full.now a.base.now a.page.now c.pages_fit-fit.result c.pages_fit-fit.ensures c.in_ok-areas.areas.frame
    (c.in_ok-areas.ensures.numbers (omega arith, omega arith))

pub returns-in_err-areas : goal.returns-in_err-areas
returns-in_err-areas c =
    let a = c.args in
    let r = c.in_err-areas.field-0.0 in
    let told = lent_refused page_size a.patch.now a.full.now a.base.now a.page.now c.pages_fit-fit.result c.pages_fit-fit.ensures r
    (c.in_err-areas.ensures.numbers (omega arith, omega arith)) in
    let e : read_outcome page_size a.patch.now a.full.now a.block a.base.now a.page.now ≡ read_refused (refusal_number r) 0 a.page.now =
    read_frame page_size a.patch.now a.full.now a.block a.base.now a.page.now (refusal_number r) told (refusal_some r) in
    rw (left_with c.from_residual.ensures) (record { numbers = rw e; bytes = rw e })

pub returns-then-areas-block : goal.returns-then-areas-block
returns-then-areas-block c =
    let a = c.args in
    let o = opened (goal.at.returns-then-areas-block c).In_ok-areas in
    let e : read_outcome page_size a.patch.now a.full.now a.block a.base.now a.page.now ≡ read_refused 5 0 a.page.now =
    read_block page_size a.patch.now a.full.now a.block a.base.now a.page.now o.none (omega (arith, o.blocks, c.if-areas-block.true)) in
    rw c.into.ensures (record { numbers = rw e; bytes = rw e })

-- what is read over a base that stands for the same page
read_over : (c : In_ok-areas) (base page : List ℕ)
    → let a = c.args in
    let f = c.in_ok-areas.areas.frame in
    a.block < f.n → page_of page_size a.base.now ≡ page_of page_size base
    → (r : Result Kind RefusedAt) → BlockRead f.size c.in_ok-areas.areas.patch.now c.in_ok-areas.areas.full.now a.block base a.page.now r page
    → Read page_size a.patch.now a.full.now a.block a.base.now a.page.now r page
read_over c base page within same r h =
    let a = c.args in
    let o = opened c in
    let lent = c.in_ok-areas.ensures.lent in
    let e : read_outcome page_size a.patch.now a.full.now a.block a.base.now a.page.now
    ≡ slot_outcome page_size a.patch.now a.full.now a.block base a.page.now =
    read_slot page_size a.patch.now a.full.now a.block a.base.now a.page.now o.none (omega (arith, o.blocks, within))
    ∙ same_base page_size a.patch.now a.full.now a.block a.base.now base a.page.now same in
    let w : BlockRead page_size a.patch.now a.full.now a.block base a.page.now r page =
    subst (λ (P : ℕ). BlockRead P a.patch.now a.full.now a.block base a.page.now r page) o.own (rw (lent.0, lent.1) at h) in
    record { numbers = rw e w.numbers; bytes = rw e w.bytes }

pub read_block-requires : goal.read_block-requires
read_block-requires c =
    let o = opened (goal.at.read_block-requires c).In_ok-areas in
    (sym o.own, o.page_size_is)

pub returns-then-is_empty : goal.returns-then-is_empty
unfolding zeros
returns-then-is_empty c =
    let a = c.args in
    let g = goal.at.returns-then-is_empty c in
    read_over g.In_ok-areas (zeros page_size) _ (omega (arith, c.if-areas-block.false))
    (tested_none page_size a.base.now (sym c.is_empty.ensures ∙ c.if-is_empty.true) ∙ sym (zeros_base page_size)) _
    c.read_block.ensures

pub read_block-requires-2 : goal.read_block-requires-2
read_block-requires-2 c =
    let o = opened (goal.at.read_block-requires-2 c).In_ok-areas in
    (o.base_size (eqb-false (length c.args.base.now) 0 (sym c.is_empty.ensures ∙ c.if-is_empty.false)), o.page_size_is)

pub returns : goal.returns
returns c =
    let g = goal.at.returns c in
    read_over g.In_ok-areas c.args.base.now _ (omega (arith, c.if-areas-block.false)) refl _ c.read_block-2.ensures
