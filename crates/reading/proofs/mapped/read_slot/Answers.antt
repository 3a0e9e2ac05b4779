use Rattle.std.specs.Prelude.{ℕ, ◌≡◌, List, length, cond, Some, None}
use Rattle.std.proofs.Common.{arith, sym, ap, ◌∙◌}
use Rattle.span.specs.Bytes.{part}
use Rattle.layout.specs.Sizes.{payload_at}
use Rattle.slots.specs.Slots.{is_patch, payload_length, payload_of}
use Rattle.slots.specs.StateLaws.{none_told, some_told}
use Rattle.store.specs.Block.{slot_of}
use Rattle.stream.specs.Laws.{base_some}
use Rattle.reading.specs.MappedLaws.{kind_not, patch_as}
use Rattle.reading.proofs.mapped.read_slot.Goals as goal
use Rattle.reading.proofs.mapped.read_slot.Goals.{After-payload_length}

-- the payload's length is told of the block's slot
told : (c : After-payload_length) → let s : List ℕ = slot_of c.args.areas.patch.now c.args.block in
    c.payload_length.result ≡ cond (is_patch s) (Some (payload_length s)) None
told c = c.payload_length.ensures ∙ ap (λ (l : List ℕ). cond (is_patch l) (Some (payload_length l)) None) c.slot-slot.ensures

pub returns-in_default : goal.returns-in_default
returns-in_default c full =
    let a = c.args in
    let s : List ℕ = slot_of a.areas.patch.now a.block in
    let e = kind_not (length a.page.now) a.areas.patch.now full a.block a.base.now a.page.now
    (none_told s (sym c.in_default.is ∙ told (goal.at.returns-in_default c).After-payload_length)) in
    rw c.into.ensures (record { numbers = rw e; bytes = rw e })

pub returns : goal.returns
unfolding payload_of
returns c full =
    let a = c.args in
    let s : List ℕ = slot_of a.areas.patch.now a.block in
    let n : ℕ = c.in-Some.n in
    let is = some_told s n (sym c.in-Some.is ∙ told (goal.at.returns c).After-payload_length) in
    let payload : c.part.result.now ≡ payload_of s = c.part.ensures.bytes ∙ ap (λ (l : List ℕ). part payload_at n l) c.slot-slot.ensures
    ∙ ap (λ (k : ℕ). part payload_at k s) (sym is.1) in
    patch_as (length a.page.now) a.areas.patch.now full a.block a.base.now a.page.now c.part.result.now c.read_patch.result c.read_patch.new.page
    is.0 payload (base_some (length a.page.now) a.base.now (λ q. omega (arith, c.requires.0, c.requires.1, a.areas.sized.0))) c.read_patch.ensures
