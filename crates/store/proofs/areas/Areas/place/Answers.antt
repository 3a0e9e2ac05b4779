use Rattle.std.specs.Prelude.{ℕ, ◌≡◌, ◌+◌, ◌≤◌, length}
use Rattle.std.proofs.Common.{arith, ap, ◌∙◌}
use Rattle.span.specs.Bytes.{part}
use Rattle.span.specs.Laws.{part_length}
use Rattle.layout.specs.Sizes.{page_at}
use Rattle.layout.specs.Lengths.{blocks_in}
use Rattle.store.specs.Block.{place_of}
use Rattle.store.specs.FrameLaws.{places}
use Rattle.store.proofs.areas.Areas.place.Goals as goal

pub returns-clause-some : goal.returns-clause-some
unfolding place_of
returns-clause-some c =
    let s = c.args.self in
    let b = c.args.block in
    let P : ℕ = s.frame.size in
    let fits : page_at P b + P ≤ length s.full.now =
    places P (blocks_in (length s.patch.now)) s.full.now s.sized.0 s.full_fit b (omega (arith, c.if-m-block.false, s.places)) in
    let is : c.part.result.now ≡ part (page_at P b) P s.full.now = c.part.ensures.bytes ∙ ap (λ (k : ℕ). part k P s.full.now) c.page_at.ensures in
    (c.if-m-block.false, is, ap length is ∙ part_length (page_at P b) P s.full.now fits)
