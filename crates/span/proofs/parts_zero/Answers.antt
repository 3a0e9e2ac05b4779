use borrow.Author.Rules.{rules}
use Rattle.span.proofs.Zeros.{all_blank}
use Rattle.span.proofs.parts_zero.Goals as goal

pub returns : goal.returns
returns g c =
    let cut = c.chunks_exact.ensures in
    all_blank _ _ (λ x q k. search rules) (λ x q k. search rules) _ _ _ g.row.WIDTH c.args.s.now cut.size cut.rest c.all.ensures.ran
