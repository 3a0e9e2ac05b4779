use Rattle.info.proofs.Words.{number_put}
use Rattle.info.proofs.text.put_decimal.Goals as goal

pub returns : goal.returns
returns c =
    let a = c.args in
    let told = c.decimal-k in
    let put = c.put_word in
    let q =
    number_put a.out.now put.new.out a.at a.n told.result put.result told.new.out c.ranges.n.fits
    told.ensures.len told.ensures.digits told.ensures.in_bounds.1 put.ensures in
    record { bytes = q.0; short = q.1 }
