use Rattle.writer.proofs.Writing.{differs_cut}
use Rattle.writer.proofs.stream_of.Goals as goal

pub returns : goal.returns
returns c =
    let a = c.args in
    differs_cut a.base.now a.page.now c.of.result.base.now c.of.result.page.now a.room.now c.stream.new.room c.stream.result
    c.of.ensures.0 c.of.ensures.1
    c.stream.ensures
