use Rattle.span.specs.Ascii.{ascii}
use Rattle.info.specs.Text.{decimal, number_line}
use Rattle.info.proofs.Words.{put_then}
use mathlib.Core.List.{◌++◌}
use Rattle.info.proofs.text.put_line.Goals as goal

pub returns-clause-bytes : goal.returns-clause-bytes
unfolding number_line
returns-clause-bytes c =
    let a = c.args in
    put_then a.word.now (decimal a.n ++ ascii "\n") c.put_word-a.ensures
    (put_then (decimal a.n) (ascii "\n") c.put_decimal-b.ensures.bytes c.put_word.ensures)
