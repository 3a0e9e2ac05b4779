use Rattle.replay.specs.Laws.{Going}
use Rattle.layout.specs.Sizes.{page_size}
use lib.ListN.{length}
use mathlib.Core.Path.{◌≡◌}
use Rattle.replay.proofs.run.Given as goal

abbrev pub invariant-loop-i : goal.invariant-loop-i
invariant-loop-i g l =
    let L = g.L.Lent in
    Going L.takes L.does page_size (L.state l.initial.lent) l.numbers l.cuts l.bases l.pages l.initial.marks l.i l.accepted (L.state l.lent) l.marks
    × (L.names l.lent ≡ L.names l.initial.lent) × (length l.marks ≡ length l.initial.marks)
