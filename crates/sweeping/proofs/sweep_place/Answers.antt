use mathlib.Core.Path.{sym, ◌∙◌}
use Rattle.sweeping.proofs.SweepTold.{place_filled}
use Rattle.sweeping.proofs.sweep_place.Goals as goal

pub returns : goal.returns
returns c =
    let a = c.args in
    rw (sym c.is_full.ensures ∙ c.if-is_full.false)
    (place_filled a.size a.full.now a.block c.page_at-at.result c.fill.new.dst c.page_at-at.ensures c.requires.place_within
    c.fill.ensures)
