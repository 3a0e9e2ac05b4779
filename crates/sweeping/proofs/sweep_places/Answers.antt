use mathlib.Core.Path.{sym}
use Rattle.sweeping.specs.Parts.{marked}
use Rattle.sweeping.specs.ZeroedLaws.{zeroed_none}
use Rattle.sweeping.proofs.SweepTold.{place_swept}
use Rattle.sweeping.proofs.sweep_places.Goals as goal

pub loop-block-init : goal.loop-block-init
loop-block-init c =
    let a = c.args in
    sym (zeroed_none (marked a.patch.now) a.frame.size a.full.now)

pub loop-block-preserved : goal.loop-block-preserved
loop-block-preserved c =
    let a = c.args in
    let l = c.loop-block in
    let now = c.sweep_place in
    place_swept (marked a.patch.now) a.frame.size a.full.now l.full now.new.full l.block l.invariant now.ensures
