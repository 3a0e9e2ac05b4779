use native.Mathlib.Omega.{arith}
use Rattle.layout.specs.Exits.{left_with}
use Rattle.layout.specs.Sizes.{page_size}
use Rattle.sweeping.proofs.SweepTold.{told_refused, told_places, told_faulty, told_swept}
use Rattle.sweeping.proofs.sweep.Goals as goal

pub returns-in_err-frame : goal.returns-in_err-frame
returns-in_err-frame c =
    let a = c.args in
    let e = told_refused page_size a.patch.now a.full.now c.in_err-frame.field-0.0 c.in_err-frame.ensures in
    rw (left_with c.from_residual.ensures) (record { numbers = rw e; full_bytes = rw e })

pub returns-in_err-check_slots : goal.returns-in_err-check_slots
returns-in_err-check_slots c =
    let a = c.args in
    let e = told_faulty page_size a.patch.now a.full.now c.in_ok-frame.frame c.in_ok-frame.ensures c.in_err-check_slots.field-0.0
    c.in_err-check_slots.ensures in
    rw (left_with c.from_residual-in_err-check_slots.ensures) (record { numbers = rw e; full_bytes = rw e })

pub sweep_places-requires : goal.sweep_places-requires
sweep_places-requires c =
    let a = c.args in
    told_places page_size a.patch.now a.full.now c.in_ok-frame.frame c.in_ok-frame.ensures (omega arith)

pub returns : goal.returns
returns c =
    let a = c.args in
    let e = told_swept page_size a.patch.now a.full.now c.in_ok-frame.frame c.in_ok-frame.ensures c.in_ok-check_slots.ensures in
    record { numbers = rw e; full_bytes = rw e c.sweep_places.ensures }
