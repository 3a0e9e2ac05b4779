use Rattle.std.proofs.Common.{sym}
use Rattle.layout.specs.Exits.{left_with}
use Rattle.store.specs.JudgeLaws.{judge_length, judge_slot, judge_done}
use Rattle.slots.specs.StateLaws.{refused_slot}
use Rattle.store.proofs.judge.judge.Goals as goal

pub returns-then-slot-ne-SLOT : goal.returns-then-slot-ne-SLOT
returns-then-slot-ne-SLOT c = record { numbers = sym (judge_length c.args.slot.now c.if-slot-ne-SLOT.true) }

pub returns-in_err-slot_state : goal.returns-in_err-slot_state
returns-in_err-slot_state c =
    let s = c.args.slot.now in
    let u = refused_slot s c.in_err-slot_state.field-0.0 c.in_err-slot_state.ensures in
    rw (left_with c.from_residual.ensures, u.0) (record { numbers = sym (judge_slot s c.if-slot-ne-SLOT.false u.1) })

pub returns-in-Empty : goal.returns-in-Empty
returns-in-Empty c = record {
  numbers = sym (judge_done c.args.slot.now 0 0 c.if-slot-ne-SLOT.false (sym (rw c.in-Empty.is at c.in_ok-slot_state.ensures)));
}

pub returns-in-Patch : goal.returns-in-Patch
returns-in-Patch c = record {
  numbers = sym (judge_done c.args.slot.now 1 c.in-Patch.n c.if-slot-ne-SLOT.false (sym (rw c.in-Patch.is at c.in_ok-slot_state.ensures)));
}

pub returns-in-Full : goal.returns-in-Full
returns-in-Full c = record {
  numbers = sym (judge_done c.args.slot.now 2 0 c.if-slot-ne-SLOT.false (sym (rw c.in-Full.is at c.in_ok-slot_state.ensures)));
}
