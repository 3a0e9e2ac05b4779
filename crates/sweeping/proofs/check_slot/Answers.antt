use native.Mathlib.Omega.{arith}
use mathlib.Core.Path.{◌≡◌, refl, sym, ap, ◌∙◌}
use mathlib.Core.Logic.{inl, inr}
use Rattle.std.specs.Prelude.{Ok}
use Rattle.layout.specs.Exits.{left_with}
use Rattle.slots.specs.Slots.{slot_numbers, state_numbers}
use Rattle.slots.specs.StateLaws.{refused_slot}
use Rattle.slots.specs.declared.SlotState.{SlotState}
use Rattle.store.specs.Block.{slot_of}
use Rattle.sweeping.specs.SweepLaws.{fault_unsound, fault_none, fault_full, fault_other}
use Rattle.sweeping.proofs.check_slot.Goals as goal
use Rattle.sweeping.proofs.check_slot.Goals.{In_ok-state}

-- the slot's own numbers, by what it was found to be
state : (c : In_ok-state) (s : SlotState) → c.in_ok-state.field-0 ≡ s
    → let a = c.args in slot_numbers (slot_of a.patch.now a.block) ≡ state_numbers (Ok s)
state c s is = sym c.in_ok-state.ensures ∙ ap (λ (x : SlotState). state_numbers (Ok x)) is

pub returns-in_err-state : goal.returns-in_err-state
returns-in_err-state c =
    let a = c.args in
    let u = refused_slot (slot_of a.patch.now a.block) c.in_err-state.field-0.0 c.in_err-state.ensures in
    rw (left_with c.from_residual.ensures, u.0)
    (fault_unsound a.m a.patch.now a.block u.1)

pub returns-in-Empty : goal.returns-in-Empty
returns-in-Empty c =
    let a = c.args in
    elim c.in-Empty.is [
      | inl is ↦ fault_other a.m a.patch.now a.block 0 0 (state (goal.at.returns-in-Empty c).In_ok-state _ is) refl
      | inr (n, is) ↦ fault_other a.m a.patch.now a.block 1 n (state (goal.at.returns-in-Empty c).In_ok-state _ is) refl
    ]

pub returns-in-Full : goal.returns-in-Full
returns-in-Full c =
    let a = c.args in
    fault_full a.m a.patch.now a.block (state (goal.at.returns-in-Full c).In_ok-state _ c.in-Full.is) (omega (arith, c.if-block-m.true))

pub returns-in-Full-2 : goal.returns-in-Full-2
returns-in-Full-2 c =
    let a = c.args in
    fault_none a.m a.patch.now a.block (state (goal.at.returns-in-Full-2 c).In_ok-state _ c.in-Full.is) (omega (arith, c.if-block-m.false))
