use Prim.Native.Nat.{ℕ}
use native.Mathlib.Numerals.{add-one}
use mathlib.Core.Logic.{inl, inr}
use mathlib.Core.Path.{◌≡◌, sym, ap, ◌∙◌}
use Rattle.std.specs.Prelude.{Ok}
use Rattle.layout.specs.Exits.{left_with}
use Rattle.slots.specs.Slots.{slot_numbers, state_numbers}
use Rattle.slots.specs.StateLaws.{refused_slot}
use Rattle.slots.specs.declared.SlotState.{SlotState}
use Rattle.store.specs.Block.{slot_of}
use Rattle.cutting.specs.HighestLaws.{slot_unsound, slot_empty, slot_used}
use Rattle.cutting.proofs.highest.reaching.Goals as goal
use Rattle.cutting.proofs.highest.reaching.Goals.{In_ok-state}

-- the slot's own numbers, by what it was found to be
state : (c : In_ok-state) (s : SlotState) → c.in_ok-state.field-0 ≡ s
    → let a = c.args in slot_numbers (slot_of a.patch.now a.block) ≡ state_numbers (Ok s)
state c s is = sym c.in_ok-state.ensures ∙ ap (λ (x : SlotState). state_numbers (Ok x)) is

pub returns-in_err-state : goal.returns-in_err-state
returns-in_err-state c =
    let a = c.args in
    let u = refused_slot (slot_of a.patch.now a.block) c.in_err-state.field-0.0 c.in_err-state.ensures in
    rw (left_with c.from_residual.ensures, u.0)
    (slot_unsound a.patch.now a.block a.before u.1)

pub returns-in-Empty : goal.returns-in-Empty
returns-in-Empty c =
    let a = c.args in
    slot_empty a.patch.now a.block a.before (state (goal.at.returns-in-Empty c).In_ok-state _ c.in-Empty.is)

pub returns-in-Patch : goal.returns-in-Patch
returns-in-Patch c =
    let a = c.args in
    let sound = state (goal.at.returns-in-Patch c).In_ok-state in
    ap (λ (k : ℕ). record { number = 0; blocks = k }) (add-one a.block)
    ∙ elim c.in-Patch.is [
      | inl (n, is) ↦ slot_used a.patch.now a.block a.before 0 n (sound _ is)
      | inr is ↦ slot_used a.patch.now a.block a.before 1 0 (sound _ is)
    ]
