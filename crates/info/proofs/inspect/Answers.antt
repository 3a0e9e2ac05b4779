use mathlib.Core.Path.{refl, sym, ap, ◌∙◌}
use mir.Syntax.{w32}
use mir.Val.{to_z, of_z, SFits}
use mir.ValLaws.{to_z-of_z}
use borrow.Author.Rules.{rules}
use Rattle.std.specs.Prelude.{Ok}
use Rattle.layout.specs.Exits.{left_with}
use Rattle.slots.specs.Slots.{state_numbers}
use Rattle.slots.specs.StateLaws.{refused_slot}
use Rattle.layout.specs.Sizes.{page_size}
use Rattle.info.proofs.Told.{broken_told, patch_told}
use Rattle.info.specs.InfoLaws.{info_length, info_slot, info_bare}
use Rattle.info.proofs.inspect.Goals as goal

pub returns-then-bytes-ne-SLOT : goal.returns-then-bytes-ne-SLOT
returns-then-bytes-ne-SLOT c = record { numbers = sym (info_length page_size c.args.bytes.now c.if-bytes-ne-SLOT.true) }

pub returns-in_err-slot_state : goal.returns-in_err-slot_state
returns-in_err-slot_state c =
    let bytes = c.args.bytes.now in
    let u = refused_slot bytes c.in_err-slot_state.field-0.0 c.in_err-slot_state.ensures in
    rw (left_with c.from_residual.ensures, u.0) (record { numbers = sym (info_slot page_size bytes c.if-bytes-ne-SLOT.false u.1) })

pub returns-in-Empty : goal.returns-in-Empty
returns-in-Empty c =
    let bytes = c.args.bytes.now in
    let is = sym c.in_ok-slot_state.ensures ∙ ap (λ s. state_numbers (Ok s)) c.in-Empty.is in
    rw c.bare.ensures (record { numbers = sym (info_bare page_size bytes c.if-bytes-ne-SLOT.false 0 is refl) })

pub returns-in-Full : goal.returns-in-Full
returns-in-Full c =
    let bytes = c.args.bytes.now in
    let is = sym c.in_ok-slot_state.ensures ∙ ap (λ s. state_numbers (Ok s)) c.in-Full.is in
    rw c.bare-in-Full.ensures (record { numbers = sym (info_bare page_size bytes c.if-bytes-ne-SLOT.false 2 is refl) })

pub returns-in-Err : goal.returns-in-Err
returns-in-Err c =
    let bytes = c.args.bytes.now in
    let is = sym c.in_ok-slot_state.ensures ∙ ap (λ s. state_numbers (Ok s)) c.in-Patch.is in
    record {
      numbers =
          sym
          (broken_told page_size bytes c.part-payload.result.now c.in-Patch.length c.if-bytes-ne-SLOT.false is
          c.part-payload.ensures.bytes c.in-Err.field-0 c.in-Err.ensures);
    }

pub returns-in-Ok : goal.returns-in-Ok
returns-in-Ok c =
    let bytes = c.args.bytes.now in
    let is = sym c.in_ok-slot_state.ensures ∙ ap (λ s. state_numbers (Ok s)) c.in-Patch.is in
    let s = c.in-Ok.sound in
    let fits : SFits w32 s.last = search rules in
    record {
      numbers =
          sym
          (patch_told page_size bytes c.part-payload.result.now c.in-Patch.length c.if-bytes-ne-SLOT.false is
          c.part-payload.ensures.bytes s (to_z w32 (of_z w32 s.last)) c.in-Ok.ensures (to_z-of_z w32 s.last fits));
    }
