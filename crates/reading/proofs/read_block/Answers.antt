use Rattle.std.specs.Prelude.{ℕ, ◌≡◌, List}
use Rattle.std.proofs.Common.{arith, sym, ap, ◌∙◌, subst}
use Rattle.layout.specs.Exits.{left_with}
use Rattle.span.specs.Bytes.{part}
use Rattle.layout.specs.Sizes.{payload_at}
use Rattle.slots.specs.Slots.{slot_numbers, sound_slot, payload_of}
use Rattle.slots.specs.SlotLaws.{told_patch}
use Rattle.slots.specs.StateLaws.{refused_slot}
use Rattle.store.specs.Block.{slot_of}
use Rattle.stream.specs.Calls.{page_of}
use Rattle.stream.specs.Laws.{base_some}
use Rattle.reading.specs.Read.{read_done, read_refused}
use Rattle.reading.specs.Parts.{slot_outcome, PatchRead}
use Rattle.reading.specs.ReadLaws.{slot_unsound, slot_empty, patch_read}
use Rattle.reading.specs.MappedLaws.{place_as, kind_block}
use Rattle.reading.proofs.Pages.{copied_page}
use Rattle.reading.proofs.read_block.Goals as goal

pub returns-in_err-slot_state : goal.returns-in_err-slot_state
returns-in_err-slot_state c =
    let a = c.args in
    let s = a.areas in
    let r = c.in_err-slot_state.field-0.0 in
    let u = refused_slot (slot_of s.patch.now a.block) r (c.in_err-slot_state.ensures ∙ ap slot_numbers c.slot-slot.ensures) in
    let e : slot_outcome s.frame.size s.patch.now s.full.now a.block a.base.now a.page.now ≡ read_refused 6 0 a.page.now =
    slot_unsound s.frame.size s.patch.now s.full.now a.block a.base.now a.page.now u.1 in
    rw (left_with c.from_residual.ensures, u.0) (record { numbers = rw e; bytes = rw e })

pub returns-in-Empty : goal.returns-in-Empty
returns-in-Empty c =
    let a = c.args in
    let s = a.areas in
    let P : ℕ = s.frame.size in
    let told : slot_numbers (slot_of s.patch.now a.block) ≡ sound_slot 0 0 =
    sym ((rw c.in-Empty.is at c.in_ok-slot_state.ensures) ∙ ap slot_numbers c.slot-slot.ensures) in
    let e : slot_outcome P s.patch.now s.full.now a.block a.base.now a.page.now ≡ read_done 0 (page_of P a.base.now) =
    slot_empty P s.patch.now s.full.now a.block a.base.now a.page.now told in
    record {
      numbers = rw e;
      bytes =
          rw e
          (copied_page P a.page.now a.base.now c.copy.new.dst c.requires.1 c.requires.0 c.copy.ensures
          ∙ sym (base_some P a.base.now (λ q. omega (arith, c.requires.0, s.sized.0))));
    }

pub returns-in-Patch : goal.returns-in-Patch
unfolding payload_of
returns-in-Patch c =
    let a = c.args in
    let s = a.areas in
    let P : ℕ = s.frame.size in
    let n : ℕ = c.in-Patch.n in
    let own : List ℕ = slot_of s.patch.now a.block in
    let told : slot_numbers own ≡ sound_slot 1 n = sym ((rw c.in-Patch.is at c.in_ok-slot_state.ensures) ∙ ap slot_numbers c.slot-slot.ensures) in
    let payload : c.part.result.now ≡ payload_of own = c.part.ensures.bytes ∙ ap (λ (l : List ℕ). part payload_at n l) c.slot-slot.ensures
    ∙ ap (λ (k : ℕ). part payload_at k own) (sym (told_patch own n (sym told)).1) in
    patch_read P s.patch.now s.full.now a.block a.base.now a.page.now n c.part.result.now c.read_patch.result c.read_patch.new.page told payload
    (base_some P a.base.now (λ q. omega (arith, c.requires.0, s.sized.0)))
    (subst (λ (k : ℕ). PatchRead k a.base.now c.part.result.now a.page.now c.read_patch.result c.read_patch.new.page) c.requires.1
    c.read_patch.ensures)

pub returns-in-Full : goal.returns-in-Full
returns-in-Full c =
    let a = c.args in
    let s = a.areas in
    let told : slot_numbers (slot_of s.patch.now a.block) ≡ sound_slot 2 0 =
    sym ((rw c.in-Full.is at c.in_ok-slot_state.ensures) ∙ ap slot_numbers c.slot-slot.ensures) in
    let r = c.read_place in
    kind_block s.frame.size s.patch.now s.full.now a.block a.base.now a.page.now 2 0 r.result r.new.page told
    (place_as s.frame.size s.patch.now s.full.now a.block a.base.now a.page.now r.result r.new.page r.ensures)
