use Rattle.std.specs.Prelude.{ℕ, ◌≡◌, ◌+◌, true, List, length, cond, Some, None}
use Rattle.std.proofs.Common.{arith, sym, ap, ◌∙◌}
use Rattle.layout.specs.Exits.{left_with}
use Rattle.layout.specs.Sizes.{page_size, payload_at}
use Rattle.layout.specs.Refusals.{first_of}
use Rattle.layout.specs.Lengths.{blocks_in, patch_fits}
use Rattle.headers.specs.Headers.{patch_head_rows}
use Rattle.slots.specs.Slots.{is_patch, payload_length}
use Rattle.slots.specs.StateLaws.{none_told, some_told}
use Rattle.store.specs.declared.Place.{Place}
use Rattle.store.specs.Block.{slot_of}
use Rattle.store.specs.ShowLaws.{show_block, show_slot, show_done, opened_wrong, opened_alone}
use Rattle.store.proofs.show.find_payload.Goals as goal
use Rattle.store.proofs.show.find_payload.Goals.{In_ok-opened, After-payload_length}

placed : {x y n m : ℕ} → x ≡ y → n ≡ m → ◌≡◌ {A = Place} (record { at = x + payload_at; len = n }) (record { at = y + payload_at; len = m })
placed e f = cc

-- where the frame is opened, the patch area is sound and has n blocks
opened : (c : In_ok-opened)
    → let p : List ℕ = c.args.patch.now in
    (patch_fits page_size (length p) ≡ true) × (first_of (patch_head_rows page_size p) ≡ 0) × (c.in_ok-opened.opened.n ≡ blocks_in (length p))
opened c = opened_alone page_size c.args.patch.now c.in_ok-opened.opened c.in_ok-opened.ensures

-- the payload's length is told of the block's slot
told : (c : After-payload_length)
    → let s : List ℕ = slot_of c.args.patch.now c.args.block in
    c.payload_length.result ≡ cond (is_patch s) (Some (payload_length s)) None
told c =
    c.payload_length.ensures ∙ ap (λ (l : List ℕ). cond (is_patch l) (Some (payload_length l)) None) c.slot.ensures

pub returns-in_err-opened : goal.returns-in_err-opened
returns-in_err-opened c =
    rw (left_with c.from_residual.ensures) (opened_wrong page_size c.args.patch.now c.args.block c.in_err-opened.field-0.0 c.in_err-opened.ensures)

pub returns-then-opened-block : goal.returns-then-opened-block
returns-then-opened-block c =
    let o = opened (goal.at.returns-then-opened-block c).In_ok-opened in
    show_block page_size c.args.patch.now c.args.block o.0 o.1 (omega (arith, o.2, c.if-opened-block.true))

pub returns-in_default : goal.returns-in_default
returns-in_default c =
    let g = goal.at.returns-in_default c in
    let a = c.args in
    let o = opened g.In_ok-opened in
    show_slot page_size a.patch.now a.block o.0 o.1 (omega (arith, o.2, c.if-opened-block.false))
    (none_told (slot_of a.patch.now a.block) (sym c.in_default.is ∙ told g.After-payload_length))

pub returns : goal.returns
returns c =
    let g = goal.at.returns c in
    let a = c.args in
    let o = opened g.In_ok-opened in
    let t = some_told (slot_of a.patch.now a.block) c.in-Some.len (sym c.in-Some.is ∙ told g.After-payload_length) in
    rw (← show_done page_size a.patch.now a.block o.0 o.1 (omega (arith, o.2, c.if-opened-block.false)) t.0) (placed c.slot_at-at.ensures (sym t.1))
