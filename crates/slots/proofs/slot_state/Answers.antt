use Rattle.std.proofs.Common.{ℕ, List, ◌≡◌, ◌∙◌, sym, ap, arith, rules, length, get_or, None}
use Rattle.std.specs.Option.{MatchOption, IsSomeAnd}
use Rattle.layout.specs.Numbers.{kind_number}
use Rattle.layout.specs.Sizes.{slot_size}
use Rattle.slots.specs.SlotLaws.{plain_numbers, plain_state, patch_state}
use Rattle.slots.specs.declared.SlotState.TheVariants.{Empty, Patch, Full}
use Rattle.slots.proofs.slot_state.Goals as goal
use Rattle.slots.proofs.slot_state.Goals.{in-Empty, in-Patch, in-Full}

pub returns : goal.returns
unfolding plain_numbers
returns c =
    let s : List ℕ = c.args.slot.now in
    let l : length s ≡ slot_size = c.if-slot-ne-SLOT.false in
    let k : get_or s 0 0 ≡ kind_number c.in_ok-try_from.field-0 = sym c.from.ensures ∙ sym c.in_ok-try_from.ensures in
    rw c.ok_or.ensures.value
    (elim c.match-branch-2.branch [
      | in-Empty w ↦
          let e : get_or s 0 0 ≡ 0 = k ∙ ap kind_number w.in-Empty.is in
          rw (w.state-is, w.then_some-state.ensures, w.rest_is_zero.ensures) (plain_state s l (λ q. omega arith) Empty (rw e))
      | in-Patch w ↦
          let m : MatchOption w.patch_length.result (w.map-state.result ≡ None) (λ n. IsSomeAnd w.map-state.result (λ p. p ≡ Patch n)) =
          search rules in
          rw w.state-is
          (patch_state s l (k ∙ ap kind_number w.in-Patch.is) w.patch_length.result w.map-state.result w.patch_length.ensures m)
      | in-Full w ↦
          let e : get_or s 0 0 ≡ 2 = k ∙ ap kind_number w.in-Full.is in
          rw (w.state-is, w.then_some-state-in-Full.ensures, w.rest_is_zero-in-Full.ensures)
          (plain_state s l (λ q. omega arith) Full (rw e))
    ])
