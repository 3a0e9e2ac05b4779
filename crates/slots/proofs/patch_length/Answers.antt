use Rattle.std.proofs.Common.{ℕ, ◌+◌, ◌-◌, List, Bool, true, false, cond, ◌&&◌, ◌≡◌, ◌∙◌, sym, ap, arith}
use Rattle.std.proofs.Common.{get_or, eq-eqb, ne_eqb, Some, None, eqb, refl}
use Rattle.std.specs.Bool.{then_some}
use Rattle.std.proofs.Math.Bool.{and_assoc}
use Rattle.slots.specs.Slots.{is_patch, payload_length}
use Rattle.slots.specs.SlotLaws.{patch_over, patch_under, patch_test}
use Rattle.layout.specs.Sizes.{room, payload_at}
use Rattle.span.specs.Bytes.{zeros, part, same}
use Rattle.slots.proofs.patch_length.Goals as goal
use Rattle.slots.proofs.patch_length.Goals.{then-n-eq0-via-then-n-eq0, then-n-eq0-via-else-n-eq0+then-n-gt-ROOM}
use Rattle.slots.proofs.patch_length.Goals.{then-slot-eq-PATCH_FLAGS, else-slot-eq-PATCH_FLAGS, then-zero_part, else-zero_part}

pub returns-then-n-eq0 : goal.returns-then-n-eq0
returns-then-n-eq0 c =
    let s : List ℕ = c.args.slot.now in
    let n = c.stored_length-n.ensures in
    elim c.then-n-eq0.branch [
      | then-n-eq0-via-then-n-eq0 w ↦ rw (patch_under s (omega (arith, n)))
      | then-n-eq0-via-else-n-eq0+then-n-gt-ROOM w ↦ rw (patch_over s (omega (arith, n)))
    ]

told : (t : Bool) (n m : ℕ) → n ≡ m → then_some t n ≡ cond t (Some m) None
told true n m e = ap Some e
told false n m e = refl

pub returns : goal.returns
returns c =
    let s : List ℕ = c.args.slot.now in
    let n : ℕ = c.stored_length-n.result in
    let known = c.type_inv.slot in
    let size : payload_length s ≡ n = sym c.stored_length-n.ensures in
    let test : is_patch s
    ≡ (eqb (get_or s 1 0) 1 && (same (part 4 4 s) (zeros 4) && same (part (payload_at + n) (room - n) s) (zeros (room - n)))) =
    patch_test s n c.requires.0 c.requires.1 size (omega (arith, known 2)) (omega (arith, known 3)) (omega arith) (omega arith) in
    let value : c.if-slot-eq-PATCH_FLAGS.value ≡ (eqb (get_or s 1 0) 1 && same (part 4 4 s) (zeros 4)) =
    elim c.if-slot-eq-PATCH_FLAGS.branch [
      | then-slot-eq-PATCH_FLAGS w ↦ rw (eq-eqb (get_or s 1 0) 1 w.if-slot-eq-PATCH_FLAGS.true) (w.value-is ∙ w.zero_part.ensures)
      | else-slot-eq-PATCH_FLAGS w ↦
          let e : eqb (get_or s 1 0) 1 ≡ false = ne_eqb (get_or s 1 0) 1 w.if-slot-eq-PATCH_FLAGS.false in
          rw e (w.value-is ∙ e)
    ] in
    let sound : c.if-zero_part.sound ≡ (c.if-slot-eq-PATCH_FLAGS.value && same (part (payload_at + n) (room - n) s) (zeros (room - n))) =
    elim c.if-zero_part.branch [
      | then-zero_part w ↦ rw w.if-zero_part.true (w.sound-is ∙ w.zero_part-sound.ensures)
      | else-zero_part w ↦ rw w.if-zero_part.false (w.sound-is ∙ w.if-zero_part.false)
    ] in
    rw (c.then_some.ensures, sound, value, and_assoc, test) (told _ n (payload_length s) (sym size))
