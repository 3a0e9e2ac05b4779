use Rattle.std.specs.Prelude.{ℕ, List, ◌≡◌}
use Rattle.std.proofs.Common.{ap, length-take}
use borrow.Author.Rules.{rules}
use Rattle.stream.specs.Steps.{Compares}
use Rattle.stream.specs.declared.Compared.{Compared}
use native.Mathlib.Omega.{arith}
use mir.ValLaws.{to_z-of_z}
use mir.Val.{to_z, of_z}
use mir.Syntax.{w32}
use Rattle.span.specs.Bytes.{zeros, part}
use Rattle.span.specs.Laws.{zeros_length}
use Rattle.layout.specs.Numbers.{kind_number}
use Rattle.layout.specs.NumberLaws.{kind_one}
use Rattle.layout.specs.declared.Kind.TheVariants.{Patch}
use Rattle.stream.specs.Laws.{patch_fits_at}
use Rattle.stream.proofs.Answers.{compares_kept, compares_patch}
use Rattle.stream.proofs.compare_to.Goals as goal
use Rattle.stream.proofs.compare_to.Goals.{in-Patch, in_default}

pub slice_bounds-room-end : goal.slice_bounds-room-end
slice_bounds-room-end c = omega (arith, patch_fits_at c.stream_of-d.result.length c.in-Patch.ensures, c.stream_of-d.auto.room)

pub slice_bounds-copy-end : goal.slice_bounds-copy-end
slice_bounds-copy-end c =
    omega (
      arith,
      patch_fits_at c.stream_of-d.result.length c.in-Patch.ensures,
      c.stream_of-d.auto.room,
      length-take c.stream_of-d.result.length c.stream_of-d.new.room,
    )

-- the same with another length that is equal: so the answer goes by what the length is and not by how it is written
lengths_told : (base page room : List ℕ) (f : Compared) (l : ℕ) (after : List ℕ) → l ≡ f.length → Compares base page room f after
    → Compares base page room (record { kind = f.kind; length = l; entries = f.entries; last = f.last }) after
lengths_told base page room f l after e h = rw e h

pub returns : goal.returns
unfolding zeros part
returns c =
    let a = c.args in
    let d = c.stream_of-d in
    let k = c.kind_for-kind in
    let z = to_z-of_z w32 d.result.last (record { sfits = d.type_inv.1.1.1.1.0.1 }) in
    elim c.match-kind.branch [
      | in-Patch w ↦
          rw w.payload-is
          (lengths_told _ _ _ _ _ _ (search rules)
          (compares_patch a.base.now a.page.now (zeros 504) d.new.room a.payload.now d.result k.result (to_z w32 (of_z w32 d.result.last)) z
          c.requires.0 d.ensures k.ensures w.copy.new.dst (zeros_length 504) c.requires.1 (ap kind_number w.in-Patch.is) w.copy.ensures))
      | in_default w ↦
          rw w.payload-is
          (lengths_told _ _ _ _ _ _ (search rules)
          (compares_kept a.base.now a.page.now (zeros 504) d.new.room a.payload.now d.result k.result (to_z w32 (of_z w32 d.result.last)) z
          c.requires.0 d.ensures k.ensures (λ q. w.in_default.not-Patch (kind_one k.result Patch q))))
    ]
