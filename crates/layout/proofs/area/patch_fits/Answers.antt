use Prim.Native.Nat.{ℕ}
use mathlib.Core.Path.{◌≡◌, sym, ap, ◌∙◌}
use native.Mathlib.Omega.{arith}
use mathlib.Core.Bool.{Bool, true, false, ◌&&◌, and-true, and-false}
use lib.Dec.{eqb, leb}
use borrow.Author.Tests.{ne_eqb, le-leb, lt-leb}
use Rattle.layout.specs.Sizes.{slot_at, blocks_at_most}
use Rattle.layout.specs.Lengths.{patch_fits, blocks_in}
use Rattle.layout.proofs.area.patch_fits.Goals as goal

pub returns-then-patch_length-lt-PATCH_HEAD : goal.returns-then-patch_length-lt-PATCH_HEAD
unfolding patch_fits blocks_in
returns-then-patch_length-lt-PATCH_HEAD c =
    let l : ℕ = c.args.patch_length in
    rw (ne_eqb l (slot_at (blocks_in l)) (λ q. omega arith))

pub returns-then-most_blocks-n : goal.returns-then-most_blocks-n
unfolding patch_fits
returns-then-most_blocks-n c =
    let a = c.args in
    let l : ℕ = a.patch_length in
    let f : leb (blocks_in l) (blocks_at_most a.size) ≡ false =
    lt-leb (blocks_in l) (blocks_at_most a.size) (omega (arith, c.most_blocks.ensures, c.blocks-n.ensures)) in
    sym (ap (λ (t : Bool). eqb l (slot_at (blocks_in l)) && t) f ∙ and-false (eqb l (slot_at (blocks_in l))))

pub returns : goal.returns
unfolding patch_fits
returns c =
    let a = c.args in
    let l : ℕ = a.patch_length in
    let f : leb (blocks_in l) (blocks_at_most a.size) ≡ true =
    le-leb (blocks_in l) (blocks_at_most a.size) (omega (arith, c.most_blocks.ensures, c.blocks-n.ensures)) in
    ap (λ (n : ℕ). eqb l n) c.slot_at.ensures
    ∙ ap (λ (n : ℕ). eqb l (slot_at n)) c.blocks-n.ensures
    ∙ sym (ap (λ (t : Bool). eqb l (slot_at (blocks_in l)) && t) f ∙ and-true (eqb l (slot_at (blocks_in l))))
