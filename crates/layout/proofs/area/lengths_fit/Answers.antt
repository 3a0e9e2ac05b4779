use Rattle.std.specs.Prelude.{◌≤◌}
use Rattle.std.proofs.Common.{arith, sym}
use Rattle.layout.specs.Sizes.{blocks_at_most}
use Rattle.layout.specs.Lengths.{blocks_in}
use Rattle.layout.specs.LengthLaws.{patch_fits_is, most_blocks}
use Rattle.layout.proofs.area.lengths_fit.Goals as goal

pub overflow_cast-blocks : goal.overflow_cast-blocks
overflow_cast-blocks c =
    let a = c.args in
    let w : blocks_in a.patch_length ≤ blocks_at_most a.size = (patch_fits_is a.size a.patch_length (sym c.if-patch_fits.ensures)).1 in
    omega (arith, most_blocks a.size, w, c.blocks-then-patch_fits.ensures)
