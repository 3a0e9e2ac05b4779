use mathlib.Core.Path.{◌∙◌}
use Rattle.layout.specs.Exits.{left_with}
use Rattle.layout.specs.Sizes.{page_size}
use Rattle.cutting.proofs.HighestTold.{alone_refused, alone_frame}
use Rattle.cutting.proofs.highest.highest.Goals as goal

pub returns-in_err-frame : goal.returns-in_err-frame
returns-in_err-frame c =
    rw (left_with c.from_residual.ensures)
    (record { numbers = alone_refused page_size c.args.patch.now c.in_err-frame.field-0.0 c.in_err-frame.ensures })

pub returns : goal.returns
returns c =
    record { numbers = c.scan.ensures ∙ alone_frame page_size c.args.patch.now c.in_ok-frame.frame c.in_ok-frame.ensures }
