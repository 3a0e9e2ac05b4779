use Rattle.store.specs.FrameLaws.{frame_is, frame_by}
use Rattle.layout.specs.Refusals.{or_else}
use Rattle.std.proofs.Common.{sym, ◌∙◌}
use Rattle.store.proofs.frame.check_frame.Goals as goal

pub returns-then-not-pages_fit : goal.returns-then-not-pages_fit
unfolding frame_by or_else
returns-then-not-pages_fit c =
    let a = c.args in
    rw (frame_is a.size a.patch.now a.full.now a.pages_fit a.buffer_fits, c.if-not-pages_fit.true)

pub returns-then-not-lengths_fit : goal.returns-then-not-lengths_fit
unfolding frame_by or_else
returns-then-not-lengths_fit c =
    let a = c.args in
    let f = c.lengths_fit in
    rw (
      frame_is a.size a.patch.now a.full.now a.pages_fit a.buffer_fits,
      c.if-not-pages_fit.false,
      (sym f.ensures ∙ c.if-not-lengths_fit.true),
    )

pub returns-then-not-buffer_fits : goal.returns-then-not-buffer_fits
unfolding frame_by or_else
returns-then-not-buffer_fits c =
    let a = c.args in
    let f = c.lengths_fit in
    rw (
      frame_is a.size a.patch.now a.full.now a.pages_fit a.buffer_fits,
      c.if-not-pages_fit.false,
      (sym f.ensures ∙ c.if-not-lengths_fit.false),
      c.if-not-buffer_fits.true,
    )

pub returns : goal.returns
unfolding frame_by or_else
returns c =
    let a = c.args in
    let f = c.lengths_fit in
    rw (
      frame_is a.size a.patch.now a.full.now a.pages_fit a.buffer_fits,
      c.if-not-pages_fit.false,
      (sym f.ensures ∙ c.if-not-lengths_fit.false),
      c.if-not-buffer_fits.false,
    ) c.check_headers.ensures
