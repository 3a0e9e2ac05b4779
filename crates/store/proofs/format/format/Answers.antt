use Rattle.store.specs.Format.{format_outcome}
use Rattle.store.specs.FormatLaws.{format_refused, format_done, format_patch, format_full}
use Rattle.headers.specs.Fresh.{fresh_patch, fresh_full}
use Rattle.layout.specs.Sizes.{page_size}
use lib.ListN.{length}
use mathlib.Core.Path.{◌≡◌, ◌∙◌}
use Rattle.std.proofs.Common.{sym}
use Rattle.store.proofs.format.format.Goals as goal

pub returns-then-not-lengths_fit : goal.returns-then-not-lengths_fit
returns-then-not-lengths_fit c =
    let a = c.args in
    let f = c.lengths_fit in
    let e : format_outcome page_size a.patch.now a.full.now ≡ record { number = 2; patch = a.patch.now; full = a.full.now } =
    format_refused page_size a.patch.now a.full.now ((sym f.ensures ∙ c.if-not-lengths_fit.true)) in
    record { numbers = rw e; patch_bytes = rw e; full_bytes = rw e }

pub returns : goal.returns
returns c =
    let a = c.args in
    let f = c.lengths_fit in
    let fit = (sym f.ensures ∙ c.if-not-lengths_fit.false) in
    let e : format_outcome page_size a.patch.now a.full.now
    ≡ record { number = 0; patch = fresh_patch page_size (length a.patch.now); full = fresh_full page_size (length a.full.now) } =
    format_done page_size a.patch.now a.full.now fit in
    record {
      numbers = rw e;
      patch_bytes = rw e (c.begin_patch.ensures ∙ format_patch page_size a.patch.now a.full.now fit);
      full_bytes = rw e (c.begin_full.ensures ∙ format_full page_size a.patch.now a.full.now fit);
    }
