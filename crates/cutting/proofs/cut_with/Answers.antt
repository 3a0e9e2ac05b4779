use Prim.Native.Nat.{ℕ}
use native.Mathlib.Omega.{arith}
use mathlib.Core.Path.{ap, ◌∙◌}
use Rattle.layout.specs.Exits.{left_with}
use Rattle.span.specs.Bytes.{emptied}
use Rattle.layout.specs.Sizes.{page_size}
use Rattle.cutting.proofs.CutTold.{told_refused, told_above, told_within}
use Rattle.cutting.proofs.cut_with.Goals as goal

pub returns-in_err-frame : goal.returns-in_err-frame
returns-in_err-frame c =
    let a = c.args in
    let e = told_refused page_size a.buffer_fits a.patch.now a.full.now a.k c.in_err-frame.field-0.0 c.in_err-frame.ensures in
    rw (left_with c.from_residual.ensures) (record { numbers = rw e; patch_bytes = rw e; full_bytes = rw e })

pub returns-then-frame-k : goal.returns-then-frame-k
returns-then-frame-k c =
    let a = c.args in
    let e =
    told_above page_size a.buffer_fits a.patch.now a.full.now a.k c.in_ok-frame.frame c.in_ok-frame.ensures (omega (arith, c.if-frame-k.true)) in
    record { numbers = rw e; patch_bytes = rw e; full_bytes = rw e }

pub returns : goal.returns
returns c =
    let a = c.args in
    let f = c.in_ok-frame.frame in
    let e = told_within page_size a.buffer_fits a.patch.now a.full.now a.k f c.in_ok-frame.ensures c.if-frame-k.false in
    record {
      numbers = rw e;
      patch_bytes = rw e (c.fill_from.ensures ∙ ap (λ (k : ℕ). emptied k a.patch.now) c.slot_at.ensures);
      full_bytes = rw e (c.fill_from-2.ensures ∙ ap (λ (k : ℕ). emptied k a.full.now) c.page_at.ensures);
    }
