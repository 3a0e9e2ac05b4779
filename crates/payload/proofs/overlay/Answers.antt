use Prim.Native.Nat.{ℕ}
use native.Mathlib.Omega.{arith}
use mathlib.Core.Path.{◌∙◌, ap}
use Rattle.payload.specs.Entries.{payload_stream, applied}
use Rattle.payload.proofs.Front.{applied_front}
use Rattle.payload.proofs.overlay.Goals as goal

pub returns : goal.returns
returns c =
    let page = c.args.page.now in
    applied_front c.min-end.result page c.args.payload.now c.lay.new.page (omega (arith, c.min-end.ensures)) c.lay.ensures
    ∙ ap (λ (n : ℕ). applied page (payload_stream n c.args.payload.now)) c.min-end.ensures
