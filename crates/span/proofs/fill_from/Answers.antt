use Prim.Native.Nat.{ℕ, ◌-◌, min}
use native.Mathlib.Omega.{arith}
use mathlib.Core.Path.{◌≡◌, ap, ◌∙◌}
use mathlib.Core.List.{List, ◌++◌}
use lib.ListN.{length}
use Rattle.span.specs.Bytes.{zeros, part, emptied}
use Rattle.span.specs.Laws.{part_clamped, put_filled}
use Rattle.span.specs.EmptiedLaws.{emptied_is}
use Rattle.span.proofs.fill_from.Goals as goal

pub returns : goal.returns
unfolding emptied
returns c =
    let at = c.args.at in
    let d : List ℕ = c.args.dst.now in
    let start : ℕ = c.min-start.result in
    let n : ℕ = length d - start in
    let e : start ≡ min at (length d - 0) = omega arith in
    let q : n ≡ length d - at = omega arith in
    put_filled start n d c.fill.new.dst (omega arith) c.fill.ensures
    ∙ emptied_is start d (omega arith)
    ∙ ap (λ (l : List ℕ). l ++ zeros n) (ap (λ (k : ℕ). part 0 k d) e ∙ part_clamped 0 at d)
    ∙ ap (λ (k : ℕ). part 0 at d ++ zeros k) q
