use Prim.Native.Nat.{ℕ, ◌+◌, min}
use native.Mathlib.Omega.{arith}
use mathlib.Core.Path.{◌≡◌, ap, ◌∙◌}
use mathlib.Core.List.{List, ◌++◌}
use lib.ListN.{length, take, drop, length-take}
use Rattle.span.specs.Bytes.{splice}
use Rattle.span.specs.Laws.{take_min}
use Rattle.span.proofs.copy.Goals as goal

pub returns : goal.returns
unfolding splice
returns c =
    let d = c.args.dst.now in
    let s = c.args.src.now in
    let n : ℕ = c.min-n.result in
    let all : List ℕ = take (length d) s in
    let e : n ≡ min (length d) (length s) = omega arith in
    let l : n ≡ 0 + length all = omega (arith, length-take (length d) s) in
    ap (λ (l : List ℕ). l ++ drop n d) (c.copy_whole.ensures ∙ ap (λ (k : ℕ). take k s) e ∙ take_min (length d) s)
    ∙ ap (λ (k : ℕ). all ++ drop k d) l
