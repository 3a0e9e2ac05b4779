use Prim.Native.Nat.{ℕ}
use mathlib.Core.Path.{sym, ◌∙◌}
use mathlib.Core.List.{List}
use lib.ListN.{length}
use Rattle.span.specs.Bytes.{zeros}
use Rattle.span.specs.Laws.{same_is}
use Rattle.span.proofs.clear.Goals as goal

pub returns-then-not-all_zero : goal.returns-then-not-all_zero
unfolding zeros
returns-then-not-all_zero c = c.fill.ensures.after (λ y e. e)

pub returns-else-not-all_zero : goal.returns-else-not-all_zero
returns-else-not-all_zero c =
    let d : List ℕ = c.args.dst.now in
    same_is d (zeros (length d)) (sym c.all_zero.ensures ∙ c.if-not-all_zero.false)
