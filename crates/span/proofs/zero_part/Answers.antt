use Prim.Native.Nat.{ℕ}
use mathlib.Core.Path.{sym, ap, ◌∙◌}
use mathlib.Core.List.{List}
use lib.ListN.{length}
use borrow.Author.Tests.{ne_eqb}
use Rattle.span.specs.Bytes.{zeros, part}
use Rattle.span.specs.Laws.{zeros_length, same_false}
use Rattle.span.proofs.zero_part.Goals as goal

pub returns-else-p-n : goal.returns-else-p-n
returns-else-p-n c =
    let a = c.args in
    let p = c.part-p in
    ne_eqb (length p.result.now) a.n c.if-p-n.false
    ∙ sym
    (same_false (part a.at a.n a.s.now) (zeros a.n)
    (λ e. c.if-p-n.false (ap (λ (l : List ℕ). length l) (p.ensures.bytes ∙ e) ∙ zeros_length a.n)))
