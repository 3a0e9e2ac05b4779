use mathlib.Core.List.{List}
use mathlib.Core.Path.{subst}
use mir.Syntax.{w32}
use mir.Val.{SFits}
use mir.ValLaws.{to_z-of_z}
use Prim.Native.Nat.{ℕ}
use borrow.Author.Rules.{rules}
use Rattle.span.specs.Bytes.{Put}
use Rattle.info.proofs.Words.{refused_put, slot_put}
use Rattle.info.proofs.text.put_text.Goals as goal

pub returns-in-Err-clause-bytes : goal.returns-in-Err-clause-bytes
returns-in-Err-clause-bytes c = rw c.in-Err.is (refused_put c.in-Err.refusal c.from.ensures c.put_line.ensures.bytes)

pub returns-in-Ok-clause-bytes : goal.returns-in-Ok-clause-bytes
returns-in-Ok-clause-bytes c =
    let slot = c.in-Ok.slot in
    let fits : SFits w32 slot.last = search rules in
    let a = c.put_word-a in
    let kind = subst (λ (line : List ℕ). Put c.args.out.now 0 line a.result a.new.out) c.kind_word.ensures.bytes a.ensures in
    rw c.in-Ok.is
    (slot_put slot a.new.out c.put_line-b.new.out c.put_line-c.new.out a.result c.put_line-b.result c.put_line-c.result
    (to_z-of_z w32 slot.last fits) kind c.put_line-b.ensures.bytes c.put_line-c.ensures.bytes c.put_last.ensures.bytes)
