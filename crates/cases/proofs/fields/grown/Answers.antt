use Rattle.span.specs.Tests.{tests}
use Rattle.cases.specs.Decimal.{grow, grow_digit}
use Rattle.cases.proofs.fields.grown.Goals.{then-digit-lt48-via-then-digit-lt48, then-digit-lt48-via-else-digit-lt48+then-digit-gt57, then-digit-lt48-via-else-digit-lt48+else-digit-gt57+then-value-gt-TOP}
use Rattle.cases.proofs.fields.grown.Goals as goal

pub returns-then-digit-lt48 : goal.returns-then-digit-lt48
unfolding grow
returns-then-digit-lt48 c =
    elim c.then-digit-lt48.branch [
      | then-digit-lt48-via-then-digit-lt48 w ↦ let h = w.if-digit-lt48.true in search tests
      | then-digit-lt48-via-else-digit-lt48+then-digit-gt57 w ↦ let h = w.if-digit-lt48.false in let k = w.if-digit-gt57.true in search tests
      | then-digit-lt48-via-else-digit-lt48+else-digit-gt57+then-value-gt-TOP w ↦
          let h = w.if-digit-lt48.false in let k = w.if-digit-gt57.false in let m = w.if-value-gt-TOP.true in search tests
    ]

pub returns : goal.returns
returns c = grow_digit _ _ _ c.if-digit-lt48.false c.if-digit-gt57.false c.if-value-gt-TOP.false c.from.ensures
