-- The numbers of an answer determine it, for each call of the store that answers more than its number.
use Rattle.std.specs.Prelude.{ℕ, ◌≡◌, Result, Ok, Err}
use Rattle.std.proofs.Common.{sym, ap}
use Rattle.layout.specs.NumberLaws.{kind_one, refusal_one, refusal_some}
use Rattle.layout.specs.declared.Kind.{Kind}
use Rattle.layout.specs.declared.Refusal.{Refusal}
use Rattle.layout.specs.declared.RefusedAt.{RefusedAt}
use Rattle.store.specs.Judge.{JudgedNumbers, judged_numbers}
use Rattle.store.specs.declared.Judged.{Judged}
use Rattle.reading.specs.Read.{ReadNumbers, reading_numbers}
use Rattle.carrying.specs.CarryOut.{CarryNumbers, written_numbers}
use Rattle.carrying.specs.declared.Written.{Written}
use Rattle.cutting.specs.Highest.{HighestNumbers, extent_numbers}

pub judged_one : (a b : Result Judged Refusal) → judged_numbers a ≡ judged_numbers b → a ≡ b
judged_one (Ok x) (Ok y) e = λ i. Ok (record { kind = kind_one x.kind y.kind (ap (λ (x : JudgedNumbers). x.kind) e) i; length = (e i).length })
judged_one (Ok x) (Err r) e = absurd (refusal_some r (sym (ap (λ (x : JudgedNumbers). x.number) e)))
judged_one (Err r) (Ok x) e = absurd (refusal_some r (ap (λ (x : JudgedNumbers). x.number) e))
judged_one (Err r) (Err q) e = ap Err (refusal_one r q (ap (λ (x : JudgedNumbers). x.number) e))

pub reading_one : (a b : Result Kind RefusedAt) → reading_numbers a ≡ reading_numbers b → a ≡ b
reading_one (Ok k) (Ok j) e = ap Ok (kind_one k j (ap (λ (x : ReadNumbers). x.kind) e))
reading_one (Ok k) (Err r) e = absurd (refusal_some r.refusal (sym (ap (λ (x : ReadNumbers). x.number) e)))
reading_one (Err r) (Ok k) e = absurd (refusal_some r.refusal (ap (λ (x : ReadNumbers). x.number) e))
reading_one (Err r) (Err q) e = λ i. Err (record {
  refusal = refusal_one r.refusal q.refusal (ap (λ (x : ReadNumbers). x.number) e) i;
  offset = (e i).offset;
})

pub written_one : (a b : Result Written Refusal) → written_numbers a ≡ written_numbers b → a ≡ b
written_one (Ok x) (Ok y) e = λ i. Ok (record { kind = kind_one x.kind y.kind (ap (λ (x : CarryNumbers). x.kind) e) i; length = (e i).length })
written_one (Ok x) (Err r) e = absurd (refusal_some r (sym (ap (λ (x : CarryNumbers). x.number) e)))
written_one (Err r) (Ok x) e = absurd (refusal_some r (ap (λ (x : CarryNumbers). x.number) e))
written_one (Err r) (Err q) e = ap Err (refusal_one r q (ap (λ (x : CarryNumbers). x.number) e))

pub extent_one : (a b : Result ℕ Refusal) → extent_numbers a ≡ extent_numbers b → a ≡ b
extent_one (Ok m) (Ok n) e = ap Ok (ap (λ (x : HighestNumbers). x.blocks) e)
extent_one (Ok m) (Err r) e = absurd (refusal_some r (sym (ap (λ (x : HighestNumbers). x.number) e)))
extent_one (Err r) (Ok n) e = absurd (refusal_some r (ap (λ (x : HighestNumbers). x.number) e))
extent_one (Err r) (Err q) e = ap Err (refusal_one r q (ap (λ (x : HighestNumbers). x.number) e))
