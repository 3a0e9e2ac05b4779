-- What the calls owe: no second outcome meets a call's predicate. The answer is the code's own, and the bytes are every lent byte.
use Rattle.std.specs.Prelude.{ℕ, ◌≡◌, List, Result, Ok, Err}
use Rattle.std.proofs.Common.{sym, ap, ◌∙◌}
use Rattle.layout.specs.NumberLaws.{kind_one, refusal_one, refusal_some}
use Rattle.stream.specs.Calls.{ComparedNumbers, compared_numbers, Compare, AppliedNumbers, applied_numbers, Apply}
use Rattle.stream.specs.declared.Compared.{Compared}
use Rattle.layout.specs.declared.Refusal.{Refusal}
use Rattle.layout.specs.declared.RefusedAt.{RefusedAt}
use Rattle.payload.specs.declared.Sound.{Sound}

-- the numbers determine the answer
pub compared_one : (a b : Result Compared Refusal) → compared_numbers a ≡ compared_numbers b → a ≡ b
compared_one (Ok c) (Ok d) q = λ i. Ok (record {
  kind = kind_one c.kind d.kind (ap (λ (x : ComparedNumbers). x.kind) q) i;
  length = (q i).length;
  entries = (q i).entries;
  last = (q i).last;
})
compared_one (Ok c) (Err r) q = absurd (refusal_some r (sym (ap (λ (x : ComparedNumbers). x.number) q)))
compared_one (Err r) (Ok c) q = absurd (refusal_some r (ap (λ (x : ComparedNumbers). x.number) q))
compared_one (Err r) (Err r') q = ap Err (refusal_one r r' (ap (λ (x : ComparedNumbers). x.number) q))

pub applied_one : (a b : Result Sound RefusedAt) → applied_numbers a ≡ applied_numbers b → a ≡ b
applied_one (Ok s) (Ok t) q = λ i. Ok (record { entries = (q i).entries; last = (q i).last })
applied_one (Ok s) (Err r) q = absurd (refusal_some r.refusal (sym (ap (λ (x : AppliedNumbers). x.number) q)))
applied_one (Err r) (Ok s) q = absurd (refusal_some r.refusal (ap (λ (x : AppliedNumbers). x.number) q))
applied_one (Err r) (Err t) q = λ i. Err (record {
  refusal = refusal_one r.refusal t.refusal (ap (λ (x : AppliedNumbers). x.number) q) i;
  offset = (q i).offset;
})

pub compare_only : (P : ℕ) (base page buffer : List ℕ) (a b : Result Compared Refusal) (after after' : List ℕ)
    → Compare P base page buffer a after → Compare P base page buffer b after' → (a ≡ b) × (after ≡ after')
compare_only P base page buffer a b after after' x y = (compared_one a b (x.numbers ∙ sym y.numbers), x.bytes ∙ sym y.bytes)

pub apply_only : (P : ℕ) (base payload page : List ℕ) (a b : Result Sound RefusedAt) (after after' : List ℕ)
    → Apply P base payload page a after → Apply P base payload page b after' → (a ≡ b) × (after ≡ after')
apply_only P base payload page a b after after' x y = (applied_one a b (x.numbers ∙ sym y.numbers), x.bytes ∙ sym y.bytes)
