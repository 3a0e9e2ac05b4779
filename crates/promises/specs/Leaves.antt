-- What the public functions below the calls owe: each contract determines the result. Of those whose contract is an equation with the
-- result alone on one side there is nothing to show; these are the others.
use Rattle.std.specs.Prelude.{ℕ, ◌≡◌, refl, List, Result, Ok, Err, ⊤}
use Rattle.std.proofs.Common.{arith, sym, ap, ◌∙◌}
use Rattle.layout.specs.Numbers.{kind_number, answer_number}
use Rattle.layout.specs.NumberLaws.{kind_one, refusal_one, refusal_some, answer_one}
use Rattle.layout.specs.declared.Kind.{Kind}
use Rattle.layout.specs.declared.Refusal.{Refusal}
use Rattle.layout.specs.declared.RefusedAt.{RefusedAt}
use Rattle.slots.specs.Slots.{SlotNumbers, slot_numbers, state_numbers}
use Rattle.slots.specs.declared.SlotState.{SlotState}
use Rattle.slots.specs.declared.SlotState.TheVariants.{Empty, Patch, Full}
use Rattle.payload.specs.Entries.{Stream}
use Rattle.payload.specs.Steps.{Follows, checked_numbers, check_numbers}
use Rattle.payload.specs.StepLaws.{step_one, checked_one}
use Rattle.payload.specs.declared.Step.{Step}
use Rattle.payload.specs.declared.Sound.{Sound}
use Rattle.payload.specs.declared.Unsound.{Unsound}
use Rattle.blockmap.specs.Pack.{kind_of}
use Rattle.writer.specs.Steps.{Differs}
use Rattle.writer.specs.declared.Difference.{Difference}
use Rattle.stream.specs.Calls.{kind_for}
use Rattle.stream.specs.Steps.{Applies}
use Rattle.stream.specs.Only.{applied_one}
use Rattle.store.specs.Open.{FrameNumbers, opened_numbers}
use Rattle.store.specs.OpenLaws.{opened_one}
use Rattle.store.specs.declared.frame.Frame.{Frame}

-- `headers::check_headers`
pub one_fault : (n : ℕ) (a b : Result ⊤ Refusal) → answer_number a ≡ n → answer_number b ≡ n → a ≡ b
one_fault n a b x y = answer_one a b (x ∙ sym y)

-- `store::frame::open`
pub one_frame : (k : FrameNumbers) (a b : Result Frame Refusal) → opened_numbers a ≡ k → opened_numbers b ≡ k → a ≡ b
one_frame k a b x y = opened_one a b (x ∙ sym y)

-- `stream::kind_for`
pub one_kind : (n : ℕ) (a b : Kind) → kind_number a ≡ kind_for n → kind_number b ≡ kind_for n → a ≡ b
one_kind n a b x y = kind_one a b (x ∙ sym y)

-- `blockmap::kind_of`
pub one_kind_of : (v : ℕ) (a b : Kind) → kind_number a ≡ kind_of v → kind_number b ≡ kind_of v → a ≡ b
one_kind_of v a b x y = kind_one a b (x ∙ sym y)

-- `slots::slot_state`
pub one_state : (slot : List ℕ) (a b : Result SlotState Refusal) → state_numbers a ≡ slot_numbers slot → state_numbers b ≡ slot_numbers slot
    → a ≡ b
one_state slot a b x y = state_one a b (x ∙ sym y)
  where
    state_one : (a b : Result SlotState Refusal) → state_numbers a ≡ state_numbers b → a ≡ b
    state_one (Ok Empty) (Ok Empty) e = refl
    state_one (Ok Empty) (Ok (Patch n)) e = absurd (omega (arith, ap (λ (x : SlotNumbers). x.kind) e))
    state_one (Ok Empty) (Ok Full) e = absurd (omega (arith, ap (λ (x : SlotNumbers). x.kind) e))
    state_one (Ok (Patch m)) (Ok Empty) e = absurd (omega (arith, ap (λ (x : SlotNumbers). x.kind) e))
    state_one (Ok (Patch m)) (Ok (Patch n)) e = ap (λ (l : ℕ). Ok (Patch l)) (ap (λ (x : SlotNumbers). x.length) e)
    state_one (Ok (Patch m)) (Ok Full) e = absurd (omega (arith, ap (λ (x : SlotNumbers). x.kind) e))
    state_one (Ok Full) (Ok Empty) e = absurd (omega (arith, ap (λ (x : SlotNumbers). x.kind) e))
    state_one (Ok Full) (Ok (Patch n)) e = absurd (omega (arith, ap (λ (x : SlotNumbers). x.kind) e))
    state_one (Ok Full) (Ok Full) e = refl
    state_one (Ok Empty) (Err r) e = absurd (refusal_some r (sym (ap (λ (x : SlotNumbers). x.number) e)))
    state_one (Ok (Patch n)) (Err r) e = absurd (refusal_some r (sym (ap (λ (x : SlotNumbers). x.number) e)))
    state_one (Ok Full) (Err r) e = absurd (refusal_some r (sym (ap (λ (x : SlotNumbers). x.number) e)))
    state_one (Err r) (Ok Empty) e = absurd (refusal_some r (ap (λ (x : SlotNumbers). x.number) e))
    state_one (Err r) (Ok (Patch n)) e = absurd (refusal_some r (ap (λ (x : SlotNumbers). x.number) e))
    state_one (Err r) (Ok Full) e = absurd (refusal_some r (ap (λ (x : SlotNumbers). x.number) e))
    state_one (Err r) (Err q) e = ap Err (refusal_one r q (ap (λ (x : SlotNumbers). x.number) e))

-- `payload::entry::step`
pub one_step : (n : ℕ) (payload : List ℕ) (place : ℕ) (s : Stream) (a b : Step)
    → Follows n payload place s a → Follows n payload place s b → a ≡ b
one_step = step_one

-- `payload::check`
pub one_check : (n : ℕ) (payload : List ℕ) (a b : Result Sound Unsound)
    → checked_numbers a ≡ check_numbers n payload → checked_numbers b ≡ check_numbers n payload → a ≡ b
one_check n payload a b x y = checked_one a b (x ∙ sym y)

-- `writer::stream_of`
pub one_stream : (base page room : List ℕ) (c d : Difference) (p q : List ℕ) → Differs base page room c p → Differs base page room d q
    → (c ≡ d) × (p ≡ q)
one_stream base page room c d p q x y = (
  λ i. record {
    length = (x.numbers.length ∙ sym y.numbers.length) i;
    entries = (x.numbers.entries ∙ sym y.numbers.entries) i;
    last = (x.numbers.last ∙ sym y.numbers.last) i;
  },
  x.bytes ∙ sym y.bytes,
)

-- `stream::apply_to`
pub one_apply_to : (n : ℕ) (base payload page : List ℕ) (a b : Result Sound RefusedAt) (p q : List ℕ) → Applies n base payload page a p
    → Applies n base payload page b q → (a ≡ b) × (p ≡ q)
one_apply_to n base payload page a b p q x y = (applied_one a b (x.numbers ∙ sym y.numbers), x.bytes ∙ sym y.bytes)
