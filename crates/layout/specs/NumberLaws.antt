-- The numbers determine the cases.
use Rattle.std.specs.Prelude.{ℕ, zero, suc, ◌≡◌, refl, Result, Ok, Err, ⊤}
use Rattle.std.proofs.Common.{arith, sym, ap, ◌∙◌}
use Rattle.layout.specs.declared.Kind.{Kind}
use Rattle.layout.specs.declared.Kind.TheVariants.{Empty, Patch, Full}
use Rattle.layout.specs.declared.Refusal.{Refusal}
use Rattle.layout.specs.declared.Refusal.TheVariants.{Page, Length, Header, Version, Block, Slot, Payload, FullPage, Buffer}
use Rattle.layout.specs.declared.Refusal.TheVariants.{Place, Pair}
use Rattle.layout.specs.Numbers.{kind_number, refusal_number, answer_number}

kind_of : ℕ → Kind
kind_of zero = Empty
kind_of (suc zero) = Patch
kind_of (suc (suc n)) = Full

kind_back : (k : Kind) → kind_of (kind_number k) ≡ k
unfolding kind_of
kind_back Empty = refl
kind_back Patch = refl
kind_back Full = refl

pub kind_one : (j k : Kind) → kind_number j ≡ kind_number k → j ≡ k
kind_one j k e = sym (kind_back j) ∙ ap kind_of e ∙ kind_back k

refusal_of : ℕ → Refusal
refusal_of zero = Page
refusal_of (suc zero) = Page
refusal_of (suc (suc zero)) = Length
refusal_of (suc (suc (suc zero))) = Header
refusal_of (suc (suc (suc (suc zero)))) = Version
refusal_of (suc (suc (suc (suc (suc zero))))) = Block
refusal_of (suc (suc (suc (suc (suc (suc zero)))))) = Slot
refusal_of (suc (suc (suc (suc (suc (suc (suc zero))))))) = Payload
refusal_of (suc (suc (suc (suc (suc (suc (suc (suc zero)))))))) = FullPage
refusal_of (suc (suc (suc (suc (suc (suc (suc (suc (suc zero))))))))) = Buffer
refusal_of (suc (suc (suc (suc (suc (suc (suc (suc (suc (suc zero)))))))))) = Place
refusal_of (suc (suc (suc (suc (suc (suc (suc (suc (suc (suc (suc n))))))))))) = Pair

refusal_back : (r : Refusal) → refusal_of (refusal_number r) ≡ r
unfolding refusal_of
refusal_back Page = refl
refusal_back Length = refl
refusal_back Header = refl
refusal_back Version = refl
refusal_back Block = refl
refusal_back Slot = refl
refusal_back Payload = refl
refusal_back FullPage = refl
refusal_back Buffer = refl
refusal_back Place = refl
refusal_back Pair = refl

pub refusal_one : (q r : Refusal) → refusal_number q ≡ refusal_number r → q ≡ r
refusal_one q r e = sym (refusal_back q) ∙ ap refusal_of e ∙ refusal_back r

-- and no refusal is 0
pub refusal_some : (r : Refusal) → refusal_number r ≡ 0 → ⊥
refusal_some Page e = omega arith
refusal_some Length e = omega arith
refusal_some Header e = omega arith
refusal_some Version e = omega arith
refusal_some Block e = omega arith
refusal_some Slot e = omega arith
refusal_some Payload e = omega arith
refusal_some FullPage e = omega arith
refusal_some Buffer e = omega arith
refusal_some Place e = omega arith
refusal_some Pair e = omega arith

-- so an answer that tells nothing but its number is determined by it
pub answer_one : (a b : Result ⊤ Refusal) → answer_number a ≡ answer_number b → a ≡ b
answer_one (Ok x) (Ok y) e = refl
answer_one (Ok x) (Err r) e = absurd (refusal_some r (sym e))
answer_one (Err r) (Ok x) e = absurd (refusal_some r e)
answer_one (Err r) (Err q) e = ap Err (refusal_one r q e)
