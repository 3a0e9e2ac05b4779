-- The paper's numbers for each case of the enums that all calls share, and numbers as bytes: all are little endian.
use Rattle.std.specs.Prelude.{ℕ, zero, suc, ◌≡◌, ◌+◌, ◌*◌, ◌/◌, ◌%◌, ◌<◌, List, [], ◌∷◌, Result, Ok, Err, MatchResult}
use Rattle.layout.specs.Sizes.{empty_kind, patch_kind, full_kind}
use Rattle.layout.specs.declared.Kind.{Kind}
use Rattle.layout.specs.declared.Kind.TheVariants.{Empty, Patch, Full}
use Rattle.layout.specs.declared.Refusal.{Refusal}
use Rattle.layout.specs.declared.Refusal.TheVariants.{Page, Length, Header, Version, Block, Slot, Payload, FullPage, Buffer}
use Rattle.layout.specs.declared.Refusal.TheVariants.{Place, Pair}
use Rattle.layout.specs.declared.RefusedAt.{RefusedAt}

-- Kinds in answers: EMPTY or same, PATCH or patch, FULL_REF or large
abbrev pub kind_number : Kind → ℕ
kind_number Empty = empty_kind
kind_number Patch = patch_kind
kind_number Full = full_kind

-- "Numbers given back"
abbrev pub refusal_number : Refusal → ℕ
refusal_number Page = 1
refusal_number Length = 2
refusal_number Header = 3
refusal_number Version = 4
refusal_number Block = 5
refusal_number Slot = 6
refusal_number Payload = 7
refusal_number FullPage = 8
refusal_number Buffer = 9
refusal_number Place = 10
refusal_number Pair = 11

-- an answer's number: 0 where it is done
abbrev pub answer_number : {A : Type 0} → Result A Refusal → ℕ
answer_number (Ok _) = 0
answer_number (Err r) = refusal_number r

-- the kind of this number, or 6 where it is above 2
abbrev pub IsKind : ℕ → Result Kind Refusal → Type 0
IsKind number r = MatchResult r (λ kind. kind_number kind ≡ number) (λ refusal. (refusal ≡ Slot) × (full_kind < number))

-- refused, with an offset
abbrev pub refused_at : {A : Type 0} → Refusal → ℕ → Result A RefusedAt
refused_at refusal offset = Err (record { refusal = refusal; offset = offset })

-- this refusal, and no offset
abbrev pub IsRefusedAt : Refusal → RefusedAt → Type 0
IsRefusedAt refusal r = r ≡ record { refusal = refusal; offset = 0 }

-- Numbers as bytes

-- the number that bytes stand for, the lowest byte first
unfoldable pub number : List ℕ → ℕ
number [] = 0
number (b ∷ bs) = b + 256 * number bs

-- a number in so many bytes
unfoldable pub le : ℕ → ℕ → List ℕ
le zero v = []
le (suc k) v = v % 256 ∷ le k (v / 256)
