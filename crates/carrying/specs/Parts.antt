-- What the parts of carrying out owe.
use Rattle.std.specs.Prelude.{ℕ, ◌+◌, ◌≤◌, ◌≡◌, Bool, true, false, not, ◌&&◌, cond, List, [], ◌∷◌, eqb, leb, ltb, length, Result, MatchResult}
use Rattle.std.specs.Borrow.{Bor}
use Rattle.layout.specs.Sizes.{slot_at, slot_size, patch_kind, full_kind}
use Rattle.layout.specs.Numbers.{kind_number, refusal_number}
use Rattle.layout.specs.Refusals.{Row, ◌⇐◌, first_of, decided}
use Rattle.layout.specs.Lengths.{pages_in}
use Rattle.layout.specs.declared.Refusal.{Refusal}
use Rattle.layout.specs.declared.Refusal.TheVariants.{Payload}
use Rattle.payload.specs.Entries.{sound}
use Rattle.store.specs.Block.{Places, Sized}
use Rattle.carrying.specs.declared.Written.{Written}
use Rattle.carrying.specs.declared.decision.Asked.{Asked}
use Rattle.carrying.specs.declared.decision.Stored.{Stored}
use Rattle.carrying.specs.Puts.{Decision, Put, slot, place, puts}
use Rattle.carrying.specs.CarryOut.{CarryOutcome, carry_done, carry_refused, carry_by, written_numbers, carry_numbers}

-- 9, told whether the call's buffer is long enough
abbrev pub told_rows : Bool → List Row
told_rows fits = (9 ⇐ not fits) ∷ []

pub record CarryWith (P : ℕ) (fits : Bool) (patch full : List ℕ) (b : ℕ) (d : Decision) (stores : ℕ) (answer : Result Written Refusal)
    (patch' full' : List ℕ) : Type 0 where
  pub numbers : written_numbers answer ≡ carry_numbers (carry_by P (told_rows fits) patch full b d stores)
  pub patch_bytes : patch' ≡ (carry_by P (told_rows fits) patch full b d stores).patch
  pub full_bytes : full' ≡ (carry_by P (told_rows fits) patch full b d stores).full

-- what is wrong with a decision, once the frame and the block's number are sound: 6, 8, 7, by the number of pages
abbrev pub decision_rows_by : ℕ → ℕ → ℕ → ℕ → List ℕ → List Row
decision_rows_by P m b kind payload =
    (6 ⇐ ltb full_kind kind)
    ∷ (8 ⇐ eqb kind full_kind && leb m b)
    ∷ (7 ⇐ eqb kind patch_kind && not (sound P payload))
    ∷ []

abbrev pub decision_rows : ℕ → List ℕ → ℕ → ℕ → List ℕ → List Row
decision_rows P full b kind payload = decision_rows_by P (pages_in P (length full)) b kind payload

unfoldable pub block_outcome : ℕ → List ℕ → List ℕ → ℕ → Decision → ℕ → CarryOutcome
block_outcome P patch full b d stores =
    decided (first_of (decision_rows P full b d.kind d.payload)) (carry_done P patch full b d stores) (λ n. carry_refused n patch full)

pub record BlockCarry (P : ℕ) (patch full : List ℕ) (b : ℕ) (d : Decision) (stores : ℕ) (answer : Result Written Refusal)
    (patch' full' : List ℕ) : Type 0 where
  pub numbers : written_numbers answer ≡ carry_numbers (block_outcome P patch full b d stores)
  pub patch_bytes : patch' ≡ (block_outcome P patch full b d stores).patch
  pub full_bytes : full' ≡ (block_outcome P patch full b d stores).full

-- A decision as it is lent, and as it is stored

abbrev pub decision_asked : Asked → Decision
decision_asked a = record { kind = a.kind; payload = a.payload.now; page = a.page.now }

abbrev pub decision_stored : Stored → Decision
decision_stored s = record { kind = kind_number s.kind; payload = s.payload.now; page = s.page.now }

-- a payload is stored only for PATCH
abbrev pub stored_payload : ℕ → List ℕ → List ℕ
stored_payload kind payload = cond (eqb kind patch_kind) payload []

abbrev pub stored_of : Decision → Decision
stored_of d = record { kind = d.kind; payload = stored_payload d.kind d.payload; page = d.page }

-- what is stored of a payload, or 7
abbrev pub PayloadChecked : ℕ → ℕ → List ℕ → Result (Bor (List ℕ)) Refusal → Type 0
PayloadChecked P kind payload r =
    MatchResult r (λ p. ((eqb kind patch_kind && not (sound P payload)) ≡ false) × (p.now ≡ stored_payload kind payload))
    (λ refusal. (refusal ≡ Payload) × ((eqb kind patch_kind && not (sound P payload)) ≡ true))

-- what is stored of a decision, or what is wrong with it first
abbrev pub DecisionChecked : ℕ → ℕ → ℕ → Decision → Result Stored Refusal → Type 0
DecisionChecked P m b d r =
    MatchResult r
    (λ s. (first_of (decision_rows_by P m b d.kind d.payload) ≡ 0) × (decision_stored s ≡ stored_of d))
    (λ refusal. first_of (decision_rows_by P m b d.kind d.payload) ≡ refusal_number refusal)

-- What the stores stand on

-- the block's slot lies in the patch area
abbrev pub SlotWithin : List ℕ → ℕ → Type 0
SlotWithin patch b = slot_at b + slot_size ≤ length patch

-- a full area has m places, and they lie in it
abbrev pub FullArea : ℕ → ℕ → List ℕ → Type 0
FullArea P m full = (m ≡ pages_in P (length full)) × Places P full

-- the page of a FULL_REF has the size
abbrev pub PageLent : ℕ → Decision → Type 0
PageLent P d = d.kind ≡ full_kind → length d.page ≡ P

-- all of it: what is known of a block below n and a decision on it, once the frame is opened
pub record Lent (P m : ℕ) (patch full : List ℕ) (b : ℕ) (d : Decision) : Type 0 where
  pub sized : Sized P
  pub slot_within : SlotWithin patch b
  pub full_area : FullArea P m full
  pub page_lent : PageLent P d

-- both areas with these stores made on block b
pub record Made (P b : ℕ) (d : Decision) (xs : List Put) (patch full patch' full' : List ℕ) : Type 0 where
  pub patch_bytes : patch' ≡ (puts P b d xs (record { patch = patch; full = full })).patch
  pub full_bytes : full' ≡ (puts P b d xs (record { patch = patch; full = full })).full

-- A store that is not the first of its decision's comes after that one: to make the first again would change nothing. So no path makes them the
-- other way round, told one or all, though the bytes at the end would not tell.
abbrev pub Due : ℕ → ℕ → Decision → Bool → List ℕ → List ℕ → Type 0
Due P b d of_place patch full = (of_place ≡ eqb d.kind full_kind → ⊥) → Made P b d (cond of_place slot place ∷ []) patch full patch full
