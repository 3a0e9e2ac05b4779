-- The words of the statements about a write that is stopped halfway, each as the request has it, over both areas. P is the page size,
-- 8,192 in the calls.
use Rattle.std.specs.Prelude.{ℕ, ◌<◌, ◌≡◌, List, [], ◌∷◌}
use Rattle.slots.specs.Slots.{full_slot}
use Rattle.store.specs.Block.{slot_of}
use Rattle.carrying.specs.CarryOut.{CarryOutcome, carry_told}
use Rattle.carrying.specs.Mapped.{carry_mapped_told}
use Rattle.sweeping.specs.Sweep.{SweepOutcome, sweep_outcome}
use Rattle.promises.specs.Runs.{run, write}
use Rattle.promises.specs.Stops.{Event, whole, stop, sweep}
use Rattle.promises.specs.RunWords.{Decision, Areas, Lent, Cut, Operation, outcome, cutting, does_by}
use Rattle.promises.specs.MapWords.{Mapped, mapped, cut_mapped, does_with_by}

-- Programs: a write that is "told how many of them to make", and a sweep. The right ones are `told P` and `sweeping P`; `StopsWrong` and
-- `SweepsWrong` have others.

abbrev pub ToldProgram : Type 0
ToldProgram = Areas → Lent → ℕ → CarryOutcome

abbrev pub told : ℕ → ToldProgram
told P s w k = carry_told P s.patch s.full w.block w.decision k

abbrev pub SweepProgram : Type 0
SweepProgram = Areas → SweepOutcome

abbrev pub sweeping : ℕ → SweepProgram
sweeping P s = sweep_outcome P s.patch s.full

-- the areas that they leave
abbrev pub left_by : CarryOutcome → Areas
left_by o = record { patch = o.patch; full = o.full }

abbrev pub stopped : ℕ → Areas → ℕ → Lent → Areas
stopped P s k w = left_by (told P s w k)

-- and with a lent map
abbrev pub stopped_with : ℕ → Mapped → ℕ → Lent → Mapped
stopped_with P x k w =
    let o = carry_mapped_told P x.areas.patch x.areas.full x.map w.block w.decision k in
    record { areas = left_by o.areas; map = o.map }

abbrev pub swept : ℕ → Areas → Areas
swept P s = record { patch = s.patch; full = (sweeping P s).full }

-- Any operations with stopped writes and sweeps among them, on the areas that the ones before left

abbrev pub AreaEvent : Type 0
AreaEvent = Event Lent Cut

abbrev pub happens : ℕ → Areas → AreaEvent → Areas
happens P s (whole o) = does_by (outcome P) (cutting P) s o
happens P s (stop k w) = stopped P s k w
happens P s sweep = swept P s

abbrev pub after_all : ℕ → Areas → List AreaEvent → Areas
after_all P s es = run (happens P) s es

-- the same with a map that each operation and each stopped write is lent; a sweep is lent none
abbrev pub happens_with : ℕ → Mapped → AreaEvent → Mapped
happens_with P x (whole o) = does_with_by (mapped P) (cut_mapped P) x o
happens_with P x (stop k w) = stopped_with P x k w
happens_with P x sweep = record { areas = swept P x.areas; map = x.map }

abbrev pub after_all_with : ℕ → Mapped → List AreaEvent → Mapped
after_all_with P x es = run (happens_with P) x es

-- "Which of the two is told by what was stored": a write on a block whose slot was `slot` takes hold if it was told all, or told 1 and the
-- store that it made was the slot, or the page under a slot that was FULL_REF already
pub data TakesHold (d : Decision) (slot : List ℕ) : ℕ → Type 0 where
  slot_stored : (d.kind ≡ 2 → ⊥) → TakesHold d slot 1
  page_stored : d.kind ≡ 2 → slot ≡ full_slot → TakesHold d slot 1
  all_stored : {k : ℕ} → 1 < k → TakesHold d slot k

-- the same of a write on both areas
abbrev pub Holds : Areas → ℕ → Lent → Type 0
Holds s k w = TakesHold w.decision (slot_of s.patch w.block) k

-- what the events of a list come to: each operation made whole, each stopped write that took hold, and nothing else
pub data ComesTo (P : ℕ) : Areas → List AreaEvent → List Operation → Type 0 where
  nothing : {s : Areas} → ComesTo P s [] []
  made : {s : Areas} {o : Operation} {es : List AreaEvent} {os : List Operation} → ComesTo P (happens P s (whole o)) es os
      → ComesTo P s (whole o ∷ es) (o ∷ os)
  held : {s : Areas} {k : ℕ} {w : Lent} {es : List AreaEvent} {os : List Operation} → Holds s k w → ComesTo P (stopped P s k w) es os
      → ComesTo P s (stop k w ∷ es) (write w ∷ os)
  lost : {s : Areas} {k : ℕ} {w : Lent} {es : List AreaEvent} {os : List Operation} → (Holds s k w → ⊥) → ComesTo P (stopped P s k w) es os
      → ComesTo P s (stop k w ∷ es) os
  tidied : {s : Areas} {es : List AreaEvent} {os : List Operation} → ComesTo P (swept P s) es os → ComesTo P s (sweep ∷ es) os
