-- Stopped writes and sweeps on both areas, in the sense of `Stops`.
use Rattle.std.specs.Prelude.{ℕ, Bool, true, false, cond, List, eqb, take}
use Rattle.span.specs.Bytes.{zeros, same}
use Rattle.slots.specs.Slots.{full_slot}
use Rattle.carrying.specs.Puts.{order}
use Rattle.promises.specs.StoreLaws.{slot_after, place_after}
use Rattle.promises.specs.Decisions.{Cell}
use Rattle.promises.specs.Stops.{Stopping}
use Rattle.promises.specs.RunWords.{Decision}
use Rattle.promises.specs.RunStore.{store}
use Rattle.promises.specs.StopWords.{stopped, swept}

-- a slot that refers to its place
abbrev pub is_full : List ℕ → Bool
is_full slot = same slot full_slot

-- what the first k stores of a write leave of a cell
abbrev pub half_cell : ℕ → ℕ → Decision → Cell → Cell
half_cell P k d c = record { slot = slot_after d (take k (order d.kind)) c.slot; place = place_after P d (take k (order d.kind)) c.place }

-- what a sweep leaves of it
abbrev pub tidy_cell : ℕ → Cell → Cell
tidy_cell P c = record { slot = c.slot; place = cond (is_full c.slot) c.place (zeros P) }

-- whether the write took hold
abbrev pub takes_hold : ℕ → Decision → List ℕ → Bool
takes_hold k d slot = cond (eqb k 0) false (cond (eqb k 1) (cond (eqb d.kind 2) (is_full slot) true) true)

abbrev pub stopping : (P : ℕ) → Stopping (store P)
stopping P = record {
  stopped = stopped P;
  swept = swept P;
  half = λ k w c. half_cell P k w.decision c;
  tidy = tidy_cell P;
  holds = λ k w c. takes_hold k w.decision c.slot;
}
