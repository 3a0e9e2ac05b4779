-- How the cells of both areas are read, in the sense of `Runs`, and the cells that hold a decision.
use Rattle.std.specs.Prelude.{ℕ, ◌<◌, ◌≡◌, List, length}
use Rattle.slots.specs.Slots.{slot_numbers}
use Rattle.reading.specs.Read.{ReadOutcome, read_done}
use Rattle.promises.specs.Words.{places}
use Rattle.carrying.specs.Puts.{Decision}
use Rattle.promises.specs.Decisions.{Cell, cell_for, Fit, page_in, cell_of}
use Rattle.promises.specs.Runs.{Reading}
use Rattle.promises.specs.RunWords.{Decided}
use Rattle.promises.specs.RunStore.{store}

abbrev pub reading : (P : ℕ) → Reading (store P)
reading P = record {
  Base = List ℕ;
  Page = List ℕ;
  Fits = λ β. length β ≡ P;
  base_page = λ β. β;
  reads = page_in P;
  canon = cell_of P;
  Decided = Decided P;
  page_of = λ w. w.decision.page;
}

-- what Read gives of a cell over a base page
abbrev pub read_in : ℕ → List ℕ → Cell → ReadOutcome
read_in P β c = read_done (slot_numbers c.slot).kind (page_in P β c)

-- a cell of a decision that can be carried out, at a block that has a place if it needs one
pub record Held (P : ℕ) (full : List ℕ) (b : ℕ) (c : Cell) : Type 0 where
  pub decision : Decision
  pub fit : Fit P decision
  pub room_for : decision.kind ≡ 2 → b < places P full
  pub is : c ≡ cell_for P decision
