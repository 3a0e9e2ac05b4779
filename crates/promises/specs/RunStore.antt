-- Both areas as a store of blocks, in the sense of `Runs`: the frame is the lengths and the headers, a cell is a slot and a place.
use Rattle.std.specs.Prelude.{ℕ, cond, ltb}
use Rattle.span.specs.Bytes.{zeros, emptied}
use Rattle.layout.specs.Sizes.{patch_head, full_head}
use Rattle.store.specs.Block.{slot_of, place_of}
use Rattle.promises.specs.Words.{blocks, places, LengthsFit, HeadersFit}
use Rattle.promises.specs.Decisions.{Cell, cell_for, blank_cell}
use Rattle.promises.specs.Runs.{Store}
use Rattle.promises.specs.RunWords.{Areas, Lent, Cut, cuts, outcome, cutting, takes_by, does_by}

abbrev pub cell_at : ℕ → Areas → ℕ → Cell
cell_at P s b = record { slot = slot_of s.patch b; place = cond (ltb b (places P s.full)) (place_of P s.full b) (zeros P) }

-- lengths and headers: the same areas with nothing in them
abbrev pub frame_of : Areas → Areas
frame_of s = record { patch = emptied patch_head s.patch; full = emptied full_head s.full }

abbrev pub store : ℕ → Store
store P = record {
  State = Areas;
  Frame = Areas;
  Write = Lent;
  Wipe = Cut;
  Cell = Cell;
  frame = frame_of;
  blocks = λ f. blocks f.patch;
  at = cell_at P;
  block = λ w. w.block;
  cell = λ w. cell_for P w.decision;
  blank = blank_cell P;
  covers = λ f c b. cuts c b;
  takes = takes_by (outcome P) (cutting P);
  step = does_by (outcome P) (cutting P);
  accepts = takes_by (outcome P) (cutting P);
  Good = λ f. LengthsFit P f.patch f.full × HeadersFit P f.patch f.full;
}
