-- The reader: what a new one holds, what its next step finds, and what it holds after that.
use Rattle.std.specs.Prelude.{ℕ, List}
use Rattle.std.specs.Borrow.{Bor}
use Rattle.layout.specs.Sizes.{page_size}
use Rattle.payload.specs.Entries.{start}
use Rattle.payload.specs.Steps.{reach}
use Rattle.entry_reader.specs.Turns.{turn_at}
use Rattle.entry_reader.specs.declared.EntryReader.{EntryReader}
use Rattle.entry_reader.specs.declared.Turn.{Turn}

abbrev pub opened : Bor (List ℕ) → EntryReader
opened payload = record { payload = payload; size = page_size; at = 0; position = start }

abbrev pub turned : EntryReader → Turn
turned r = turn_at (reach r.size) r.payload.now r.at r.position

abbrev pub moved : EntryReader → EntryReader
moved r = record { payload = r.payload; size = r.size; at = (turned r).at; position = (turned r).position }
