-- What the pieces of Build owe their callers.
use Rattle.std.specs.Prelude.{ℕ, not, ◌&&◌, cond, List, ltb, length, get_or, Result, Ok, Err, ⊤}
use Rattle.span.specs.Bytes.{zeros, same}
use Rattle.layout.specs.Sizes.{slot_at}
use Rattle.layout.specs.FirstFault.{BlockFault}
use Rattle.layout.specs.Lengths.{pages_in}
use Rattle.blockmap.specs.Pack.{pair_of}
use Rattle.layout.specs.Numbers.{refusal_number}
use Rattle.layout.specs.declared.RefusedAt.{RefusedAt}
use Rattle.slots.specs.Slots.{payload_of}
use Rattle.payload.specs.Entries.{offset_with}
use Rattle.store.specs.Block.{slot_of, place_of}
use Rattle.building.specs.Build.{block_fault, block_offset, BuildNumbers}

-- 10 where a block's place holds stray bytes
unfoldable pub strays_in : ℕ → List ℕ → ℕ → ℕ
strays_in P full b = cond (ltb b (pages_in P (length full)) && not (same (place_of P full b) (zeros P))) 10 0

-- what is found of one block: its number, and the offset with 7
pub record FindingNumbers : Type 0 where
  pub number : ℕ
  pub offset : ℕ

abbrev pub finding_numbers : Result ⊤ RefusedAt → FindingNumbers
finding_numbers (Ok _) = record { number = 0; offset = 0 }
finding_numbers (Err r) = record { number = refusal_number r.refusal; offset = r.offset }

abbrev pub block_finding : ℕ → List ℕ → List ℕ → ℕ → FindingNumbers
block_finding P patch full b = record { number = block_fault P patch full b; offset = block_offset P patch full b }

-- the answer that a first fault is told by
abbrev pub fault_numbers : ℕ → List ℕ → BlockFault → BuildNumbers
fault_numbers P patch f =
    record { number = f.number; block = f.block; offset = offset_with f.number P (payload_of (slot_of patch f.block)) }

-- the pair that a slot's first byte stands for
unfoldable pub kind_pair : List ℕ → ℕ → ℕ
kind_pair patch b = pair_of (get_or patch (slot_at b) 0)
