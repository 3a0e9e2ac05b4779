-- Wrong refusals, each broken by one input: lengths looked at before pages, a buffer before lengths, and a map that is long enough for its
-- block but not for n.
use Rattle.std.specs.Prelude.{[], ◌∷◌, Ok}
use Rattle.std.proofs.Common.{arith, ap}
use Rattle.span.specs.Bytes.{zeros}
use Rattle.layout.specs.Sizes.{page_size}
use Rattle.layout.specs.Refusals.{first_of, or_else, decided}
use Rattle.layout.specs.Groups.{ordered}
use Rattle.layout.specs.Lengths.{blocks_in, patch_fits, length_rows}
use Rattle.layout.specs.declared.Refusal.TheVariants.{Length, Buffer}
use Rattle.stream.specs.Calls.{pages_fit}
use Rattle.blockmap.specs.Pairs.{map_bytes}
use Rattle.blockmap.specs.Calls.{map_rows, LookedNumbers, look_up_rows, look_up_numbers, LookUp}
use Rattle.reading.specs.Read.{read_rows, read_outcome, ReadNumbers, Read}
use Rattle.building.specs.Build.{build_rows, build_outcome, BuildNumbers, Build}
use Rattle.layout.specs.Numbers.{refused_at}
use Rattle.building.specs.Build.{refused_in}
use Rattle.layout.specs.declared.Kind.TheVariants.{Empty}

-- a base of one byte and a patch area of none: 1, and not 2
pub not_lengths_before_pages : Read page_size [] [] 0 (0 ∷ []) [] (refused_at Length 0) [] → ⊥
unfolding read_outcome read_rows ordered pages_fit first_of or_else decided
not_lengths_before_pages x = omega (arith, ap (λ (n : ReadNumbers). n.number) x.numbers)

-- a patch area that is one byte too long for its one block, and no room for the map: 2, and not 9
pub not_buffer_before_lengths : Build page_size (zeros 1025) [] [] (refused_in Buffer 0 0) [] → ⊥
unfolding zeros build_outcome build_rows ordered length_rows patch_fits blocks_in first_of or_else decided
not_buffer_before_lengths x = omega (arith, ap (λ (n : BuildNumbers). n.number) x.numbers)

-- a map of one byte has block 0's own pair, and is too short for five blocks: 9
pub not_own_byte_suffices : LookUp page_size (0 ∷ []) 5 0 (Ok Empty) → ⊥
unfolding look_up_numbers look_up_rows map_rows ordered map_bytes first_of or_else decided
not_own_byte_suffices x = omega (arith, ap (λ (n : LookedNumbers). n.number) x.numbers)
