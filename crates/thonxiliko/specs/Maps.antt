-- What the exported calls on a block map owe: the struct's numbers are those of the call's definition.
use Rattle.std.specs.Prelude.{ℕ, ◌≡◌, List}
use Rattle.blockmap.specs.Calls.{LookedNumbers, look_up_numbers, TalliedNumbers, tally_numbers}
use Rattle.thonxiliko.specs.declared.thx_pair.{thx_pair}
use Rattle.thonxiliko.specs.declared.thx_tallied.{thx_tallied}

-- Look up

abbrev pub pair_members : thx_pair → LookedNumbers
pair_members r = record { number = r.number; pair = r.pair }

pub record ThxLookUp (P : ℕ) (map : List ℕ) (n b : ℕ) (r : thx_pair) : Type 0 where
  pub numbers : pair_members r ≡ look_up_numbers P map n b

-- Tally

abbrev pub tallied_members : thx_tallied → TalliedNumbers
tallied_members r = record { number = r.number; patch = r.patch; full = r.full }

pub record ThxTally (P : ℕ) (map : List ℕ) (n : ℕ) (r : thx_tallied) : Type 0 where
  pub numbers : tallied_members r ≡ tally_numbers P map n
