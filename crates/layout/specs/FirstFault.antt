-- The first fault of blocks taken in rising order, by any test of a block: 0 where nothing is wrong with it, else a refusal's number.
use Rattle.std.specs.Prelude.{ℕ, zero, suc, ◌+◌, List, [], ◌++◌}
use Rattle.layout.specs.Refusals.{Row, decided}

pub record BlockFault : Type 0 where
  pub number : ℕ
  pub block : ℕ

abbrev pub no_fault : BlockFault
no_fault = record { number = 0; block = 0 }

-- of the k blocks from b on
unfoldable pub first_fault : (ℕ → ℕ) → ℕ → ℕ → BlockFault
first_fault test b zero = no_fault
first_fault test b (suc k) =
    let rest = first_fault test (b + 1) k in
    decided (test b) rest (λ n. record { number = n; block = b })

-- the rows of these blocks, one after the other
unfoldable pub rows_from : (ℕ → List Row) → ℕ → ℕ → List Row
rows_from rows b zero = []
rows_from rows b (suc k) = rows b ++ rows_from rows (b + 1) k
