-- What the parts of Cut and Highest owe.
use Rattle.std.specs.Prelude.{ℕ, suc, ◌≡◌, Bool, not, cond, List, [], ◌∷◌, Result, ⊤}
use Rattle.layout.specs.Numbers.{answer_number}
use Rattle.layout.specs.declared.Refusal.{Refusal}
use Rattle.layout.specs.Refusals.{Row, ◌⇐◌, first_of, decided}
use Rattle.layout.specs.FirstFault.{rows_from}
use Rattle.store.specs.Block.{slot_of, slot_rows}
use Rattle.cutting.specs.Cut.{cut_by}
use Rattle.cutting.specs.Highest.{extent, non_empty, HighestNumbers}

-- 9, told whether the call's buffer is long enough
abbrev pub told_rows : Bool → List Row
told_rows fits = (9 ⇐ not fits) ∷ []

pub record CutWith (P : ℕ) (fits : Bool) (patch full : List ℕ) (K : ℕ) (answer : Result ⊤ Refusal) (patch' full' : List ℕ) : Type 0 where
  pub numbers : answer_number answer ≡ (cut_by P (told_rows fits) patch full K).number
  pub patch_bytes : patch' ≡ (cut_by P (told_rows fits) patch full K).patch
  pub full_bytes : full' ≡ (cut_by P (told_rows fits) patch full K).full

-- what rows and an extent come to
abbrev pub reached : List Row → ℕ → HighestNumbers
reached rows blocks = decided (first_of rows) (record { number = 0; blocks = blocks }) (λ k. record { number = k; blocks = 0 })

-- one slot more, after slots that reach to `before`
unfoldable pub slot_extent : List ℕ → ℕ → ℕ → HighestNumbers
slot_extent patch b before = reached (slot_rows (slot_of patch b)) (cond (non_empty patch b) (suc b) before)

-- the first n slots
unfoldable pub scan_numbers : List ℕ → ℕ → HighestNumbers
scan_numbers patch n = reached (rows_from (λ b. slot_rows (slot_of patch b)) 0 n) (extent (non_empty patch) n)
