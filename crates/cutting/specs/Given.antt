-- "Each refusal is given when its condition holds and no earlier one does, and at no other time": Cut, Cut with a lent map, and Highest.
use Rattle.std.specs.Prelude.{ℕ, ◌≡◌, true, length}
use Rattle.std.proofs.Math.Path.{refl}
use mathlib.Core.List.{List, []}
use Rattle.layout.specs.Refusals.{first_of}
use Rattle.layout.specs.RefusalLaws.{Exactly, exactly, decided_number, Numbered, no_row, row, both}
use Rattle.layout.specs.Groups.{ordered}
use Rattle.layout.specs.GroupLaws.{once}
use Rattle.layout.specs.FirstFaultLaws.{rows_numbered}
use Rattle.layout.specs.Lengths.{blocks_in, length_rows}
use Rattle.headers.specs.Headers.{head_rows, patch_head_rows}
use Rattle.headers.specs.HeaderLaws.{headers_numbered}
use Rattle.blockmap.specs.Calls.{short_map}
use Rattle.store.specs.Block.{slot_of, slot_rows}
use Rattle.cutting.specs.Cut.{cut_groups, cut_rows, cut_outcome}
use Rattle.cutting.specs.Mapped.{cut_mapped_rows, cut_mapped_outcome}
use Rattle.cutting.specs.Highest.{highest_groups, highest_rows, HighestNumbers, highest_numbers}
use Rattle.cutting.specs.CutLaws.{cut_number, cut_mapped_number}

slot_numbered : (slot : List ℕ) → Numbered (slot_rows slot)
unfolding slot_rows
slot_numbered slot = row no_row

module _ (P : ℕ) where
  pub cut_exactly : (patch full : List ℕ) (K : ℕ) → Exactly (cut_rows P [] patch full K) (cut_outcome P patch full K).number
  unfolding cut_rows ordered length_rows
  cut_exactly patch full K =
      exactly (cut_rows P [] patch full K) _ (cut_number P [] patch full K) (row (both (headers_numbered P patch full) (row no_row)))

  pub cut_mapped_exactly : (patch full map : List ℕ) (K : ℕ)
      → Exactly (cut_mapped_rows P patch full map K) (cut_mapped_outcome P patch full map K).areas.number
  unfolding cut_mapped_rows cut_rows ordered length_rows
  cut_mapped_exactly patch full map K =
      exactly (cut_mapped_rows P patch full map K) _ (cut_mapped_number P patch full map K)
      (row (row (both (headers_numbered P patch full) (row no_row))))

  pub highest_number : (patch : List ℕ) → (highest_numbers P patch).number ≡ first_of (highest_rows P patch)
  unfolding highest_numbers
  highest_number patch = decided_number (λ (n : HighestNumbers). n.number) _ _ (first_of (highest_rows P patch)) refl (λ k. refl)

  pub highest_exactly : (patch : List ℕ) → Exactly (highest_rows P patch) (highest_numbers P patch).number
  unfolding highest_rows ordered patch_head_rows head_rows
  highest_exactly patch =
      exactly (highest_rows P patch) _ (highest_number patch)
      (row (row (row (row
      (both (rows_numbered (λ b. slot_rows (slot_of patch b)) (λ b. slot_numbered (slot_of patch b)) 0 (blocks_in (length patch))) no_row)))))

pub cut_once : (P : ℕ) (patch full : List ℕ) (K : ℕ) → once (cut_groups P [] patch full K) ≡ true
cut_once P patch full K = refl

pub cut_mapped_once : (P : ℕ) (patch full map : List ℕ) (K : ℕ)
    → once (cut_groups P (short_map map (blocks_in (length patch))) patch full K) ≡ true
cut_mapped_once P patch full map K = refl

pub highest_once : (P : ℕ) (patch : List ℕ) → once (highest_groups P patch) ≡ true
highest_once P patch = refl
