-- The laws of Format.
use Rattle.std.specs.Prelude.{ℕ, ◌≤◌, ◌≡◌, refl, Bool, true, false, not, cond, ◌⊎◌, List, length, take}
use Rattle.std.proofs.Common.{le_of_eq, arith, ◌∙◌, inl, inr, take_all}
use Rattle.layout.specs.Refusals.{first_of, or_else}
use Rattle.layout.specs.RefusalLaws.{decided_done, decided_refused}
use Rattle.layout.specs.Groups.{ordered}
use Rattle.layout.specs.Lengths.{blocks_in, pages_in, patch_fits, full_fits, length_rows}
use Rattle.headers.specs.Fresh.{fresh_patch, fresh_full}
use Rattle.layout.specs.LengthLaws.{patch_fits_is, full_fits_is}
use Rattle.headers.specs.FreshLaws.{fresh_patch_length, fresh_full_length}
use Rattle.layout.specs.Sizes.{full_head, slot_at, page_at}
use Rattle.span.specs.Laws.{and_left, and_right}
use Rattle.store.specs.FrameLaws.{lengths_fit}
use Rattle.store.specs.Format.{format_rows, format_outcome}

format_rows_is : (P : ℕ) (patch full : List ℕ) → first_of (format_rows P patch full) ≡ cond (not (lengths_fit P patch full)) 2 0
unfolding format_rows ordered first_of or_else length_rows
format_rows_is P patch full = go (lengths_fit P patch full)
  where
    go : (t : Bool) → or_else (cond (not t) 2 0) 0 ≡ cond (not t) 2 0
    go true = refl
    go false = refl

pub format_refused : (P : ℕ) (patch full : List ℕ) → lengths_fit P patch full ≡ false
    → format_outcome P patch full ≡ record { number = 2; patch = patch; full = full }
unfolding format_outcome
format_refused P patch full e = decided_refused _ _ (first_of (format_rows P patch full)) 2 (format_rows_is P patch full
    ∙ rw e) (λ q. omega arith)

pub format_done : (P : ℕ) (patch full : List ℕ) → lengths_fit P patch full ≡ true
    → format_outcome P patch full ≡ record { number = 0; patch = fresh_patch P (length patch); full = fresh_full P (length full) }
unfolding format_outcome
format_done P patch full e = decided_done _ _ (first_of (format_rows P patch full)) (format_rows_is P patch full ∙ rw e)

-- what the code makes of areas of sound lengths
pub format_patch : (P : ℕ) (patch full : List ℕ) → lengths_fit P patch full ≡ true → take (length patch) (fresh_patch P (length patch))
    ≡ fresh_patch P (length patch)
format_patch P patch full e =
    let l : length patch ≡ slot_at (blocks_in (length patch)) = (patch_fits_is P (length patch)
    (and_left (patch_fits P (length patch)) (full_fits P (blocks_in (length patch)) (length full)) e)).0 in
    take_all (length patch) (fresh_patch P (length patch)) (le_of_eq (fresh_patch_length P (length patch) (omega arith)))

pub format_full : (P : ℕ) (patch full : List ℕ) → lengths_fit P patch full ≡ true → take (length full) (fresh_full P (length full))
    ≡ fresh_full P (length full)
format_full P patch full e =
    take_all (length full) (fresh_full P (length full))
    (le_of_eq (fresh_full_length P (length full)
    (present (full_fits_is P (blocks_in (length patch)) (length full)
    (and_right (patch_fits P (length patch)) (full_fits P (blocks_in (length patch)) (length full)) e)))))
  where
    present : (length full ≡ 0) ⊎ ((length full ≡ page_at P (pages_in P (length full)))
        × (pages_in P (length full) ≤ blocks_in (length patch))) → (length full ≡ 0) ⊎ (full_head ≤ length full)
    present (inl q) = inl q
    present (inr q) =
        let r : length full ≡ page_at P (pages_in P (length full)) = q.0 in
        inr (omega arith)
