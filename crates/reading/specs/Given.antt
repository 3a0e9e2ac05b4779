-- "Each refusal is given when its condition holds and no earlier one does, and at no other time": Read, and Read by the map.
use Rattle.std.specs.Prelude.{ℕ, ◌≡◌, List, true}
use Rattle.std.proofs.Math.Path.{refl}
use Rattle.layout.specs.Refusals.{first_of}
use Rattle.layout.specs.RefusalLaws.{Exactly, exactly, decided_number, decided_beside, no_row, row, both}
use Rattle.layout.specs.Groups.{ordered}
use Rattle.headers.specs.HeaderLaws.{headers_numbered}
use Rattle.layout.specs.Lengths.{length_rows}
use Rattle.store.specs.Block.{slot_of, slot_rows, full_rows, payload_rows}
use Rattle.slots.specs.Slots.{payload_of}
use Rattle.payload.specs.Entries.{offset_with}
use Rattle.reading.specs.Read.{ReadOutcome, read_rows, read_outcome, read_groups}
use Rattle.reading.specs.Mapped.{read_mapped_groups, read_mapped_rows, read_mapped_outcome}
use Rattle.layout.specs.GroupLaws.{once}

module _ (P : ℕ) where
  pub read_number : (patch full : List ℕ) (b : ℕ) (base page : List ℕ) → (read_outcome P patch full b base page).number
      ≡ first_of (read_rows P patch full b base page)
  unfolding read_outcome
  read_number patch full b base page = decided_number (λ (o : ReadOutcome). o.number) _ _ (first_of (read_rows P patch full b base page))
      refl (λ k. refl)

  pub read_exactly : (patch full : List ℕ) (b : ℕ) (base page : List ℕ)
      → Exactly (read_rows P patch full b base page) (read_outcome P patch full b base page).number
  unfolding read_rows ordered length_rows slot_rows full_rows payload_rows
  read_exactly patch full b base page =
      exactly (read_rows P patch full b base page) _ (read_number patch full b base page)
      (row (row (both (headers_numbered P patch full) (row (row (row (row no_row)))))))

  -- the offset goes with 7 alone
  pub read_told : (patch full : List ℕ) (b : ℕ) (base page : List ℕ) → (read_outcome P patch full b base page).offset
      ≡ offset_with (read_outcome P patch full b base page).number P (payload_of (slot_of patch b))
  unfolding read_outcome
  read_told patch full b base page =
      decided_beside (λ (o : ReadOutcome). o.number) (λ (o : ReadOutcome). o.offset)
      (λ k. offset_with k P (payload_of (slot_of patch b))) _ _
      (first_of (read_rows P patch full b base page)) refl refl (λ k. refl) (λ k. refl) refl

-- Read by the map

module _ (P : ℕ) where
  pub read_mapped_number : (patch full map : List ℕ) (b : ℕ) (base page : List ℕ) → (read_mapped_outcome P patch full map b base page).number
      ≡ first_of (read_mapped_rows P patch full map b base page)
  unfolding read_mapped_outcome
  read_mapped_number patch full map b base page = decided_number (λ (o : ReadOutcome). o.number) _ _
      (first_of (read_mapped_rows P patch full map b base page)) refl (λ k. refl)

  pub read_mapped_exactly : (patch full map : List ℕ) (b : ℕ) (base page : List ℕ)
      → Exactly (read_mapped_rows P patch full map b base page) (read_mapped_outcome P patch full map b base page).number
  unfolding read_mapped_rows ordered length_rows
  read_mapped_exactly patch full map b base page =
      exactly (read_mapped_rows P patch full map b base page) _ (read_mapped_number patch full map b base page)
      (row (row (row (both (headers_numbered P patch full) (row (row (row (row (row no_row)))))))))

  pub read_mapped_told : (patch full map : List ℕ) (b : ℕ) (base page : List ℕ) → (read_mapped_outcome P patch full map b base page).offset
      ≡ offset_with (read_mapped_outcome P patch full map b base page).number P (payload_of (slot_of patch b))
  unfolding read_mapped_outcome
  read_mapped_told patch full map b base page =
      decided_beside (λ (o : ReadOutcome). o.number) (λ (o : ReadOutcome). o.offset)
      (λ k. offset_with k P (payload_of (slot_of patch b))) _ _
      (first_of (read_mapped_rows P patch full map b base page)) refl refl (λ k. refl) (λ k. refl) refl

pub read_mapped_once : (P : ℕ) (patch full map : List ℕ) (b : ℕ) (base page : List ℕ)
    → once (read_mapped_groups P patch full map b base page) ≡ true
read_mapped_once P patch full map b base page = refl

pub read_once : (P : ℕ) (patch full : List ℕ) (b : ℕ) (base page : List ℕ) → once (read_groups P patch full b base page) ≡ true
read_once P patch full b base page = refl
