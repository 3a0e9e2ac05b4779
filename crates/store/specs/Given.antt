-- "Each refusal is given when its condition holds and no earlier one does, and at no other time": Format, Judge and Show.
use Prim.Native.Nat.{ℕ, ◌+◌, ◌≤◌}
use native.Mathlib.Omega.{arith}
use Rattle.std.specs.Prelude.{◌≡◌, ◌&&◌}
use Rattle.std.proofs.Math.Path.{refl, ap}
use Rattle.std.proofs.Common.{sym, ◌∙◌}
use Rattle.std.proofs.Math.Bool.{true}
use mathlib.Core.List.{List, []}
use Rattle.std.proofs.Math.Dec.{leb}
use Rattle.std.proofs.Math.ListN.{length}
use borrow.Author.Tests.{leb-true, leb-false, not-false}
use Rattle.span.specs.Bytes.{part}
use Rattle.span.specs.Laws.{part_length, and_left, and_right}
use Rattle.layout.specs.Sizes.{slot_size, payload_at, room, slot_at}
use Rattle.layout.specs.Refusals.{first_of}
use Rattle.layout.specs.RefusalLaws.{decided_done, NoneHolds, first_done, Exactly, exactly, decided_number, no_row, row}
use Rattle.layout.specs.Groups.{ordered}
use Rattle.headers.specs.Headers.{head_rows, patch_head_rows}
use Rattle.layout.specs.Lengths.{blocks_in, patch_fits, length_rows}
use Rattle.layout.specs.LengthLaws.{slot_within}
use Rattle.slots.specs.Slots.{is_patch, payload_length}
use Rattle.store.specs.Block.{slot_of}
use Rattle.store.specs.Format.{FormatOutcome, format_rows, format_outcome, format_groups}
use Rattle.store.specs.Judge.{JudgedNumbers, judge_rows, judge_numbers, judge_groups}
use Rattle.store.specs.Show.{show_rows, show_place, show_groups}
use Rattle.store.specs.declared.Place.{Place}
use Rattle.layout.specs.GroupLaws.{once}

pub judge_exactly : (slot : List ℕ) → Exactly (judge_rows slot) (judge_numbers slot).number
unfolding judge_numbers judge_rows ordered
judge_exactly slot =
    exactly (judge_rows slot) _ (decided_number (λ (n : JudgedNumbers). n.number) _ _ (first_of (judge_rows slot)) refl (λ k. refl))
    (row (row no_row))

module _ (P : ℕ) where
  pub format_exactly : (patch full : List ℕ) → Exactly (format_rows P patch full) (format_outcome P patch full).number
  unfolding format_outcome format_rows ordered length_rows
  format_exactly patch full =
      exactly (format_rows P patch full) _ (decided_number (λ (o : FormatOutcome). o.number) _ _ (first_of (format_rows P patch full)) refl
      (λ k. refl)) (row no_row)

  -- Show hands out an empty part where one of these is given
  pub show_exactly : (patch : List ℕ) (b : ℕ) → Exactly (show_rows P patch b) (first_of (show_rows P patch b))
  unfolding show_rows ordered patch_head_rows head_rows
  show_exactly patch b = exactly (show_rows P patch b) _ refl (row (row (row (row (row (row no_row))))))

  -- and bytes where none is
  pub show_some : (patch : List ℕ) (b : ℕ) → NoneHolds (show_rows P patch b)
      → part (show_place P patch b).at (show_place P patch b).len patch ≡ [] → ⊥
  unfolding show_place show_rows ordered patch_head_rows head_rows is_patch
  show_some patch b none e =
      let s : List ℕ = slot_of patch b in
      let n : ℕ = payload_length s in
      let sizes : (leb 1 n && leb n room) ≡ true = and_left (leb 1 n && leb n room) _ (not-false (is_patch s) none.1.1.1.1.1.0) in
      let some : 1 ≤ n = leb-true 1 n (and_left (leb 1 n) (leb n room) sizes) in
      let most : n ≤ room = leb-true n room (and_right (leb 1 n) (leb n room) sizes) in
      let within : slot_at b + slot_size ≤ length patch =
      slot_within P (length patch) b (not-false (patch_fits P (length patch)) none.0)
      (leb-false (blocks_in (length patch)) b none.1.1.1.1.0) in
      let place : show_place P patch b ≡ record { at = slot_at b + payload_at; len = n } = decided_done _ _ (first_of (show_rows P patch b))
      (first_done (show_rows P patch b) none) in
      let long : length (part (slot_at b + payload_at) n patch) ≡ n = part_length (slot_at b + payload_at) n patch (omega arith) in
      let short : length (part (slot_at b + payload_at) n patch)
      ≡ 0 = ap (λ (l : List ℕ). length l) (sym (ap (λ (x : Place). part x.at x.len patch) place) ∙ e) in
      omega arith

pub format_once : (P : ℕ) (patch full : List ℕ) → once (format_groups P patch full) ≡ true
format_once P patch full = refl

pub judge_once : (slot : List ℕ) → once (judge_groups slot) ≡ true
judge_once slot = refl

pub show_once : (P : ℕ) (patch : List ℕ) (b : ℕ) → once (show_groups P patch b) ≡ true
show_once P patch b = refl
