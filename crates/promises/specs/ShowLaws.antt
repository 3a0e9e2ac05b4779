-- What Show hands out, from the rows of its definition to the words of the demands.
use Prim.Native.Nat.{ℕ, ◌+◌, zero, suc, ◌≤◌, ◌<◌}
use Rattle.std.proofs.Common.{arith, ◌∙◌, true≢false}
use Rattle.std.proofs.Math.Decide.{dec_lt}
use Rattle.std.specs.Prelude.{◌≡◌, Bool, false, ◌↔◌}
use Rattle.std.proofs.Math.Path.{refl, sym, ap}
use Rattle.std.proofs.Math.Bool.{true}
use mathlib.Core.List.{List, []}
use Rattle.std.proofs.Math.ListN.{length}
use Rattle.span.specs.Bytes.{part}
use Rattle.span.specs.Laws.{part_none, part_part}
use Rattle.layout.specs.Sizes.{blocks_at_most, patch_head, slot_size, payload_at, slot_at}
use Rattle.layout.specs.Refusals.{first_of}
use Rattle.headers.specs.Headers.{patch_header, patch_head_rows}
use Rattle.layout.specs.Lengths.{patch_fits}
use Rattle.layout.specs.LengthLaws.{patch_fits_is, patch_fits_at, slot_within}
use Rattle.slots.specs.Slots.{is_patch, payload_length, payload_of}
use Rattle.slots.specs.Meaning.{payload_length_of, patch_is, patch_image}
use Rattle.headers.specs.Meaning.{patch_header_length, head_none, head_like}
use Rattle.store.specs.Block.{slot_of}
use Rattle.store.specs.Show.{show_place, Show}
use Rattle.store.specs.ShowLaws.{show_length, show_header, show_block, show_slot, show_done}
use Rattle.store.specs.declared.Place.{Place}
use Rattle.promises.specs.Words.{blocks, PatchFits, PatchOf, ShowsNothing}
use Rattle.promises.specs.SlotLaws.{patch_of}

module _ (P : ℕ) (patch : List ℕ) (b : ℕ) where
  area_fits : length patch ≡ slot_at (blocks patch) → blocks patch ≤ blocks_at_most P → patch_fits P (length patch) ≡ true
  area_fits e h = ap (λ (l : ℕ). patch_fits P l) e ∙ patch_fits_at P (blocks patch) h

  head_fits : part 0 patch_head patch ≡ patch_header P → first_of (patch_head_rows P patch) ≡ 0
  unfolding patch_head_rows
  head_fits e = head_like (patch_header P) patch patch_head (patch_header_length P) (omega arith) e

  patch_stands : (payload : List ℕ) → PatchOf (slot_of patch b) payload → is_patch (slot_of patch b) ≡ true
  patch_stands payload p = ap is_patch p.image ∙ patch_is payload p.room_for p.some

  pub shown_payload : (lent handed : ℕ × ℕ) (shown : List ℕ) → Show P patch b lent shown handed → PatchFits P patch b → (payload : List ℕ)
      → PatchOf (slot_of patch b) payload → shown ≡ payload
  unfolding slot_of payload_of
  shown_payload lent handed shown s fits payload p =
      let n : ℕ = payload_length (slot_of patch b) in
      let q : n ≡ length payload = ap payload_length p.image ∙ payload_length_of payload p.room_for in
      let a : patch_fits P (length patch) ≡ true = area_fits fits.patch_length fits.not_above in
      s.bytes
      ∙ ap (λ (x : Place). part x.at x.len patch)
      (sym (show_done P patch b a (head_fits fits.patch_header_is) fits.below (patch_stands payload p)))
      ∙ sym (part_part payload_at n (slot_at b) slot_size patch (omega (arith, p.room_for))
      (slot_within P (length patch) b a fits.below))
      ∙ (patch_of (slot_of patch b) payload p).1

  pub shown_in_place : (lent handed : ℕ × ℕ) (shown : List ℕ) → Show P patch b lent shown handed → PatchFits P patch b
      → (payload : List ℕ) → PatchOf (slot_of patch b) payload → (handed.0 ≡ lent.0) × (handed.1 ≡ lent.1 + (slot_at b + payload_at))
  shown_in_place lent handed shown s fits payload p =
      let a : patch_fits P (length patch) ≡ true = area_fits fits.patch_length fits.not_above in
      let q = show_done P patch b a (head_fits fits.patch_header_is) fits.below (patch_stands payload p) in
      let x : slot_at b + payload_at ≡ (show_place P patch b).at = ap (λ (x : Place). x.at) q in
      (s.memory, s.place ∙ ap (λ (n : ℕ). lent.1 + n) (sym x))

  -- either nothing is shown, for one of the paper's reasons, or there is a payload to show
  data Shown : Type 0 where
    none : ShowsNothing P patch b → record { at = 0; len = 0 } ≡ show_place P patch b → Shown
    some : PatchFits P patch b → (payload : List ℕ) → PatchOf (slot_of patch b) payload → Shown

  shown_or_not : Shown
  unfolding patch_head_rows
  shown_or_not = go (patch_fits P (length patch)) refl (first_of (patch_head_rows P patch)) refl (dec_lt b (blocks patch))
      (is_patch (slot_of patch b)) refl
    where
      s : List ℕ
      s = slot_of patch b

      go : (a : Bool) → patch_fits P (length patch) ≡ a → (k : ℕ) → first_of (patch_head_rows P patch) ≡ k → Dec (b < blocks patch)
          → (t : Bool) → is_patch s ≡ t → Shown
      go false e k f d t g = none (ShowsNothing.area (λ l m. true≢false (sym (area_fits l m) ∙ e))) (show_length P patch b e)
      go true e (suc k) f d t g =
          none
          (ShowsNothing.header
          (λ h.
          let z : first_of (patch_head_rows P patch) ≡ 0 = head_fits h in
          omega arith))
          (show_header P patch b (suc k) e f (λ z. omega arith))
      go true e zero f (no h) t g = none (ShowsNothing.block (omega arith)) (show_block P patch b e f (omega arith))
      go true e zero f (yes h) false g = none (ShowsNothing.slot (λ payload p. true≢false (sym (patch_stands payload p) ∙ g)))
          (show_slot P patch b e f h g)
      go true e zero f (yes h) true g =
          let w = patch_image s g in
          let l = patch_fits_is P (length patch) e in
          some
          (record {
            patch_length = l.0;
            not_above = l.1;
            patch_header_is = head_none (patch_header P) patch patch_head (patch_header_length P) (omega arith) f;
            below = h;
          })
          (payload_of s) (record { image = w.2; some = w.0; room_for = w.1 })

  pub nothing_shown : (lent handed : ℕ × ℕ) (shown : List ℕ) → Show P patch b lent shown handed → (shown ≡ []) ↔ ShowsNothing P patch b
  nothing_shown lent handed shown s = (λ e. there e shown_or_not, λ n. back n shown_or_not)
    where
      there : shown ≡ [] → Shown → ShowsNothing P patch b
      there e (none n q) = n
      there e (some fits payload p) =
          let q : length payload ≡ 0 = ap (λ (l : List ℕ). length l) (sym (shown_payload lent handed shown s fits payload p) ∙ e) in
          absurd (omega (arith, p.some))

      back : ShowsNothing P patch b → Shown → shown ≡ []
      back n (none m q) = s.bytes ∙ ap (λ (x : Place). part x.at x.len patch) (sym q) ∙ part_none 0 patch
      back (ShowsNothing.area h) (some fits payload p) = absurd (h fits.patch_length fits.not_above)
      back (ShowsNothing.header h) (some fits payload p) = absurd (h fits.patch_header_is)
      back (ShowsNothing.block h) (some fits payload p) = absurd (omega (arith, fits.below))
      back (ShowsNothing.slot h) (some fits payload p) = absurd (h payload p)
