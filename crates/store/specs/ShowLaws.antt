-- The laws of Show: its place by what is wrong first.
use Rattle.std.specs.Prelude.{ℕ, zero, suc, ◌+◌, ◌≤◌, ◌<◌, ◌≡◌, refl, Bool, false, not, cond, ◌&&◌, leb, length, Ok, Err}
use Rattle.std.proofs.Common.{arith, ◌∙◌}
use Rattle.std.proofs.Math.Path.{sym, ap}
use Rattle.std.proofs.Math.Bool.{true, and-true}
use mathlib.Core.List.{List, [], ◌∷◌}
use borrow.Author.Tests.{le-leb, lt-leb, leb-true, leb-false}
use Rattle.span.specs.Laws.{and_left, and_right}
use Rattle.layout.specs.Sizes.{payload_at, slot_at, slot_size, room}
use Rattle.layout.specs.LengthLaws.{slot_within, absent_fits}
use Rattle.layout.specs.Refusals.{◌⇐◌, first_of, or_else}
use Rattle.layout.specs.RefusalLaws.{first_append, or_some, decided_done, decided_refused}
use Rattle.layout.specs.Groups.{ordered}
use Rattle.headers.specs.Headers.{patch_head_rows, header_rows}
use Rattle.headers.specs.HeaderLaws.{headers_are, full_absent}
use Rattle.layout.specs.Lengths.{blocks_in, patch_fits}
use Rattle.slots.specs.Slots.{is_patch, payload_length}
use Rattle.store.specs.Block.{slot_of}
use Rattle.store.specs.Show.{nowhere, show_rows, show_place}
use Rattle.layout.specs.Numbers.{refusal_number}
use Rattle.layout.specs.NumberLaws.{refusal_some}
use Rattle.layout.specs.declared.Refusal.{Refusal}
use Rattle.store.specs.Open.{open_rows, open_numbers, opened_numbers}
use Rattle.store.specs.OpenLaws.{opened_frame, opened_refused}
use Rattle.store.specs.FrameLaws.{frame_is, frame_by}
use Rattle.store.specs.declared.frame.Frame.{Frame}
use Rattle.store.specs.declared.Place.{Place}

or_zero : (n : ℕ) → or_else n 0 ≡ n
unfolding or_else
or_zero zero = refl
or_zero (suc n) = refl

-- the rows, one after the other
show_rows_is : (P : ℕ) (patch : List ℕ) (b : ℕ)
    → first_of (show_rows P patch b)
    ≡ or_else (cond (not (patch_fits P (length patch))) 2 0)
    (or_else (first_of (patch_head_rows P patch))
    (or_else (cond (leb (blocks_in (length patch)) b) 5 0) (or_else (cond (not (is_patch (slot_of patch b))) 6 0) 0)))
unfolding show_rows ordered first_of
show_rows_is P patch b =
    ap (λ (k : ℕ). or_else (cond (not (patch_fits P (length patch))) 2 0) k)
    (first_append (patch_head_rows P patch) ((5 ⇐ leb (blocks_in (length patch)) b) ∷ (6 ⇐ not (is_patch (slot_of patch b))) ∷ []))

module _ (P : ℕ) (patch : List ℕ) (b : ℕ) where
  refused : (k : ℕ) → first_of (show_rows P patch b) ≡ k → (k ≡ 0 → ⊥) → nowhere ≡ show_place P patch b
  unfolding show_place
  refused k e h = sym (decided_refused _ _ (first_of (show_rows P patch b)) k e h)

  pub show_length : patch_fits P (length patch) ≡ false → nowhere ≡ show_place P patch b
  unfolding or_else
  show_length e = refused 2 (show_rows_is P patch b ∙ rw e) (λ q. omega arith)

  pub show_header : (k : ℕ) → patch_fits P (length patch) ≡ true → first_of (patch_head_rows P patch) ≡ k → (k ≡ 0 → ⊥)
      → nowhere ≡ show_place P patch b
  unfolding or_else
  show_header k e f h = refused k (show_rows_is P patch b
      ∙ rw (e, f) (or_some k (or_else (cond (leb (blocks_in (length patch)) b) 5 0) (or_else (cond (not (is_patch (slot_of patch b))) 6 0) 0))
      h)) h

  module _ (e : patch_fits P (length patch) ≡ true) (f : first_of (patch_head_rows P patch) ≡ 0) where
    pub show_block : blocks_in (length patch) ≤ b → nowhere ≡ show_place P patch b
    unfolding or_else
    show_block h = refused 5 (show_rows_is P patch b ∙ rw (e, f, le-leb (blocks_in (length patch)) b h)) (λ q. omega arith)

    pub show_slot : b < blocks_in (length patch) → is_patch (slot_of patch b) ≡ false → nowhere ≡ show_place P patch b
    unfolding or_else
    show_slot h g = refused 6 (show_rows_is P patch b ∙ rw (e, f, lt-leb (blocks_in (length patch)) b h, g)) (λ q. omega arith)

    pub show_done : b < blocks_in (length patch) → is_patch (slot_of patch b) ≡ true
        → record { at = slot_at b + payload_at; len = payload_length (slot_of patch b) } ≡ show_place P patch b
    unfolding or_else show_place
    show_done h g = sym (decided_done _ _ (first_of (show_rows P patch b)) (show_rows_is P patch b
        ∙ rw (e, f, lt-leb (blocks_in (length patch)) b h, g)))

-- A frame with no full area is what Show opens, and what any call on the patch area alone opens

module _ (P : ℕ) (patch : List ℕ) where
  pub alone : first_of (open_rows P true true patch []) ≡ or_else (cond (not (patch_fits P (length patch))) 2 0) (first_of (patch_head_rows P patch))
  unfolding frame_by or_else
  alone =
      let heads : first_of (header_rows P patch []) ≡ first_of (patch_head_rows P patch) = headers_are P patch []
      ∙ ap (λ (k : ℕ). or_else (first_of (patch_head_rows P patch)) k) (full_absent P [] refl) ∙ or_zero (first_of (patch_head_rows P patch)) in
      frame_is P patch [] true true ∙ rw (absent_fits P (blocks_in (length patch)), and-true (patch_fits P (length patch)), heads)

  heads_told : (k : ℕ) → patch_fits P (length patch) ≡ true → first_of (open_rows P true true patch []) ≡ k
      → first_of (patch_head_rows P patch) ≡ k
  unfolding or_else
  heads_told k fit e = sym (alone ∙ rw fit) ∙ e

  pub opened_wrong : (b : ℕ) (r : Refusal) → opened_numbers (Err r) ≡ open_numbers P true true patch []
      → nowhere ≡ show_place P patch b
  opened_wrong b r told = go (patch_fits P (length patch)) refl
    where
      go : (t : Bool) → patch_fits P (length patch) ≡ t → nowhere ≡ show_place P patch b
      go true fit = show_header P patch b (refusal_number r) fit
          (heads_told (refusal_number r) fit (opened_refused P true true patch [] r told)) (refusal_some r)
      go false fit = show_length P patch b fit

  pub opened_alone : (f : Frame) → opened_numbers (Ok f) ≡ open_numbers P true true patch []
      → (patch_fits P (length patch) ≡ true) × (first_of (patch_head_rows P patch) ≡ 0) × (f.n ≡ blocks_in (length patch))
  opened_alone f told =
      let o = opened_frame P true true patch [] f told in
      (o.framed.patch_fit, heads_told 0 o.framed.patch_fit o.framed.none, o.blocks)

-- the part lies in the patch area
pub show_within : (P : ℕ) (patch : List ℕ) (b : ℕ) → (show_place P patch b).at + (show_place P patch b).len ≤ length patch
unfolding is_patch
show_within P patch b = go (patch_fits P (length patch)) refl
  where
    none : nowhere ≡ show_place P patch b → (show_place P patch b).at + (show_place P patch b).len ≤ length patch
    none e =
        let x : 0 ≡ (show_place P patch b).at = ap (λ (p : Place). p.at) e in
        let y : 0 ≡ (show_place P patch b).len = ap (λ (p : Place). p.len) e in
        omega arith

    slot : patch_fits P (length patch) ≡ true → first_of (patch_head_rows P patch) ≡ 0 → b < blocks_in (length patch) → (t : Bool)
        → is_patch (slot_of patch b) ≡ t → (show_place P patch b).at + (show_place P patch b).len ≤ length patch
    slot e f h true g =
        let n : ℕ = payload_length (slot_of patch b) in
        let q = show_done P patch b e f h g in
        let x : slot_at b + payload_at ≡ (show_place P patch b).at = ap (λ (p : Place). p.at) q in
        let y : n ≡ (show_place P patch b).len = ap (λ (p : Place). p.len) q in
        let sizes : (leb 1 n && leb n room) ≡ true = and_left (leb 1 n && leb n room) _ g in
        let most : n ≤ room = leb-true n room (and_right (leb 1 n) (leb n room) sizes) in
        let within : slot_at b + slot_size ≤ length patch = slot_within P (length patch) b e h in
        omega arith
    slot e f h false g = none (show_slot P patch b e f h g)

    block : patch_fits P (length patch) ≡ true → first_of (patch_head_rows P patch) ≡ 0 → (t : Bool) → leb (blocks_in (length patch)) b ≡ t
        → (show_place P patch b).at + (show_place P patch b).len ≤ length patch
    block e f true g = none (show_block P patch b e f (leb-true (blocks_in (length patch)) b g))
    block e f false g = slot e f (leb-false (blocks_in (length patch)) b g) (is_patch (slot_of patch b)) refl

    head : patch_fits P (length patch) ≡ true → (k : ℕ) → first_of (patch_head_rows P patch) ≡ k
        → (show_place P patch b).at + (show_place P patch b).len ≤ length patch
    head e zero f = block e f (leb (blocks_in (length patch)) b) refl
    head e (suc k) f = none (show_header P patch b (suc k) e f (λ q. omega arith))

    go : (t : Bool) → patch_fits P (length patch) ≡ t → (show_place P patch b).at + (show_place P patch b).len ≤ length patch
    go true e = head e (first_of (patch_head_rows P patch)) refl
    go false e = none (show_length P patch b e)
