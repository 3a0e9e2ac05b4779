-- The laws of Build: a place, a block by what its slot is, the frame, and the whole call.
use Prim.Native.Nat.{ℕ, zero, suc, ◌≤◌, ◌<◌}
use native.Mathlib.Omega.{arith}
use Rattle.std.proofs.Math.Decide.{dec_lt}
use Rattle.std.proofs.Math.Path.{◌≡◌, refl, ap}
use Rattle.std.proofs.Common.{sym, ◌∙◌}
use Rattle.std.specs.Prelude.{◌⊎◌, Bool, ◌&&◌, cond, eqb, length}
use Rattle.std.proofs.Math.Logic.{inl, inr}
use Rattle.std.proofs.Math.Bool.{true, false, not}
use mathlib.Core.List.{List, [], ◌∷◌, ◌++◌}
use Rattle.std.proofs.Math.Dec.{ltb}
use borrow.Author.Tests.{lt-ltb, le-ltb, le-leb, lt-leb, eqb-true, not-false}
use Rattle.span.specs.Bytes.{zeros, same, splice}
use Rattle.span.specs.Laws.{same_true}
use Rattle.layout.specs.Refusals.{Row, ◌⇐◌, first_of, or_else, decided}
use Rattle.layout.specs.RefusalLaws.{decided_done, decided_refused, or_none, row_off}
use Rattle.layout.specs.Groups.{ordered}
use Rattle.layout.specs.GroupLaws.{in_halves}
use Rattle.layout.specs.Lengths.{blocks_in, pages_in}
use Rattle.headers.specs.Headers.{header_rows}
use Rattle.slots.specs.Slots.{slot_numbers, sound_slot, unsound_slot, payload_of}
use Rattle.payload.specs.Entries.{sound, offset_with}
use Rattle.blockmap.specs.Pairs.{map_bytes}
use Rattle.store.specs.Block.{slot_of, place_of, slot_rows, full_rows, payload_rows}
use Rattle.store.specs.Frame.{frame_rows}
use Rattle.store.specs.FrameLaws.{lengths_fit, frame_is, frame_sound}
use Rattle.building.specs.Build.{place_rows, block_fault, build_fault, build_rows, built_map, BuildOutcome, build_outcome, build_done}
use Rattle.building.specs.Build.{build_refused}
use Rattle.building.specs.Steps.{strays_in}

-- A place

module _ (P : ℕ) (full : List ℕ) (b : ℕ) where
  pub no_place : pages_in P (length full) ≤ b → strays_in P full b ≡ 0
  unfolding strays_in
  no_place h = rw (le-ltb b (pages_in P (length full)) h)

  pub clean_place : same (place_of P full b) (zeros P) ≡ true → strays_in P full b ≡ 0
  unfolding strays_in
  clean_place e = rw e (go (ltb b (pages_in P (length full))))
    where
      go : (t : Bool) → ◌≡◌ {A = ℕ} (cond (t && false) 10 0) 0
      go true = refl
      go false = refl

  pub stray_place : b < pages_in P (length full) → same (place_of P full b) (zeros P) ≡ false → strays_in P full b ≡ 10
  unfolding strays_in
  stray_place h e = rw (lt-ltb b (pages_in P (length full)) h, e)

  pub strays_other : strays_in P full b ≡ 7 → ⊥
  unfolding strays_in
  strays_other e = go (ltb b (pages_in P (length full)) && not (same (place_of P full b) (zeros P))) e
    where
      go : (t : Bool) → ◌≡◌ {A = ℕ} (cond t 10 0) 7 → ⊥
      go true q = omega arith
      go false q = omega arith

  -- a place that holds zeros, if there is one
  pub no_strays : (b < pages_in P (length full) → place_of P full b ≡ zeros P) → strays_in P full b ≡ 0
  no_strays h =
      elim (dec_lt b (pages_in P (length full))) [
        | yes l ↦ clean_place (same_true (place_of P full b) (zeros P) (h l))
        | no l ↦ no_place (omega arith)
      ]

-- A block, by what its slot is

or_else_zero : (n : ℕ) → or_else n 0 ≡ n
unfolding or_else
or_else_zero zero = refl
or_else_zero (suc n) = refl

module _ (P : ℕ) (patch full : List ℕ) (b : ℕ) where
  pub block_unsound : slot_numbers (slot_of patch b) ≡ unsound_slot → block_fault P patch full b ≡ 6
  unfolding block_fault ordered first_of or_else slot_rows full_rows payload_rows place_rows
  block_unsound e = rw e

  pub block_full_none : slot_numbers (slot_of patch b) ≡ sound_slot 2 0 → pages_in P (length full) ≤ b → block_fault P patch full b ≡ 8
  unfolding block_fault ordered first_of or_else slot_rows full_rows payload_rows place_rows
  block_full_none e h = rw (e, le-leb (pages_in P (length full)) b h)

  pub block_full : slot_numbers (slot_of patch b) ≡ sound_slot 2 0 → b < pages_in P (length full) → block_fault P patch full b ≡ 0
  unfolding block_fault ordered first_of or_else slot_rows full_rows payload_rows place_rows
  block_full e h = rw (e, lt-leb (pages_in P (length full)) b h)

  module _ (n : ℕ) (e : slot_numbers (slot_of patch b) ≡ sound_slot 1 n) where
    pub block_payload : sound P (payload_of (slot_of patch b)) ≡ false → block_fault P patch full b ≡ 7
    unfolding block_fault ordered first_of or_else slot_rows full_rows payload_rows place_rows
    block_payload h = rw (e, h)

    pub block_patch : sound P (payload_of (slot_of patch b)) ≡ true → block_fault P patch full b ≡ strays_in P full b
    unfolding block_fault ordered first_of or_else slot_rows full_rows payload_rows place_rows strays_in
    block_patch h = rw (e, h) (or_else_zero (strays_in P full b))

  pub block_empty : slot_numbers (slot_of patch b) ≡ sound_slot 0 0 → block_fault P patch full b ≡ strays_in P full b
  unfolding block_fault ordered first_of or_else slot_rows full_rows payload_rows place_rows strays_in
  block_empty e = rw e (or_else_zero (strays_in P full b))

  -- nothing is wrong with it: its slot is sound
  pub slot_sound : block_fault P patch full b ≡ 0 → (slot_numbers (slot_of patch b)).number ≡ 0
  unfolding block_fault ordered first_of slot_rows
  slot_sound e =
      let s : List ℕ = slot_of patch b in
      let n : ℕ = (slot_numbers s).number in
      let r : List Row = full_rows P s full b ++ (payload_rows P s ++ (place_rows P s full b ++ [])) in
      eqb-true n 0 (not-false (eqb n 0) (row_off 5 (not (eqb n 0)) (or_none (cond (not (eqb n 0)) 6 0) (first_of r) e).0))

-- The frame

pub frame_none : (P : ℕ) (patch full : List ℕ) (fits : Bool)
    → first_of (frame_rows P ((1 ⇐ false) ∷ []) ((9 ⇐ not fits) ∷ []) patch full) ≡ 0
    → (lengths_fit P patch full ≡ true) × (fits ≡ true) × (first_of (header_rows P patch full) ≡ 0)
frame_none P patch full fits e =
    let f = frame_sound P patch full true fits (sym (frame_is P patch full true fits) ∙ e) in
    (f.1, f.2, f.3)

-- The whole call

module _ (P : ℕ) (patch full map : List ℕ) where
  pub build_frame : (fits : Bool) → ltb (length map) (map_bytes (blocks_in (length patch))) ≡ not fits
      → first_of (build_rows P patch full map) ≡ first_of (frame_rows P ((1 ⇐ false) ∷ []) ((9 ⇐ not fits) ∷ []) patch full)
  unfolding build_rows first_of or_else frame_rows
  build_frame fits e =
      in_halves _
      ∙ or_else_zero (first_of (frame_rows P [] ((9 ⇐ ltb (length map) (map_bytes (blocks_in (length patch)))) ∷ []) patch full))
      ∙ ap (λ (t : Bool). first_of (frame_rows P [] ((9 ⇐ t) ∷ []) patch full)) e

  pub build_refused_is : (k : ℕ) → first_of (build_rows P patch full map) ≡ k → (k ≡ 0 → ⊥)
      → build_outcome P patch full map ≡ build_refused k 0 0 map
  unfolding build_outcome
  build_refused_is k e h = decided_refused _ _ (first_of (build_rows P patch full map)) k e h

  module _ (e : first_of (build_rows P patch full map) ≡ 0) where
    pub build_faulty : (k b : ℕ) → (build_fault P patch full).number ≡ k → (build_fault P patch full).block ≡ b → (k ≡ 0 → ⊥)
        → build_outcome P patch full map ≡ build_refused k b (offset_with k P (payload_of (slot_of patch b))) map
    unfolding build_outcome
    build_faulty k b f g h =
        decided_done _ _ (first_of (build_rows P patch full map)) e
        ∙ decided_refused _ _ (build_fault P patch full).number k f h
        ∙ ap (λ (x : ℕ). build_refused k x (offset_with k P (payload_of (slot_of patch x))) map) g

    pub build_done_is : (build_fault P patch full).number ≡ 0
        → build_outcome P patch full map ≡ build_done (splice map 0 (built_map patch))
    unfolding build_outcome
    build_done_is f = decided_done _ _ (first_of (build_rows P patch full map)) e ∙ decided_done _ _ (build_fault P patch full).number f

  -- the outcome of these two numbers
  by_numbers : ℕ → ℕ → BuildOutcome
  by_numbers frame fault =
      decided frame
      (decided fault
      (build_done (splice map 0 (built_map patch)))
      (λ k. build_refused k (build_fault P patch full).block (offset_with k P (payload_of (slot_of patch (build_fault P patch full).block))) map))
      (λ k. build_refused k 0 0 map)

  -- the number is the frame's or a block's
  pub build_either : (k : ℕ) → (build_outcome P patch full map).number ≡ k
      → (first_of (build_rows P patch full map) ≡ k) ⊎ ((build_fault P patch full).number ≡ k)
  unfolding build_outcome by_numbers decided
  build_either k e = go (first_of (build_rows P patch full map)) (build_fault P patch full).number e
    where
      go : (x y : ℕ) → (by_numbers x y).number ≡ k → (x ≡ k) ⊎ (y ≡ k)
      go zero zero q = inl q
      go zero (suc y) q = inr q
      go (suc x) y q = inl q

  -- accepted by its number: nothing was found
  pub build_zero : (build_outcome P patch full map).number ≡ 0
      → (first_of (build_rows P patch full map) ≡ 0) × ((build_fault P patch full).number ≡ 0)
  unfolding build_outcome by_numbers decided
  build_zero e = go (first_of (build_rows P patch full map)) (build_fault P patch full).number e
    where
      go : (x y : ℕ) → (by_numbers x y).number ≡ 0 → (x ≡ 0) × (y ≡ 0)
      go zero zero q = (refl, refl)
      go zero (suc y) q = absurd (omega arith)
      go (suc x) y q = absurd (omega arith)

  -- and refused by it: the buffer is as it was
  pub refused_map_is : ((build_outcome P patch full map).number ≡ 0 → ⊥) → (build_outcome P patch full map).map ≡ map
  unfolding build_outcome by_numbers decided
  refused_map_is h = go (first_of (build_rows P patch full map)) (build_fault P patch full).number h
    where
      go : (x y : ℕ) → ((by_numbers x y).number ≡ 0 → ⊥) → (by_numbers x y).map ≡ map
      go zero zero q = absurd (q refl)
      go zero (suc y) q = refl
      go (suc x) y q = refl
