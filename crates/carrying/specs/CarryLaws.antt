-- The laws of carrying out: its outcome by what is wrong first, what both stores leave, and what it comes to with a map.
use Rattle.std.specs.Prelude.{ℕ, zero, suc, ◌≤◌, ◌<◌, ◌≡◌, Bool, true, false, ◌&&◌, cond, List, [], ◌∷◌, ◌++◌, eqb, leb, ltb, length, take}
use Rattle.std.proofs.Common.{arith, ◌∙◌, le-leb, eq-eqb, ltb-false, eqb-true}
use Rattle.std.proofs.Math.Path.{refl, sym, ap}
use Rattle.std.proofs.Math.Bool.{not}
use Rattle.std.proofs.lemmas.Bool.{lt-leb, not-false}
use Rattle.span.specs.Bytes.{zeros, splice}
use Rattle.layout.specs.Sizes.{room, slot_at, page_at, patch_kind, full_kind}
use Rattle.layout.specs.Refusals.{Row, ◌⇐◌, first_of, or_else, decided}
use Rattle.layout.specs.RefusalLaws.{NoneHolds, first_hit, first_skip, first_append, first_none, row, no_row}
use Rattle.layout.specs.RefusalLaws.{or_none, or_skip, or_some, decided_done, decided_refused, decided_number}
use Rattle.layout.specs.Groups.{ordered}
use Rattle.layout.specs.GroupLaws.{in_halves}
use Rattle.layout.specs.Lengths.{blocks_in, pages_in, length_rows}
use Rattle.payload.specs.Entries.{sound}
use Rattle.payload.specs.EntryLaws.{sound_parts}
use Rattle.slots.specs.Slots.{empty_slot, patch_slot, full_slot, slot_image}
use Rattle.blockmap.specs.Pairs.{map_bytes}
use Rattle.blockmap.specs.Pack.{pair_of, set_pair}
use Rattle.blockmap.specs.Calls.{short_map}
use Rattle.blockmap.specs.CallLaws.{not_fits}
use Rattle.store.specs.Block.{block_rows}
use Rattle.store.specs.Frame.{frame_rows}
use Rattle.store.specs.Open.{open_rows}
use Rattle.carrying.specs.Puts.{Decision, Areas, Put, slot, place, put_slot, put_place, put, puts, order, carried, all, told_all}
use Rattle.carrying.specs.CarryOut.{wrong_page, carry_rows, CarryOutcome, carry_done, carry_refused, carry_by}
use Rattle.carrying.specs.Mapped.{carry_mapped_rows, carry_mapped_told}
use Rattle.carrying.specs.Parts.{told_rows, decision_rows, block_outcome}

-- The two stores are of two areas, so that their order does not show in what both leave

pub carried_is : (P b : ℕ) (d : Decision) (s : Areas)
    → carried P b d all s
    ≡ record { patch = put_slot s.patch b d.kind d.payload; full = put_place P s.full b d.kind d.page }
unfolding carried puts order put
carried_is P b d s = go (eqb d.kind full_kind)
  where
    go : (t : Bool) → puts P b d (take all (cond t (place ∷ slot ∷ []) (slot ∷ place ∷ []))) s
        ≡ record { patch = put_slot s.patch b d.kind d.payload; full = put_place P s.full b d.kind d.page }
    go true = refl
    go false = refl

-- what stores leave goes by the slot's image and by what the place gets, and by nothing else of a decision
pub puts_alike : (P b : ℕ) (d e : Decision) → slot_image d.kind d.payload ≡ slot_image e.kind e.payload
    → cond (eqb d.kind full_kind) d.page (zeros P) ≡ cond (eqb e.kind full_kind) e.page (zeros P)
    → (xs : List Put) (s : Areas) → puts P b d xs s ≡ puts P b e xs s
unfolding puts put put_slot put_place
puts_alike P b d e images contents [] s = refl
puts_alike P b d e images contents (slot ∷ xs) s =
    ap (λ (x : List ℕ). puts P b d xs (record { patch = splice s.patch (slot_at b) x; full = s.full })) images
    ∙ puts_alike P b d e images contents xs (put P b e slot s)
puts_alike P b d e images contents (place ∷ xs) s =
    ap (λ (x : List ℕ). puts P b d xs (record {
      patch = s.patch;
      full = cond (ltb b (pages_in P (length s.full))) (splice s.full (page_at P b) x) s.full;
    })) contents
    ∙ puts_alike P b d e images contents xs (put P b e place s)

-- only a patch's slot holds its payload
pub slot_payload : (k : ℕ) (p q : List ℕ) → (k ≡ 1 → p ≡ q) → slot_image k p ≡ slot_image k q
unfolding slot_image
slot_payload k p q h = go (eqb k 1) refl
  where
    go : (t : Bool) → eqb k 1 ≡ t → cond (eqb k 0) empty_slot (cond (eqb k 1) (patch_slot p) full_slot)
        ≡ cond (eqb k 0) empty_slot (cond (eqb k 1) (patch_slot q) full_slot)
    go true e = rw (h (eqb-true k 1 e))
    go false e = rw e

-- A decision that nothing is wrong with: its kind is one of the three, and a patch's payload is sound, so that it fits in a slot's room

module _ (P : ℕ) (full : List ℕ) (b k : ℕ) (payload : List ℕ) (none : first_of (decision_rows P full b k payload) ≡ 0) where
  rows_off : NoneHolds (decision_rows P full b k payload)
  rows_off = first_none (decision_rows P full b k payload) (row (row (row no_row))) none

  pub kind_known : k ≤ full_kind
  kind_known = ltb-false full_kind k rows_off.0

  pub patch_sound : k ≡ patch_kind → sound P payload ≡ true
  patch_sound e =
      not-false (sound P payload) (sym (ap (λ (t : Bool). t && not (sound P payload)) (eq-eqb k patch_kind e)) ∙ rows_off.1.1.0)

  pub payload_few : cond (eqb k patch_kind) (length payload) 0 ≤ room
  payload_few = go (eqb k patch_kind) refl
    where
      go : (t : Bool) → eqb k patch_kind ≡ t → cond t (length payload) 0 ≤ room
      go true e = (sound_parts P payload (patch_sound (eqb-true k patch_kind e))).few
      go false e = omega arith

-- The outcome

module _ (P : ℕ) (buffers : List Row) (patch full : List ℕ) (b : ℕ) (d : Decision) where
  rest : List Row
  rest = decision_rows P full b d.kind d.payload

  pub carry_rows_is : first_of (carry_rows P buffers patch full b d)
      ≡ or_else (first_of (frame_rows P (wrong_page P d) buffers patch full))
      (first_of (block_rows patch b ++ decision_rows P full b d.kind d.payload))
  unfolding carry_rows frame_rows
  carry_rows_is = in_halves _

  module _ (stores : ℕ) where
    pub carry_number : (carry_by P buffers patch full b d stores).number ≡ first_of (carry_rows P buffers patch full b d)
    unfolding carry_by
    carry_number = decided_number (λ (o : CarryOutcome). o.number) _ _ (first_of (carry_rows P buffers patch full b d)) refl (λ k. refl)

    -- by its number
    pub carry_done_is : (carry_by P buffers patch full b d stores).number ≡ 0 → carry_by P buffers patch full b d stores ≡ carry_done P patch full b d stores
    unfolding carry_by
    carry_done_is e = decided_done _ _ (first_of (carry_rows P buffers patch full b d)) (sym carry_number ∙ e)

    pub carry_not : ((carry_by P buffers patch full b d stores).number ≡ 0 → ⊥)
        → carry_by P buffers patch full b d stores ≡ carry_refused (carry_by P buffers patch full b d stores).number patch full
    unfolding carry_by
    carry_not h = decided_refused _ _ (first_of (carry_rows P buffers patch full b d)) _ (sym carry_number) h

    -- what is carried out has nothing wrong with it, and so the length answered is at most a slot's room
    pub carry_sound : (carry_by P buffers patch full b d stores).number ≡ 0 → first_of (decision_rows P full b d.kind d.payload) ≡ 0
    unfolding rest
    carry_sound e =
        let z = or_none (first_of (frame_rows P (wrong_page P d) buffers patch full)) (first_of (block_rows patch b ++ rest))
        (sym carry_rows_is ∙ sym carry_number ∙ e) in
        (or_none (first_of (block_rows patch b)) (first_of rest) (sym (first_append (block_rows patch b) rest) ∙ z.1)).1

    pub carry_few : (carry_by P buffers patch full b d stores).length ≤ room
    carry_few = go (carry_by P buffers patch full b d stores).number refl
      where
        go : (k : ℕ) → (carry_by P buffers patch full b d stores).number ≡ k → (carry_by P buffers patch full b d stores).length ≤ room
        go zero e = rw (carry_done_is e) (payload_few P full b d.kind d.payload (carry_sound e))
        go (suc k) e = rw (carry_not (λ q. omega (arith, e, q))) (omega arith)

    -- and by what is wrong first: the frame's refusal is the call's
    pub carry_frame : (k : ℕ) → first_of (frame_rows P (wrong_page P d) buffers patch full) ≡ k → (k ≡ 0 → ⊥)
        → carry_by P buffers patch full b d stores ≡ carry_refused k patch full
    unfolding carry_by rest
    carry_frame k e h =
        decided_refused _ _ (first_of (carry_rows P buffers patch full b d)) k
        (carry_rows_is ∙ ap (λ (n : ℕ). or_else n (first_of (block_rows patch b ++ rest))) e ∙ or_some k (first_of (block_rows patch b ++ rest)) h) h

    module _ (e : first_of (frame_rows P (wrong_page P d) buffers patch full) ≡ 0) where
      pub carry_block : blocks_in (length patch) ≤ b → carry_by P buffers patch full b d stores ≡ carry_refused 5 patch full
      unfolding carry_by rest
      carry_block h =
          decided_refused _ _ (first_of (carry_rows P buffers patch full b d)) 5
          (carry_rows_is ∙ or_skip (first_of (frame_rows P (wrong_page P d) buffers patch full)) (first_of (block_rows patch b ++ rest)) e
          ∙ first_hit 4 (leb (blocks_in (length patch)) b) rest (le-leb (blocks_in (length patch)) b h)) (λ q. omega arith)

      pub carry_within : b < blocks_in (length patch) → carry_by P buffers patch full b d stores ≡ block_outcome P patch full b d stores
      unfolding carry_by block_outcome rest
      carry_within h =
          ap (λ (n : ℕ). decided n (carry_done P patch full b d stores) (λ (k : ℕ). carry_refused k patch full))
          (carry_rows_is ∙ or_skip (first_of (frame_rows P (wrong_page P d) buffers patch full)) (first_of (block_rows patch b ++ rest)) e
          ∙ first_skip 5 (leb (blocks_in (length patch)) b) rest (lt-leb (blocks_in (length patch)) b h))

-- a block below n, by what is wrong with the decision
module _ (P : ℕ) (patch full : List ℕ) (b : ℕ) (d : Decision) (stores : ℕ) where
  pub block_refused : (k : ℕ) → first_of (decision_rows P full b d.kind d.payload) ≡ k → (k ≡ 0 → ⊥)
      → block_outcome P patch full b d stores ≡ carry_refused k patch full
  unfolding block_outcome
  block_refused k e h = decided_refused _ _ (first_of (decision_rows P full b d.kind d.payload)) k e h

  pub block_done : first_of (decision_rows P full b d.kind d.payload) ≡ 0 → block_outcome P patch full b d stores ≡ carry_done P patch full b d stores
  unfolding block_outcome
  block_done e = decided_done _ _ (first_of (decision_rows P full b d.kind d.payload)) e

-- the frame that the code opens, told whether the page and the buffer are as they must be
pub told_frame : (P : ℕ) (fit fits : Bool) (patch full : List ℕ) (d : Decision)
    → not fit ≡ (eqb d.kind full_kind && not (eqb (length d.page) P))
    → first_of (frame_rows P (wrong_page P d) (told_rows fits) patch full) ≡ first_of (open_rows P fit fits patch full)
told_frame P fit fits patch full d e = ap (λ (t : Bool). first_of (frame_rows P ((1 ⇐ t) ∷ []) (told_rows fits) patch full)) (sym e)

-- a call without a buffer has no short one
pub carry_alone : (P : ℕ) (patch full : List ℕ) (b : ℕ) (d : Decision) (stores : ℕ)
    → carry_by P (told_rows true) patch full b d stores ≡ carry_by P [] patch full b d stores
unfolding carry_by carry_rows ordered length_rows first_of or_else
carry_alone P patch full b d stores = refl

-- With a map

module _ (P : ℕ) (patch full map : List ℕ) (b : ℕ) (d : Decision) (stores : ℕ) where
  -- the code's test of the map's length
  pub carry_told_is : (fits : Bool) → fits ≡ leb (map_bytes (blocks_in (length patch))) (length map)
      → carry_by P (told_rows fits) patch full b d stores ≡ (carry_mapped_told P patch full map b d stores).areas
  unfolding carry_mapped_told
  carry_told_is fits e =
      ap (λ (t : Bool). carry_by P ((9 ⇐ t) ∷ []) patch full b d stores)
      (ap not e ∙ sym (not_fits (map_bytes (blocks_in (length patch))) (length map)))

  pub carry_mapped_number : (carry_mapped_told P patch full map b d stores).areas.number ≡ first_of (carry_mapped_rows P patch full map b d)
  unfolding carry_mapped_told carry_mapped_rows
  carry_mapped_number = carry_number P (short_map map (blocks_in (length patch))) patch full b d stores

  -- the map by the number
  pub map_done : (carry_mapped_told P patch full map b d stores).areas.number ≡ 0
      → (carry_mapped_told P patch full map b d stores).map ≡ cond (told_all stores) (set_pair map b (pair_of d.kind)) map
  unfolding carry_mapped_told
  map_done e = decided_done _ _ (first_of (carry_mapped_rows P patch full map b d)) (sym carry_mapped_number ∙ e)

  pub map_not : ((carry_mapped_told P patch full map b d stores).areas.number ≡ 0 → ⊥) → (carry_mapped_told P patch full map b d stores).map ≡ map
  unfolding carry_mapped_told
  map_not h = decided_refused _ _ (first_of (carry_mapped_rows P patch full map b d)) _ (sym carry_mapped_number) h
