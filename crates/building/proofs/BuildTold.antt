-- What the answers of Build's pieces tell of a block, over plain lists and numbers.
use Prim.Native.Nat.{ℕ, ◌≤◌, ◌<◌}
use native.Mathlib.Omega.{arith}
use mathlib.Core.Path.{◌≡◌, sym, ap, ◌∙◌}
use mathlib.Core.Bool.{true}
use mathlib.Core.List.{List}
use lib.Dec.{leb, ltb}
use lib.ListN.{length}
use borrow.Author.Tests.{leb-true}
use Rattle.span.specs.Bytes.{part}
use Rattle.layout.specs.Sizes.{segment, payload_at, slot_at}
use Rattle.slots.specs.Slots.{slot_numbers, state_numbers, payload_of}
use Rattle.slots.specs.SlotLaws.{told_patch}
use Rattle.slots.specs.StateLaws.{refused_slot}
use Rattle.slots.specs.declared.SlotState.TheVariants.{Empty, Patch, Full}
use Rattle.payload.specs.Entries.{sound, breaks_at, offset_with}
use Rattle.payload.specs.EntryLaws.{offset_other}
use Rattle.payload.specs.Steps.{reach, checked_numbers, check_numbers}
use Rattle.payload.specs.StepLaws.{judged}
use Rattle.payload.specs.declared.Sound.{Sound}
use Rattle.payload.specs.declared.Unsound.{Unsound}
use Rattle.layout.specs.Refusals.{first_of}
use Rattle.layout.specs.Lengths.{blocks_in, pages_in}
use Rattle.layout.specs.LengthLaws.{patch_fits_is, most_blocks}
use Rattle.blockmap.specs.Pairs.{map_bytes}
use Rattle.blockmap.specs.CallLaws.{not_fits}
use Rattle.store.specs.Block.{slot_of, Sized}
use Rattle.store.specs.Open.{open_rows, open_numbers, opened_numbers}
use Rattle.store.specs.OpenLaws.{opened_frame, opened_refused}
use Rattle.store.specs.declared.areas.Areas.{Areas}
use Rattle.store.specs.declared.frame.Frame.{Frame}
use Rattle.layout.specs.Numbers.{refusal_number}
use Rattle.layout.specs.NumberLaws.{refusal_some}
use Rattle.layout.specs.declared.Refusal.{Refusal}
use Rattle.std.specs.Prelude.{Result, Ok, Err}
use Rattle.building.specs.Build.{block_fault, build_fault, build_rows, BuildNumbers, built_numbers, Build}
use Rattle.building.specs.declared.RefusedIn.{RefusedIn}
use Rattle.building.specs.Steps.{strays_in, block_finding, fault_numbers}
use Rattle.building.specs.BuildLaws.{block_unsound, block_full_none, block_full, block_payload, block_patch, block_empty}
use Rattle.building.specs.BuildLaws.{strays_other, build_frame, build_faulty}

-- in opened areas, a slot below n lies in its area, and the map has fewer bytes than a segment
pub slot_start : (s : Areas) (b : ℕ) → b < s.frame.n → slot_at b < length s.patch.now
slot_start s b h = omega (arith, s.blocks, (patch_fits_is s.frame.size (length s.patch.now) s.patch_fit).0)

pub bytes_few : (s : Areas) → map_bytes s.frame.n ≤ segment
unfolding map_bytes
bytes_few s = omega (arith, s.blocks, (patch_fits_is s.frame.size (length s.patch.now) s.patch_fit).1, most_blocks s.frame.size)

-- one block, by what was found of its slot
module _ (P : ℕ) (patch full : List ℕ) (b : ℕ) where
  abbrev slot : List ℕ
  slot = slot_of patch b

  -- a number that is not 7 has no offset
  finding : (k : ℕ) → (k ≡ 7 → ⊥) → k ≡ block_fault P patch full b → record { number = k; offset = 0 } ≡ block_finding P patch full b
  finding k n q = λ i. record {
    number = q i;
    offset = (sym (offset_other k P (payload_of slot) n) ∙ ap (λ (j : ℕ). offset_with j P (payload_of slot)) q) i;
  }

  pub told_refused : (r : Refusal) → state_numbers (Err r) ≡ slot_numbers slot
      → record { number = refusal_number r; offset = 0 } ≡ block_finding P patch full b
  told_refused r e =
      let u = refused_slot slot r e in
      ap (λ (x : Refusal). record { number = refusal_number x; offset = 0 }) u.0
      ∙ finding 6 (λ z. omega arith) (sym (block_unsound P patch full b u.1))

  pub told_full_none : state_numbers (Ok Full) ≡ slot_numbers slot → pages_in P (length full) ≤ b
      → record { number = 8; offset = 0 } ≡ block_finding P patch full b
  told_full_none e l = finding 8 (λ z. omega arith) (sym (block_full_none P patch full b (sym e) l))

  pub told_full : state_numbers (Ok Full) ≡ slot_numbers slot → b < pages_in P (length full)
      → record { number = 0; offset = 0 } ≡ block_finding P patch full b
  told_full e l = finding 0 (λ z. omega arith) (sym (block_full P patch full b (sym e) l))

  pub told_empty : state_numbers (Ok Empty) ≡ slot_numbers slot
      → record { number = strays_in P full b; offset = 0 } ≡ block_finding P patch full b
  told_empty e = finding (strays_in P full b) (strays_other P full b) (sym (block_empty P patch full b (sym e)))

  module _ (n : ℕ) (payload : List ℕ) (e : state_numbers (Ok (Patch n)) ≡ slot_numbers slot) (h : payload ≡ part payload_at n slot)
      (z : Sized P) where
    same_payload : payload ≡ payload_of slot
    unfolding payload_of
    same_payload = h ∙ ap (λ (k : ℕ). part payload_at k slot) (sym (told_patch slot n e).1)

    is_sound : sound P (payload_of slot) ≡ sound P payload
    is_sound = sym (ap (λ (p : List ℕ). sound P p) same_payload)

    -- no place of the page is out of the stream's reach
    numbers : (j : Result Sound Unsound) → checked_numbers j ≡ check_numbers (reach P) payload → checked_numbers j ≡ check_numbers P payload
    numbers j told =
        let e : reach P ≡ P = omega (arith, z.1) in
        told ∙ ap (λ (k : ℕ). check_numbers k payload) e

    pub told_payload : (u : Unsound) → checked_numbers (Err u) ≡ check_numbers (reach P) payload
        → record { number = 7; offset = u.offset } ≡ block_finding P patch full b
    told_payload u told =
        let w = judged P payload (Err u) (numbers (Err u) told) in
        let e : 7 ≡ block_fault P patch full b = sym (block_payload P patch full b n (sym e) (is_sound ∙ w.is)) in
        λ i. record {
          number = e i;
          offset = (w.at ∙ ap (breaks_at P) same_payload ∙ ap (λ (k : ℕ). offset_with k P (payload_of slot)) e) i;
        }

    pub told_patched : (s : Sound) → checked_numbers (Ok s) ≡ check_numbers (reach P) payload
        → record { number = strays_in P full b; offset = 0 } ≡ block_finding P patch full b
    told_patched s told =
        finding (strays_in P full b) (strays_other P full b)
        (sym (block_patch P patch full b n (sym e) (is_sound ∙ (judged P payload (Ok s) (numbers (Ok s) told)).is)))

-- a call that it refuses
pub faulty : (P : ℕ) (patch full map : List ℕ) (r : RefusedIn) → first_of (build_rows P patch full map) ≡ 0
    → fault_numbers P patch (build_fault P patch full) ≡ built_numbers (Err r) → Build P patch full map (Err r) map
faulty P patch full map r none t =
    let k : ℕ = refusal_number r.refusal in
    let e = build_faulty P patch full map none k r.block
    (ap (λ (x : BuildNumbers). x.number) t) (ap (λ (x : BuildNumbers). x.block) t) (refusal_some r.refusal) in
    let q : r.offset ≡ offset_with k P (payload_of (slot_of patch r.block)) = sym (ap (λ (x : BuildNumbers). x.offset) t)
    ∙ ap (λ (x : BuildNumbers). offset_with x.number P (payload_of (slot_of patch x.block))) t in
    record { numbers = rw e (λ i. record { number = k; block = r.block; offset = q i }); bytes = rw e }

-- what a call with a map is told: its own rows, and what it works with
pub record Lent (P : ℕ) (patch full map : List ℕ) (size n : ℕ) : Type 0 where
  pub none : first_of (build_rows P patch full map) ≡ 0
  pub own : size ≡ P
  pub count : n ≡ blocks_in (length patch)
  pub enough : map_bytes n ≤ length map

module _ (P : ℕ) (patch full map : List ℕ) (n k : ℕ) (e : n ≡ blocks_in (length patch)) (f : k ≡ map_bytes n) where
  rows : first_of (build_rows P patch full map) ≡ first_of (open_rows P true (leb k (length map)) patch full)
  rows = build_frame P patch full map (leb k (length map))
      (ap (λ (m : ℕ). ltb (length map) m) (sym (f ∙ ap map_bytes e)) ∙ not_fits k (length map))

  pub lent_refused : (r : Refusal) → opened_numbers (Err r) ≡ open_numbers P true (leb k (length map)) patch full
      → first_of (build_rows P patch full map) ≡ refusal_number r
  lent_refused r told = rows ∙ opened_refused P true (leb k (length map)) patch full r told

  pub lent_frame : (x : Frame) → opened_numbers (Ok x) ≡ open_numbers P true (leb k (length map)) patch full
      → Lent P patch full map x.size x.n
  lent_frame x told =
      let o = opened_frame P true (leb k (length map)) patch full x told in
      let long : k ≤ length map = leb-true k (length map) o.framed.buffers_fit in
      let same_map : map_bytes x.n ≡ k = sym (f ∙ ap map_bytes (e ∙ sym o.blocks)) in
      record { none = rows ∙ o.framed.none; own = o.own; count = o.blocks; enough = omega arith }
