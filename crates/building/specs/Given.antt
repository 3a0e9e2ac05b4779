-- "Each refusal is given when its condition holds and no earlier one does, and at no other time": Build.
use Prim.Native.Nat.{ℕ, zero, suc, ◌<◌}
use Rattle.std.proofs.Common.{arith, ◌∙◌}
use Rattle.std.specs.Prelude.{◌≡◌, Bool, true, false, not, List, [], ◌∷◌, ◌++◌, leb, length}
use Rattle.std.proofs.Math.Path.{refl, sym, ap}
use Rattle.layout.specs.Refusals.{Row, ◌⇐◌, first_of, or_else}
use Rattle.layout.specs.RefusalLaws.{first_append, Exactly, exactly, decided_number, decided_or, Numbered, no_row, row, both}
use Rattle.layout.specs.RefusalLaws.{no_such, lacks, first_lacks}
use Rattle.layout.specs.Groups.{ordered}
use Rattle.layout.specs.GroupLaws.{once}
use Rattle.layout.specs.FirstFault.{rows_from}
use Rattle.layout.specs.FirstFaultLaws.{rows_numbered, first_by_rows}
use Rattle.layout.specs.Lengths.{blocks_in, length_rows}
use Rattle.headers.specs.HeaderLaws.{headers_numbered}
use Rattle.slots.specs.Slots.{payload_of}
use Rattle.payload.specs.Entries.{offset_with}
use Rattle.payload.specs.EntryLaws.{offset_other}
use Rattle.blockmap.specs.Pairs.{map_bytes}
use Rattle.blockmap.specs.CallLaws.{not_fits}
use Rattle.store.specs.Block.{slot_of, slot_rows, full_rows, payload_rows}
use Rattle.store.specs.Frame.{frame_rows}
use Rattle.store.specs.FrameLaws.{frame_lacks}
use Rattle.building.specs.Build.{place_rows, fault_groups, fault_rows, build_groups, block_fault, build_fault, build_rows, BuildOutcome}
use Rattle.building.specs.Build.{build_refused}
use Rattle.building.specs.Build.{build_outcome}
use Rattle.building.specs.BuildLaws.{build_frame, build_refused_is, build_faulty, build_done_is}

module _ (P : ℕ) (patch full : List ℕ) where
  fault_numbered : (b : ℕ) → Numbered (fault_rows P patch full b)
  unfolding ordered slot_rows full_rows payload_rows place_rows
  fault_numbered b = row (row (row (row no_row)))

  pub block_exactly : (b : ℕ) → Exactly (fault_rows P patch full b) (block_fault P patch full b)
  unfolding block_fault
  block_exactly b = exactly (fault_rows P patch full b) _ refl (fault_numbered b)

  -- the rows of all blocks, in rising order
  abbrev pub blocks_rows : List Row
  blocks_rows = rows_from (fault_rows P patch full) 0 (blocks_in (length patch))

  fault_number_is : (build_fault P patch full).number ≡ first_of blocks_rows
  unfolding block_fault
  fault_number_is = first_by_rows (fault_rows P patch full) 0 (blocks_in (length patch))

  -- every row of a Build, in the order in which it looks
  abbrev pub all_rows : List ℕ → List Row
  all_rows map = build_rows P patch full map ++ blocks_rows

  build_number : (map : List ℕ) → (build_outcome P patch full map).number ≡ first_of (all_rows map)
  unfolding build_outcome
  build_number map =
      let frame : ℕ = first_of (build_rows P patch full map) in
      decided_or (λ (o : BuildOutcome). o.number) _ (λ (n : ℕ). build_refused n 0 0 map) frame (λ k. refl)
      ∙ ap (λ (n : ℕ). or_else frame n)
      (decided_number (λ (o : BuildOutcome). o.number) _ _ (build_fault P patch full).number refl (λ k. refl) ∙ fault_number_is)
      ∙ sym (first_append (build_rows P patch full map) blocks_rows)

  pub build_exactly : (map : List ℕ) → Exactly (all_rows map) (build_outcome P patch full map).number
  unfolding build_rows ordered length_rows
  build_exactly map =
      exactly (all_rows map) _ (build_number map)
      (both
      (row (row (both (headers_numbered P patch full) no_row)))
      (rows_numbered (fault_rows P patch full) fault_numbered 0 (blocks_in (length patch))))

pub fault_once : (P : ℕ) (patch full : List ℕ) (b : ℕ) → once (fault_groups P patch full b) ≡ true
fault_once P patch full b = refl

pub build_once : (P : ℕ) (patch full map : List ℕ) → once (build_groups P patch full map) ≡ true
build_once P patch full map = refl

-- Build's frame gives 9 and no other number above 4
pub frame_other : (P : ℕ) (patch full map : List ℕ) (k : ℕ) → 4 < suc k → (9 ≡ suc k → ⊥) → first_of (build_rows P patch full map) ≡ suc k → ⊥
frame_other P patch full map k high other q =
    let fits : Bool = leb (map_bytes (blocks_in (length patch))) (length map) in
    let buffer : List Row = (9 ⇐ not fits) ∷ [] in
    first_lacks (frame_rows P ((1 ⇐ false) ∷ []) buffer patch full) k
    (frame_lacks P patch full ((1 ⇐ false) ∷ []) buffer (suc k) high (lacks 1 (λ e. omega arith) no_such)
    (lacks 9 other no_such))
    (sym (build_frame P patch full map fits (not_fits (map_bytes (blocks_in (length patch))) (length map))) ∙ q)

-- the offset goes with 7 alone
abbrev pub offset_at : ℕ → List ℕ → BuildOutcome → ℕ
offset_at P patch o = offset_with o.number P (payload_of (slot_of patch o.block))

pub build_told : (P : ℕ) (patch full map : List ℕ)
    → (build_outcome P patch full map).offset ≡ offset_at P patch (build_outcome P patch full map)
build_told P patch full map = go (first_of (build_rows P patch full map)) refl
  where
    inside : first_of (build_rows P patch full map) ≡ 0 → (k : ℕ) → (build_fault P patch full).number ≡ k
        → (build_outcome P patch full map).offset ≡ offset_at P patch (build_outcome P patch full map)
    inside e zero f = rw (build_done_is P patch full map e f)
    inside e (suc k) f = rw (build_faulty P patch full map e (suc k) (build_fault P patch full).block f refl (λ q. omega arith))

    go : (k : ℕ) → first_of (build_rows P patch full map) ≡ k
        → (build_outcome P patch full map).offset ≡ offset_at P patch (build_outcome P patch full map)
    go zero e = inside e (build_fault P patch full).number refl
    go (suc k) e =
        rw (build_refused_is P patch full map (suc k) e (λ q. omega arith))
        (sym (offset_other (suc k) P (payload_of (slot_of patch 0)) (λ q. frame_other P patch full map 6 (omega arith) (λ z. omega arith) (e ∙ q))))
