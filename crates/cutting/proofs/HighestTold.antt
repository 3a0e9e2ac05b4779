-- How a walk over the slots finds the highest block, over plain lists and numbers.
use Prim.Native.Nat.{ℕ, suc, ◌+◌, ◌-◌, ◌<◌}
use native.Mathlib.Omega.{arith}
use mathlib.Core.Path.{◌≡◌, refl, sym, ap, ◌∙◌}
use mathlib.Core.Bool.{true, cond}
use mathlib.Core.List.{List, []}
use Rattle.std.specs.Prelude.{Ok, Err}
use Rattle.layout.specs.Numbers.{refusal_number}
use Rattle.layout.specs.NumberLaws.{refusal_some}
use Rattle.layout.specs.Refusals.{first_of}
use Rattle.layout.specs.RefusalLaws.{decided_number, decided_done, decided_refused}
use Rattle.layout.specs.FirstFault.{BlockFault, first_fault, rows_from}
use Rattle.layout.specs.FirstFaultLaws.{fault_next, fault_here, fault_end, first_by_rows}
use Rattle.layout.specs.declared.Refusal.{Refusal}
use Rattle.store.specs.Block.{slot_of, slot_rows}
use Rattle.store.specs.Open.{open_numbers, opened_numbers}
use Rattle.store.specs.OpenLaws.{opened_frame, opened_refused}
use Rattle.store.specs.declared.frame.Frame.{Frame}
use Rattle.cutting.specs.Highest.{extent, non_empty, HighestNumbers, highest_numbers}
use Rattle.cutting.specs.HighestLaws.{extent_more, highest_refused, highest_scanned}
use Rattle.cutting.specs.Parts.{slot_extent, scan_numbers}

-- what is wrong with a block's slot
abbrev pub slot_fault : List ℕ → ℕ → ℕ
slot_fault patch b = first_of (slot_rows (slot_of patch b))

module _ (patch : List ℕ) (b before : ℕ) where
  extent_number : (slot_extent patch b before).number ≡ slot_fault patch b
  unfolding slot_extent
  extent_number = decided_number (λ (x : HighestNumbers). x.number) _ _ (slot_fault patch b) refl (λ k. refl)

  extent_sound : slot_fault patch b ≡ 0 → (slot_extent patch b before).blocks ≡ cond (non_empty patch b) (suc b) before
  unfolding slot_extent
  extent_sound e = ap (λ (x : HighestNumbers). x.blocks) (decided_done _ _ (slot_fault patch b) e)

-- a walk over n slots that stands at a block: those below it are sound, and reach so far
pub record Walked (patch : List ℕ) (n blocks block : ℕ) : Type 0 where
  pub reach : blocks ≡ extent (non_empty patch) block
  pub rest : first_fault (slot_fault patch) 0 n ≡ first_fault (slot_fault patch) block (n - block)

module _ (patch : List ℕ) (n : ℕ) where
  pub walk_starts : Walked patch n 0 0
  unfolding extent
  walk_starts =
      let q : n ≡ n - 0 = omega arith in
      record { reach = refl; rest = ap (λ (k : ℕ). first_fault (slot_fault patch) 0 k) q }

  all_rows : (f : BlockFault) → first_fault (slot_fault patch) 0 n ≡ f → first_of (rows_from (λ b. slot_rows (slot_of patch b)) 0 n) ≡ f.number
  all_rows f e = sym (first_by_rows (λ b. slot_rows (slot_of patch b)) 0 n) ∙ ap (λ (g : BlockFault). g.number) e

  module _ (blocks block : ℕ) (w : Walked patch n blocks block) where
    pub walk_goes : (reached : ℕ) → block < n → record { number = 0; blocks = reached } ≡ slot_extent patch block blocks
        → Walked patch n reached (block + 1)
    walk_goes reached l e =
        let z : slot_fault patch block ≡ 0 = sym (ap (λ (x : HighestNumbers). x.number) e ∙ extent_number patch block blocks) in
        record {
          reach =
              ap (λ (x : HighestNumbers). x.blocks) e ∙ extent_sound patch block blocks z
              ∙ ap (λ (k : ℕ). cond (non_empty patch block) (suc block) k) w.reach ∙ sym (extent_more (non_empty patch) block);
          rest = w.rest ∙ fault_next (slot_fault patch) block n l z;
        }

    pub walk_stops : (k : ℕ) → (k ≡ 0 → ⊥) → block < n → record { number = k; blocks = 0 } ≡ slot_extent patch block blocks
        → record { number = k; blocks = 0 } ≡ scan_numbers patch n
    unfolding scan_numbers
    walk_stops k some l e =
        let z : slot_fault patch block ≡ k = sym (ap (λ (x : HighestNumbers). x.number) e ∙ extent_number patch block blocks) in
        sym
        (decided_refused _ _ (first_of (rows_from (λ b. slot_rows (slot_of patch b)) 0 n)) k
        (all_rows _ (w.rest ∙ fault_here (slot_fault patch) block n k l z some)) some)

    pub walk_ends : n ≡ block → record { number = 0; blocks = blocks } ≡ scan_numbers patch n
    unfolding scan_numbers
    walk_ends e =
        ap (λ (k : ℕ). record { number = 0; blocks = k }) (w.reach ∙ ap (extent (non_empty patch)) (sym e))
        ∙ sym
        (decided_done _ _ (first_of (rows_from (λ b. slot_rows (slot_of patch b)) 0 n))
        (all_rows _ (w.rest ∙ fault_end (slot_fault patch) block n (omega arith))))

-- what a frame that is opened with no full area tells
module _ (P : ℕ) (patch : List ℕ) where
  pub alone_refused : (r : Refusal) → opened_numbers (Err r) ≡ open_numbers P true true patch []
      → record { number = refusal_number r; blocks = 0 } ≡ highest_numbers P patch
  alone_refused r told = highest_refused P patch (refusal_number r) (opened_refused P true true patch [] r told) (refusal_some r)

  pub alone_frame : (f : Frame) → opened_numbers (Ok f) ≡ open_numbers P true true patch [] → scan_numbers patch f.n ≡ highest_numbers P patch
  alone_frame f told =
      let o = opened_frame P true true patch [] f told in
      ap (scan_numbers patch) o.blocks ∙ highest_scanned P patch o.framed.none
