-- What is wrong with a decision, and what is stored of one that nothing is wrong with, over plain lists and numbers.
use Prim.Native.Nat.{ℕ, ◌≤◌, ◌<◌}
use native.Mathlib.Omega.{arith}
use mathlib.Core.Path.{◌≡◌, refl, ap, ◌∙◌, subst}
use mathlib.Core.Bool.{Bool, true, false, not, ◌&&◌, cond}
use mathlib.Core.List.{List, []}
use lib.Dec.{eqb, leb, ltb}
use lib.ListN.{length, take}
use borrow.Author.Tests.{lt-leb, lt-ltb, le-ltb, eq-eqb, not-false}
use Rattle.std.specs.Prelude.{◌⊎◌, Ok, Err}
use Rattle.std.proofs.Common.{⊎_elim}
use Rattle.layout.specs.Sizes.{room, patch_kind, full_kind}
use Rattle.layout.specs.Lengths.{pages_in}
use Rattle.layout.specs.Numbers.{kind_number, refusal_number}
use Rattle.layout.specs.NumberLaws.{refusal_some}
use Rattle.layout.specs.Refusals.{first_of}
use Rattle.layout.specs.RefusalLaws.{first_hit, first_skip, first_done}
use Rattle.layout.specs.declared.Refusal.{Refusal}
use Rattle.payload.specs.Entries.{sound}
use Rattle.payload.specs.EntryLaws.{sound_parts}
use Rattle.payload.specs.Steps.{farthest, reach, checked_numbers, check_numbers}
use Rattle.payload.specs.StepLaws.{SoundAs, UnsoundAt, judged}
use Rattle.payload.specs.declared.Sound.{Sound}
use Rattle.payload.specs.declared.Unsound.{Unsound}
use Rattle.carrying.specs.Puts.{Decision, Areas, puts, order, carried}
use Rattle.carrying.specs.CarryOut.{carry_done}
use Rattle.carrying.specs.CarryLaws.{puts_alike, slot_payload, block_refused, block_done}
use Rattle.carrying.specs.Parts.{decision_rows, decision_rows_by, block_outcome, BlockCarry, Made}
use Rattle.carrying.specs.Parts.{decision_stored, stored_payload, stored_of}
use Rattle.carrying.specs.declared.decision.Stored.{Stored}

-- what the check of a payload tells, in a page within the stream's reach
module _ (P : ℕ) (payload : List ℕ) (few : P ≤ farthest) where
  near : reach P ≡ P
  near = omega arith

  pub unsound_told : (u : Unsound) → checked_numbers (Err u) ≡ check_numbers (reach P) payload → sound P payload ≡ false
  unsound_told u told = (subst (λ (n : ℕ). UnsoundAt n payload u.offset) near (judged (reach P) payload (Err u) told)).is

  pub sound_told : (s : Sound) → checked_numbers (Ok s) ≡ check_numbers (reach P) payload → sound P payload ≡ true
  sound_told s told = (subst (λ (n : ℕ). SoundAs n payload s.entries s.last) near (judged (reach P) payload (Ok s) told)).is

-- what is stored of a payload that nothing is wrong with fits a slot
pub stored_few : (P k : ℕ) (payload stored : List ℕ) → (eqb k patch_kind && not (sound P payload)) ≡ false
    → stored ≡ stored_payload k payload → length stored ≤ room
stored_few P k payload stored f e = rw e (go (eqb k patch_kind) f)
  where
    go : (t : Bool) → (t && not (sound P payload)) ≡ false → length (cond t payload []) ≤ room
    go true q = (sound_parts P payload (not-false (sound P payload) q)).few
    go false q = omega arith

-- a place that is there, or not asked for
pub place_there : (t : Bool) (m b : ℕ) → ((t ≡ true) × (b < m)) ⊎ (t ≡ false) → (t && leb m b) ≡ false
place_there t m b = ⊎_elim (λ q. rw (q.0, lt-leb m b q.1) refl) (λ q. rw q refl)

-- what is wrong first
module _ (P m b k : ℕ) (payload : List ℕ) where
  pub kind_above : full_kind < k → first_of (decision_rows_by P m b k payload) ≡ 6
  kind_above h = first_hit 5 (ltb full_kind k) _ (lt-ltb full_kind k h)

  module _ (known : k ≤ full_kind) where
    known_kind : ltb full_kind k ≡ false
    known_kind = le-ltb full_kind k known

    pub no_place : (eqb k full_kind && leb m b) ≡ true → first_of (decision_rows_by P m b k payload) ≡ 8
    no_place h = first_skip 6 (ltb full_kind k) _ known_kind ∙ first_hit 7 (eqb k full_kind && leb m b) _ h

    module _ (placed : (eqb k full_kind && leb m b) ≡ false) where
      pub wrong_payload : (eqb k patch_kind && not (sound P payload)) ≡ true → first_of (decision_rows_by P m b k payload) ≡ 7
      wrong_payload h =
          first_skip 6 (ltb full_kind k) _ known_kind ∙ first_skip 8 (eqb k full_kind && leb m b) _ placed
          ∙ first_hit 6 (eqb k patch_kind && not (sound P payload)) _ h

      pub nothing_wrong : (eqb k patch_kind && not (sound P payload)) ≡ false → first_of (decision_rows_by P m b k payload) ≡ 0
      nothing_wrong h = first_done (decision_rows_by P m b k payload) (known_kind, (placed, (h, tt {0})))

-- the answer for a block below n
module _ (P m : ℕ) (patch full : List ℕ) (b : ℕ) (d : Decision) (stores : ℕ) (counted : m ≡ pages_in P (length full)) where
  rows_are : (n : ℕ) → first_of (decision_rows_by P m b d.kind d.payload) ≡ n → first_of (decision_rows P full b d.kind d.payload) ≡ n
  rows_are n e = subst (λ (x : ℕ). first_of (decision_rows_by P x b d.kind d.payload) ≡ n) counted e

  pub decision_refused : (r : Refusal) → first_of (decision_rows_by P m b d.kind d.payload) ≡ refusal_number r
      → BlockCarry P patch full b d stores (Err r) patch full
  decision_refused r wrong =
      let e = block_refused P patch full b d stores (refusal_number r) (rows_are (refusal_number r) wrong) (refusal_some r) in
      record { numbers = rw e; patch_bytes = rw e; full_bytes = rw e }

  abbrev areas : Areas
  areas = record { patch = patch; full = full }

  -- a payload that is not stored is not looked at
  same_stores : puts P b (stored_of d) (take stores (order d.kind)) areas ≡ carried P b d stores areas
  unfolding carried
  same_stores =
      puts_alike P b (stored_of d) d (slot_payload d.kind (stored_payload d.kind d.payload) d.payload (λ e. rw (eq-eqb d.kind patch_kind e))) refl
      (take stores (order d.kind)) areas

  length_is : length (stored_payload d.kind d.payload) ≡ cond (eqb d.kind patch_kind) (length d.payload) 0
  length_is = go (eqb d.kind patch_kind)
    where
      go : (t : Bool) → length (cond t d.payload []) ≡ cond t (length d.payload) 0
      go true = refl
      go false = refl

  pub decision_carried : (s : Stored) → first_of (decision_rows_by P m b d.kind d.payload) ≡ 0 → decision_stored s ≡ stored_of d
      → (patch' full' : List ℕ) → Made P b (decision_stored s) (take stores (order (kind_number s.kind))) patch full patch' full'
      → BlockCarry P patch full b d stores (Ok (record { kind = s.kind; length = length s.payload.now })) patch' full'
  decision_carried s none taken patch' full' made =
      let e : block_outcome P patch full b d stores ≡ carry_done P patch full b d stores =
      block_done P patch full b d stores (rows_are 0 none) in
      let m : Made P b (stored_of d) (take stores (order d.kind)) patch full patch' full' =
      subst (λ (x : Decision). Made P b x (take stores (order x.kind)) patch full patch' full') taken made in
      let n : length s.payload.now ≡ cond (eqb d.kind patch_kind) (length d.payload) 0 =
      ap (λ (x : Decision). length x.payload) taken ∙ length_is in
      record {
        numbers = rw e (λ i. record { number = 0; kind = (taken i).kind; length = n i });
        patch_bytes = rw e (m.patch_bytes ∙ ap (λ (s : Areas). s.patch) same_stores);
        full_bytes = rw e (m.full_bytes ∙ ap (λ (s : Areas). s.full) same_stores);
      }
