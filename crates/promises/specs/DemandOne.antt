-- Demand 1. "Every call takes any buffers and any numbers, ends, and refuses bad input itself by a number from the table, or by an empty
-- part where it hands a part out. A refused call changes no byte it was lent."
--
-- That every call takes anything and ends is what the prover checks: no call has a `requires`. The rest stands here, over the predicates
-- that the contracts cite: each number is given exactly when its condition holds and no earlier one does; and where the answer's number
-- is not 0, every lent byte is as it was, and the other numbers of the answer are 0, "except that Build gives the block with 6, 7, 8 and
-- 10", and Apply, both reads and Build the payload offset with 7. Judge, Highest, Look up and Tally are lent nothing to write; Cut and
-- Sweep answer their number alone.
use Rattle.std.specs.Prelude.{ℕ, ◌≤◌, ◌≡◌, refl, ◌⊎◌, ◌↔◌, List, [], ℤ, pos, Result, Ok, Err, ⊤}
use Rattle.std.proofs.Common.{arith, sym, ap, ◌∙◌, subst}
use Rattle.layout.specs.Numbers.{refusal_number}
use Rattle.layout.specs.RefusalLaws.{NoneHolds, Exactly}
use Rattle.layout.specs.declared.Refusal.{Refusal}
use Rattle.layout.specs.declared.Refusal.TheVariants.{Page, Length, Header, Version, Block, Slot, Payload, FullPage, Buffer, Place, Pair}
use Rattle.blockmap.specs.Calls.{look_up_rows, looked_numbers, LookUp, tally_rows, tallied_numbers, Tally}
use Rattle.blockmap.specs.Given.{look_up_exactly, tally_exactly}
use Rattle.entry_reader.specs.Turns.{next_rows, turn_numbers, Turned}
use Rattle.entry_reader.specs.Given.{PutBack, next_exactly, stays_put}
use Rattle.entry_reader.specs.declared.Turn.{Turn}
use Rattle.stream.specs.Calls.{ComparedNumbers, compare_rows, compared_numbers, Compare, AppliedNumbers, apply_rows, applied_numbers, Apply}
use Rattle.stream.specs.Calls.{apply_refused}
use Rattle.payload.specs.Entries.{offset_with}
use Rattle.slots.specs.Slots.{payload_of}
use Rattle.store.specs.Block.{slot_of}
use Rattle.stream.specs.Given.{compare_exactly, apply_exactly, apply_told}
use Rattle.store.specs.Format.{format_rows, Format}
use Rattle.store.specs.Judge.{judge_rows, judged_numbers, Judge}
use Rattle.store.specs.Show.{show_rows, Show}
use Rattle.reading.specs.Read.{ReadNumbers, read_rows, reading_numbers, Read}
use Rattle.reading.specs.Mapped.{read_mapped_rows, ReadMapped}
use Rattle.carrying.specs.Puts.{Decision}
use Rattle.carrying.specs.CarryOut.{CarryNumbers, carry_rows, written_numbers, CarryOut}
use Rattle.carrying.specs.Mapped.{carry_mapped_rows, CarryOutMapped}
use Rattle.building.specs.Build.{fault_rows, block_fault, BuildNumbers, built_numbers, Build}
use Rattle.cutting.specs.Cut.{cut_rows, Cut}
use Rattle.cutting.specs.Mapped.{cut_mapped_rows, CutMapped}
use Rattle.cutting.specs.Highest.{highest_rows, extent_numbers, Highest}
use Rattle.cutting.specs.Given.{cut_exactly, cut_mapped_exactly, highest_exactly}
use Rattle.sweeping.specs.Sweep.{sweep_rows, Sweep}
use Rattle.sweeping.specs.Given.{sweep_exactly}
use Rattle.store.specs.Given.{format_exactly, judge_exactly, show_exactly, show_some}
use Rattle.reading.specs.Given.{read_exactly, read_told, read_mapped_exactly, read_mapped_told}
use Rattle.carrying.specs.Given.{carry_exactly, carry_mapped_exactly}
use Rattle.building.specs.Given.{block_exactly, all_rows, build_exactly, build_told}
use Rattle.promises.specs.Words.{OfBlock}
use Rattle.promises.specs.Kept.{format_kept, compare_kept, apply_kept, show_kept, read_kept, carry_kept, build_kept}
use Rattle.promises.specs.Kept.{carry_mapped_kept, read_mapped_kept, cut_mapped_kept}
use Rattle.promises.specs.CutLaws.{cut_kept}
use Rattle.promises.specs.SweptLaws.{sweep_kept}
use Rattle.payload.specs.declared.Sound.{Sound}
use Rattle.layout.specs.declared.RefusedAt.{RefusedAt}
use Rattle.layout.specs.declared.Kind.{Kind}
use Rattle.building.specs.declared.RefusedIn.{RefusedIn}
use Rattle.store.specs.declared.Judged.{Judged}
use Rattle.blockmap.specs.declared.Tallied.{Tallied}
use Rattle.carrying.specs.declared.Written.{Written}
use Rattle.stream.specs.declared.Compared.{Compared}
use Rattle.layout.specs.Numbers.{answer_number}

-- a refusal is a number from the table
pub from_the_table : (r : Refusal) → (1 ≤ refusal_number r) × (refusal_number r ≤ 11)
from_the_table Page = (omega arith, omega arith)
from_the_table Length = (omega arith, omega arith)
from_the_table Header = (omega arith, omega arith)
from_the_table Version = (omega arith, omega arith)
from_the_table Block = (omega arith, omega arith)
from_the_table Slot = (omega arith, omega arith)
from_the_table Payload = (omega arith, omega arith)
from_the_table FullPage = (omega arith, omega arith)
from_the_table Buffer = (omega arith, omega arith)
from_the_table Place = (omega arith, omega arith)
from_the_table Pair = (omega arith, omega arith)

module _ (P : ℕ) where
  -- "Each refusal is given when its condition holds and no earlier one does, and at no other time." One statement a call, over its rows

  pub format_refuses : (patch full : List ℕ) (a : Result ⊤ Refusal) (p f : List ℕ) → Format P patch full a p f
      → Exactly (format_rows P patch full) (answer_number a)
  format_refuses patch full a p f x = rw x.numbers (format_exactly P patch full)

  pub compare_refuses : (base page buffer : List ℕ) (a : Result Compared Refusal) (after : List ℕ) → Compare P base page buffer a after
      → Exactly (compare_rows P base page buffer) (compared_numbers a).number
  compare_refuses base page buffer a after x = rw x.numbers (compare_exactly P base page buffer)

  pub apply_refuses : (base payload page : List ℕ) (a : Result Sound RefusedAt) (after : List ℕ) → Apply P base payload page a after
      → Exactly (apply_rows P base payload page) (applied_numbers a).number
  apply_refuses base payload page a after x = rw x.numbers (apply_exactly P base payload page)

  -- a step of the entry reader
  pub next_refuses : (payload : List ℕ) (at : ℕ) (position : ℤ) (a : Turn) → Turned P payload at position a
      → Exactly (next_rows P payload at position) (turn_numbers a).number
  next_refuses payload at position a x = rw x.turn (next_exactly P payload at position)

  pub judge_refuses : (slot : List ℕ) (a : Result Judged Refusal) → Judge slot a → Exactly (judge_rows slot) (judged_numbers a).number
  judge_refuses slot a x = rw x.numbers (judge_exactly slot)

  -- "an empty part where it hands a part out"
  pub show_hands_nothing : (patch : List ℕ) (b : ℕ) (lent handed : ℕ × ℕ) (shown : List ℕ) → Show P patch b lent shown handed
      → (shown ≡ []) ↔ (NoneHolds (show_rows P patch b) → ⊥)
  show_hands_nothing patch b lent handed shown x = (
    λ e none. show_some P patch b none (sym x.bytes ∙ e),
    λ h. x.bytes ∙ show_kept P patch b (λ z. h ((show_exactly P patch b).done.0 z)),
  )

  pub read_refuses : (patch full : List ℕ) (b : ℕ) (base page : List ℕ) (a : Result Kind RefusedAt) (after : List ℕ)
      → Read P patch full b base page a after
      → Exactly (read_rows P patch full b base page) (reading_numbers a).number
  read_refuses patch full b base page a after x = rw x.numbers (read_exactly P patch full b base page)

  -- whatever number of stores is told
  pub carry_out_refuses : (patch full : List ℕ) (b : ℕ) (d : Decision) (k : ℕ) (a : Result Written Refusal) (p f : List ℕ)
      → CarryOut P patch full b d k a p f
      → Exactly (carry_rows P [] patch full b d) (written_numbers a).number
  carry_out_refuses patch full b d k a p f x = rw x.numbers (carry_exactly P patch full b d k)

  -- with a lent map: "9 for a short map in 01's place; on reads only, 11 for pair 3, after 5"
  pub read_mapped_refuses : (patch full map : List ℕ) (b : ℕ) (base page : List ℕ) (a : Result Kind RefusedAt) (after : List ℕ)
      → ReadMapped P patch full map b base page a after
      → Exactly (read_mapped_rows P patch full map b base page) (reading_numbers a).number
  read_mapped_refuses patch full map b base page a after x = rw x.numbers (read_mapped_exactly P patch full map b base page)

  pub carry_out_mapped_refuses : (patch full map : List ℕ) (b : ℕ) (d : Decision) (k : ℕ) (a : Result Written Refusal) (p f m : List ℕ)
      → CarryOutMapped P patch full map b d k a p f m
      → Exactly (carry_mapped_rows P patch full map b d) (written_numbers a).number
  carry_out_mapped_refuses patch full map b d k a p f m x = rw x.numbers (carry_mapped_exactly P patch full map b d k)

  -- "2, 9, headers, 5 for K above n"
  pub cut_refuses : (patch full : List ℕ) (K : ℕ) (a : Result ⊤ Refusal) (p f : List ℕ) → Cut P patch full K a p f
      → Exactly (cut_rows P [] patch full K) (answer_number a)
  cut_refuses patch full K a p f x = rw x.numbers (cut_exactly P patch full K)

  pub cut_mapped_refuses : (patch full map : List ℕ) (K : ℕ) (a : Result ⊤ Refusal) (p f m : List ℕ) → CutMapped P patch full map K a p f m
      → Exactly (cut_mapped_rows P patch full map K) (answer_number a)
  cut_mapped_refuses patch full map K a p f m x = rw x.numbers (cut_mapped_exactly P patch full map K)

  -- "sweep gives 2, headers, then 6 or 8 at the lowest block"
  pub sweep_refuses : (patch full : List ℕ) (a : Result ⊤ Refusal) (f : List ℕ) → Sweep P patch full a f → Exactly (sweep_rows P patch full) (answer_number a)
  sweep_refuses patch full a f x = rw x.numbers (sweep_exactly P patch full)

  -- "2, its header's, then 6 if any slot is unsound"
  pub highest_refuses : (patch : List ℕ) (a : Result ℕ Refusal) → Highest P patch a → Exactly (highest_rows P patch) (extent_numbers a).number
  highest_refuses patch a x = rw x.numbers (highest_exactly P patch)

  -- Build's rows are those of the frame and then each block's, in rising order. Which block it gives stands in `BuildGives`, by the
  -- number of each block
  pub build_refuses : (patch full map : List ℕ) (a : Result ⊤ RefusedIn) (after : List ℕ) → Build P patch full map a after
      → Exactly (all_rows P patch full map) (built_numbers a).number
  build_refuses patch full map a after x = rw x.numbers (build_exactly P patch full map)

  pub block_refuses : (patch full : List ℕ) (b : ℕ) → Exactly (fault_rows P patch full b) (block_fault P patch full b)
  block_refuses = block_exactly P

  pub look_up_refuses : (map : List ℕ) (n b : ℕ) (a : Result Kind Refusal) → LookUp P map n b a
      → Exactly (look_up_rows P map n b) (looked_numbers a).number
  look_up_refuses map n b a x = rw x.numbers (look_up_exactly P map n b)

  pub tally_refuses : (map : List ℕ) (n : ℕ) (a : Result Tallied Refusal) → Tally P map n a → Exactly (tally_rows P map n) (tallied_numbers a).number
  tally_refuses map n a x = rw x.numbers (tally_exactly P map n)

  -- Every lent byte is as it was

  pub format_keeps : (patch full : List ℕ) (a : Result ⊤ Refusal) (p f : List ℕ) → Format P patch full a p f → (answer_number a ≡ 0 → ⊥)
      → (p ≡ patch) × (f ≡ full)
  format_keeps patch full a p f x h =
      let k = format_kept P patch full (λ e. h (x.numbers ∙ e)) in
      (x.patch_bytes ∙ k.0, x.full_bytes ∙ k.1)

  pub compare_keeps : (base page buffer : List ℕ) (a : Result Compared Refusal) (after : List ℕ) → Compare P base page buffer a after
      → ((compared_numbers a).number ≡ 0 → ⊥) → after ≡ buffer
  compare_keeps base page buffer a after x h =
      x.bytes ∙ compare_kept P base page buffer (λ e. h (ap (λ (n : ComparedNumbers). n.number) x.numbers ∙ e))

  pub apply_keeps : (base payload page : List ℕ) (a : Result Sound RefusedAt) (after : List ℕ) → Apply P base payload page a after
      → ((applied_numbers a).number ≡ 0 → ⊥) → after ≡ page
  apply_keeps base payload page a after x h =
      x.bytes ∙ apply_kept P base payload page (λ e. h (ap (λ (n : AppliedNumbers). n.number) x.numbers ∙ e))

  pub read_keeps : (patch full : List ℕ) (b : ℕ) (base page : List ℕ) (a : Result Kind RefusedAt) (after : List ℕ)
      → Read P patch full b base page a after
      → ((reading_numbers a).number ≡ 0 → ⊥) → after ≡ page
  read_keeps patch full b base page a after x h =
      x.bytes ∙ read_kept P patch full b base page (λ e. h (ap (λ (n : ReadNumbers). n.number) x.numbers ∙ e))

  pub carry_out_keeps : (patch full : List ℕ) (b : ℕ) (d : Decision) (k : ℕ) (a : Result Written Refusal) (p f : List ℕ)
      → CarryOut P patch full b d k a p f
      → ((written_numbers a).number ≡ 0 → ⊥) → (p ≡ patch) × (f ≡ full)
  carry_out_keeps patch full b d k a p f x h =
      let same = carry_kept P patch full b d k (λ e. h (ap (λ (n : CarryNumbers). n.number) x.numbers ∙ e)) in
      (x.patch_bytes ∙ same.0, x.full_bytes ∙ same.1)

  pub read_mapped_keeps : (patch full map : List ℕ) (b : ℕ) (base page : List ℕ) (a : Result Kind RefusedAt) (after : List ℕ)
      → ReadMapped P patch full map b base page a after
      → ((reading_numbers a).number ≡ 0 → ⊥) → after ≡ page
  read_mapped_keeps patch full map b base page a after x h =
      x.bytes ∙ read_mapped_kept P patch full map b base page (λ e. h (ap (λ (n : ReadNumbers). n.number) x.numbers ∙ e))

  pub carry_out_mapped_keeps : (patch full map : List ℕ) (b : ℕ) (d : Decision) (k : ℕ) (a : Result Written Refusal) (p f m : List ℕ)
      → CarryOutMapped P patch full map b d k a p f m → ((written_numbers a).number ≡ 0 → ⊥) → (p ≡ patch) × (f ≡ full) × (m ≡ map)
  carry_out_mapped_keeps patch full map b d k a p f m x h =
      let same = carry_mapped_kept P patch full map b d k (λ e. h (ap (λ (n : CarryNumbers). n.number) x.numbers ∙ e)) in
      (x.patch_bytes ∙ same.0, x.full_bytes ∙ same.1, x.map_bytes_is ∙ same.2)

  pub cut_keeps : (patch full : List ℕ) (K : ℕ) (a : Result ⊤ Refusal) (p f : List ℕ) → Cut P patch full K a p f → (answer_number a ≡ 0 → ⊥)
      → (p ≡ patch) × (f ≡ full)
  cut_keeps patch full K a p f x h =
      let k = cut_kept P patch full K (λ e. h (x.numbers ∙ e)) in
      (x.patch_bytes ∙ k.0, x.full_bytes ∙ k.1)

  pub cut_mapped_keeps : (patch full map : List ℕ) (K : ℕ) (a : Result ⊤ Refusal) (p f m : List ℕ) → CutMapped P patch full map K a p f m
      → (answer_number a ≡ 0 → ⊥) → (p ≡ patch) × (f ≡ full) × (m ≡ map)
  cut_mapped_keeps patch full map K a p f m x h =
      let k = cut_mapped_kept P patch full map K (λ e. h (x.numbers ∙ e)) in
      (x.patch_bytes ∙ k.0, x.full_bytes ∙ k.1, x.map_bytes_is ∙ k.2)

  pub sweep_keeps : (patch full : List ℕ) (a : Result ⊤ Refusal) (f : List ℕ) → Sweep P patch full a f → (answer_number a ≡ 0 → ⊥) → f ≡ full
  sweep_keeps patch full a f x h = x.full_bytes ∙ sweep_kept P patch full (λ e. h (x.numbers ∙ e))

  pub build_keeps : (patch full map : List ℕ) (a : Result ⊤ RefusedIn) (after : List ℕ) → Build P patch full map a after
      → ((built_numbers a).number ≡ 0 → ⊥) → (after ≡ map) × (((built_numbers a).block ≡ 0) ⊎ OfBlock (built_numbers a).number)
  build_keeps patch full map a after x h =
      let k = build_kept P patch full map (λ e. h (ap (λ (n : BuildNumbers). n.number) x.numbers ∙ e)) in
      (x.bytes ∙ k.0, rw x.numbers k.1)

  -- "With 7, Apply must also give the payload offset at which the first unsound entry starts, 0 ... with any other answer. Read and Build
  -- pass it on"

  pub apply_offset : (base payload page : List ℕ) (a : Result Sound RefusedAt) (after : List ℕ) → Apply P base payload page a after
      → (applied_numbers a).offset ≡ offset_with (applied_numbers a).number P payload
  apply_offset base payload page a after x = rw x.numbers (apply_told P base payload page)

  pub read_offset : (patch full : List ℕ) (b : ℕ) (base page : List ℕ) (a : Result Kind RefusedAt) (after : List ℕ)
      → Read P patch full b base page a after
      → (reading_numbers a).offset ≡ offset_with (reading_numbers a).number P (payload_of (slot_of patch b))
  read_offset patch full b base page a after x = rw x.numbers (read_told P patch full b base page)

  pub read_mapped_offset : (patch full map : List ℕ) (b : ℕ) (base page : List ℕ) (a : Result Kind RefusedAt) (after : List ℕ)
      → ReadMapped P patch full map b base page a after
      → (reading_numbers a).offset ≡ offset_with (reading_numbers a).number P (payload_of (slot_of patch b))
  read_mapped_offset patch full map b base page a after x = rw x.numbers (read_mapped_told P patch full map b base page)

  pub build_offset : (patch full map : List ℕ) (a : Result ⊤ RefusedIn) (after : List ℕ) → Build P patch full map a after
      → (built_numbers a).offset ≡ offset_with (built_numbers a).number P (payload_of (slot_of patch (built_numbers a).block))
  build_offset patch full map a after x = rw x.numbers (build_told P patch full map)

  -- A step of the entry reader that finds no entry is a stop and no refusal: the reader stands where it stood, and the value is 0
  pub next_stays : (payload : List ℕ) (at : ℕ) (position : ℤ) (a : Turn) → Turned P payload at position a → (turn_numbers a).found ≡ 0
      → PutBack at position (turn_numbers a)
  next_stays payload at position a x e =
      subst (λ (t : Turn). PutBack at position (turn_numbers t)) (sym x.turn)
      (stays_put P payload at position (ap (λ (t : Turn). (turn_numbers t).found) (sym x.turn) ∙ e))

-- and the other numbers of the answer are 0, but for that offset

pub compare_zeros : (a : Result Compared Refusal) → ((compared_numbers a).number ≡ 0 → ⊥)
    → compared_numbers a ≡ record { number = (compared_numbers a).number; kind = 0; length = 0; entries = 0; last = pos 0 }
compare_zeros (Ok x) h = absurd (h refl)
compare_zeros (Err r) h = refl

pub apply_zeros : (a : Result Sound RefusedAt) → ((applied_numbers a).number ≡ 0 → ⊥)
    → applied_numbers a ≡ apply_refused (applied_numbers a).number (applied_numbers a).offset
apply_zeros (Ok x) h = absurd (h refl)
apply_zeros (Err r) h = refl

pub judge_zeros : (a : Result Judged Refusal) → ((judged_numbers a).number ≡ 0 → ⊥)
    → judged_numbers a ≡ record { number = (judged_numbers a).number; kind = 0; length = 0 }
judge_zeros (Ok x) h = absurd (h refl)
judge_zeros (Err r) h = refl

pub read_zeros : (a : Result Kind RefusedAt) → ((reading_numbers a).number ≡ 0 → ⊥)
    → reading_numbers a ≡ record { number = (reading_numbers a).number; kind = 0; offset = (reading_numbers a).offset }
read_zeros (Ok x) h = absurd (h refl)
read_zeros (Err r) h = refl

pub carry_out_zeros : (a : Result Written Refusal) → ((written_numbers a).number ≡ 0 → ⊥)
    → written_numbers a ≡ record { number = (written_numbers a).number; kind = 0; length = 0 }
carry_out_zeros (Ok x) h = absurd (h refl)
carry_out_zeros (Err r) h = refl

pub highest_zeros : (a : Result ℕ Refusal) → ((extent_numbers a).number ≡ 0 → ⊥)
    → extent_numbers a ≡ record { number = (extent_numbers a).number; blocks = 0 }
highest_zeros (Ok x) h = absurd (h refl)
highest_zeros (Err r) h = refl

pub look_up_zeros : (a : Result Kind Refusal) → ((looked_numbers a).number ≡ 0 → ⊥)
    → looked_numbers a ≡ record { number = (looked_numbers a).number; pair = 0 }
look_up_zeros (Ok x) h = absurd (h refl)
look_up_zeros (Err r) h = refl

pub tally_zeros : (a : Result Tallied Refusal) → ((tallied_numbers a).number ≡ 0 → ⊥)
    → tallied_numbers a ≡ record { number = (tallied_numbers a).number; patch = 0; full = 0 }
tally_zeros (Ok x) h = absurd (h refl)
tally_zeros (Err r) h = refl
