-- Every number of an answer fits its member of 32 bits.
use Prim.Native.Nat.{ℕ, zero, suc, ◌+◌, ◌-◌, ◌*◌, ◌^◌, ◌≤◌, ◌<◌}
use native.Mathlib.Omega.{arith}
use Rattle.std.specs.Prelude.{◌≡◌, refl, Bool, true, false, ◌&&◌, cond, eqb, leb, ltb, Result, ⊤}
use Rattle.std.proofs.Math.Path.{sym, ap}
use Rattle.std.proofs.Common.{◌∙◌, leb-true, length-append}
use mathlib.Core.List.{List, [], ◌∷◌, ◌++◌}
use Rattle.span.specs.Bytes.{same}
use Rattle.std.proofs.Math.ListN.{length}
use Rattle.layout.specs.Sizes.{page_size, room}
use Rattle.layout.specs.Numbers.{le}
use Rattle.layout.specs.Lengths.{blocks_in}
use Rattle.layout.specs.Refusals.{Row, first_of, decided}
use Rattle.slots.specs.Slots.{slot_numbers, sound_slot, unsound_slot, payload_length, payload_of, is_patch, empty_slot, patch_slot, full_slot}
use Rattle.writer.specs.Differences.{Change, diffs, spelled, coded, written}
use Rattle.payload.specs.Entries.{sound, breaks_at, offset_with, entries, payload_stream}
use Rattle.payload.specs.EntryLaws.{sound_few, breaks_few}
use Rattle.stream.specs.Calls.{page_of, pages_fit, compared_numbers, comparison, compare_numbers, Compare}
use Rattle.stream.specs.Calls.{AppliedNumbers, applied_numbers, apply_rows, apply_numbers, Apply}
use Rattle.stream.specs.Laws.{page_length, compare_done, apply_number, apply_done_is, apply_not}
use Rattle.stream.specs.Kinds.{compare_gives, accepted_fits}
use Rattle.stream.specs.Given.{apply_told}
use Rattle.blockmap.specs.Calls.{short_map}
use Rattle.store.specs.Judge.{Judge, judged_numbers, judge_rows, judge_numbers}
use Rattle.carrying.specs.Puts.{Decision}
use Rattle.carrying.specs.CarryOut.{CarryOut, written_numbers, carry_numbers, carry_by}
use Rattle.carrying.specs.CarryLaws.{carry_few}
use Rattle.carrying.specs.Mapped.{CarryOutMapped, carry_mapped_told}
use Rattle.reading.specs.Read.{reading_numbers, Read}
use Rattle.reading.specs.Mapped.{ReadMapped}
use Rattle.reading.specs.Given.{read_told, read_mapped_told}
use Rattle.building.specs.Build.{built_numbers, Build}
use Rattle.building.specs.Given.{build_told}
use Rattle.layout.specs.declared.Kind.{Kind}
use Rattle.layout.specs.declared.Refusal.{Refusal}
use Rattle.layout.specs.declared.RefusedAt.{RefusedAt}
use Rattle.payload.specs.declared.Sound.{Sound}
use Rattle.stream.specs.declared.Compared.{Compared}
use Rattle.store.specs.declared.Judged.{Judged}
use Rattle.carrying.specs.declared.Written.{Written}
use Rattle.building.specs.declared.RefusedIn.{RefusedIn}

-- The writer's stream has no more entries than the page has bytes, of four bytes at most

diffs_few : (q : ℕ) (xs ys : List ℕ) → length (diffs q xs ys) ≤ length ys
unfolding diffs
diffs_few q [] ys = omega arith
diffs_few q (x ∷ xs) [] = omega arith
diffs_few q (x ∷ xs) (y ∷ ys) = go (eqb x y) (diffs_few (q + 1) xs ys)
  where
    go : (t : Bool) → length (diffs (q + 1) xs ys) ≤ length ys
        → length {A = Change} (elim t as (λ _. List Change) [
          | true ↦ diffs (q + 1) xs ys
          | false ↦ record { place = q; value = y } ∷ diffs (q + 1) xs ys
        ]) ≤ length (y ∷ ys)
    go true h = omega arith
    go false h = omega arith

spelled_few : (jump v : ℕ) → length (spelled jump v) ≤ 4
unfolding spelled le
spelled_few jump v = go (ltb jump 255)
  where
    go : (t : Bool) → length (cond t (jump ∷ v ∷ []) (255 ∷ (le 2 jump ++ (v ∷ [])))) ≤ 4
    go true = omega arith
    go false = omega arith

coded_few : (next : ℕ) (cs : List Change) → length (coded next cs) ≤ 4 * length cs
unfolding coded
coded_few next [] = omega arith
coded_few next (c ∷ cs) =
    let first : List ℕ = spelled (c.place - next) c.value in
    let rest : List ℕ = coded (c.place + 1) cs in
    let s : length first ≤ 4 = spelled_few (c.place - next) c.value in
    let r : length rest ≤ 4 * length cs = coded_few (c.place + 1) cs in
    let a : length (first ++ rest) ≡ length first + length rest = length-append first rest in
    omega arith

written_few : (base page : List ℕ) → length (written base page) ≤ 4 * length page
unfolding written
written_few base page =
    let c : length (coded 0 (diffs 0 base page)) ≤ 4 * length (diffs 0 base page) = coded_few 0 (diffs 0 base page) in
    let d : length (diffs 0 base page) ≤ length page = diffs_few 0 base page in
    omega arith

-- Compare

module _ (base page buffer : List ℕ) where
  compare_few : (k : ℕ) → (compare_numbers page_size base page buffer).number ≡ k
      → ((compare_numbers page_size base page buffer).length < 2 ^ 32) × ((compare_numbers page_size base page buffer).entries < 2 ^ 32)
  unfolding compare_numbers decided comparison written
  compare_few zero z =
      let ds : List Change = diffs 0 (page_of page_size base) page in
      let d : compare_numbers page_size base page buffer ≡ comparison ds =
      compare_done page_size base page buffer (sym (compare_gives page_size base page buffer) ∙ z) in
      let p : length page ≡ page_size = page_length page_size base page (accepted_fits page_size base page buffer z) in
      let w : length (coded 0 ds) ≤ 4 * length page = written_few (page_of page_size base) page in
      let v : length ds ≤ length page = diffs_few 0 (page_of page_size base) page in
      rw d (omega arith, omega arith)
  compare_few (suc k) z = rw (sym (compare_gives page_size base page buffer) ∙ z) (omega arith, omega arith)

  pub compare_fits : {after : List ℕ} {a : Result Compared Refusal} → Compare page_size base page buffer a after
      → ((compared_numbers a).length < 2 ^ 32) × ((compared_numbers a).entries < 2 ^ 32)
  compare_fits c = rw c.numbers (compare_few (compare_numbers page_size base page buffer).number refl)

-- Apply

module _ (base payload page : List ℕ) where
  apply_few : (k : ℕ) → first_of (apply_rows page_size base payload page) ≡ k → (apply_numbers page_size base payload page).entries ≤ 252
  apply_few zero e =
      let s : sound page_size payload ≡ true = go (pages_fit page_size base page) (sound page_size payload)
      (sym (apply_number page_size base payload page) ∙ e) in
      let n : (apply_numbers page_size base payload page).entries ≡ entries (payload_stream page_size payload) =
      ap (λ (x : AppliedNumbers). x.entries) (apply_done_is page_size base payload page e).0 in
      omega (arith, sound_few page_size payload s)
    where
      go : (f s : Bool) → cond {A = ℕ} f (cond s 0 7) 1 ≡ 0 → s ≡ true
      go true true e = refl
      go true false e = absurd (omega arith)
      go false s e = absurd (omega arith)
  apply_few (suc k) e =
      let n : (apply_numbers page_size base payload page).entries
      ≡ 0 = ap (λ (x : AppliedNumbers). x.entries) (apply_not page_size base payload page k e).0 in
      omega arith

  pub apply_fits : {after : List ℕ} {a : Result Sound RefusedAt} → Apply page_size base payload page a after
      → (applied_numbers a).entries < 2 ^ 32
  apply_fits c = rw c.numbers (omega (arith, apply_few (first_of (apply_rows page_size base payload page)) refl))

-- Judge

slot_few : (s : List ℕ) → (slot_numbers s).length ≤ room
unfolding slot_numbers is_patch
slot_few s = go (same s empty_slot) (leb 1 (payload_length s)) (leb (payload_length s) room) refl (same s (patch_slot (payload_of s)))
    (same s full_slot)
  where
    go : (a b c : Bool) → leb (payload_length s) room ≡ c → (d f : Bool)
        → (cond a (sound_slot 0 0) (cond (b && c && d) (sound_slot 1 (payload_length s)) (cond f (sound_slot 2 0) unsound_slot))).length ≤ room
    go true b c e d f = omega arith
    go false true true e true f = leb-true (payload_length s) room e
    go false true true e false true = omega arith
    go false true true e false false = omega arith
    go false true false e d true = omega arith
    go false true false e d false = omega arith
    go false false c e d true = omega arith
    go false false c e d false = omega arith

module _ (slot : List ℕ) where
  judge_few : (k : ℕ) → first_of (judge_rows slot) ≡ k → (judge_numbers slot).length ≤ room
  unfolding judge_numbers decided
  judge_few zero e = rw e (slot_few slot)
  judge_few (suc k) e = rw e (omega arith)

  pub judge_fits : {a : Result Judged Refusal} → Judge slot a → (judged_numbers a).length < 2 ^ 32
  judge_fits c = rw c.numbers (omega (arith, judge_few (first_of (judge_rows slot)) refl))

-- Carry out

carried_fits : (buffers : List Row) (patch full : List ℕ) (b : ℕ) (d : Decision) (stores : ℕ) (a : Result Written Refusal)
    → written_numbers a ≡ carry_numbers (carry_by page_size buffers patch full b d stores) → (written_numbers a).length < 2 ^ 32
carried_fits buffers patch full b d stores a e = rw e (omega (arith, carry_few page_size buffers patch full b d stores))

module _ (patch full : List ℕ) (b : ℕ) (d : Decision) (stores : ℕ) where
  pub carry_fits : {patch' full' : List ℕ} {a : Result Written Refusal}
      → CarryOut page_size patch full b d stores a patch' full' → (written_numbers a).length < 2 ^ 32
  carry_fits {patch'} {full'} {a} c = carried_fits [] patch full b d stores a c.numbers

  -- and with a lent map
  pub carry_mapped_fits : {map patch' full' map' : List ℕ} {a : Result Written Refusal}
      → CarryOutMapped page_size patch full map b d stores a patch' full' map' → (written_numbers a).length < 2 ^ 32
  unfolding carry_mapped_told
  carry_mapped_fits {map} {patch'} {full'} {map'} {a} c =
      carried_fits (short_map map (blocks_in (length patch))) patch full b d stores a c.numbers

-- The offset

offset_few : (number : ℕ) (payload : List ℕ) → offset_with number page_size payload ≤ room
offset_few number payload = go (eqb number 7)
  where
    go : (t : Bool) → cond t (breaks_at page_size payload) 0 ≤ room
    go true = breaks_few page_size payload
    go false = omega arith

offset_fits : {o : ℕ} (number : ℕ) (payload : List ℕ) → o ≡ offset_with number page_size payload → o < 2 ^ 32
offset_fits number payload e = rw e (omega (arith, offset_few number payload))

pub apply_offset_fits : {base payload page after : List ℕ} {a : Result Sound RefusedAt} → Apply page_size base payload page a after
    → (applied_numbers a).offset < 2 ^ 32
apply_offset_fits {base} {payload} {page} c = rw c.numbers (offset_fits _ _ (apply_told page_size base payload page))

pub read_offset_fits : {patch full base page after : List ℕ} {b : ℕ} {a : Result Kind RefusedAt}
    → Read page_size patch full b base page a after → (reading_numbers a).offset < 2 ^ 32
read_offset_fits {patch} {full} {base} {page} {after} {b} c =
    rw c.numbers (offset_fits _ _ (read_told page_size patch full b base page))

pub read_mapped_offset_fits : {patch full map base page after : List ℕ} {b : ℕ} {a : Result Kind RefusedAt}
    → ReadMapped page_size patch full map b base page a after → (reading_numbers a).offset < 2 ^ 32
read_mapped_offset_fits {patch} {full} {map} {base} {page} {after} {b} c =
    rw c.numbers (offset_fits _ _ (read_mapped_told page_size patch full map b base page))

pub build_offset_fits : {patch full map after : List ℕ} {a : Result ⊤ RefusedIn} → Build page_size patch full map a after
    → (built_numbers a).offset < 2 ^ 32
build_offset_fits {patch} {full} {map} c = rw c.numbers (offset_fits _ _ (build_told page_size patch full map))
