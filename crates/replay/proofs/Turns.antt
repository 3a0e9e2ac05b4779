-- One operation of a run, from what the calls that it is made of promise.
use Prim.Native.Nat.{ℕ, ◌≤◌}
use native.Mathlib.Omega.{arith}
use mathlib.Core.Path.{◌≡◌, refl, sym, ap, subst, ◌∙◌}
use mathlib.Core.Bool.{Bool, true, false, cond}
use mathlib.Core.Option.{Option, some}
use mathlib.Core.List.{List}
use lib.Dec.{eqb}
use lib.ListN.{take}
use borrow.Author.Tests.{eq-eqb, ne_eqb, leb-true, leb-false}
use Rattle.std.specs.Prelude.{◌<◌, min, leb, length, Result, Ok, Err, is_ok, ⊤}
use Rattle.std.specs.Int.{from_bool}
use Rattle.std.proofs.Math.Nat.{min-eq_left}
use Rattle.span.specs.Bytes.{zeros, part}
use Rattle.span.specs.Laws.{part_past}
use Rattle.layout.specs.Sizes.{room, patch_kind}
use Rattle.layout.specs.Numbers.{kind_number, refusal_number, answer_number}
use Rattle.layout.specs.NumberLaws.{refusal_some}
use Rattle.layout.specs.declared.Refusal.{Refusal}
use Rattle.stream.specs.Calls.{ComparedNumbers, compare_numbers, Compare}
use Rattle.stream.specs.Kinds.{compare_length, compare_patch}
use Rattle.stream.specs.declared.Compared.{Compared}
use Rattle.carrying.specs.Puts.{all}
use Rattle.carrying.specs.CarryOut.{CarryNumbers, written_numbers, CarryOut}
use Rattle.carrying.specs.Mapped.{CarryOutMapped}
use Rattle.carrying.specs.declared.Written.{Written}
use Rattle.cutting.specs.Cut.{Cut}
use Rattle.cutting.specs.Mapped.{CutMapped}
use Rattle.promises.specs.Runs.{write, wipe}
use Rattle.promises.specs.RunWords.{Decision, Operation}
use Rattle.promises.specs.MapStore.{with}
use Rattle.replay.specs.Operations.{decision_of, write_of, mark_of, left_by, answer_mark, Made, Turned, TurnedWith}

-- A part that begins past the end is empty wherever it begins
pub part_within : (at most n : ℕ) (xs : List ℕ) → length xs ≤ most → part (min at most) n xs ≡ part at n xs
part_within at most n xs h = go (leb at most) refl
  where
    go : (t : Bool) → leb at most ≡ t → part (min at most) n xs ≡ part at n xs
    go true e = ap (λ (k : ℕ). part k n xs) (min-eq_left (leb-true at most e))
    go false e =
        let a : most < at = leb-false at most e in
        let b : length xs ≤ min at most = omega (arith, h, a) in
        part_past (min at most) n xs b ∙ sym (part_past at n xs (omega (arith, h, a)))

-- An answer's mark is 1 just where its number is 0
mark_is : (a : Result ⊤ Refusal) → answer_mark a ≡ cond (eqb (answer_number a) 0) 1 0
mark_is (Ok x) = refl
mark_is (Err r) = rw (ne_eqb (refusal_number r) 0 (refusal_some r))

-- and it is the byte that the loop marks
marked_by : (a : Result ⊤ Refusal) {done : Bool} {mark : ℕ} → done ≡ is_ok a → mark ≡ from_bool done → answer_mark a ≡ mark
marked_by (Ok x) e f = rw (f, e)
marked_by (Err r) e f = rw (f, e)

pub made_marked : {S : Type 0} {takes : S → Operation → Bool} {does : S → Operation → S} {s s' : S} {o : Option Operation} (a : Result ⊤ Refusal)
    {done : Bool} {mark : ℕ} → done ≡ is_ok a → mark ≡ from_bool done → Made takes does s o (answer_mark a) s' → Made takes does s o mark s'
made_marked {S} {takes} {does} {s} {s'} {o} a e f t = subst (λ (m : ℕ). Made takes does s o m s') (marked_by a e f) t

-- One write

-- what Compare refuses is no operation
pub write_refused : {P : ℕ} {base page buffer : List ℕ} {r : Refusal} {S : Type 0} {takes : S → Operation → Bool} {does : S → Operation → S} {s : S}
    (b : ℕ) → Compare P base page (zeros room) (Err r) buffer → Made takes does s (write_of P b base page) 0 s
unfolding mark_of left_by
write_refused {P} {base} {page} {buffer} {r} b q =
    let n : refusal_number r ≡ (compare_numbers P base page (zeros room)).number = ap (λ (x : ComparedNumbers). x.number) q.numbers in
    let t : eqb (compare_numbers P base page (zeros room)).number 0 ≡ false = ne_eqb _ 0 (λ z. refusal_some r (n ∙ z)) in
    record { state = rw t; marked = rw t }

module _ {P : ℕ} {base page buffer : List ℕ} {d : Compared} (q : Compare P base page (zeros room) (Ok d) buffer) where
  answered : (compare_numbers P base page (zeros room)).number ≡ 0
  answered = sym (ap (λ (x : ComparedNumbers). x.number) q.numbers)

  kind_is : kind_number d.kind ≡ (compare_numbers P base page (zeros room)).kind
  kind_is = ap (λ (x : ComparedNumbers). x.kind) q.numbers

  length_is : d.length ≡ (compare_numbers P base page (zeros room)).length
  length_is = ap (λ (x : ComparedNumbers). x.length) q.numbers

  -- a payload is within the buffer
  pub payload_fits : kind_number d.kind ≡ patch_kind → d.length ≤ room
  payload_fits h =
      let p = (compare_patch P base page (zeros room) answered).0 (sym kind_is ∙ h) in
      omega (arith, length_is, compare_length P base page (zeros room) answered, p.1)

  -- the decision that is carried out is Compare's, and carrying it out is the operation
  pub made_decided : {S : Type 0} {takes : S → Operation → Bool} {does : S → Operation → S} {s s' : S} {b m : ℕ} {payload : List ℕ}
      → payload ≡ take (cond (eqb (kind_number d.kind) patch_kind) d.length 0) buffer
      → Made takes does s (some (write (record { block = b; decision = record { kind = kind_number d.kind; payload = payload; page = page } }))) m s'
      → Made takes does s (write_of P b base page) m s'
  unfolding decision_of
  made_decided {S} {takes} {does} {s} {s'} {b} {m} {payload} e t =
      let decided : ◌≡◌ {A = Decision} (record { kind = kind_number d.kind; payload = payload; page = page }) (decision_of P base page) =
      λ i. record { kind = kind_is i; payload = (e ∙ (λ j. take (cond (eqb (kind_is j) patch_kind) (length_is j) 0) (q.bytes j))) i; page = page } in
      let w = subst (λ (x : Decision). Made takes does s (some (write (record { block = b; decision = x }))) m s') decided t in
      rw (eq-eqb (compare_numbers P base page (zeros room)).number 0 answered) w

-- what carrying out answers, as a mark
abbrev pub carried : Result Written Refusal → Result ⊤ Refusal
carried (Ok w) = Ok tt
carried (Err r) = Err r

carried_number : (a : Result Written Refusal) → answer_number (carried a) ≡ (written_numbers a).number
carried_number (Ok w) = refl
carried_number (Err r) = refl

carried_mark : (a : Result Written Refusal) (n : CarryNumbers) → written_numbers a ≡ n → answer_mark (carried a) ≡ cond (eqb n.number 0) 1 0
carried_mark a n e = mark_is (carried a) ∙ ap (λ (k : ℕ). cond (eqb k 0) 1 0) (carried_number a ∙ ap (λ (x : CarryNumbers). x.number) e)

-- carried out, without a map and with one
module _ {P b k k' : ℕ} {patch full patch' full' payload page : List ℕ} {a : Result Written Refusal} (e : k ≡ k') where
  pub carried_out : CarryOut P patch full b (record { kind = k; payload = payload; page = page }) all a patch' full'
      → Turned P patch full (some (write (record { block = b; decision = record { kind = k'; payload = payload; page = page } })))
      (answer_mark (carried a)) patch' full'
  unfolding mark_of left_by
  carried_out c =
      let w = subst (λ (x : ℕ). CarryOut P patch full b (record { kind = x; payload = payload; page = page }) all a patch' full') e c in
      record { state = λ i. record { patch = w.patch_bytes i; full = w.full_bytes i }; marked = carried_mark a _ w.numbers }

  pub carried_out_mapped : {map map' : List ℕ}
      → CarryOutMapped P patch full map b (record { kind = k; payload = payload; page = page }) all a patch' full' map'
      → TurnedWith P patch full map (some (write (record { block = b; decision = record { kind = k'; payload = payload; page = page } })))
      (answer_mark (carried a)) patch' full' map'
  unfolding mark_of left_by
  carried_out_mapped {map} {map'} c =
      let w =
      subst (λ (x : ℕ). CarryOutMapped P patch full map b (record { kind = x; payload = payload; page = page }) all a patch' full' map') e c in
      record {
        state = λ i. with (record { patch = w.patch_bytes i; full = w.full_bytes i }) (w.map_bytes_is i);
        marked = carried_mark a _ w.numbers;
      }

-- One cut, without a map and with one

module _ {P K : ℕ} {patch full patch' full' : List ℕ} {a : Result ⊤ Refusal} where
  pub cut_made : Cut P patch full K a patch' full' → Turned P patch full (some (wipe K)) (answer_mark a) patch' full'
  unfolding mark_of left_by
  cut_made w =
      record {
        state = λ i. record { patch = w.patch_bytes i; full = w.full_bytes i };
        marked = mark_is a ∙ ap (λ (k : ℕ). cond (eqb k 0) 1 0) w.numbers;
      }

  pub cut_mapped_made : {map map' : List ℕ} → CutMapped P patch full map K a patch' full' map'
      → TurnedWith P patch full map (some (wipe K)) (answer_mark a) patch' full' map'
  unfolding mark_of left_by
  cut_mapped_made w =
      record {
        state = λ i. with (record { patch = w.patch_bytes i; full = w.full_bytes i }) (w.map_bytes_is i);
        marked = mark_is a ∙ ap (λ (k : ℕ). cond (eqb k 0) 1 0) w.numbers;
      }
