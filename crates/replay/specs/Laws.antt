-- The laws of a run of writes and cuts from buffers.
use Rattle.std.specs.Prelude.{ℕ, suc, ◌+◌, ◌*◌, ◌≤◌, ◌<◌, ◌≡◌, refl, Bool, true, false, cond, ◌⊎◌, take, set, eqb}
use native.Mathlib.Omega.{arith}
use Rattle.std.proofs.Math.Nat.{mul-suc}
use Rattle.std.proofs.Common.{mul-zero, add-one, subst, ◌∙◌, inl, inr, eq-eqb, eqb-true}
use Rattle.std.proofs.Math.Path.{sym, ap}
use Rattle.std.proofs.Math.Option.{Option, none, some, none-ne-some}
use mathlib.Core.List.Memᴰ
use mathlib.Core.List.{List, [], ◌∷◌, ◌++◌, map, Memᴰ}
use Rattle.std.proofs.Math.ListN.{length, drop, get_or}
use Rattle.std.proofs.Math.Seq.{sets, drop-cons, drop-drop, drop-length, get_or-drop, take-append_seam, drop-append_seam, take-nil, drop-nil}
use Rattle.span.specs.Bytes.{zeros, part, splice}
use Rattle.span.specs.Laws.{zeros_length}
use Rattle.layout.specs.Sizes.{room}
use Rattle.stream.specs.Calls.{page_of, compare_numbers, compare_buffer}
use Rattle.stream.specs.Laws.{tested_some}
use Rattle.promises.specs.Words.{PagesFit}
use Rattle.promises.specs.Decisions.{ComparedBy, Compared}
use Rattle.promises.specs.DecisionLaws.{compared_by, by_compare}
use Rattle.promises.specs.Runs.{run, taking, write, wipe}
use Rattle.promises.specs.RunWords.{Decision, Areas, Lent, Operation, KeepsBases}
use Rattle.promises.specs.MapWords.{Mapped, KeepsBasesWith}
use Rattle.replay.specs.Operations.{decision_of, write_of, operation, operations, made, mark_of, left_by, marks_of, Ran, Made}
use Rattle.replay.specs.Operations.{Replayed, ReplayedWith}

-- Marks laid one by one, as far as the buffer goes

sets_none : (i : ℕ) (ys : List ℕ) → sets [] i ys ≡ []
sets_none i [] = refl
sets_none i (y ∷ ys) = sets_none (suc i) ys

sets_later : (x : ℕ) (xs : List ℕ) (i : ℕ) (ys : List ℕ) → sets (x ∷ xs) (suc i) ys ≡ x ∷ sets xs i ys
sets_later x xs i [] = refl
sets_later x xs i (y ∷ ys) = sets_later x (set xs i y) (suc i) ys

sets_laid : (xs ys : List ℕ) → sets xs 0 ys ≡ splice xs 0 (take (length xs) ys)
unfolding splice
sets_laid [] ys = sets_none 0 ys
sets_laid (x ∷ xs) [] = refl
sets_laid (x ∷ xs) (y ∷ ys) =
    let n : ℕ = length (take (length xs) ys) in
    let q : suc (0 + n) ≡ 0 + suc n = omega arith in
    sets_later y xs 0 ys ∙ ap (λ (l : List ℕ). y ∷ l) (sets_laid xs ys) ∙ ap (λ (k : ℕ). y ∷ (take (length xs) ys ++ drop k (x ∷ xs))) q

-- Accepted operations are counted by their marks

one_most : {S : Type 0} (takes : S → Operation → Bool) (s : S) (o : Option Operation) → mark_of takes s o ≤ 1
unfolding mark_of
one_most takes s none = omega arith
one_most takes s (some o) = go (takes s o)
  where
    go : (t : Bool) → cond t 1 0 ≤ 1
    go true = omega arith
    go false = omega arith

counted : {S : Type 0} (takes : S → Operation → Bool) (does : S → Operation → S) (s : S) (o : Option Operation) (os : List (Option Operation))
    → length (taking takes does s (made (o ∷ os))) ≡ mark_of takes s o + length (taking takes does (left_by does s o) (made os))
unfolding taking made mark_of left_by
counted takes does s none os = omega arith
counted takes does s (some o) os = go (takes s o) (taking takes does (does s o) (made os))
  where
    go : (t : Bool) (l : List Operation) → length (cond t (o ∷ l) l) ≡ cond t 1 0 + length l
    go true l = omega arith
    go false l = omega arith

-- and where there is none, nothing changes
stepped : {S : Type 0} (does : S → Operation → S) (s : S) (o : Option Operation) (os : List (Option Operation))
    → run does s (made (o ∷ os)) ≡ run does (left_by does s o) (made os)
unfolding run made left_by
stepped does s none os = refl
stepped does s (some o) os = refl

-- The loop: what the whole run comes to is what the rest of it comes to from here

-- the operations that are left after i turns
abbrev pub rest : ℕ → List ℕ → List ℕ → List ℕ → List ℕ → ℕ → List (Option Operation)
rest P numbers cuts bases pages i = operations P (drop i numbers) (drop i cuts) (drop (P * i) bases) (drop (P * i) pages)

module _ (P : ℕ) (numbers cuts bases pages : List ℕ) where
  peel : (i : ℕ) → i < length numbers
      → rest P numbers cuts bases pages i
      ≡ operation P (get_or cuts i 0) (get_or numbers i 0) (part (P * i) P bases) (part (P * i) P pages) ∷ rest P numbers cuts bases pages (i + 1)
  unfolding operations part
  peel i h =
      let d : drop i numbers ≡ get_or numbers i 0 ∷ drop (i + 1) numbers = drop-cons numbers i 0 h
      ∙ ap (λ (k : ℕ). get_or numbers i 0 ∷ drop k numbers) (sym (add-one i)) in
      let z : i + 0 ≡ i = omega arith in
      let f : get_or (drop i cuts) 0 0 ≡ get_or cuts i 0 = get_or-drop i cuts 0 0 ∙ ap (λ (k : ℕ). get_or cuts k 0) z in
      let q : P * i + P ≡ P * (i + 1) = sym (ap (λ (k : ℕ). P * k) (add-one i) ∙ mul-suc P i) in
      rw (d, f, drop-drop 1 i cuts, drop-drop P (P * i) bases, drop-drop P (P * i) pages, q)

  over : (i : ℕ) → i ≡ length numbers → rest P numbers cuts bases pages i ≡ []
  unfolding operations
  over i e =
      let d : drop i numbers ≡ [] = ap (λ (k : ℕ). drop k numbers) e ∙ drop-length numbers in
      rw d

pub record Going {S : Type 0} (takes : S → Operation → Bool) (does : S → Operation → S) (P : ℕ) (s₀ : S)
    (numbers cuts bases pages marks₀ : List ℕ) (i count : ℕ) (s : S) (marks : List ℕ) : Type 0 where
  pub within : i ≤ length numbers
  pub few : count ≤ i
  pub state : run does s₀ (made (operations P numbers cuts bases pages)) ≡ run does s (made (rest P numbers cuts bases pages i))
  pub number : length (taking takes does s₀ (made (operations P numbers cuts bases pages)))
      ≡ count + length (taking takes does s (made (rest P numbers cuts bases pages i)))
  pub marked : sets marks₀ 0 (marks_of takes does s₀ (operations P numbers cuts bases pages))
      ≡ sets marks i (marks_of takes does s (rest P numbers cuts bases pages i))

module _ {S : Type 0} {takes : S → Operation → Bool} {does : S → Operation → S} {P : ℕ} {s₀ : S} {numbers cuts bases pages marks₀ : List ℕ} where
  pub begin : Going takes does P s₀ numbers cuts bases pages marks₀ 0 0 s₀ marks₀
  begin =
      let z : P * 0 ≡ 0 = mul-zero P in
      let e : rest P numbers cuts bases pages 0 ≡ operations P numbers cuts bases pages = rw z in
      let n : length (taking takes does s₀ (made (rest P numbers cuts bases pages 0)))
      ≡ length (taking takes does s₀ (made (operations P numbers cuts bases pages))) =
      ap (λ (l : List (Option Operation)). length (taking takes does s₀ (made l))) e in
      record { within = omega arith; few = omega arith; state = rw e; number = omega arith; marked = rw e }

  module _ {i count : ℕ} {s : S} {marks : List ℕ} (g : Going takes does P s₀ numbers cuts bases pages marks₀ i count s marks) where
    -- so few were accepted that the next one can be counted
    pub countable : i < length numbers → {o : Option Operation} {m : ℕ} {s' : S} → Made takes does s o m s' → count + m ≤ length numbers
    countable h {o} t = omega (arith, g.few, one_most takes s o, t.marked)

    pub go_on : i < length numbers → {c m : ℕ} {base page marks' : List ℕ} {s' : S}
        → c ≡ get_or cuts i 0 → base ≡ part (P * i) P bases → page ≡ part (P * i) P pages
        → Made takes does s (operation P c (get_or numbers i 0) base page) m s' → marks' ≡ set marks i m
        → Going takes does P s₀ numbers cuts bases pages marks₀ (i + 1) (count + m) s' marks'
    unfolding marks_of
    go_on h {c} {m} {base} {page} {marks'} {s'} ec eb ep t e =
        let o : Option Operation = operation P c (get_or numbers i 0) base page in
        let more : List (Option Operation) = rest P numbers cuts bases pages (i + 1) in
        let p : rest P numbers cuts bases pages i ≡ o ∷ more =
        peel P numbers cuts bases pages i h ∙ (λ j. operation P (sym ec j) (get_or numbers i 0) (sym eb j) (sym ep j) ∷ more) in
        let a : s' ≡ left_by does s o = t.state in
        let k : m ≡ mark_of takes s o = t.marked in
        let n : length (taking takes does s (made (rest P numbers cuts bases pages i))) ≡ m + length (taking takes does s' (made more)) =
        ap (λ (l : List (Option Operation)). length (taking takes does s (made l))) p
        ∙ counted takes does s o more
        ∙ (λ j. sym k j + length (taking takes does (sym a j) (made more))) in
        record {
          within = omega arith;
          few = omega (arith, k, one_most takes s o, g.few);
          state =
              g.state ∙ ap (λ (l : List (Option Operation)). run does s (made l)) p ∙ stepped does s o more
              ∙ ap (λ (x : S). run does x (made more)) (sym a);
          number = omega (arith, g.number, n);
          marked =
              g.marked
              ∙ ap (λ (l : List (Option Operation)). sets marks i (marks_of takes does s l)) p
              ∙ (λ j. sets (sym (e ∙ ap (set marks i) k) j) (sym (add-one i) j) (marks_of takes does (sym a j) more));
        }

    pub ended : length numbers ≤ i → Ran takes does s₀ (operations P numbers cuts bases pages) marks₀ count s marks
    unfolding run taking made marks_of
    ended h =
        let p : rest P numbers cuts bases pages i ≡ [] = over P numbers cuts bases pages i (omega (arith, g.within)) in
        record {
          state = sym (g.state ∙ ap (λ (l : List (Option Operation)). run does s (made l)) p);
          number =
              let z : length (taking takes does s (made (rest P numbers cuts bases pages i))) ≡ 0 =
              ap (λ (l : List (Option Operation)). length (taking takes does s (made l))) p in
              omega (arith, g.number, z);
          marked =
              sym (ap (λ (l : List (Option Operation)). sets marks i (marks_of takes does s l)) p) ∙ sym g.marked
              ∙ sets_laid marks₀ (marks_of takes does s₀ (operations P numbers cuts bases pages));
        }

-- The marks say which operations were accepted

-- those that are marked 1
unfoldable pub picked : {A : Type 0} → List ℕ → List A → List A
picked [] os = []
picked (m ∷ ms) [] = []
picked (m ∷ ms) (o ∷ os) = cond (eqb m 1) (o ∷ picked ms os) (picked ms os)

-- are the accepted ones, and where Compare refused there is no 1
pub marks_pick : {S : Type 0} (takes : S → Operation → Bool) (does : S → Operation → S) (s : S) (os : List (Option Operation))
    → picked (marks_of takes does s os) os ≡ map some (taking takes does s (made os))
unfolding picked marks_of mark_of left_by taking made
marks_pick takes does s [] = refl
marks_pick takes does s (none ∷ os) = marks_pick takes does s os
marks_pick {S} takes does s (some o ∷ os) = go (takes s o) (marks_pick takes does (does s o) os)
  where
    left_over : S
    left_over = does s o

    go : (t : Bool) → picked (marks_of takes does left_over os) os ≡ map some (taking takes does left_over (made os))
        → cond (eqb (cond t 1 0) 1) (some o ∷ picked (marks_of takes does left_over os) os) (picked (marks_of takes does left_over os) os)
        ≡ map some (cond t (o ∷ taking takes does left_over (made os)) (taking takes does left_over (made os)))
    go true e = ap (λ (l : List (Option Operation)). some o ∷ l) e
    go false e = e

-- Every write of the run is decided by a Compare that answered 0

-- the place where a write is lent: no cut, its block's number, and the base and the page that were compared
pub record LentAt (P : ℕ) (numbers cuts bases pages : List ℕ) (w : Lent) : Type 0 where
  pub place : ℕ
  pub within : place < length numbers
  pub no_cut : get_or cuts place 0 ≡ 0
  pub block : w.block ≡ get_or numbers place 0
  pub page : w.decision.page ≡ part (P * place) P pages
  pub compared : ComparedBy P (part (P * place) P bases) w.decision

-- what the call's own outputs are
decision_compared : (P : ℕ) (base page : List ℕ) → (compare_numbers P base page (zeros room)).number ≡ 0
    → ComparedBy P base (decision_of P base page)
unfolding decision_of
decision_compared P base page h =
    record {
      buffer = zeros room;
      answered = h;
      kind = refl;
      payload = λ k.
          ap (λ (t : Bool). take (cond t (compare_numbers P base page (zeros room)).length 0) (compare_buffer P base page (zeros room)))
          (eq-eqb (compare_numbers P base page (zeros room)).kind 1 k);
    }

decision_page : (P : ℕ) (base page : List ℕ) → (decision_of P base page).page ≡ page
unfolding decision_of
decision_page P base page = refl

-- a write comes from the byte 0 and from such a Compare
from_compare : (P c b : ℕ) (base page : List ℕ) (w : Lent) → operation P c b base page ≡ some (write w)
    → (c ≡ 0) × (w.block ≡ b) × (w.decision.page ≡ page) × ComparedBy P base w.decision
from_compare P c b base page w = go (eqb c 0) refl (eqb (compare_numbers P base page (zeros room)).number 0) refl
  where
    go : (t : Bool) → eqb c 0 ≡ t → (u : Bool) → eqb (compare_numbers P base page (zeros room)).number 0 ≡ u
        → cond t (cond u (some (write (record { block = b; decision = decision_of P base page }))) none) (some (wipe b)) ≡ some (write w)
        → (c ≡ 0) × (w.block ≡ b) × (w.decision.page ≡ page) × ComparedBy P base w.decision
    go true e true f q =
        let v : ◌≡◌ {A = Lent} (record { block = b; decision = decision_of P base page }) w = cc in (
          eqb-true c 0 e,
          ap (λ (x : Lent). x.block) (sym v),
          ap (λ (x : Lent). x.decision.page) (sym v) ∙ decision_page P base page,
          subst (λ (x : Lent). ComparedBy P base x.decision) v
              (decision_compared P base page (eqb-true (compare_numbers P base page (zeros room)).number 0 f)),
        )
    go true e false f q = absurd (none-ne-some (write w) q)
    go false e u f q =
        let z : ◌≡◌ {A = ℕ} 0 1 = cc in
        absurd (omega arith)

made_cases : (w : Lent) (o : Option Operation) (os : List (Option Operation)) → Memᴰ (write w) (made (o ∷ os))
    → (o ≡ some (write w)) ⊎ Memᴰ (write w) (made os)
unfolding made
made_cases w none os m = inr m
made_cases w (some o) os m = elim (Memᴰ.cases_cons m) [ inl e ↦ inl (ap some (sym e)) | inr n ↦ inr n ]

pub each_lent : (P : ℕ) (numbers cuts bases pages : List ℕ) (w : Lent) → Memᴰ (write w) (made (operations P numbers cuts bases pages))
    → LentAt P numbers cuts bases pages w
unfolding operations made part
each_lent P [] cuts bases pages w m = absurd (Memᴰ.not-nil m)
each_lent P (b ∷ bs) cuts bases pages w m =
    elim (made_cases w (operation P (get_or cuts 0 0) b (take P bases) (take P pages)) (operations P bs (drop 1 cuts) (drop P bases) (drop P pages)) m) [
      | inl e ↦
          let f = from_compare P (get_or cuts 0 0) b (take P bases) (take P pages) w e in
          let z : P * 0 ≡ 0 = mul-zero P in
          record { place = 0; within = omega arith; no_cut = f.0; block = f.1; page = rw z f.2; compared = rw z f.3 }
      | inr n ↦
          let l = each_lent P bs (drop 1 cuts) (drop P bases) (drop P pages) w n in
          let i : ℕ = l.place in
          let q : P + P * i ≡ P * suc i = omega (arith, mul-suc P i) in
          let one : 1 + i ≡ suc i = omega arith in
          let at : (xs : List ℕ) → part (P * i) P (drop P xs) ≡ part (P * suc i) P xs =
          λ xs. ap (take P) (drop-drop (P * i) P xs ∙ ap (λ (k : ℕ). drop k xs) q) in
          record {
            place = suc i;
            within = omega (arith, l.within);
            no_cut = ap (λ (k : ℕ). get_or cuts k 0) (sym one) ∙ sym (get_or-drop 1 cuts i 0) ∙ l.no_cut;
            block = l.block;
            page = l.page ∙ at pages;
            compared = subst (λ (x : List ℕ). ComparedBy P x w.decision) (at bases) l.compared;
          }
    ]

-- "each write carries out the kind and payload of a Compare that answered 0, with the page it compared"
pub each_compared : (P : ℕ) (numbers cuts bases pages : List ℕ) (w : Lent)
    → Memᴰ (write w) (made (operations P numbers cuts bases pages)) → (base : List ℕ) × ComparedBy P base w.decision
each_compared P numbers cuts bases pages w m = (_, (each_lent P numbers cuts bases pages w m).compared)

-- Where all bases that are lent for a block stand for one base page, the run has "each block always with the same base page"

-- a base that stands for a whole page has a base's length
base_fits : (P : ℕ) (base : List ℕ) → length (page_of P base) ≡ P → (length base ≡ 0) ⊎ (length base ≡ P)
base_fits P base l = go (eqb (length base) 0) refl
  where
    go : (t : Bool) → eqb (length base) 0 ≡ t → (length base ≡ 0) ⊎ (length base ≡ P)
    go true e = inl (eqb-true (length base) 0 e)
    go false e = inr (ap (λ (x : List ℕ). length x) (sym (tested_some P base e)) ∙ l)

-- Compare says of a base no more than of the page that it stands for
pub other_base : (P : ℕ) (base base' : List ℕ) (d : Decision) → page_of P base ≡ page_of P base' → ComparedBy P base d → ComparedBy P base' d
other_base P base base' d e h =
    let c : Compared P (page_of P base') d = subst (λ (β : List ℕ). Compared P β d) e (compared_by P base d h) in
    by_compare P base' d (record { base_length = base_fits P base' c.base_length; page_length = c.page_length }) c

-- the base that is lent for a write stands for the same page as its block's: nothing is asked where a cut is lent, or where a base or a page
-- has another length, which Compare refuses
abbrev pub OneBase : ℕ → (ℕ → List ℕ) → List ℕ → List ℕ → List ℕ → List ℕ → Type 0
OneBase P base numbers cuts bases pages =
    (i : ℕ) → i < length numbers → get_or cuts i 0 ≡ 0 → PagesFit P (part (P * i) P bases) (part (P * i) P pages)
    → page_of P (part (P * i) P bases) ≡ page_of P (base (get_or numbers i 0))

-- an accepted operation is one of the run
taken_in : {S : Type 0} (takes : S → Operation → Bool) (does : S → Operation → S) (s : S) (os : List Operation) (o : Operation)
    → Memᴰ o (taking takes does s os) → Memᴰ o os
unfolding taking
taken_in takes does s [] o m = m
taken_in {S} takes does s (p ∷ os) o m = go (takes s p) (taken_in takes does (does s p) os o) m
  where
    later : List Operation
    later = taking takes does (does s p) os

    go : (t : Bool) → (Memᴰ o later → Memᴰ o os) → Memᴰ o (cond t (p ∷ later) later) → Memᴰ o (p ∷ os)
    go true f n = elim (Memᴰ.cases_cons n) [ inl e ↦ Memᴰ.head e | inr k ↦ Memᴰ.tail (f k) ]
    go false f n = Memᴰ.tail (f n)

module _ (P : ℕ) (base : ℕ → List ℕ) (numbers cuts bases pages : List ℕ) (one : OneBase P base numbers cuts bases pages) where
  over_base : (w : Lent) → Memᴰ (write w) (made (operations P numbers cuts bases pages)) → ComparedBy P (base w.block) w.decision
  over_base w m =
      let l = each_lent P numbers cuts bases pages w m in
      let lent_base : List ℕ = part (P * l.place) P bases in
      let c : Compared P (page_of P lent_base) w.decision = compared_by P lent_base w.decision l.compared in
      let f : PagesFit P lent_base (part (P * l.place) P pages) = record {
        base_length = base_fits P lent_base c.base_length;
        page_length = ap (λ (x : List ℕ). length x) (sym l.page) ∙ c.page_length;
      } in
      other_base P lent_base (base w.block) w.decision
      (one l.place l.within l.no_cut f ∙ ap (λ (k : ℕ). page_of P (base k)) (sym l.block)) l.compared

  pub keeps_bases : (s : Areas) → KeepsBases P base s (made (operations P numbers cuts bases pages))
  keeps_bases s w m = over_base w (taken_in _ _ s (made (operations P numbers cuts bases pages)) (write w) m)

  pub keeps_bases_mapped : (x : Mapped) → KeepsBasesWith P base x (made (operations P numbers cuts bases pages))
  keeps_bases_mapped x w m = over_base w (taken_in _ _ x (made (operations P numbers cuts bases pages)) (write w) m)

-- Every such run stands in some buffers

-- what is lent for one operation: a page for a block, over a base, or a cut
pub data Given : Type 0 where
  lent : ℕ → List ℕ → List ℕ → Given
  cut : ℕ → Given

abbrev pub operation_of : ℕ → Given → Option Operation
operation_of P (lent b base page) = write_of P b base page
operation_of P (cut K) = some (wipe K)

-- whole bases and pages, and whole pages over no bases at all
abbrev pub Whole : ℕ → List Given → Type 0
Whole P [] = Unit {0}
Whole P (lent b base page ∷ gs) = (length base ≡ P) × (length page ≡ P) × Whole P gs
Whole P (cut K ∷ gs) = Whole P gs

abbrev pub Bare : ℕ → List Given → Type 0
Bare P [] = Unit {0}
Bare P (lent b base page ∷ gs) = (base ≡ []) × (length page ≡ P) × Bare P gs
Bare P (cut K ∷ gs) = Bare P gs

-- what stands for it in each buffer: for a cut a whole page of zeros in `bases` and `pages`, where any would do
abbrev pub number_of : Given → ℕ
number_of (lent b base page) = b
number_of (cut K) = K

abbrev pub cut_of : Given → ℕ
cut_of (lent b base page) = 0
cut_of (cut K) = 1

abbrev pub base_in : ℕ → Given → List ℕ
base_in P (lent b base page) = base
base_in P (cut K) = zeros P

abbrev pub page_in : ℕ → Given → List ℕ
page_in P (lent b base page) = page
page_in P (cut K) = zeros P

abbrev pub joined : (Given → List ℕ) → List Given → List ℕ
joined f [] = []
joined f (g ∷ gs) = f g ++ joined f gs

first : (P : ℕ) (xs ys : List ℕ) → length xs ≡ P → (take P (xs ++ ys) ≡ xs) × (drop P (xs ++ ys) ≡ ys)
first P xs ys e = (
  ap (λ (k : ℕ). take k (xs ++ ys)) (sym e) ∙ take-append_seam xs ys,
  ap (λ (k : ℕ). drop k (xs ++ ys)) (sym e)
      ∙ drop-append_seam xs ys,
)

pub written_out : (P : ℕ) (gs : List Given) → Whole P gs
    → operations P (map number_of gs) (map cut_of gs) (joined (base_in P) gs) (joined (page_in P) gs) ≡ map (operation_of P) gs
unfolding operations
written_out P [] h = refl
written_out P (lent b base page ∷ gs) h =
    let x = first P base (joined (base_in P) gs) h.0 in
    let y = first P page (joined (page_in P) gs) h.1 in
    (λ j. write_of P b (x.0 j) (y.0 j) ∷ operations P (map number_of gs) (map cut_of gs) (x.1 j) (y.1 j))
    ∙ ap (λ (l : List (Option Operation)). write_of P b base page ∷ l) (written_out P gs h.2)
written_out P (cut K ∷ gs) h =
    let x = first P (zeros P) (joined (base_in P) gs) (zeros_length P) in
    let y = first P (zeros P) (joined (page_in P) gs) (zeros_length P) in
    (λ j. some (wipe K) ∷ operations P (map number_of gs) (map cut_of gs) (x.1 j) (y.1 j))
    ∙ ap (λ (l : List (Option Operation)). some (wipe K) ∷ l) (written_out P gs h)

pub written_bare : (P : ℕ) (gs : List Given) → Bare P gs
    → operations P (map number_of gs) (map cut_of gs) [] (joined (page_in P) gs) ≡ map (operation_of P) gs
unfolding operations
written_bare P [] h = refl
written_bare P (lent b base page ∷ gs) h =
    let y = first P page (joined (page_in P) gs) h.1 in
    (λ j.
    write_of P b ((take-nil P ∙ sym h.0) j) (y.0 j) ∷ operations P (map number_of gs) (map cut_of gs) (drop-nil {A = ℕ} P j) (y.1 j))
    ∙ ap (λ (l : List (Option Operation)). write_of P b base page ∷ l) (written_bare P gs h.2)
written_bare P (cut K ∷ gs) h =
    let y = first P (zeros P) (joined (page_in P) gs) (zeros_length P) in
    (λ j. some (wipe K) ∷ operations P (map number_of gs) (map cut_of gs) (drop-nil {A = ℕ} P j) (y.1 j))
    ∙ ap (λ (l : List (Option Operation)). some (wipe K) ∷ l) (written_bare P gs h)

-- A replay of a run leaves what the run leaves, so every theorem over runs speaks of the loop
pub replay_run : {S : Type 0} {takes : S → Operation → Bool} {does : S → Operation → S} {s s' : S} {marks marks' : List ℕ} {n : ℕ}
    {held : List (Option Operation)} (os : List Operation) → made held ≡ os → Ran takes does s held marks n s' marks'
    → (s' ≡ run does s os) × (n ≡ length (taking takes does s os))
replay_run {S} {takes} {does} {s} os e r =
    (r.state ∙ ap (run does s) e, r.number ∙ ap (λ (l : List Operation). length (taking takes does s l)) e)

-- No second outcome meets the promise

ran_only : {S : Type 0} {takes : S → Operation → Bool} {does : S → Operation → S} {s x y : S} {os : List (Option Operation)}
    {marks m n : List ℕ} {j k : ℕ} → Ran takes does s os marks j x m → Ran takes does s os marks k y n → (j ≡ k) × (x ≡ y) × (m ≡ n)
ran_only x y = (x.number ∙ sym y.number, x.state ∙ sym y.state, x.marked ∙ sym y.marked)

pub replay_only : (P : ℕ) (patch full numbers cuts bases pages marks p q f g m n : List ℕ) (j k : ℕ)
    → Replayed P patch full numbers cuts bases pages marks j p f m → Replayed P patch full numbers cuts bases pages marks k q g n
    → (j ≡ k) × (p ≡ q) × (f ≡ g) × (m ≡ n)
replay_only P patch full numbers cuts bases pages marks p q f g m n j k x y =
    let e = ran_only x y in
    (e.0, ap (λ (s : Areas). s.patch) e.1, ap (λ (s : Areas). s.full) e.1, e.2)

pub replay_mapped_only : (P : ℕ) (patch full map numbers cuts bases pages marks p q f g l r m n : List ℕ) (j k : ℕ)
    → ReplayedWith P patch full map numbers cuts bases pages marks j p f l m → ReplayedWith P patch full map numbers cuts bases pages marks k q g r n
    → (j ≡ k) × (p ≡ q) × (f ≡ g) × (l ≡ r) × (m ≡ n)
replay_mapped_only P patch full map numbers cuts bases pages marks p q f g l r m n j k x y =
    let e = ran_only x y in (
      e.0,
      ap (λ (s : Mapped). s.areas.patch) e.1,
      ap (λ (s : Mapped). s.areas.full) e.1,
      ap (λ (s : Mapped). s.map) e.1,
      e.2,
    )
