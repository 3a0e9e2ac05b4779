-- A run of writes and cuts from lent buffers, in the words of demand 3: "each write carries out the kind and payload of a Compare that
-- answered 0, with the page it compared". The runs are those of `promises`, without a map and with one.
use Rattle.std.specs.Prelude.{ℕ, ◌≡◌, Bool, cond, List, [], ◌∷◌, eqb, length, take, drop, get_or, Result, Ok, Err, ⊤}
use Rattle.std.proofs.Math.Option.{Option, none, some}
use Rattle.span.specs.Bytes.{zeros, splice}
use Rattle.layout.specs.Sizes.{room, patch_kind}
use Rattle.layout.specs.declared.Refusal.{Refusal}
use Rattle.stream.specs.Calls.{compare_numbers, compare_buffer}
use Rattle.promises.specs.Runs.{run, taking, write, wipe}
use Rattle.promises.specs.RunWords.{Decision, Areas, Operation, outcome, cutting, takes_by, does_by}
use Rattle.promises.specs.MapWords.{mapped, cut_mapped, takes_with_by, does_with_by}
use Rattle.promises.specs.MapStore.{with}

abbrev pub both : List ℕ → List ℕ → Areas
both patch full = record { patch = patch; full = full }

-- what Compare decides, lent a zero buffer: its kind, for a patch the first `length` bytes of the buffer and else none, and the page it
-- compared
unfoldable pub decision_of : ℕ → List ℕ → List ℕ → Decision
decision_of P base page =
    let n = compare_numbers P base page (zeros room) in
    record {
      kind = n.kind;
      payload = take (cond (eqb n.kind patch_kind) n.length 0) (compare_buffer P base page (zeros room));
      page = page;
    }

-- one write: that decision for that block where Compare answers 0, and none where it refuses
abbrev pub write_of : ℕ → ℕ → List ℕ → List ℕ → Option Operation
write_of P b base page =
    cond (eqb (compare_numbers P base page (zeros room)).number 0)
    (some (write (record { block = b; decision = decision_of P base page }))) none

-- one operation, if there is one: a cut at the number where the byte is not 0, else a write
abbrev pub operation : ℕ → ℕ → ℕ → List ℕ → List ℕ → Option Operation
operation P c b base page = cond (eqb c 0) (write_of P b base page) (some (wipe b))

-- the operations that buffers hold: each number with the next byte of `cuts`, 0 where there is no more, and with the next page of `bases`
-- and of `pages`, or with what is left of them
unfoldable pub operations : ℕ → List ℕ → List ℕ → List ℕ → List ℕ → List (Option Operation)
operations P [] cuts bases pages = []
operations P (b ∷ bs) cuts bases pages =
    operation P (get_or cuts 0 0) b (take P bases) (take P pages) ∷ operations P bs (drop 1 cuts) (drop P bases) (drop P pages)

-- those that are there: the run that is made
unfoldable pub made : List (Option Operation) → List Operation
made [] = []
made (none ∷ os) = made os
made (some o ∷ os) = o ∷ made os

-- Runs of any program, which says what it accepts and what it leaves

-- 1 for an operation that is accepted, 0 for one that is refused and where there is none
unfoldable pub mark_of : {S : Type 0} → (S → Operation → Bool) → S → Option Operation → ℕ
mark_of takes s none = 0
mark_of takes s (some o) = cond (takes s o) 1 0

-- what it leaves; where there is none, nothing changes
unfoldable pub left_by : {S : Type 0} → (S → Operation → S) → S → Option Operation → S
left_by does s none = s
left_by does s (some o) = does s o

-- the marks of a run, each when its turn came
unfoldable pub marks_of : {S : Type 0} → (S → Operation → Bool) → (S → Operation → S) → S → List (Option Operation) → List ℕ
marks_of takes does s [] = []
marks_of takes does s (o ∷ os) = mark_of takes s o ∷ marks_of takes does (left_by does s o) os

-- the state is that after the run; the marks stand in their buffer as far as it goes, and its later bytes stay
pub record Ran {S : Type 0} (takes : S → Operation → Bool) (does : S → Operation → S) (s : S) (os : List (Option Operation))
    (marks : List ℕ) (count : ℕ) (s' : S) (marks' : List ℕ) : Type 0 where
  pub state : s' ≡ run does s (made os)
  pub number : count ≡ length (taking takes does s (made os))
  pub marked : marks' ≡ splice marks 0 (take (length marks) (marks_of takes does s os))

-- the same of one operation
pub record Made {S : Type 0} (takes : S → Operation → Bool) (does : S → Operation → S) (s : S) (o : Option Operation) (mark : ℕ) (s' : S)
    : Type 0 where
  pub state : s' ≡ left_by does s o
  pub marked : mark ≡ mark_of takes s o

-- the mark of a call's answer
abbrev pub answer_mark : Result ⊤ Refusal → ℕ
answer_mark (Ok _) = 1
answer_mark (Err _) = 0

-- Without a map, and with one

abbrev pub Replayed : ℕ → List ℕ → List ℕ → List ℕ → List ℕ → List ℕ → List ℕ → List ℕ → ℕ → List ℕ → List ℕ → List ℕ → Type 0
Replayed P patch full numbers cuts bases pages marks count patch' full' marks' =
    Ran (takes_by (outcome P) (cutting P)) (does_by (outcome P) (cutting P)) (both patch full) (operations P numbers cuts bases pages)
    marks count (both patch' full') marks'

abbrev pub Turned : ℕ → List ℕ → List ℕ → Option Operation → ℕ → List ℕ → List ℕ → Type 0
Turned P patch full o mark patch' full' =
    Made (takes_by (outcome P) (cutting P)) (does_by (outcome P) (cutting P)) (both patch full) o mark (both patch' full')

abbrev pub ReplayedWith : ℕ → List ℕ → List ℕ → List ℕ → List ℕ → List ℕ → List ℕ → List ℕ → List ℕ
    → ℕ → List ℕ → List ℕ → List ℕ → List ℕ → Type 0
ReplayedWith P patch full map numbers cuts bases pages marks count patch' full' map' marks' =
    Ran (takes_with_by (mapped P) (cut_mapped P)) (does_with_by (mapped P) (cut_mapped P)) (with (both patch full) map)
    (operations P numbers cuts bases pages) marks count (with (both patch' full') map') marks'

abbrev pub TurnedWith : ℕ → List ℕ → List ℕ → List ℕ → Option Operation → ℕ → List ℕ → List ℕ → List ℕ → Type 0
TurnedWith P patch full map o mark patch' full' map' =
    Made (takes_with_by (mapped P) (cut_mapped P)) (does_with_by (mapped P) (cut_mapped P)) (with (both patch full) map) o mark
    (with (both patch' full') map')
