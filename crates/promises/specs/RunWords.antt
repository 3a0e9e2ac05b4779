-- The words that demand 3 is written with. A run is any list of operations, each lent both areas whole, as the ones before it left them.
-- An operation is a write, which carries out any decision on any block, or a cut, at any number. That the decisions come from Compare is
-- said where bases come in.
use Rattle.std.specs.Prelude.{ℕ, ◌<◌, ◌≡◌, Bool, ◌↔◌, eqb, leb}
use Rattle.std.proofs.Math.Option.{Option, some}
use mathlib.Core.List.{List, [], ◌∷◌, Memᴰ}
use Rattle.stream.specs.Calls.{page_of}
use Rattle.store.specs.Format.{format_outcome}
use Rattle.reading.specs.Read.{ReadOutcome, read_outcome}
use Rattle.carrying.specs.CarryOut.{CarryOutcome, carry_outcome}
use Rattle.cutting.specs.Cut.{CutOutcome, cut_outcome}
use Rattle.promises.specs.Words.{blocks}
use Rattle.promises.specs.Decisions.{ComparedBy, Compared}
use Rattle.promises.specs.Runs.{run, taking, last_such, Op, write, wipe, concerns}
pub use Rattle.carrying.specs.Puts.{Decision, Areas}

-- Read of a block of both areas
abbrev pub read_at : ℕ → Areas → ℕ → List ℕ → List ℕ → ReadOutcome
read_at P s b base page = read_outcome P s.patch s.full b base page

-- Operations

-- one write: a decision that is carried out on a block
pub record Lent : Type 0 where
  pub block : ℕ
  pub decision : Decision

-- one cut: the number that it is made at
abbrev pub Cut : Type 0
Cut = ℕ

-- the blocks that a cut covers: "blocks K and up"
abbrev pub cuts : Cut → ℕ → Bool
cuts K b = leb K b

abbrev pub Operation : Type 0
Operation = Op Lent Cut

-- Programs: what comes of a write, and of a cut, on both areas. Demand 3 is about the right ones, `outcome P` and `cutting P`; `Wrong`,
-- `RunsWrong` and `CutsWrong` have others.

abbrev pub Program : Type 0
Program = Areas → Lent → CarryOutcome

abbrev pub outcome : ℕ → Program
outcome P s w = carry_outcome P s.patch s.full w.block w.decision

abbrev pub CutProgram : Type 0
CutProgram = Areas → Cut → CutOutcome

abbrev pub cutting : ℕ → CutProgram
cutting P s K = cut_outcome P s.patch s.full K

-- whether they accept an operation, and the areas that they leave
abbrev pub takes_by : Program → CutProgram → Areas → Operation → Bool
takes_by writes drops s (write w) = eqb (writes s w).number 0
takes_by writes drops s (wipe K) = eqb (drops s K).number 0

abbrev pub does_by : Program → CutProgram → Areas → Operation → Areas
does_by writes drops s (write w) = record { patch = (writes s w).patch; full = (writes s w).full }
does_by writes drops s (wipe K) = record { patch = (drops s K).patch; full = (drops s K).full }

-- the areas after a run, and those of its operations that were accepted when their turn came
abbrev pub after_by : Program → CutProgram → Areas → List Operation → Areas
after_by writes drops s os = run (does_by writes drops) s os

abbrev pub accepted_by : Program → CutProgram → Areas → List Operation → List Operation
accepted_by writes drops s os = taking (takes_by writes drops) (does_by writes drops) s os

abbrev pub after : ℕ → Areas → List Operation → Areas
after P s os = after_by (outcome P) (cutting P) s os

abbrev pub accepted : ℕ → Areas → List Operation → List Operation
accepted P s os = accepted_by (outcome P) (cutting P) s os

-- the same of one write
abbrev pub taken : ℕ → Areas → Lent → Bool
taken P s w = takes_by (outcome P) (cutting P) s (write w)

abbrev pub next : ℕ → Areas → Lent → Areas
next P s w = does_by (outcome P) (cutting P) s (write w)

-- and of one cut
abbrev pub cut_taken : ℕ → Areas → Cut → Bool
cut_taken P s K = takes_by (outcome P) (cutting P) s (wipe K)

abbrev pub cut_next : ℕ → Areas → Cut → Areas
cut_next P s K = does_by (outcome P) (cutting P) s (wipe K)

-- Last writes

-- the last of some operations that has to do with block b
unfoldable pub last_to : ℕ → List Operation → Option Operation
last_to b os = last_such (concerns (λ (w : Lent). w.block) cuts b) os

-- ls holds each block's last accepted write that no later accepted cut covers, and nothing else, in any order: a write is in ls just if it
-- is the last accepted operation that has to do with its block
abbrev pub JustLastsBy : Program → CutProgram → Areas → List Operation → List Lent → Type 0
JustLastsBy writes drops s os ls =
    (w : Lent) → Memᴰ w ls ↔ (last_to w.block (accepted_by writes drops s os) ≡ some (write w))

abbrev pub JustLasts : ℕ → Areas → List Operation → List Lent → Type 0
JustLasts P s os ls = JustLastsBy (outcome P) (cutting P) s os ls

-- Bases

-- what a write carries out is Compare's over the base page β
abbrev pub Decided : ℕ → List ℕ → Lent → Type 0
Decided P β w = Compared P β w.decision

-- "only the blocks it covers may have another base after it": the bases that a run begins with, `start`, and those at its end, `end`. Each
-- accepted write "carries out the kind and payload of a Compare that answered 0, with the page it compared", over the base that its block
-- has then; an accepted cut may be followed by other bases of the blocks that it covers. Said of the accepted operations of a run. Bases are
-- compared as pages.
abbrev pub Follows : ℕ → (ℕ → List ℕ) → List Operation → (ℕ → List ℕ) → Type 0
Follows P start [] end = (b : ℕ) → page_of P (start b) ≡ page_of P (end b)
Follows P start (write w ∷ os) end = ComparedBy P (start w.block) w.decision × Follows P start os end
Follows P start (wipe K ∷ os) end =
    (then : ℕ → List ℕ) × ((b : ℕ) → b < K → page_of P (start b) ≡ page_of P (then b)) × Follows P then os end

abbrev pub FollowsBases : ℕ → (ℕ → List ℕ) → Areas → List Operation → (ℕ → List ℕ) → Type 0
FollowsBases P start s os end = Follows P start (accepted P s os) end

-- each accepted write of a run was decided by a Compare over its block's base, before every cut and after it: "each block always with the
-- same base page"
abbrev pub KeepsBases : ℕ → (ℕ → List ℕ) → Areas → List Operation → Type 0
KeepsBases P bases s os = (w : Lent) → Memᴰ (write w) (accepted P s os) → ComparedBy P (bases w.block) w.decision

-- what is needed of either: the write that stands at a block at the end, if one does, was decided over the block's base page then
abbrev pub OverBaseAt : ℕ → List ℕ → Areas → List Operation → ℕ → Type 0
OverBaseAt P base s os b = (w : Lent) → last_to b (accepted P s os) ≡ some (write w) → Decided P (page_of P base) w

abbrev pub OverBases : ℕ → (ℕ → List ℕ) → Areas → List Operation → Type 0
OverBases P bases s os = (b : ℕ) → b < blocks s.patch → OverBaseAt P (bases b) s os b

-- a block at which a write stands whose page differs from the block's base
pub record ChangedAt (P : ℕ) (bases : ℕ → List ℕ) (s : Areas) (os : List Operation) (b : ℕ) : Type 0 where
  pub last : Lent
  pub stands : last_to b (accepted P s os) ≡ some (write last)
  pub differs : last.decision.page ≡ page_of P (bases b) → ⊥

-- freshly formatted areas: what Format leaves of areas that it accepts
pub record FreshAreas (P : ℕ) (s : Areas) : Type 0 where
  pub old : Areas
  pub formatted : (format_outcome P old.patch old.full).number ≡ 0
  pub patch_is : s.patch ≡ (format_outcome P old.patch old.full).patch
  pub full_is : s.full ≡ (format_outcome P old.patch old.full).full
