-- Runs of operations on a store of blocks, for any store: what the words mean. Nothing here speaks of bytes.
--
-- An operation is a write, which puts a cell at one block, or a wipe, which blanks every block that it covers. Wipes are there for the
-- cut of a table, which drops all blocks from some number on; a store that has no such call has the empty type for them.
--
-- What is proved of runs is in `LastLaws` (lists), `StandingLaws` (what a run leaves) and `SameLaws` (how it reads, and when two runs
-- leave the same). `RunStore` makes such a store of both areas, whose wipes are cuts.
use Rattle.std.specs.Prelude.{ℕ, ◌<◌, ◌≡◌, ◌↔◌, Bool, true, false, ◌&&◌, cond, eqb}
use Rattle.std.proofs.Math.Option.{Option, none, some}
use mathlib.Core.List.{List, [], ◌∷◌, ◌++◌, Memᴰ}

-- Lists

-- the state after the operations of a list, one after the other
unfoldable pub run : {S O : Type 0} → (S → O → S) → S → List O → S
run step s [] = s
run step s (o ∷ os) = run step (step s o) os

-- those operations of a list that are taken when their turn comes
unfoldable pub taking : {S O : Type 0} → (S → O → Bool) → (S → O → S) → S → List O → List O
taking takes step s [] = []
taking takes step s (o ∷ os) = cond (takes s o) (o ∷ taking takes step (step s o) os) (taking takes step (step s o) os)

-- x if it passes, unless something comes after it
unfoldable pub later : {A : Type 0} → Bool → A → Option A → Option A
later t x (some y) = some y
later true x none = some x
later false x none = none

-- the last element that passes a test
unfoldable pub last_such : {A : Type 0} → (A → Bool) → List A → Option A
last_such p [] = none
last_such p (x ∷ xs) = later (p x) x (last_such p xs)

-- the same said of places (`last_at`, `at_last`): x passes, and nothing after it does
pub record LastAt {A : Type 0} (p : A → Bool) (xs : List A) (x : A) : Type 0 where
  pub before : List A
  pub after : List A
  pub split : xs ≡ before ++ (x ∷ after)
  pub passes : p x ≡ true
  pub none_later : (y : A) → Memᴰ y after → p y ≡ true → ⊥

-- x in front of a list if it passes, unless something comes after it
unfoldable pub keep : {A B : Type 0} → Bool → A → Option B → List A → List A
keep t x (some y) xs = xs
keep true x none xs = x ∷ xs
keep false x none xs = xs

-- no two places of a list have the same number
abbrev pub NoRepeats : {A : Type 0} → (A → ℕ) → List A → Type 0
NoRepeats number [] = Unit {0}
NoRepeats number (x ∷ xs) = ((y : _) → Memᴰ y xs → number y ≡ number x → ⊥) × NoRepeats number xs

-- Operations

pub data Op (W C : Type 0) : Type 0 where
  write : W → Op W C
  wipe : C → Op W C

-- whether an operation has to do with block b
unfoldable pub concerns : {W C : Type 0} → (W → ℕ) → (C → ℕ → Bool) → ℕ → Op W C → Bool
concerns block covers b (write w) = eqb (block w) b
concerns block covers b (wipe c) = covers c b

-- Stores

pub record Store : Type 1 where
  pub State : Type 0
  -- what no operation changes, such as lengths and headers
  pub Frame : Type 0
  pub Write : Type 0
  pub Wipe : Type 0
  -- what a state holds at one block
  pub Cell : Type 0
  pub frame : State → Frame
  pub blocks : Frame → ℕ
  pub at : State → ℕ → Cell
  pub block : Write → ℕ
  -- what an accepted write leaves at its block, whatever stood there
  pub cell : Write → Cell
  pub blank : Cell
  pub covers : Frame → Wipe → ℕ → Bool
  -- what the call itself says, and what it does
  pub takes : State → Op Write Wipe → Bool
  pub step : State → Op Write Wipe → State
  -- the same as `takes`, of the frame: a refusal is a matter of the frame and the call, never of what was done before
  pub accepts : Frame → Op Write Wipe → Bool
  -- the frames at which a state is no more than its frame and its cells
  pub Good : Frame → Type 0

module _ (S : Store) where
  open S use {State, Frame, Write, Wipe, Cell, frame, blocks, at, block, cell, blank, covers, takes, step, accepts, Good}

  abbrev pub Ops : Type 0
  Ops = List (Op Write Wipe)

  -- what a store has to keep
  pub record Laws : Type 0 where
    pub frame_kept : (s : State) (o : Op Write Wipe) → frame (step s o) ≡ frame s
    pub by_frame : (s : State) (o : Op Write Wipe) → takes s o ≡ accepts (frame s) o
    pub refused : (s : State) (o : Op Write Wipe) → accepts (frame s) o ≡ false → step s o ≡ s
    pub write_here : (s : State) (w : Write) (b : ℕ) → accepts (frame s) (write w) ≡ true → b < blocks (frame s)
        → block w ≡ b → at (step s (write w)) b ≡ cell w
    pub write_elsewhere : (s : State) (w : Write) (b : ℕ) → accepts (frame s) (write w) ≡ true → b < blocks (frame s)
        → (block w ≡ b → ⊥) → at (step s (write w)) b ≡ at s b
    pub wiped : (s : State) (c : Wipe) (b : ℕ) → accepts (frame s) (wipe c) ≡ true → b < blocks (frame s)
        → covers (frame s) c b ≡ true → at (step s (wipe c)) b ≡ blank
    pub not_wiped : (s : State) (c : Wipe) (b : ℕ) → accepts (frame s) (wipe c) ≡ true → b < blocks (frame s)
        → covers (frame s) c b ≡ false → at (step s (wipe c)) b ≡ at s b
    pub ext : (s t : State) → Good (frame s) → frame s ≡ frame t → ((b : ℕ) → b < blocks (frame s) → at s b ≡ at t b) → s ≡ t

  -- nothing is written yet
  pub record Fresh (s : State) : Type 0 where
    pub good : Good (frame s)
    pub all_blank : (b : ℕ) → b < blocks (frame s) → at s b ≡ blank

  -- an accepted operation that has to do with block b
  unfoldable pub touches : Frame → ℕ → Op Write Wipe → Bool
  touches f b o = accepts f o && concerns block (covers f) b o

  -- the last accepted operation that touches block b: the operation that stands there at the end
  unfoldable pub standing : Frame → ℕ → Ops → Option (Op Write Wipe)
  standing f b os = last_such (touches f b) os

  -- what the standing operation makes of the cell that was there at the start
  unfoldable pub leaves : Cell → Option (Op Write Wipe) → Cell
  leaves c none = c
  leaves c (some (write w)) = cell w
  leaves c (some (wipe _)) = blank

  -- a cell that a run from a fresh state can leave at block b
  pub data Left (f : Frame) (b : ℕ) : Cell → Type 0 where
    left_blank : Left f b blank
    left_cell : (w : Write) → accepts f (write w) ≡ true → block w ≡ b → Left f b (cell w)

  -- ls holds each block's last accepted write and nothing else: a write is in ls just if it is the one that stands at its own block.
  -- This says nothing of the order, and a write may be there twice.
  unfoldable pub Lasts : Frame → Ops → List Write → Type 0
  Lasts f os ls = (w : Write) → Memᴰ w ls ↔ (standing f (block w) os ≡ some (write w))

  -- one such list: each accepted write whose block nothing later touches
  unfoldable pub lasts : Frame → Ops → List Write
  lasts f [] = []
  lasts f (write w ∷ os) = keep (accepts f (write w)) w (standing f (block w) os) (lasts f os)
  lasts f (wipe c ∷ os) = lasts f os

  -- How a cell is read over a base, and which cell a page makes over a base
  pub record Reading : Type 1 where
    pub Base : Type 0
    pub Page : Type 0
    -- the bases that a block can have
    pub Fits : Base → Type 0
    pub base_page : Base → Page
    pub reads : Base → Cell → Page
    pub canon : Base → Page → Cell
    -- what the write carries out was decided over this base
    pub Decided : Base → Write → Type 0
    pub page_of : Write → Page

  module _ (R : Reading) where
    open R use {Base, Page, Fits, base_page, reads, canon, Decided, page_of}

    pub record ReadingLaws : Type 0 where
      pub cell_canon : (f : Frame) (w : Write) (β : Base) → accepts f (write w) ≡ true → Decided β w → cell w ≡ canon β (page_of w)
      pub reads_cell : (f : Frame) (w : Write) (β : Base) → accepts f (write w) ≡ true → Decided β w → reads β (cell w) ≡ page_of w
      pub canon_base : (β : Base) → Fits β → canon β (base_page β) ≡ blank
      pub reads_blank : (β : Base) → Fits β → reads β blank ≡ base_page β

    -- the write that stands at block b, if one does, was decided over β
    unfoldable pub OverAt : Base → Frame → ℕ → Ops → Type 0
    OverAt β f b os = (w : Write) → standing f b os ≡ some (write w) → Decided β w

    -- so at every block: all that is assumed of a run's bases
    unfoldable pub Over : (ℕ → Base) → Frame → Ops → Type 0
    Over bases f os = (b : ℕ) → b < blocks f → OverAt (bases b) f b os

    -- what a paper may say of bases, which is more: every block always has the same base, but a block that a wipe covers may have another
    -- one after it. Said of the accepted operations of a run, which begins with the bases `start` and ends with the bases `end`.
    abbrev pub Bases : Frame → (ℕ → Base) → Ops → (ℕ → Base) → Type 0
    Bases f start [] end = (b : ℕ) → start b ≡ end b
    Bases f start (write w ∷ os) end = Decided (start (block w)) w × Bases f start os end
    Bases f start (wipe c ∷ os) end =
        (after : ℕ → Base) × ((b : ℕ) → covers f c b ≡ false → start b ≡ after b) × Bases f after os end

    -- the page to be seen at a block with base β: that of the write that stands there, or else the base
    unfoldable pub shown : Base → Option (Op Write Wipe) → Page
    shown β none = base_page β
    shown β (some (write w)) = page_of w
    shown β (some (wipe c)) = base_page β

    -- each of n blocks reads the same in both states
    unfoldable pub ReadSame : (ℕ → Base) → ℕ → State → State → Type 0
    ReadSame bases n s t = (b : ℕ) → b < n → reads (bases b) (at s b) ≡ reads (bases b) (at t b)
