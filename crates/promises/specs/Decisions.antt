-- A decision that is carried out on a block, the cell that it leaves there, and how a cell is read over a base page. A decision knows
-- nothing of a base; that a Compare made it over some base is said by `ComparedBy`, in the words of that call, and by `Compared`, of base
-- pages.
use Rattle.std.specs.Prelude.{ℕ, ◌≤◌, ◌≡◌, true, cond, List, eqb, length, take}
use Rattle.span.specs.Bytes.{zeros}
use Rattle.layout.specs.Sizes.{room, empty_kind, patch_kind, full_kind}
use Rattle.slots.specs.Slots.{empty_slot, payload_of, slot_numbers, slot_image}
use Rattle.payload.specs.Entries.{payload_stream, applied, sound}
use Rattle.writer.specs.Differences.{written}
use Rattle.stream.specs.Calls.{kind_for, compare_numbers, compare_buffer}
use Rattle.carrying.specs.Puts.{Decision}

-- a block's slot and its place; a missing place as zeros
pub record Cell : Type 0 where
  pub slot : List ℕ
  pub place : List ℕ

-- what a decision leaves
abbrev pub cell_for : ℕ → Decision → Cell
cell_for P d = record { slot = slot_image d.kind d.payload; place = cond (eqb d.kind full_kind) d.page (zeros P) }

-- a block that nothing was written to
abbrev pub blank_cell : ℕ → Cell
blank_cell P = record { slot = empty_slot; place = zeros P }

-- the decisions that can be carried out: the payload counts only for PATCH, the page only for FULL_REF
pub data Fit (P : ℕ) (d : Decision) : Type 0 where
  empty : d.kind ≡ empty_kind → Fit P d
  patch : d.kind ≡ patch_kind → 1 ≤ length d.payload → length d.payload ≤ room → sound P d.payload ≡ true → Fit P d
  full : d.kind ≡ full_kind → length d.page ≡ P → Fit P d

-- "the kind and payload of a Compare that answered 0, with the page it compared": the payload is the first `length` bytes of the buffer,
-- and only for PATCH
pub record ComparedBy (P : ℕ) (base : List ℕ) (d : Decision) : Type 0 where
  pub buffer : List ℕ
  pub answered : (compare_numbers P base d.page buffer).number ≡ 0
  pub kind : d.kind ≡ (compare_numbers P base d.page buffer).kind
  pub payload : d.kind ≡ patch_kind
      → d.payload ≡ take (compare_numbers P base d.page buffer).length (compare_buffer P base d.page buffer)

-- the same of the base page, and without the buffer
pub record Compared (P : ℕ) (β : List ℕ) (d : Decision) : Type 0 where
  pub base_length : length β ≡ P
  pub page_length : length d.page ≡ P
  pub kind : d.kind ≡ kind_for (length (written β d.page))
  pub payload : d.kind ≡ patch_kind → d.payload ≡ written β d.page

-- what a cell holds over a base page, by its slot's kind
unfoldable pub page_in : ℕ → List ℕ → Cell → List ℕ
page_in P β c =
    cond (eqb (slot_numbers c.slot).kind empty_kind) β
    (cond (eqb (slot_numbers c.slot).kind patch_kind) (applied β (payload_stream P (payload_of c.slot))) c.place)

-- the cell of a page over a base page
unfoldable pub cell_of : ℕ → List ℕ → List ℕ → Cell
cell_of P β page = cell_for P (record { kind = kind_for (length (written β page)); payload = written β page; page = page })
