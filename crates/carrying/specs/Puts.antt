-- Carrying out a decision on a block: two whole stores, the block's slot and its place in the full area, their order, and how many of them
-- are made.
use Rattle.std.specs.Prelude.{ℕ, Bool, cond, List, [], ◌∷◌, eqb, ltb, length, take}
use Rattle.span.specs.Bytes.{zeros, splice}
use Rattle.layout.specs.Sizes.{slot_at, page_at, full_kind}
use Rattle.layout.specs.Lengths.{pages_in}
use Rattle.slots.specs.Slots.{slot_image}

-- "a decision (kind 0, 1 or 2, payload, page)". It knows nothing of a base.
pub record Decision : Type 0 where
  pub kind : ℕ
  pub payload : List ℕ
  pub page : List ℕ

pub record Areas : Type 0 where
  pub patch : List ℕ
  pub full : List ℕ

-- the block's slot is the sound one of the kind
unfoldable pub put_slot : List ℕ → ℕ → ℕ → List ℕ → List ℕ
put_slot patch b kind payload = splice patch (slot_at b) (slot_image kind payload)

-- "the block's place in the full area, if there is one, holds the page for FULL_REF and zeros otherwise"
unfoldable pub put_place : ℕ → List ℕ → ℕ → ℕ → List ℕ → List ℕ
put_place P full b kind page = cond (ltb b (pages_in P (length full)))
    (splice full (page_at P b) (cond (eqb kind full_kind) page (zeros P))) full

-- one store
pub data Put : Type 0 where
  slot place : Put

unfoldable pub put : ℕ → ℕ → Decision → Put → Areas → Areas
put P b d slot s = record { patch = put_slot s.patch b d.kind d.payload; full = s.full }
put P b d place s = record { patch = s.patch; full = put_place P s.full b d.kind d.page }

-- stores one after the other
unfoldable pub puts : ℕ → ℕ → Decision → List Put → Areas → Areas
puts P b d [] s = s
puts P b d (x ∷ xs) s = puts P b d xs (put P b d x s)

-- "at most two whole stores: page then slot for FULL_REF, slot then zeroed page place for the other kinds"
unfoldable pub order : ℕ → List Put
order kind = cond (eqb kind full_kind) (place ∷ slot ∷ []) (slot ∷ place ∷ [])

-- both areas with the first `stores` of them made on block b: "0, 1 or, for any other number, all", which are two
unfoldable pub carried : ℕ → ℕ → Decision → ℕ → Areas → Areas
carried P b d stores s = puts P b d (take stores (order d.kind)) s

-- a call that is told all
abbrev pub all : ℕ
all = 2

abbrev pub told_all : ℕ → Bool
told_all stores = ltb 1 stores
