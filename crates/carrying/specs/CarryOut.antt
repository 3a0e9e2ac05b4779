-- Carry out a decision on a block.
use Rattle.std.specs.Prelude.{ℕ, ◌≡◌, not, ◌&&◌, cond, List, [], ◌∷◌, eqb, leb, ltb, length, Result, Ok, Err}
use Rattle.layout.specs.Sizes.{patch_kind, full_kind}
use Rattle.layout.specs.Numbers.{kind_number, refusal_number}
use Rattle.layout.specs.declared.Refusal.{Refusal}
use Rattle.layout.specs.Refusals.{Row, ◌⇐◌, first_of, decided}
use Rattle.layout.specs.Groups.{Grouped, ordered, ◌▸◌}
use Rattle.layout.specs.Groups as group
use Rattle.headers.specs.Headers.{header_rows}
use Rattle.layout.specs.Lengths.{pages_in, length_rows}
use Rattle.payload.specs.Entries.{sound}
use Rattle.store.specs.Block.{block_rows}
use Rattle.carrying.specs.declared.Written.{Written}
use Rattle.carrying.specs.Puts.{Decision, carried, all}

-- "It looks at the payload only for PATCH, taking any sound one, and at the page only for FULL_REF."
abbrev pub wrong_page : ℕ → Decision → List Row
wrong_page P d = (1 ⇐ eqb d.kind full_kind && not (eqb (length d.page) P)) ∷ []

-- "Refusals: 1 for a FULL_REF page, 6 for a kind above 2, 7 for an unsound PATCH payload, in 01's order." Nothing of the old block is
-- looked at. The rows of the lent map, or none, come with it.
abbrev pub carry_groups : ℕ → List Row → List ℕ → List ℕ → ℕ → Decision → List Grouped
carry_groups P buffers patch full b d =
    (group.pages ▸ wrong_page P d)
    ∷ (group.lengths ▸ length_rows P (length patch) (length full))
    ∷ (group.buffers ▸ buffers)
    ∷ (group.headers ▸ header_rows P patch full)
    ∷ (group.block ▸ block_rows patch b)
    ∷ (group.slot ▸ (6 ⇐ ltb full_kind d.kind) ∷ [])
    ∷ (group.full ▸ (8 ⇐ eqb d.kind full_kind && leb (pages_in P (length full)) b) ∷ [])
    ∷ (group.payload ▸ (7 ⇐ eqb d.kind patch_kind && not (sound P d.payload)) ∷ [])
    ∷ []

unfoldable pub carry_rows : ℕ → List Row → List ℕ → List ℕ → ℕ → Decision → List Row
carry_rows P buffers patch full b d = ordered (carry_groups P buffers patch full b d)

pub record CarryOutcome : Type 0 where
  pub number : ℕ
  pub kind : ℕ
  pub length : ℕ
  pub patch : List ℕ
  pub full : List ℕ

-- done: "the kind and the payload's length, 0 unless PATCH", whatever number of stores is told
abbrev pub carry_done : ℕ → List ℕ → List ℕ → ℕ → Decision → ℕ → CarryOutcome
carry_done P patch full b d stores =
    let s = carried P b d stores (record { patch = patch; full = full }) in
    record {
      number = 0;
      kind = d.kind;
      length = cond (eqb d.kind patch_kind) (length d.payload) 0;
      patch = s.patch;
      full = s.full;
    }

-- refused: both areas keep every byte, and the other numbers are 0
abbrev pub carry_refused : ℕ → List ℕ → List ℕ → CarryOutcome
carry_refused number patch full = record { number = number; kind = 0; length = 0; patch = patch; full = full }

-- "told how many of them to make ... with the same refusals and answer"
unfoldable pub carry_by : ℕ → List Row → List ℕ → List ℕ → ℕ → Decision → ℕ → CarryOutcome
carry_by P buffers patch full b d stores =
    decided (first_of (carry_rows P buffers patch full b d)) (carry_done P patch full b d stores) (λ n. carry_refused n patch full)

-- without a map
abbrev pub carry_told : ℕ → List ℕ → List ℕ → ℕ → Decision → ℕ → CarryOutcome
carry_told P patch full b d stores = carry_by P [] patch full b d stores

-- and told all: the whole write. "Demands 2 and 3 speak of writes told all"
abbrev pub carry_outcome : ℕ → List ℕ → List ℕ → ℕ → Decision → CarryOutcome
carry_outcome P patch full b d = carry_told P patch full b d all

-- the paper's numbers for each case of the answer
pub record CarryNumbers : Type 0 where
  pub number : ℕ
  pub kind : ℕ
  pub length : ℕ

abbrev pub written_numbers : Result Written Refusal → CarryNumbers
written_numbers (Ok w) = record { number = 0; kind = kind_number w.kind; length = w.length }
written_numbers (Err r) = record { number = refusal_number r; kind = 0; length = 0 }

abbrev pub carry_numbers : CarryOutcome → CarryNumbers
carry_numbers o = record { number = o.number; kind = o.kind; length = o.length }

pub record CarryOut (P : ℕ) (patch full : List ℕ) (b : ℕ) (d : Decision) (stores : ℕ) (answer : Result Written Refusal)
    (patch' full' : List ℕ) : Type 0 where
  pub numbers : written_numbers answer ≡ carry_numbers (carry_told P patch full b d stores)
  pub patch_bytes : patch' ≡ (carry_told P patch full b d stores).patch
  pub full_bytes : full' ≡ (carry_told P patch full b d stores).full
