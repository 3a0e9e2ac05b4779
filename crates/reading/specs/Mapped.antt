-- Read a block by a lent map: the block's own pair says what it holds, and no other pair is looked at.
use Rattle.std.specs.Prelude.{ℕ, ◌≡◌, not, ◌&&◌, List, [], ◌∷◌, eqb, leb, length, Result}
use Rattle.layout.specs.Sizes.{patch_kind, full_kind}
use Rattle.layout.specs.Refusals.{Row, ◌⇐◌, first_of, decided}
use Rattle.layout.specs.Groups.{Grouped, ordered, ◌▸◌}
use Rattle.layout.specs.Groups as group
use Rattle.layout.specs.Lengths.{blocks_in, pages_in, length_rows}
use Rattle.headers.specs.Headers.{header_rows}
use Rattle.slots.specs.Slots.{is_patch, payload_of}
use Rattle.payload.specs.Entries.{sound, offset_with}
use Rattle.blockmap.specs.Pairs.{pair_at, reserved_pair}
use Rattle.blockmap.specs.Pack.{kind_of}
use Rattle.blockmap.specs.Calls.{short_map}
use Rattle.stream.specs.Calls.{page_rows}
use Rattle.store.specs.Block.{slot_of, block_rows}
use Rattle.layout.specs.declared.Kind.{Kind}
use Rattle.layout.specs.declared.RefusedAt.{RefusedAt}
use Rattle.reading.specs.Read.{contents_as, ReadOutcome, read_done, read_refused, reading_numbers, read_numbers}

-- "11 for pair 3, after 5"
abbrev pub own_rows : ℕ → List Row
own_rows v = (11 ⇐ eqb v reserved_pair) ∷ []

-- "pair 2 needs a sound PATCH (any other slot is 6)"
abbrev pub patch_rows : ℕ → List ℕ → List Row
patch_rows kind s = (6 ⇐ eqb kind patch_kind && not (is_patch s)) ∷ []

-- "pair 1 takes the full page", whatever the slot is
abbrev pub page_row : ℕ → ℕ → List ℕ → ℕ → List Row
page_row kind P full b = (8 ⇐ eqb kind full_kind && leb (pages_in P (length full)) b) ∷ []

abbrev pub sound_rows : ℕ → ℕ → List ℕ → List Row
sound_rows kind P s = (7 ⇐ eqb kind patch_kind && not (sound P (payload_of s))) ∷ []

-- "pair 0 gives the base without touching the slot": no row below 11 holds of it
abbrev pub read_mapped_groups : ℕ → List ℕ → List ℕ → List ℕ → ℕ → List ℕ → List ℕ → List Grouped
read_mapped_groups P patch full map b base page =
    let s = slot_of patch b in
    let kind = kind_of (pair_at map b) in
    (group.pages ▸ page_rows P base page)
    ∷ (group.lengths ▸ length_rows P (length patch) (length full))
    ∷ (group.buffers ▸ short_map map (blocks_in (length patch)))
    ∷ (group.headers ▸ header_rows P patch full)
    ∷ (group.block ▸ block_rows patch b)
    ∷ (group.own ▸ own_rows (pair_at map b))
    ∷ (group.slot ▸ patch_rows kind s)
    ∷ (group.full ▸ page_row kind P full b)
    ∷ (group.payload ▸ sound_rows kind P s)
    ∷ []

unfoldable pub read_mapped_rows : ℕ → List ℕ → List ℕ → List ℕ → ℕ → List ℕ → List ℕ → List Row
read_mapped_rows P patch full map b base page = ordered (read_mapped_groups P patch full map b base page)

unfoldable pub read_mapped_outcome : ℕ → List ℕ → List ℕ → List ℕ → ℕ → List ℕ → List ℕ → ReadOutcome
read_mapped_outcome P patch full map b base page =
    let kind = kind_of (pair_at map b) in
    decided (first_of (read_mapped_rows P patch full map b base page))
    (read_done kind (contents_as P kind patch full b base))
    (λ k. read_refused k (offset_with k P (payload_of (slot_of patch b))) page)

pub record ReadMapped (P : ℕ) (patch full map : List ℕ) (b : ℕ) (base page : List ℕ) (answer : Result Kind RefusedAt) (page' : List ℕ) : Type 0 where
  pub numbers : reading_numbers answer ≡ read_numbers (read_mapped_outcome P patch full map b base page)
  pub bytes : page' ≡ (read_mapped_outcome P patch full map b base page).page
