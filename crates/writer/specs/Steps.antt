-- What the pieces of the writer owe their callers.
use Rattle.std.specs.Prelude.{ℕ, ◌+◌, ◌-◌, ◌*◌, ◌≤◌, ◌≡◌, List, ◌++◌, drop, take, min, length as length_of}
use Rattle.span.specs.Bytes.{part, splice}
use Rattle.writer.specs.Differences.{Change, diffs, spelled, coded, written, last_place}
use Rattle.payload.specs.Entries.{start, short_entry}
use Rattle.differ.specs.Differ.{chunk, next_diff, Same}
use Rattle.writer.specs.declared.Difference.{Difference}
use Rattle.writer.specs.declared.Spelled.{Spelled}
use Rattle.payload.specs.Steps.{farthest}
-- The writer

-- the position before a place: −1 before the first
pub use Rattle.payload.specs.Positions.{before}

-- the part of a page that the writer looks at
abbrev pub near : List ℕ → List ℕ
near page = part 0 farthest page

-- how many places both pages have, as far as an entry reaches
abbrev pub shared : List ℕ → List ℕ → ℕ
shared base page = min (min (length_of base) (length_of page)) farthest

-- how many bytes the entry of a jump takes
abbrev pub width_of : ℕ → ℕ
width_of jump = length_of (spelled jump 0)

-- the differences from a place on
abbrev pub rest : List ℕ → List ℕ → ℕ → List Change
rest base page from = diffs from (drop from base) (drop from page)

-- what is known of the stream's numbers after the differences before `next`
pub record Counted (base page : List ℕ) (next used count : ℕ) : Type 0 where
  pub on : next ≤ length_of page
  pub few : count ≤ next
  pub short : used ≤ 2 * next
  pub size : length_of (written base page) ≡ used + length_of (coded next (rest base page next))
  pub many : length_of (diffs 0 base page) ≡ count + length_of (rest base page next)
  pub final : last_place start (diffs 0 base page) ≡ last_place (before next) (rest base page next)

-- what the room has after the differences before `next`: their entries, `used` bytes of the stream, as far as there is room for them
pub record Stored (base page room₀ room : List ℕ) (next used : ℕ) : Type 0 where
  pub spelt : List ℕ
  pub size : used ≡ length_of spelt
  pub kept : length_of room ≡ length_of room₀
  pub stream : written base page ≡ spelt ++ coded next (rest base page next)
  pub bytes : room ≡ splice room₀ 0 (take (length_of room₀) spelt)

-- every difference before `at` is counted
pub record Reached (base page : List ℕ) (at : ℕ) (s : Spelled) : Type 0 where
  pub counted : Counted base page s.next s.used s.entries
  pub on : s.next ≤ at
  pub ahead : next_diff base page s.next ≡ next_diff base page at

-- and what was stored before the differences from s to r is stored after them, whatever the room was at first
abbrev pub Spells : List ℕ → List ℕ → List ℕ → Spelled → List ℕ → Spelled → Type 0
Spells base page room s after r =
    (length_of after ≡ length_of room)
    × ((room₀ : List ℕ) → Stored base page room₀ room s.next s.used → Stored base page room₀ after r.next r.used)

-- a and b have the chunk from `at` on whole, and it differs
pub record Unlike (base page : List ℕ) (at : ℕ) : Type 0 where
  pub in_base : at + chunk ≤ length_of base
  pub within_page : at + chunk ≤ length_of page
  pub differ : Same base page at (at + chunk) → ⊥

-- how many bytes more than a short one the entry of the next difference from `at` on takes
abbrev pub excess_of : List ℕ → List ℕ → ℕ → ℕ → ℕ
excess_of base page at next = width_of (next_diff base page at - next) - short_entry

-- the numbers of the writer's stream of two pages
pub record Numbers (base page : List ℕ) (d : Difference) : Type 0 where
  pub length : d.length ≡ length_of (written base page)
  pub entries : d.entries ≡ length_of (diffs 0 base page)
  pub last : d.last ≡ last_place start (diffs 0 base page)

-- the writer's stream of two pages: its numbers, and its bytes as far as there is room for them
pub record Differs (base page room : List ℕ) (d : Difference) (after : List ℕ) : Type 0 where
  pub numbers : Numbers base page d
  pub bytes : after ≡ splice room 0 (take (length_of room) (written base page))
