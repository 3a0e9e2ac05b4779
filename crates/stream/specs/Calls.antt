-- Compare and Apply: one total function a call, from what is lent to the answer's numbers and every lent byte afterwards; and one
-- predicate a call, which its contract cites whole.
use Rattle.std.specs.Prelude.{ℕ, ◌≡◌, Bool, not, ◌&&◌, ◌||◌, cond, List, [], ◌∷◌, eqb, leb, ltb, length, ℤ, pos, Result, Ok, Err}
use Rattle.span.specs.Bytes.{zeros, splice}
use Rattle.layout.specs.Sizes.{room, empty_kind, patch_kind, full_kind}
use Rattle.layout.specs.Numbers.{kind_number, refusal_number}
use Rattle.layout.specs.Refusals.{Row, ◌⇐◌, first_of, decided}
use Rattle.layout.specs.Groups.{Grouped, ordered, ◌▸◌}
use Rattle.layout.specs.Groups as group
use Rattle.layout.specs.declared.Refusal.{Refusal}
use Rattle.layout.specs.declared.RefusedAt.{RefusedAt}
use Rattle.payload.specs.declared.Sound.{Sound}
use Rattle.payload.specs.Entries.{start, payload_stream, sound, offset_with, entries, last, applied}
use Rattle.writer.specs.Differences.{Change, diffs, coded, last_place}
use Rattle.stream.specs.declared.Compared.{Compared}

-- "a base of length 0 stands for a page of 8,192 zeros"
unfoldable pub page_of : ℕ → List ℕ → List ℕ
page_of P base = cond (eqb (length base) 0) (zeros P) base

-- "base not 0 or 8,192 bytes, or another page not 8,192"
unfoldable pub pages_fit : ℕ → List ℕ → List ℕ → Bool
pages_fit P base page = (eqb (length base) 0 || eqb (length base) P) && eqb (length page) P

abbrev pub page_rows : ℕ → List ℕ → List ℕ → List Row
page_rows P base page = (1 ⇐ not (pages_fit P base page)) ∷ []

-- Compare

pub record ComparedNumbers : Type 0 where
  pub number : ℕ
  pub kind : ℕ
  pub length : ℕ
  pub entries : ℕ
  pub last : ℤ

-- same, patch or large, by the stream's length
unfoldable pub kind_for : ℕ → ℕ
kind_for n = cond (eqb n 0) empty_kind (cond (leb n room) patch_kind full_kind)

abbrev pub compare_groups : ℕ → List ℕ → List ℕ → List ℕ → List Grouped
compare_groups P base page buffer =
    (group.pages ▸ page_rows P base page)
    ∷ (group.buffers ▸ (9 ⇐ ltb (length buffer) room) ∷ [])
    ∷ []

unfoldable pub compare_rows : ℕ → List ℕ → List ℕ → List ℕ → List Row
compare_rows P base page buffer = ordered (compare_groups P base page buffer)

-- the answer where nothing is refused
unfoldable pub comparison : List Change → ComparedNumbers
comparison ds =
    let w = coded 0 ds in
    record { number = 0; kind = kind_for (length w); length = length w; entries = length ds; last = last_place start ds }

abbrev refused_comparison : ℕ → ComparedNumbers
refused_comparison n = record { number = n; kind = 0; length = 0; entries = 0; last = pos 0 }

unfoldable pub compare_numbers : ℕ → List ℕ → List ℕ → List ℕ → ComparedNumbers
compare_numbers P base page buffer = decided (first_of (compare_rows P base page buffer)) (comparison (diffs 0 (page_of P base) page))
    refused_comparison

-- "Only for patch is the payload written; later bytes of the buffer stay."
unfoldable pub compare_buffer : ℕ → List ℕ → List ℕ → List ℕ → List ℕ
compare_buffer P base page buffer =
    cond (eqb (compare_numbers P base page buffer).kind patch_kind) (splice buffer 0 (coded 0 (diffs 0 (page_of P base) page))) buffer

-- the paper's numbers for each case of the answer
abbrev pub compared_numbers : Result Compared Refusal → ComparedNumbers
compared_numbers (Ok c) = record { number = 0; kind = kind_number c.kind; length = c.length; entries = c.entries; last = c.last }
compared_numbers (Err r) = refused_comparison (refusal_number r)

pub record Compare (P : ℕ) (base page buffer : List ℕ) (answer : Result Compared Refusal) (after : List ℕ) : Type 0 where
  pub numbers : compared_numbers answer ≡ compare_numbers P base page buffer
  pub bytes : after ≡ compare_buffer P base page buffer

-- Apply

pub record AppliedNumbers : Type 0 where
  pub number : ℕ
  pub entries : ℕ
  pub last : ℤ
  pub offset : ℕ

abbrev pub apply_groups : ℕ → List ℕ → List ℕ → List ℕ → List Grouped
apply_groups P base payload page =
    (group.pages ▸ page_rows P base page)
    ∷ (group.payload ▸ (7 ⇐ not (sound P payload)) ∷ [])
    ∷ []

unfoldable pub apply_rows : ℕ → List ℕ → List ℕ → List ℕ → List Row
apply_rows P base payload page = ordered (apply_groups P base payload page)

-- done, and refused: every other number is 0, but for the offset with 7
abbrev pub apply_done : ℕ → ℤ → AppliedNumbers
apply_done entries last = record { number = 0; entries = entries; last = last; offset = 0 }

abbrev pub apply_refused : ℕ → ℕ → AppliedNumbers
apply_refused number offset = record { number = number; entries = 0; last = pos 0; offset = offset }

unfoldable pub apply_numbers : ℕ → List ℕ → List ℕ → List ℕ → AppliedNumbers
apply_numbers P base payload page =
    decided (first_of (apply_rows P base payload page))
    (apply_done (entries (payload_stream P payload)) (last start (payload_stream P payload)))
    (λ k. apply_refused k (offset_with k P payload))

unfoldable pub apply_page : ℕ → List ℕ → List ℕ → List ℕ → List ℕ
apply_page P base payload page = decided (first_of (apply_rows P base payload page)) (applied (page_of P base) (payload_stream P payload))
    (λ _. page)

abbrev pub applied_numbers : Result Sound RefusedAt → AppliedNumbers
applied_numbers (Ok s) = apply_done s.entries s.last
applied_numbers (Err r) = apply_refused (refusal_number r.refusal) r.offset

pub record Apply (P : ℕ) (base payload page : List ℕ) (answer : Result Sound RefusedAt) (after : List ℕ) : Type 0 where
  pub numbers : applied_numbers answer ≡ apply_numbers P base payload page
  pub bytes : after ≡ apply_page P base payload page
