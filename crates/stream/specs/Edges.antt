-- "Both sides of each edge": P1 to P12 of the paper, about the definitions that the contracts of Compare and Apply cite, at 8,192 bytes,
-- over a base of zeros: 0 bytes, or 8,192 zeros. The lent buffer and the lent page are any that the calls take.
use Rattle.std.specs.Prelude.{ℕ, ◌≤◌, ◌≡◌, refl, true, false, List, [], ◌∷◌, length, set, ℤ, pos, negsuc}
use Rattle.std.proofs.Common.{arith, ap, ◌∙◌, inl, inr, le-ltb}
use Rattle.span.specs.Bytes.{zeros, splice}
use Rattle.span.specs.Laws.{zeros_length}
use Rattle.layout.specs.Sizes.{page_size, room}
use Rattle.layout.specs.Numbers.{le}
use Rattle.layout.specs.Refusals.{first_of}
use Rattle.payload.specs.Entries.{stream, in_page, whole, sound, used, breaks_at, entries, last, put, applied, payload_stream, start}
use Rattle.writer.specs.Differences.{Change, diffs, spelled, coded, last_place}
use Rattle.stream.specs.Calls.{page_of, pages_fit, kind_for, comparison, compare_numbers, compare_buffer, ComparedNumbers, apply_rows}
use Rattle.stream.specs.Calls.{apply_done, apply_refused}
use Rattle.stream.specs.Calls.{apply_numbers, apply_page}
use Rattle.stream.specs.Laws.{pages_fit_is, zeros_base, compare_number, compare_done, compare_written, compare_kept}
use Rattle.stream.specs.Kinds.{diffs_none}
use Rattle.stream.specs.Laws.{apply_number, apply_done_is, apply_not}

-- "a base of zeros", in both its forms
pub data ZeroBase : List ℕ → Type 0 where
  absent : ZeroBase []
  present : ZeroBase (zeros page_size)

-- Compare finds this answer, and leaves these bytes at the start of any buffer that is long enough
pub record Finds (page : List ℕ) (payload : List ℕ) (count : ℕ) (at : ℤ) : Type 0 where
  pub answer : (base : List ℕ) → ZeroBase base → (buffer : List ℕ) → room ≤ length buffer
      → compare_numbers page_size base page buffer ≡ record { number = 0; kind = 1; length = length payload; entries = count; last = at }
  pub bytes : (base : List ℕ) → ZeroBase base → (buffer : List ℕ) → room ≤ length buffer
      → compare_buffer page_size base page buffer ≡ splice buffer 0 payload

-- Compare finds the pages the same, and leaves the buffer alone
pub record FindsNone (base page : List ℕ) : Type 0 where
  pub answer : (buffer : List ℕ) → room ≤ length buffer
      → compare_numbers page_size base page buffer ≡ record { number = 0; kind = 0; length = 0; entries = 0; last = negsuc 0 }
  pub bytes : (buffer : List ℕ) → room ≤ length buffer → compare_buffer page_size base page buffer ≡ buffer

-- Apply answers this, and leaves this page
pub record Gives (payload : List ℕ) (count : ℕ) (at : ℤ) (page : List ℕ) : Type 0 where
  pub answer : (base : List ℕ) → ZeroBase base → (lent : List ℕ) → length lent ≡ page_size
      → apply_numbers page_size base payload lent ≡ apply_done count at
  pub bytes : (base : List ℕ) → ZeroBase base → (lent : List ℕ) → length lent ≡ page_size
      → apply_page page_size base payload lent ≡ page

-- Apply refuses with 7 and this offset, and leaves the page alone
pub record Refuses (payload : List ℕ) (offset : ℕ) : Type 0 where
  pub answer : (base : List ℕ) → ZeroBase base → (lent : List ℕ) → length lent ≡ page_size
      → apply_numbers page_size base payload lent ≡ apply_refused 7 offset
  pub bytes : (base : List ℕ) → ZeroBase base → (lent : List ℕ) → length lent ≡ page_size → apply_page page_size base payload lent ≡ lent

-- a page of zeros with one byte, or two, changed
unfoldable pub one : ℕ → ℕ → List ℕ
one at v = set (zeros page_size) at v

unfoldable pub two : ℕ → ℕ → ℕ → ℕ → List ℕ
two at v at' v' = set (set (zeros page_size) at v) at' v'

-- the twelve rows
pub record Edges : Type 0 where
  -- byte 0 becomes 07: `00 07`
  pub P1 : Finds (one 0 7) (0 ∷ 7 ∷ []) 1 (pos 0) × Gives (0 ∷ 7 ∷ []) 1 (pos 0) (one 0 7)
  -- byte 254 becomes 01: `FE 01`
  pub P2 : Finds (one 254 1) (254 ∷ 1 ∷ []) 1 (pos 254) × Gives (254 ∷ 1 ∷ []) 1 (pos 254) (one 254 1)
  -- byte 255 becomes 01: `FF FF 00 01`
  pub P3 : Finds (one 255 1) (255 ∷ 255 ∷ 0 ∷ 1 ∷ []) 1 (pos 255) × Gives (255 ∷ 255 ∷ 0 ∷ 1 ∷ []) 1 (pos 255) (one 255 1)
  -- byte 8191 becomes 01: `FF FF 1F 01`
  pub P4 : Finds (one 8191 1) (255 ∷ 255 ∷ 31 ∷ 1 ∷ []) 1 (pos 8191) × Gives (255 ∷ 255 ∷ 31 ∷ 1 ∷ []) 1 (pos 8191) (one 8191 1)
  -- bytes 0 and 255 become 01: `00 01 FE 01`
  pub P5 : Finds (two 0 1 255 1) (0 ∷ 1 ∷ 254 ∷ 1 ∷ []) 2 (pos 255) × Gives (0 ∷ 1 ∷ 254 ∷ 1 ∷ []) 2 (pos 255) (two 0 1 255 1)
  -- bytes 0 and 256 become 01: `00 01 FF FF 00 01`
  pub P6 : Finds (two 0 1 256 1) (0 ∷ 1 ∷ 255 ∷ 255 ∷ 0 ∷ 1 ∷ []) 2 (pos 256) × Gives (0 ∷ 1 ∷ 255 ∷ 255 ∷ 0 ∷ 1 ∷ []) 2 (pos 256)
      (two 0 1 256 1)
  -- applying `FF 00 20 01`, a jump of 8,192: 7, at offset 0
  pub P7 : Refuses (255 ∷ 0 ∷ 32 ∷ 1 ∷ []) 0
  -- applying `FF FF 1F 01 00 02`: 7, at offset 4
  pub P8 : Refuses (255 ∷ 255 ∷ 31 ∷ 1 ∷ 0 ∷ 2 ∷ []) 4
  -- applying `00`: 7, at offset 0
  pub P9 : Refuses (0 ∷ []) 0
  -- applying the empty payload: 7, offset 0
  pub P10 : Refuses [] 0
  -- equal pages: same, length 0, last −1, whatever they hold
  pub P11 : (base page : List ℕ) → pages_fit page_size base page ≡ true → page ≡ page_of page_size base → FindsNone base page
  -- applying `FF 00 00 05`, a 16-bit jump below 255: 7, at offset 0
  pub P12 : Refuses (255 ∷ 0 ∷ 0 ∷ 5 ∷ []) 0

-- Each row computes, but for the base's form and the buffer or the page that is lent.

zero_page : (base : List ℕ) → ZeroBase base → page_of page_size base ≡ zeros page_size
unfolding page_of
zero_page [] absent = refl
zero_page _ present = zeros_base page_size

zero_fits : (base page : List ℕ) → ZeroBase base → length page ≡ page_size → pages_fit page_size base page ≡ true
zero_fits [] page absent l = pages_fit_is page_size [] page (inl refl) l
zero_fits _ page present l = pages_fit_is page_size (zeros page_size) page (inr (zeros_length page_size)) l

-- the answer of a Compare that is not refused
answered : (base page buffer : List ℕ) → pages_fit page_size base page ≡ true → room ≤ length buffer
    → compare_numbers page_size base page buffer ≡ comparison (diffs 0 (page_of page_size base) page)
answered base page buffer f h =
    compare_done page_size base page buffer (compare_number page_size base page buffer ∙ rw (f, le-ltb (length buffer) room h))

finds : (page payload : List ℕ) (count : ℕ) (at : ℤ) → length page ≡ page_size
    → comparison (diffs 0 (zeros page_size) page) ≡ record { number = 0; kind = 1; length = length payload; entries = count; last = at }
    → coded 0 (diffs 0 (zeros page_size) page) ≡ payload → Finds page payload count at
finds page payload count at l e f = record {
  answer = numbers;
  bytes = λ base z buffer h. compare_written page_size base page buffer (ap (λ (x : ComparedNumbers). x.kind) (numbers base z buffer h))
      ∙ ap (λ (b : List ℕ). splice buffer 0 (coded 0 (diffs 0 b page))) (zero_page base z) ∙ ap (λ (w : List ℕ). splice buffer 0 w) f;
}
  where
    numbers : (base : List ℕ) → ZeroBase base → (buffer : List ℕ) → room ≤ length buffer
        → compare_numbers page_size base page buffer ≡ record { number = 0; kind = 1; length = length payload; entries = count; last = at }
    numbers base z buffer h =
        answered base page buffer (zero_fits base page z l) h
        ∙ ap (λ (b : List ℕ). comparison (diffs 0 b page)) (zero_page base z) ∙ e

finds_none : (base page : List ℕ) → pages_fit page_size base page ≡ true → page ≡ page_of page_size base → FindsNone base page
unfolding comparison kind_for coded last_place
finds_none base page f e = record {
  answer = numbers;
  bytes = λ buffer h. compare_kept page_size base page buffer 0 (ap (λ (x : ComparedNumbers). x.kind) (numbers buffer h))
      (λ q. omega arith);
}
  where
    none : diffs 0 (page_of page_size base) page ≡ []
    none = ap (λ (p : List ℕ). diffs 0 (page_of page_size base) p) e ∙ diffs_none 0 (page_of page_size base)

    numbers : (buffer : List ℕ) → room ≤ length buffer
        → compare_numbers page_size base page buffer ≡ record { number = 0; kind = 0; length = 0; entries = 0; last = negsuc 0 }
    numbers buffer h = answered base page buffer f h ∙ ap (λ (ds : List Change). comparison ds) none

gives : (payload page : List ℕ) (count : ℕ) (at : ℤ) → sound page_size payload ≡ true → entries (payload_stream page_size payload) ≡ count
    → last start (payload_stream page_size payload) ≡ at
    → applied (zeros page_size) (payload_stream page_size payload) ≡ page → Gives payload count at page
gives payload page count at s e f g = record {
  answer = λ base z lent h. (apply_done_is page_size base payload lent (number base z lent h)).0
      ∙ (λ i. apply_done (e i) (f i));
  bytes = λ base z lent h. (apply_done_is page_size base payload lent (number base z lent h)).1
      ∙ ap (λ (b : List ℕ). applied b (payload_stream page_size payload)) (zero_page base z) ∙ g;
}
  where
    number : (base : List ℕ) → ZeroBase base → (lent : List ℕ) → length lent ≡ page_size
        → first_of (apply_rows page_size base payload lent) ≡ 0
    number base z lent h = apply_number page_size base payload lent ∙ rw (zero_fits base lent z h, s)

refuses : (payload : List ℕ) (offset : ℕ) → sound page_size payload ≡ false → breaks_at page_size payload ≡ offset → Refuses payload offset
refuses payload offset s e = record {
  answer = λ base z lent h. (apply_not page_size base payload lent 6 (number base z lent h)).0 ∙ ap (λ (o : ℕ). apply_refused 7 o) e;
  bytes = λ base z lent h. (apply_not page_size base payload lent 6 (number base z lent h)).1;
}
  where
    number : (base : List ℕ) → ZeroBase base → (lent : List ℕ) → length lent ≡ page_size
        → first_of (apply_rows page_size base payload lent) ≡ 7
    number base z lent h = apply_number page_size base payload lent ∙ rw (zero_fits base lent z h, s)

pub edges : Edges
unfolding one two zeros diffs coded spelled le last_place comparison kind_for stream in_page whole sound used breaks_at entries last put applied
edges = record {
  P1 = (finds (one 0 7) (0 ∷ 7 ∷ []) 1 (pos 0) refl refl refl, gives (0 ∷ 7 ∷ []) (one 0 7) 1 (pos 0) refl refl refl refl);
  P2 = (finds (one 254 1) (254 ∷ 1 ∷ []) 1 (pos 254) refl refl refl, gives (254 ∷ 1 ∷ []) (one 254 1) 1 (pos 254) refl refl refl refl);
  P3 = (
    finds (one 255 1) (255 ∷ 255 ∷ 0 ∷ 1 ∷ []) 1 (pos 255) refl refl refl,
    gives (255 ∷ 255 ∷ 0 ∷ 1 ∷ []) (one 255 1) 1 (pos 255) refl
        refl refl refl,
  );
  P4 = (
    finds (one 8191 1) (255 ∷ 255 ∷ 31 ∷ 1 ∷ []) 1 (pos 8191) refl refl refl,
    gives (255 ∷ 255 ∷ 31 ∷ 1 ∷ []) (one 8191 1) 1
        (pos 8191) refl refl refl refl,
  );
  P5 = (
    finds (two 0 1 255 1) (0 ∷ 1 ∷ 254 ∷ 1 ∷ []) 2 (pos 255) refl refl refl,
    gives (0 ∷ 1 ∷ 254 ∷ 1 ∷ []) (two 0 1 255 1) 2 (pos 255)
        refl refl refl refl,
  );
  P6 = (
    finds (two 0 1 256 1) (0 ∷ 1 ∷ 255 ∷ 255 ∷ 0 ∷ 1 ∷ []) 2 (pos 256) refl refl refl,
    gives (0 ∷ 1 ∷ 255 ∷ 255 ∷ 0 ∷ 1 ∷ [])
        (two 0 1 256 1) 2 (pos 256) refl refl refl refl,
  );
  P7 = refuses (255 ∷ 0 ∷ 32 ∷ 1 ∷ []) 0 refl refl;
  P8 = refuses (255 ∷ 255 ∷ 31 ∷ 1 ∷ 0 ∷ 2 ∷ []) 4 refl refl;
  P9 = refuses (0 ∷ []) 0 refl refl;
  P10 = refuses [] 0 refl refl;
  P11 = finds_none;
  P12 = refuses (255 ∷ 0 ∷ 0 ∷ 5 ∷ []) 0 refl refl;
}

-- a payload cut short after a whole entry: 7, at the offset of the entry that is cut
pub refuses_cut : Refuses (0 ∷ 7 ∷ 0 ∷ []) 2
unfolding stream in_page whole sound used breaks_at
refuses_cut = refuses (0 ∷ 7 ∷ 0 ∷ []) 2 refl refl
