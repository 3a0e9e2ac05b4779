-- The laws of the opened frame: what each answer tells, and that the numbers determine it.
use Rattle.std.specs.Prelude.{ℕ, zero, suc, ◌≤◌, ◌≡◌, refl, Bool, true, not, List, [], ◌∷◌, length, Result, Ok, Err}
use Rattle.std.proofs.Common.{arith, sym, ap, ◌∙◌, subst}
use Rattle.span.specs.Laws.{and_left, and_right}
use Rattle.layout.specs.Sizes.{segment}
use Rattle.layout.specs.Numbers.{refusal_number}
use Rattle.layout.specs.NumberLaws.{refusal_one, refusal_some}
use Rattle.layout.specs.declared.Refusal.{Refusal}
use Rattle.layout.specs.Refusals.{Row, ◌⇐◌, first_of}
use Rattle.layout.specs.RefusalLaws.{decided_done, decided_refused}
use Rattle.layout.specs.Lengths.{blocks_in, pages_in, patch_fits, full_fits}
use Rattle.layout.specs.LengthLaws.{patch_fits_is, most_blocks}
use Rattle.store.specs.declared.frame.Frame.{Frame}
use Rattle.stream.specs.Calls.{pages_fit, page_rows}
use Rattle.stream.specs.Laws.{page_length, base_length}
use Rattle.store.specs.Frame.{frame_rows}
use Rattle.store.specs.Open.{open_rows, FrameNumbers, open_numbers, opened_numbers}
use Rattle.store.specs.FrameLaws.{frame_is, frame_sound, frame_pages, fewer_places}

-- what a frame that has nothing wrong gives: its rows, tests that hold, and lengths that fit
pub record Framed (P : ℕ) (pages buffers : Bool) (patch full : List ℕ) : Type 0 where
  pub none : first_of (open_rows P pages buffers patch full) ≡ 0
  pub pages_fit_is : pages ≡ true
  pub buffers_fit : buffers ≡ true
  pub patch_fit : patch_fits P (length patch) ≡ true
  pub full_fit : full_fits P (blocks_in (length patch)) (length full) ≡ true
  pub few_blocks : blocks_in (length patch) ≤ segment
  pub few_places : pages_in P (length full) ≤ segment

-- and an opened one, with its numbers
pub record Opening (P : ℕ) (pages buffers : Bool) (patch full : List ℕ) (size n m : ℕ) : Type 0 where
  pub framed : Framed P pages buffers patch full
  pub own : size ≡ P
  pub blocks : n ≡ blocks_in (length patch)
  pub places : m ≡ pages_in P (length full)

module _ (P : ℕ) (pages buffers : Bool) (patch full : List ℕ) where
  pub nothing_wrong : first_of (open_rows P pages buffers patch full) ≡ 0 → Framed P pages buffers patch full
  nothing_wrong e =
      let n : ℕ = blocks_in (length patch) in
      let f = frame_sound P patch full pages buffers (sym (frame_is P patch full pages buffers) ∙ e) in
      let p : patch_fits P (length patch) ≡ true = and_left (patch_fits P (length patch)) (full_fits P n (length full)) f.1 in
      let q : full_fits P n (length full) ≡ true = and_right (patch_fits P (length patch)) (full_fits P n (length full)) f.1 in
      let blocks : n ≤ segment = omega (arith, (patch_fits_is P (length patch) p).1, most_blocks P) in
      let places : pages_in P (length full) ≤ n = fewer_places P n (length full) q in
      record {
        none = e;
        pages_fit_is = f.0;
        buffers_fit = f.2;
        patch_fit = p;
        full_fit = q;
        few_blocks = blocks;
        few_places = omega arith;
      }

  -- the numbers, by what is wrong first
  pub open_refused : (k : ℕ) → first_of (open_rows P pages buffers patch full) ≡ k → (k ≡ 0 → ⊥)
      → open_numbers P pages buffers patch full ≡ record { number = k; size = 0; n = 0; m = 0 }
  unfolding open_numbers
  open_refused k e h = decided_refused _ _ (first_of (open_rows P pages buffers patch full)) k e h

  pub open_done : first_of (open_rows P pages buffers patch full) ≡ 0
      → open_numbers P pages buffers patch full ≡ record { number = 0; size = P; n = blocks_in (length patch); m = pages_in P (length full) }
  unfolding open_numbers
  open_done e = decided_done _ _ (first_of (open_rows P pages buffers patch full)) e

  open_number : (open_numbers P pages buffers patch full).number ≡ first_of (open_rows P pages buffers patch full)
  open_number = go (first_of (open_rows P pages buffers patch full)) refl
    where
      go : (k : ℕ) → first_of (open_rows P pages buffers patch full) ≡ k
          → (open_numbers P pages buffers patch full).number ≡ first_of (open_rows P pages buffers patch full)
      go zero e = ap (λ (x : FrameNumbers). x.number) (open_done e) ∙ sym e
      go (suc k) e = ap (λ (x : FrameNumbers). x.number) (open_refused (suc k) e (λ q. omega arith)) ∙ sym e

  -- what the answers tell
  pub opened_refused : (r : Refusal) → opened_numbers (Err r) ≡ open_numbers P pages buffers patch full
      → first_of (open_rows P pages buffers patch full) ≡ refusal_number r
  opened_refused r e = sym (ap (λ (x : FrameNumbers). x.number) e ∙ open_number)

  pub opened_frame : (f : Frame) → opened_numbers (Ok f) ≡ open_numbers P pages buffers patch full
      → Opening P pages buffers patch full f.size f.n f.m
  opened_frame f e =
      let z : first_of (open_rows P pages buffers patch full) ≡ 0 = sym (ap (λ (x : FrameNumbers). x.number) e ∙ open_number) in
      let d = e ∙ open_done z in
      record {
        framed = nothing_wrong z;
        own = ap (λ (x : FrameNumbers). x.size) d;
        blocks = ap (λ (x : FrameNumbers). x.n) d;
        places = ap (λ (x : FrameNumbers). x.m) d;
      }

-- what a call with pages and these rows of its buffer is told: no row holds, and what it works with, by the opened size
pub record Lent (P : ℕ) (buffers : List Row) (patch full base page : List ℕ) (size n m : ℕ) : Type 0 where
  pub none : first_of (frame_rows P (page_rows P base page) buffers patch full) ≡ 0
  pub own : size ≡ P
  pub blocks : n ≡ blocks_in (length patch)
  pub places : m ≡ pages_in size (length full)
  pub fits : pages_fit P base page ≡ true
  pub page_size_is : length page ≡ size
  pub base_size : (length base ≡ 0 → ⊥) → length base ≡ size
  pub patch_fit : patch_fits size (length patch) ≡ true
  pub full_fit : full_fits size (blocks_in (length patch)) (length full) ≡ true

-- where the frame's rows with another buffer give the same number
lent_as : (P : ℕ) (rows rows' : List Row) (patch full base page : List ℕ) (size n m : ℕ)
    → first_of (frame_rows P (page_rows P base page) rows' patch full) ≡ first_of (frame_rows P (page_rows P base page) rows patch full)
    → Lent P rows patch full base page size n m → Lent P rows' patch full base page size n m
lent_as P rows rows' patch full base page size n m e l =
    record {
      none = e ∙ l.none;
      own = l.own;
      blocks = l.blocks;
      places = l.places;
      fits = l.fits;
      page_size_is = l.page_size_is;
      base_size = l.base_size;
      patch_fit = l.patch_fit;
      full_fit = l.full_fit;
    }

-- a call with a buffer, told whether it is long enough
module _ (P : ℕ) (patch full base page : List ℕ) (fit long : Bool) (e : fit ≡ pages_fit P base page) where
  own_pages : first_of (frame_rows P (page_rows P base page) ((9 ⇐ not long) ∷ []) patch full) ≡ first_of (open_rows P fit long patch full)
  own_pages = ap (λ (t : Bool). first_of (open_rows P t long patch full)) (sym e)

  pub buffered_refused : (r : Refusal) → opened_numbers (Err r) ≡ open_numbers P fit long patch full
      → first_of (frame_rows P (page_rows P base page) ((9 ⇐ not long) ∷ []) patch full) ≡ refusal_number r
  buffered_refused r told = own_pages ∙ opened_refused P fit long patch full r told

  pub buffered_frame : (f : Frame) → opened_numbers (Ok f) ≡ open_numbers P fit long patch full
      → (long ≡ true) × Lent P ((9 ⇐ not long) ∷ []) patch full base page f.size f.n f.m
  buffered_frame f told =
      let o = opened_frame P fit long patch full f told in
      let pages : pages_fit P base page ≡ true = sym e ∙ o.framed.pages_fit_is in (
        o.framed.buffers_fit,
        subst (λ (s : ℕ). Lent P ((9 ⇐ not long) ∷ []) patch full base page s f.n f.m) (sym o.own) (record {
          none = own_pages ∙ o.framed.none;
          own = refl;
          blocks = o.blocks;
          places = o.places;
          fits = pages;
          page_size_is = page_length P base page pages;
          base_size = base_length P base page pages;
          patch_fit = o.framed.patch_fit;
          full_fit = o.framed.full_fit;
        }),
      )

-- and one without
module _ (P : ℕ) (patch full base page : List ℕ) (fit : Bool) (e : fit ≡ pages_fit P base page) where
  pub lent_refused : (r : Refusal) → opened_numbers (Err r) ≡ open_numbers P fit true patch full
      → first_of (frame_rows P (page_rows P base page) [] patch full) ≡ refusal_number r
  lent_refused r told = frame_pages P patch full (pages_fit P base page) ∙ buffered_refused P patch full base page fit true e r told

  pub lent_frame : (f : Frame) → opened_numbers (Ok f) ≡ open_numbers P fit true patch full
      → Lent P [] patch full base page f.size f.n f.m
  lent_frame f told =
      lent_as P ((9 ⇐ not true) ∷ []) [] patch full base page f.size f.n f.m (frame_pages P patch full (pages_fit P base page))
      (buffered_frame P patch full base page fit true e f told).1

-- one answer
pub opened_one : (a b : Result Frame Refusal) → opened_numbers a ≡ opened_numbers b → a ≡ b
opened_one (Err q) (Err r) e = ap Err (refusal_one q r (ap (λ (x : FrameNumbers). x.number) e))
opened_one (Err q) (Ok f) e = absurd (refusal_some q (ap (λ (x : FrameNumbers). x.number) e))
opened_one (Ok f) (Err r) e = absurd (refusal_some r (sym (ap (λ (x : FrameNumbers). x.number) e)))
opened_one (Ok f) (Ok g) e = λ i. Ok (record { size = (e i).size; n = (e i).n; m = (e i).m })
