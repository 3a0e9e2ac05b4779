-- What `Wrong`, `RunsWrong`, `CutsWrong` and `RunsTried` are tried on: fresh areas of two blocks and two places, and pages of 8,192 bytes.
use Rattle.std.specs.Prelude.{ℕ, ◌-◌, ◌≤◌, ◌<◌, ◌≡◌, refl, true, List, [], ◌∷◌, ◌++◌, length, get_or, replicate}
use Rattle.std.proofs.Common.{arith, sym, ap, ◌∙◌, inl, inr, lit≤, lit<, length-append, eq-eqb}
use Rattle.std.proofs.Math.Option.{none-ne-some}
use Rattle.span.specs.Bytes.{zeros}
use Rattle.span.specs.Laws.{zeros_length, zeros_after}
use Rattle.layout.specs.Sizes.{page_size, slot_at, page_at}
use Rattle.layout.specs.Numbers.{le}
use Rattle.slots.specs.Slots.{slot_image}
use Rattle.headers.specs.Fresh.{fresh_patch, fresh_full}
use Rattle.layout.specs.LengthLaws.{patch_fits_at, full_fits_at, blocks_of, pages_of}
use Rattle.headers.specs.FreshLaws.{fresh_patch_length, fresh_full_length}
use Rattle.writer.specs.Differences.{diffs, spelled, coded, written}
use Rattle.stream.specs.Calls.{page_of, kind_for}
use Rattle.store.specs.Block.{slot_of}
use Rattle.store.specs.FrameLaws.{lengths_fit}
use Rattle.store.specs.Format.{FormatOutcome, format_outcome}
use Rattle.store.specs.FormatLaws.{format_done}
use Rattle.reading.specs.Read.{ReadOutcome, read_done}
use Rattle.carrying.specs.Puts.{Decision}
use Rattle.promises.specs.Words.{blocks, places, PagesFit, AreasFit, stream_of}
use Rattle.promises.specs.StoreLaws.{base_page_length}
use Rattle.promises.specs.Decisions.{Cell, cell_for, Fit, ComparedBy, Compared}
use Rattle.promises.specs.DecisionLaws.{by_compare, compared_fit}
use Rattle.promises.specs.CarryWords.{PageFits, CarryGives}
use Rattle.promises.specs.CarryTables.{carry_table}
use Rattle.promises.specs.PairLaws.{reads_back}
use Rattle.promises.specs.Runs.{run, taking, last_such, write}
use Rattle.promises.specs.CutWords.{CutGives}
use Rattle.promises.specs.CutTables.{cut_table}
use Rattle.promises.specs.RunWords.{Areas, read_at, Lent, Operation, outcome, cutting, after, accepted, next, last_to, FreshAreas}
use Rattle.promises.specs.RunStore.{cell_at}
use Rattle.promises.specs.RunStoreLaws.{cell_here}
use Rattle.promises.specs.RunLaws.{kept, run_fits, reads_base}

-- The areas

unfoldable pub sample : Areas
sample = record { patch = fresh_patch page_size (slot_at 2); full = fresh_full page_size (page_at page_size 2) }

pub sample_fresh : FreshAreas page_size sample
unfolding sample
sample_fresh =
    record {
      old = record { patch = zeros (slot_at 2); full = zeros (page_at page_size 2) };
      formatted = ap (λ (o : FormatOutcome). o.number) made;
      patch_is = ap (fresh_patch page_size) (sym (zeros_length (slot_at 2))) ∙ sym (ap (λ (o : FormatOutcome). o.patch) made);
      full_is = ap (fresh_full page_size) (sym (zeros_length (page_at page_size 2))) ∙ sym (ap (λ (o : FormatOutcome). o.full) made);
    }
  where
    fits : lengths_fit page_size (zeros (slot_at 2)) (zeros (page_at page_size 2)) ≡ true
    fits = rw (zeros_length (slot_at 2), zeros_length (page_at page_size 2), patch_fits_at page_size 2 (lit≤ tt), blocks_of 2)
        (full_fits_at page_size 2 2 (lit< tt) (lit≤ tt))

    made : format_outcome page_size (zeros (slot_at 2)) (zeros (page_at page_size 2))
        ≡ record {
          number = 0;
          patch = fresh_patch page_size (length (zeros (slot_at 2)));
          full = fresh_full page_size
              (length (zeros (page_at page_size 2)));
        }
    made = format_done page_size (zeros (slot_at 2)) (zeros (page_at page_size 2)) fits

module _ (os : List Operation) where
  pub two_blocks : blocks (after page_size sample os).patch ≡ 2
  unfolding sample
  two_blocks = rw ((kept page_size sample sample_fresh os).patch_length, fresh_patch_length page_size (slot_at 2) (lit≤ tt)) (blocks_of 2)

  pub two_places : places page_size (after page_size sample os).full ≡ 2
  unfolding sample
  two_places = rw ((kept page_size sample sample_fresh os).full_length, fresh_full_length page_size (page_at page_size 2) (inr (lit≤ tt)))
      (pages_of page_size 2 (lit< tt))

  pub areas_fit : AreasFit page_size (after page_size sample os).patch (after page_size sample os).full
  areas_fit =
      let f = run_fits page_size sample sample_fresh os [] (zeros page_size) (record { base_length = inl refl; page_length = zeros_length page_size }) in
      record { lengths = f.lengths; headers = f.headers }

  -- a decision that can be carried out is accepted at either of them
  pub takes : (w : Lent) → w.block < 2 → Fit page_size w.decision → (outcome page_size (after page_size sample os) w).number ≡ 0
  takes w h f =
      (carry_table page_size (after page_size sample os).patch (after page_size sample os).full w.block w.decision 0).1
      (CarryGives.done areas_fit (rw two_blocks h) f (λ k. rw two_places h))

  -- and at any other block refused with 5
  pub refuses : (w : Lent) → 2 ≤ w.block → PageFits page_size w.decision → (outcome page_size (after page_size sample os) w).number ≡ 5
  refuses w h f =
      (carry_table page_size (after page_size sample os).patch (after page_size sample os).full w.block w.decision 5).1
      (CarryGives.block f areas_fit (rw two_blocks h))

  -- a cut at 0, 1 or 2 is accepted, and one above is refused with 5
  pub cut_takes : (K : ℕ) → K ≤ 2 → (cutting page_size (after page_size sample os) K).number ≡ 0
  cut_takes K h =
      (cut_table page_size (after page_size sample os).patch (after page_size sample os).full K 0).1
      (CutGives.done areas_fit (rw two_blocks h))

  pub cut_refuses : (K : ℕ) → 2 < K → (cutting page_size (after page_size sample os) K).number ≡ 5
  cut_refuses K h =
      (cut_table page_size (after page_size sample os).patch (after page_size sample os).full K 5).1
      (CutGives.above areas_fit (rw two_blocks h))

-- The pages

-- zeros but for the first bytes
unfoldable pub page : List ℕ → List ℕ
page ys = ys ++ zeros (page_size - length ys)

fits : (ys : List ℕ) → length ys ≤ page_size → PagesFit page_size [] (page ys)
unfolding page
fits ys h = record { base_length = inl refl; page_length = simp (length-append, zeros_length) (omega arith) }

pub same_bytes : (xs ys : List ℕ) → page xs ≡ page ys → (i : ℕ) → get_or xs i 0 ≡ get_or ys i 0
unfolding page
same_bytes xs ys e i = sym (zeros_after xs (page_size - length xs) i) ∙ ap (λ (l : List ℕ). get_or l i 0) e
    ∙ zeros_after ys (page_size - length ys) i

abbrev pub one : List ℕ
one = page (7 ∷ [])

abbrev pub two : List ℕ
two = page (7 ∷ 9 ∷ [])

-- bytes 0 to 252 changed: large
unfoldable pub many : ℕ → List ℕ
many v = page (replicate 253 v)

pub one_fits : PagesFit page_size [] one
one_fits = fits (7 ∷ []) (lit≤ tt)

pub two_fits : PagesFit page_size [] two
two_fits = fits (7 ∷ 9 ∷ []) (lit≤ tt)

pub many_fits : (v : ℕ) → PagesFit page_size [] (many v)
unfolding many
many_fits v = fits (replicate 253 v) (lit≤ tt)

pub stream_one : stream_of page_size [] one ≡ 0 ∷ 7 ∷ []
unfolding page page_of zeros written diffs coded spelled le
stream_one = refl

pub stream_two : stream_of page_size [] two ≡ 0 ∷ 7 ∷ 0 ∷ 9 ∷ []
unfolding page page_of zeros written diffs coded spelled le
stream_two = refl

pub stream_next : stream_of page_size one two ≡ 1 ∷ 9 ∷ []
unfolding page page_of zeros written diffs coded spelled le
stream_next = refl

-- What Compare decides of a page over a base

abbrev pub decides : List ℕ → List ℕ → Decision
decides base x = record { kind = kind_for (length (stream_of page_size base x)); payload = stream_of page_size base x; page = x }

decides_over : (base x : List ℕ) → PagesFit page_size base x → Compared page_size (page_of page_size base) (decides base x)
decides_over base x f =
    record { base_length = base_page_length page_size base x f; page_length = f.page_length; kind = refl; payload = λ q. refl }

pub decides_by : (base x : List ℕ) → PagesFit page_size base x → ComparedBy page_size base (decides base x)
decides_by base x f = by_compare page_size base (decides base x) f (decides_over base x f)

pub decides_fit : (base x : List ℕ) → PagesFit page_size base x → Fit page_size (decides base x)
decides_fit base x f = compared_fit page_size (lit≤ tt) (page_of page_size base) (decides base x) (decides_over base x f)

pub large_ones : (decides [] (many 1)).kind ≡ 2
unfolding many page page_of zeros written diffs coded spelled le kind_for
large_ones = refl

pub large_twos : (decides [] (many 2)).kind ≡ 2
unfolding many page page_of zeros written diffs coded spelled le kind_for
large_twos = refl

-- Writes of a page over a base of no bytes

abbrev pub to : ℕ → List ℕ → Lent
to b x = record { block = b; decision = decides [] x }

pub one_fit : Fit page_size (decides [] one)
one_fit = decides_fit [] one one_fits

pub two_fit : Fit page_size (decides [] two)
two_fit = decides_fit [] two two_fits

pub many_fit : (v : ℕ) → Fit page_size (decides [] (many v))
many_fit v = decides_fit [] (many v) (many_fits v)

-- the same as operations
abbrev pub puts : ℕ → List ℕ → Operation
puts b x = write (to b x)

pub both_taken : (b : ℕ) → b < 2 → (x : List ℕ) → PagesFit page_size [] x
    → accepted page_size sample (puts 0 one ∷ puts b x ∷ []) ≡ puts 0 one ∷ puts b x ∷ []
unfolding run taking
both_taken b h x f =
    rw (
      eq-eqb (outcome page_size sample (to 0 one)).number 0 (takes [] (to 0 one) (lit< tt) one_fit),
      eq-eqb (outcome page_size (next page_size sample (to 0 one)) (to b x)).number 0 (takes (puts 0 one ∷ []) (to b x) h (decides_fit [] x f)),
    )

-- the slot and the place after one to block 0
cell_of_is : (os : List Operation) (x : List ℕ) → PagesFit page_size [] x
    → cell_at page_size (next page_size (after page_size sample os) (to 0 x)) 0
    ≡ cell_for page_size (decides [] x)
cell_of_is os x f = cell_here page_size (after page_size sample os) (to 0 x)
    (eq-eqb (outcome page_size (after page_size sample os) (to 0 x)).number 0 (takes os (to 0 x) (lit< tt) (decides_fit [] x f)))

pub slot_of_is : (os : List Operation) (x payload : List ℕ) → PagesFit page_size [] x → stream_of page_size [] x ≡ payload
    → slot_of (next page_size (after page_size sample os) (to 0 x)).patch 0 ≡ slot_image (kind_for (length payload)) payload
slot_of_is os x payload f e = ap (λ (c : Cell). c.slot) (cell_of_is os x f) ∙ ap (λ (w : List ℕ). slot_image (kind_for (length w)) w) e

pub place_ones : (cell_at page_size (next page_size sample (to 0 (many 1))) 0).place ≡ many 1
unfolding run
place_ones = ap (λ (c : Cell). c.place) (cell_of_is [] (many 1) (many_fits 1)) ∙ rw large_ones

-- the block then reads as the page, into `two` or any other
pub reads : (os : List Operation) (b : ℕ) → b < 2 → (x : List ℕ) → PagesFit page_size [] x
    → (read_at page_size (next page_size (after page_size sample os) (to b x)) b [] two).page ≡ x
reads os b h x f =
    ap (λ (o : ReadOutcome). o.page)
    (reads_back page_size (lit≤ tt) (after page_size sample os).patch (after page_size sample os).full b [] (decides [] x) (decides_by [] x f)
    (takes os (to b x) h (decides_fit [] x f)) [] two refl two_fits.page_length)

-- where a fresh block reads as its base, so as zeros
pub nothing_stands : (b : ℕ) → b < 2 → (base x : List ℕ) → PagesFit page_size base x
    → read_at page_size sample b base x ≡ read_done 0 (page_of page_size base)
unfolding run taking last_to last_such
nothing_stands b h base x f =
    reads_base page_size sample sample_fresh (lit≤ tt) [] b (rw (two_blocks []) h) base x f (λ w e. none-ne-some _ e)

pub reads_zeros : (b : ℕ) → b < 2 → (read_at page_size sample b [] two).page ≡ page []
unfolding run page page_of
reads_zeros b h = ap (λ (o : ReadOutcome). o.page) (nothing_stands b h [] two two_fits)

-- so the areas are changed, and are others for each page
pub changes : (b : ℕ) → b < 2 → next page_size sample (to b one) ≡ sample → ⊥
unfolding run
changes b h e =
    let z : ◌≡◌ {A = ℕ} 7 0 =
    same_bytes (7 ∷ []) []
    (sym (reads [] b h one one_fits) ∙ ap (λ (s : Areas). (read_at page_size s b [] two).page) e ∙ reads_zeros b h) 0 in
    omega arith

pub same_page : (os os' : List Operation) (x y : List ℕ) → PagesFit page_size [] x → PagesFit page_size [] y
    → next page_size (after page_size sample os) (to 0 x) ≡ next page_size (after page_size sample os') (to 0 y) → x ≡ y
same_page os os' x y f g e =
    sym (reads os 0 (lit< tt) x f) ∙ ap (λ (s : Areas). (read_at page_size s 0 [] two).page) e ∙ reads os' 0 (lit< tt) y g
