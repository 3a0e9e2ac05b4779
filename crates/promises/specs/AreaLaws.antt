-- 2 and the headers: what comes before any block of a call on both areas, whatever pages it is lent. It is the frame of any call, with pages
-- that fit.
use Rattle.std.specs.Prelude.{ℕ, ◌≡◌, refl}
use Rattle.std.proofs.Common.{inl}
use mathlib.Core.List.{List, []}
use Rattle.span.specs.Bytes.{zeros, emptied}
use Rattle.span.specs.Laws.{zeros_length}
use Rattle.layout.specs.Sizes.{patch_head, full_head}
use Rattle.layout.specs.Refusals.{first_of, or_else}
use Rattle.layout.specs.Lengths.{length_rows}
use Rattle.store.specs.Frame.{frame_rows}
use Rattle.promises.specs.Words.{PagesFit, AreasRefuse, AreasFit, FrameRefuses, FrameFits}
use Rattle.promises.specs.FrameLaws.{tells_pages, frame_number, FrameIs, frame_refused, frame_right, frame_is, frame_gives, frame_zero}
use Rattle.promises.specs.FrameLaws.{frame_some, frame_emptied}

pub no_pages : (P : ℕ) → PagesFit P [] (zeros P)
no_pages P = record { base_length = inl refl; page_length = zeros_length P }

pub to_fits : (P : ℕ) (patch full base page : List ℕ) → PagesFit P base page → AreasFit P patch full → FrameFits P patch full base page
to_fits P patch full base page f h = record { pages = f; lengths = h.lengths; headers = h.headers }

module _ (P : ℕ) (patch full : List ℕ) where
  to_frame : {k : ℕ} → AreasRefuse P patch full k → FrameRefuses P patch full [] (zeros P) k
  to_frame (AreasRefuse.lengths h) = FrameRefuses.lengths (no_pages P) h
  to_frame (AreasRefuse.patch_head_is l r) = FrameRefuses.patch_head_is (no_pages P) l r
  to_frame (AreasRefuse.full_head_is l e z r) = FrameRefuses.full_head_is (no_pages P) l e z r

  of_frame : {k : ℕ} → FrameRefuses P patch full [] (zeros P) k → AreasRefuse P patch full k
  of_frame (FrameRefuses.pages h) = absurd (h (no_pages P))
  of_frame (FrameRefuses.lengths p h) = AreasRefuse.lengths h
  of_frame (FrameRefuses.patch_head_is p l r) = AreasRefuse.patch_head_is l r
  of_frame (FrameRefuses.full_head_is p l e z r) = AreasRefuse.full_head_is l e z r

  -- the number that they give
  abbrev pub areas_number : ℕ
  areas_number = frame_number P patch full [] (zeros P)

  pub areas_number_is : first_of (frame_rows P [] [] patch full) ≡ areas_number
  unfolding frame_number frame_rows first_of or_else length_rows
  areas_number_is = rw ((tells_pages P [] (zeros P)).1 (no_pages P))

  pub data AreasAre : ℕ → Type 0 where
    areas_refused : {k : ℕ} → AreasRefuse P patch full k → AreasAre k
    areas_right : AreasFit P patch full → AreasAre 0

  pub areas_are : AreasAre areas_number
  areas_are = go (frame_is P patch full [] (zeros P))
    where
      go : {k : ℕ} → FrameIs P patch full [] (zeros P) k → AreasAre k
      go (frame_refused r) = areas_refused (of_frame r)
      go (frame_right f) = areas_right (record { lengths = f.lengths; headers = f.headers })

  pub areas_gives : {k : ℕ} → AreasRefuse P patch full k → areas_number ≡ k
  areas_gives r = frame_gives P patch full [] (zeros P) (to_frame r)

  pub areas_zero : AreasFit P patch full → areas_number ≡ 0
  areas_zero h = frame_zero P patch full [] (zeros P) (to_fits P patch full [] (zeros P) (no_pages P) h)

  pub areas_some : {k : ℕ} → AreasRefuse P patch full k → k ≡ 0 → ⊥
  areas_some r = frame_some P patch full [] (zeros P) (to_frame r)

-- they depend on the lengths and the headers alone
pub areas_emptied : (P : ℕ) (patch full : List ℕ) → areas_number P (emptied patch_head patch) (emptied full_head full) ≡ areas_number P patch full
areas_emptied P patch full = frame_emptied P patch full [] (zeros P)
