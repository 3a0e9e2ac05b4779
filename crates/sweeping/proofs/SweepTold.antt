-- What the pieces of Sweep are told, over plain lists and numbers.
use Prim.Native.Nat.{ℕ, ◌+◌, ◌-◌, ◌≤◌, ◌<◌}
use native.Mathlib.Omega.{arith}
use mathlib.Core.Path.{◌≡◌, sym, ap, ◌∙◌}
use mathlib.Core.Bool.{Bool, true, cond}
use mathlib.Core.List.{List}
use Rattle.std.specs.Prelude.{Ok, Err}
use lib.ListN.{length}
use borrow.Rule.Slice.PartMut.{mid_of, put_mid}
use Rattle.span.specs.Bytes.{zeros, splice}
use Rattle.span.specs.Laws.{put_filled}
use Rattle.layout.specs.Sizes.{slot_at, page_at}
use Rattle.layout.specs.Numbers.{refusal_number}
use Rattle.layout.specs.NumberLaws.{refusal_some}
use Rattle.layout.specs.declared.Refusal.{Refusal}
use Rattle.layout.specs.FirstFault.{first_fault}
use Rattle.layout.specs.Lengths.{blocks_in, pages_in}
use Rattle.layout.specs.LengthLaws.{patch_fits_is}
use Rattle.store.specs.Block.{Places}
use Rattle.store.specs.FrameLaws.{fewer_places, places}
use Rattle.store.specs.Open.{open_numbers, opened_numbers}
use Rattle.store.specs.OpenLaws.{Opening, opened_frame, opened_refused}
use Rattle.store.specs.declared.frame.Frame.{Frame}
use Rattle.sweeping.specs.Sweep.{zeroed_but, refers, sweep_outcome, sweep_refused}
use Rattle.sweeping.specs.Parts.{slot_fault, marked}
use Rattle.sweeping.specs.ZeroedLaws.{zeroed_more}
use Rattle.sweeping.specs.SweepLaws.{kept_marked, sweep_frame, sweep_faulty, sweep_sound}

-- a block's place, lent and filled
pub place_filled : (P : ℕ) (full : List ℕ) (b at : ℕ) (after : List ℕ) → at ≡ page_at P b → page_at P b + P ≤ length full
    → after ≡ zeros (length (mid_of at (at + P - at) full)) → put_mid at (at + P - at) full after ≡ splice full (page_at P b) (zeros P)
place_filled P full b at after e fits c =
    let q : at + P - at ≡ P = omega arith in
    put_filled at (at + P - at) full after (omega arith) c ∙ ap (λ (n : ℕ). splice full at (zeros n)) q
    ∙ ap (λ (n : ℕ). splice full n (zeros P)) e

-- one place more
pub place_swept : (keeps : ℕ → Bool) (P : ℕ) (full now after : List ℕ) (b : ℕ) → now ≡ zeroed_but keeps P b full
    → after ≡ cond (keeps b) now (splice now (page_at P b) (zeros P)) → after ≡ zeroed_but keeps P (b + 1) full
place_swept keeps P full now after b e f =
    f ∙ ap (λ (rest : List ℕ). cond (keeps b) rest (splice rest (page_at P b) (zeros P))) e ∙ sym (zeroed_more keeps P full b)

-- what the opened frame tells
module _ (P : ℕ) (patch full : List ℕ) where
  pub told_refused : (r : Refusal) → opened_numbers (Err r) ≡ open_numbers P true true patch full
      → sweep_outcome P patch full ≡ sweep_refused (refusal_number r) full
  told_refused r told = sweep_frame P patch full (refusal_number r) (opened_refused P true true patch full r told) (refusal_some r)

  module _ (f : Frame) (told : opened_numbers (Ok f) ≡ open_numbers P true true patch full) where
    frame : Opening P true true patch full f.size f.n f.m
    frame = opened_frame P true true patch full f told

    fewer : f.m ≤ f.n
    fewer = omega (arith, frame.blocks, frame.places, fewer_places P (blocks_in (length patch)) (length full) frame.framed.full_fit)

    -- every slot that a place is swept by is there, and so is every place
    pub told_places : 0 < P → (slot_at f.m ≤ length patch) × (f.m ≡ pages_in f.size (length full)) × Places f.size full
    told_places h =
        rw frame.own (
          omega (arith, fewer, frame.blocks, (patch_fits_is P (length patch) frame.framed.patch_fit).0),
          frame.places,
          places P (blocks_in (length patch)) full h frame.framed.full_fit,
        )

    -- and the first fault of all the slots decides
    slots : (first_fault (slot_fault (pages_in P (length full)) patch) 0 (blocks_in (length patch))).number
        ≡ (first_fault (slot_fault f.m patch) 0 f.n).number
    slots =
        ap (λ (j : ℕ). (first_fault (slot_fault j patch) 0 (blocks_in (length patch))).number) (sym frame.places)
        ∙ ap (λ (j : ℕ). (first_fault (slot_fault f.m patch) 0 j).number) (sym frame.blocks)

    pub told_faulty : (r : Refusal) → refusal_number r ≡ (first_fault (slot_fault f.m patch) 0 f.n).number
        → sweep_outcome P patch full ≡ sweep_refused (refusal_number r) full
    told_faulty r e = sweep_faulty P patch full frame.framed.none (refusal_number r) (slots ∙ sym e) (refusal_some r)

    pub told_swept : 0 ≡ (first_fault (slot_fault f.m patch) 0 f.n).number
        → sweep_outcome P patch full ≡ record { number = 0; full = zeroed_but (marked patch) f.size f.m full }
    told_swept e =
        sweep_sound P patch full frame.framed.none (slots ∙ sym e)
        ∙ ap (λ (l : List ℕ). record { number = 0; full = l })
        (sym
        (kept_marked f.m patch f.n f.size f.m full (sym e) fewer
        ∙ (λ i. zeroed_but (refers patch) (frame.own i) (frame.places i) full)))
