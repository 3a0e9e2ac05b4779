-- What the opened frame tells of carrying out, over plain lists and numbers.
use Prim.Native.Nat.{ℕ, ◌≤◌, ◌<◌}
use native.Mathlib.Omega.{arith}
use mathlib.Core.Path.{◌≡◌, sym, ap, ◌∙◌, subst}
use mathlib.Core.Bool.{Bool, true, not, ◌&&◌, cond}
use mathlib.Core.List.{List}
use lib.Dec.{eqb, leb}
use lib.ListN.{length}
use borrow.Author.Tests.{eq-eqb, eqb-true, not-false}
use Rattle.std.specs.Prelude.{Result, Ok, Err}
use Rattle.layout.specs.Sizes.{full_kind}
use Rattle.layout.specs.Lengths.{blocks_in}
use Rattle.layout.specs.LengthLaws.{slot_within}
use Rattle.layout.specs.Numbers.{kind_number, refusal_number}
use Rattle.layout.specs.NumberLaws.{refusal_some}
use Rattle.layout.specs.Refusals.{first_of}
use Rattle.layout.specs.declared.Refusal.{Refusal}
use Rattle.layout.specs.declared.Refusal.TheVariants.{Block}
use Rattle.blockmap.specs.Pairs.{map_bytes}
use Rattle.blockmap.specs.Pack.{pair_of, set_pair}
use Rattle.store.specs.Block.{Sized}
use Rattle.store.specs.Frame.{frame_rows}
use Rattle.store.specs.FrameLaws.{places}
use Rattle.store.specs.Open.{open_numbers, opened_numbers}
use Rattle.store.specs.OpenLaws.{Opening, opened_frame, opened_refused}
use Rattle.store.specs.declared.frame.Frame.{Frame}
use Rattle.carrying.specs.Puts.{Decision, told_all}
use Rattle.carrying.specs.CarryOut.{wrong_page, CarryOutcome, carry_refused, carry_by}
use Rattle.carrying.specs.CarryOut.{CarryNumbers, written_numbers, carry_numbers, CarryOut}
use Rattle.carrying.specs.Mapped.{carry_mapped_told, CarryOutMapped}
use Rattle.carrying.specs.CarryLaws.{carry_done_is, carry_frame, carry_block, carry_within}
use Rattle.carrying.specs.CarryLaws.{told_frame, carry_alone, carry_told_is, map_done, map_not}
use Rattle.carrying.specs.Parts.{told_rows, Lent, BlockCarry, CarryWith}
use Rattle.carrying.specs.declared.Written.{Written}

module _ (P : ℕ) (fit fits : Bool) (patch full : List ℕ) (b : ℕ) (d : Decision) (stores : ℕ)
    (paged : not fit ≡ (eqb d.kind full_kind && not (eqb (length d.page) P))) where
  stays : (r : Refusal) → carry_by P (told_rows fits) patch full b d stores ≡ carry_refused (refusal_number r) patch full
      → CarryWith P fits patch full b d stores (Err r) patch full
  stays r e = record { numbers = rw e; patch_bytes = rw e; full_bytes = rw e }

  pub told_refused : (r : Refusal) → opened_numbers (Err r) ≡ open_numbers P fit fits patch full
      → CarryWith P fits patch full b d stores (Err r) patch full
  told_refused r told =
      stays r
      (carry_frame P (told_rows fits) patch full b d stores (refusal_number r)
      (told_frame P fit fits patch full d paged ∙ opened_refused P fit fits patch full r told) (refusal_some r))

  module _ (f : Frame) (told : opened_numbers (Ok f) ≡ open_numbers P fit fits patch full) where
    frame : Opening P fit fits patch full f.size f.n f.m
    frame = opened_frame P fit fits patch full f told

    none : first_of (frame_rows P (wrong_page P d) (told_rows fits) patch full) ≡ 0
    none = told_frame P fit fits patch full d paged ∙ frame.framed.none

    pub told_block : f.n ≤ b → CarryWith P fits patch full b d stores (Err Block) patch full
    told_block h = stays Block (carry_block P (told_rows fits) patch full b d stores none (omega (arith, frame.blocks)))

    -- a page that is looked at has the size
    page_fits : d.kind ≡ full_kind → length d.page ≡ P
    page_fits e =
        eqb-true (length d.page) P
        (not-false (eqb (length d.page) P)
        (sym (ap (λ (t : Bool). t && not (eqb (length d.page) P)) (eq-eqb d.kind full_kind e)) ∙ sym paged
        ∙ ap not frame.framed.pages_fit_is))

    module _ (below : b < f.n) where
      pub told_lent : Sized P → Lent f.size f.m patch full b d
      told_lent s =
          subst (λ (k : ℕ). Lent k f.m patch full b d) (sym frame.own) (record {
            sized = s;
            page_lent = page_fits;
            slot_within = slot_within P (length patch) b frame.framed.patch_fit (omega (arith, frame.blocks));
            full_area = (frame.places, places P (blocks_in (length patch)) full s.0 frame.framed.full_fit);
          })

      pub told_within : (answer : Result Written Refusal) (patch' full' : List ℕ)
          → BlockCarry f.size patch full b d stores answer patch' full' → CarryWith P fits patch full b d stores answer patch' full'
      told_within answer patch' full' w =
          let e = carry_within P (told_rows fits) patch full b d stores none (omega (arith, frame.blocks)) in
          let w' : BlockCarry P patch full b d stores answer patch' full' =
          subst (λ (k : ℕ). BlockCarry k patch full b d stores answer patch' full') frame.own w in
          record { numbers = rw e w'.numbers; patch_bytes = rw e w'.patch_bytes; full_bytes = rw e w'.full_bytes }

-- without a map
pub told_alone : (P : ℕ) (patch full : List ℕ) (b : ℕ) (d : Decision) (stores : ℕ) (answer : Result Written Refusal)
    (patch' full' : List ℕ) → CarryWith P true patch full b d stores answer patch' full' → CarryOut P patch full b d stores answer patch' full'
told_alone P patch full b d stores answer patch' full' w =
    let e = carry_alone P patch full b d stores in
    record {
      numbers = w.numbers ∙ ap carry_numbers e;
      patch_bytes = w.patch_bytes ∙ ap (λ (o : CarryOutcome). o.patch) e;
      full_bytes = w.full_bytes ∙ ap (λ (o : CarryOutcome). o.full) e;
    }

-- with a map, told whether it is long enough
module _ (P : ℕ) (fits : Bool) (patch full map : List ℕ) (b : ℕ) (d : Decision) (stores : ℕ) (patch' full' : List ℕ)
    (long : fits ≡ leb (map_bytes (blocks_in (length patch))) (length map)) where
  same : carry_by P (told_rows fits) patch full b d stores ≡ (carry_mapped_told P patch full map b d stores).areas
  same = carry_told_is P patch full map b d stores fits long

  module _ (answer : Result Written Refusal) (w : CarryWith P fits patch full b d stores answer patch' full') where
    kept : (map' : List ℕ) → map' ≡ (carry_mapped_told P patch full map b d stores).map
        → CarryOutMapped P patch full map b d stores answer patch' full' map'
    kept map' m =
        record {
          numbers = w.numbers ∙ ap carry_numbers same;
          patch_bytes = w.patch_bytes ∙ ap (λ (o : CarryOutcome). o.patch) same;
          full_bytes = w.full_bytes ∙ ap (λ (o : CarryOutcome). o.full) same;
          map_bytes_is = m;
        }

    number : (written_numbers answer).number ≡ (carry_mapped_told P patch full map b d stores).areas.number
    number = ap (λ (n : CarryNumbers). n.number) (w.numbers ∙ ap carry_numbers same)

  pub mapped_refused : (r : Refusal) → CarryWith P fits patch full b d stores (Err r) patch' full'
      → CarryOutMapped P patch full map b d stores (Err r) patch' full' map
  mapped_refused r w = kept (Err r) w map (sym (map_not P patch full map b d stores (λ z. refusal_some r (number (Err r) w ∙ z))))

  -- the pair that is set, if all stores were made, is of the kind that was stored, which is the decision's
  pub mapped_done : (x : Written) (map' : List ℕ) → CarryWith P fits patch full b d stores (Ok x) patch' full'
      → map' ≡ cond (told_all stores) (set_pair map b (pair_of (kind_number x.kind))) map
      → CarryOutMapped P patch full map b d stores (Ok x) patch' full' map'
  mapped_done x map' w set =
      let kind : kind_number x.kind ≡ d.kind = ap (λ (n : CarryNumbers). n.kind) w.numbers
      ∙ ap (λ (o : CarryOutcome). o.kind)
      (carry_done_is P (told_rows fits) patch full b d stores (sym (ap (λ (n : CarryNumbers). n.number) w.numbers))) in
      kept (Ok x) w map'
      (set ∙ ap (λ (k : ℕ). cond (told_all stores) (set_pair map b (pair_of k)) map) kind
      ∙ sym (map_done P patch full map b d stores (sym (number (Ok x) w))))
