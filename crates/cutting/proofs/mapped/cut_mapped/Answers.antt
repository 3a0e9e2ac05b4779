use Prim.Native.Nat.{ℕ, ◌-◌}
use mathlib.Core.Path.{◌≡◌, sym, ap, ◌∙◌}
use mathlib.Core.Bool.{Bool, true, cond}
use lib.Dec.{leb}
use lib.ListN.{length}
use Rattle.layout.specs.Exits.{left_with}
use Rattle.layout.specs.Sizes.{page_size}
use Rattle.layout.specs.NumberLaws.{refusal_some}
use Rattle.blockmap.specs.Pairs.{map_bytes}
use Rattle.blockmap.specs.Pack.{clear_pairs}
use Rattle.cutting.specs.Cut.{CutOutcome, cut_by}
use Rattle.cutting.specs.Mapped.{cut_mapped_outcome}
use Rattle.cutting.specs.Parts.{told_rows}
use Rattle.cutting.specs.CutLaws.{cut_told, map_done, map_not}
use Rattle.cutting.proofs.CutTold.{told_fits}
use Rattle.cutting.proofs.mapped.cut_mapped.Goals as goal
use Rattle.cutting.proofs.mapped.cut_mapped.Goals.{After-cut_with}

-- what the dropping of the blocks was told of the map, and so what it comes to
told : (c : After-cut_with)
    → let a = c.args in
    cut_by page_size (told_rows (leb c.map_bytes-needed.result (length a.map.now))) a.patch.now a.full.now a.k
    ≡ (cut_mapped_outcome page_size a.patch.now a.full.now a.map.now a.k).areas
told c =
    let a = c.args in
    cut_told page_size a.patch.now a.full.now a.map.now a.k _
    (ap (λ (k : ℕ). leb k (length a.map.now))
    (c.map_bytes-needed.ensures ∙ ap map_bytes c.blocks-n.ensures))

pub returns-in_err-cut_with : goal.returns-in_err-cut_with
returns-in_err-cut_with c =
    let a = c.args in
    let w = c.in_err-cut_with.ensures in
    let e = told (goal.at.returns-in_err-cut_with c).After-cut_with in
    let numbers = w.numbers ∙ ap (λ (o : CutOutcome). o.number) e in
    rw (left_with c.from_residual.ensures) (record {
      numbers = numbers;
      patch_bytes = w.patch_bytes ∙ ap (λ (o : CutOutcome). o.patch) e;
      full_bytes = w.full_bytes ∙ ap (λ (o : CutOutcome). o.full) e;
      map_bytes_is =
          sym
          (map_not page_size a.patch.now a.full.now a.map.now a.k (λ z. refusal_some c.in_err-cut_with.field-0.0 (numbers ∙ z)));
    })

pub returns : goal.returns
returns c =
    let a = c.args in
    let n = c.blocks-n in
    let w = c.in_ok-cut_with.ensures in
    let e = told (goal.at.returns c).After-cut_with in
    let numbers = w.numbers ∙ ap (λ (o : CutOutcome). o.number) e in
    let fits : leb (map_bytes n.result) (length a.map.now) ≡ true =
    ap (λ (k : ℕ). leb k (length a.map.now)) (sym c.map_bytes-needed.ensures)
    ∙ told_fits page_size _ a.patch.now a.full.now a.k (sym w.numbers) in
    record {
      numbers = numbers;
      patch_bytes = w.patch_bytes ∙ ap (λ (o : CutOutcome). o.patch) e;
      full_bytes = w.full_bytes ∙ ap (λ (o : CutOutcome). o.full) e;
      map_bytes_is =
          c.clear_pairs.ensures
          ∙ ap (λ (t : Bool). cond t (clear_pairs a.map.now a.k (n.result - a.k)) a.map.now) fits
          ∙ ap (λ (k : ℕ). clear_pairs a.map.now a.k (k - a.k)) n.ensures
          ∙ sym (map_done page_size a.patch.now a.full.now a.map.now a.k (sym numbers));
    }
