use Rattle.std.specs.Prelude.{ℕ, ◌≡◌, true, length}
use Rattle.std.proofs.Common.{arith, sym, ap, ◌∙◌, subst}
use Rattle.layout.specs.Lengths.{blocks_in, pages_in, patch_fits, full_fits}
use Rattle.store.specs.Block.{Sized}
use Rattle.store.specs.OpenLaws.{opened_frame}
use Rattle.store.proofs.areas.Areas.open.Goals as goal

pub invariant_of-result : goal.invariant_of-result
invariant_of-result c =
    let a = c.args in
    let f = c.in_ok-frame.frame in
    let o = opened_frame a.size a.pages_fit a.buffer_fits a.patch.now a.full.now f c.in_ok-frame.ensures in
    record {
      sized = subst Sized (sym o.own) (omega (arith, c.if-size-eq0.false), omega (arith, c.if-size-gt-REACH.false));
      blocks = o.blocks;
      places = o.places ∙ ap (λ (s : ℕ). pages_in s (length a.full.now)) (sym o.own);
      patch_fit = subst (λ (s : ℕ). patch_fits s (length a.patch.now) ≡ true) (sym o.own) o.framed.patch_fit;
      full_fit = subst (λ (s : ℕ). full_fits s (blocks_in (length a.patch.now)) (length a.full.now) ≡ true) (sym o.own) o.framed.full_fit;
    }
