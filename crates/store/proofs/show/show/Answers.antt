use native.Mathlib.Omega.{arith}
use Prim.Native.Nat.{ℕ, ◌+◌, ◌-◌}
use lib.ListN.{take, drop}
use mathlib.Core.Path.{◌≡◌, refl, ap, ◌∙◌}
use Rattle.layout.specs.Sizes.{page_size}
use Rattle.span.specs.Bytes.{part}
use Rattle.store.specs.Show.{show_place}
use Rattle.store.specs.ShowLaws.{show_within}
use Rattle.store.specs.declared.Place.{Place}
use Rattle.store.proofs.show.show.Goals as goal

pub overflow_add-end : goal.overflow_add-end
overflow_add-end c =
    let a = c.args in
    let e = c.payload_place-place.ensures in
    let x : c.payload_place-place.result.at ≡ (show_place page_size a.patch.now a.block).at = ap (λ (p : Place). p.at) e in
    let y : c.payload_place-place.result.len ≡ (show_place page_size a.patch.now a.block).len = ap (λ (p : Place). p.len) e in
    omega (arith, show_within page_size a.patch.now a.block)

pub slice_bounds-result-end : goal.slice_bounds-result-end
slice_bounds-result-end c =
    let a = c.args in
    let e = c.payload_place-place.ensures in
    let x : c.payload_place-place.result.at ≡ (show_place page_size a.patch.now a.block).at = ap (λ (p : Place). p.at) e in
    let y : c.payload_place-place.result.len ≡ (show_place page_size a.patch.now a.block).len = ap (λ (p : Place). p.len) e in
    omega (arith, show_within page_size a.patch.now a.block)

pub returns : goal.returns
unfolding part
returns c =
    let a = c.args in
    let r = c.payload_place-place.result in
    let e = c.payload_place-place.ensures in
    let k : r.at + r.len - r.at ≡ r.len = omega arith in
    let x : r.at ≡ (show_place page_size a.patch.now a.block).at = ap (λ (p : Place). p.at) e in
    record {
      bytes =
          ap (λ (n : ℕ). take n (drop r.at a.patch.now)) k
          ∙ ap (λ (p : Place). part p.at p.len a.patch.now) e;
      memory = refl;
      place = omega arith;
    }
