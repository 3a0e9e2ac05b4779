use Rattle.std.specs.Prelude.{ℕ, ◌≡◌, List, length, Err}
use Rattle.std.proofs.Common.{arith, sym, ap, ◌∙◌}
use Rattle.layout.specs.Exits.{left_with}
use Rattle.span.specs.Bytes.{splice}
use Rattle.layout.specs.Sizes.{page_size}
use Rattle.layout.specs.Numbers.{refusal_number}
use Rattle.layout.specs.NumberLaws.{refusal_some}
use Rattle.layout.specs.FirstFault.{first_fault}
use Rattle.layout.specs.Lengths.{blocks_in}
use Rattle.blockmap.specs.Pack.{packed}
use Rattle.building.specs.Build.{block_fault, build_fault, built_map, build_done, build_refused, build_outcome, BuildNumbers, built_numbers}
use Rattle.building.specs.BuildLaws.{build_refused_is, build_done_is}
use Rattle.building.specs.MapLaws.{built_kinds}
use Rattle.building.specs.Steps.{fault_numbers, kind_pair}
use Rattle.building.proofs.BuildTold.{faulty, Lent, lent_refused, lent_frame}
use Rattle.building.proofs.build.Goals as goal
use Rattle.building.proofs.build.Goals.{In_ok-areas}

-- where both areas are opened, the call has these numbers
opened : (c : In_ok-areas)
    → let a = c.args in
    let f = c.in_ok-areas.areas.frame in
    Lent page_size a.patch.now a.full.now a.map.now f.size f.n
opened c =
    let a = c.args in
    lent_frame page_size a.patch.now a.full.now a.map.now c.blocks-2.result c.map_bytes-needed.result c.blocks-2.ensures c.map_bytes-needed.ensures
    c.in_ok-areas.areas.frame (c.in_ok-areas.ensures.numbers (omega arith, omega arith))

-- and the first fault that was told is that of the call's own size and n
fault_is : (P : ℕ) (patch full : List ℕ) (size n : ℕ) (x : BuildNumbers) → size ≡ P → n ≡ blocks_in (length patch)
    → x ≡ fault_numbers size patch (first_fault (block_fault size patch full) 0 n) → fault_numbers P patch (build_fault P patch full) ≡ x
fault_is P patch full size n x own blocks told =
    ap (λ (k : ℕ). fault_numbers k patch (build_fault k patch full)) (sym own)
    ∙ ap (λ (k : ℕ). fault_numbers size patch (first_fault (block_fault size patch full) 0 k)) (sym blocks)
    ∙ sym told

pub write_map-requires : goal.write_map-requires
write_map-requires c = (opened (goal.at.write_map-requires c).In_ok-areas).enough

pub returns-in_err-areas : goal.returns-in_err-areas
returns-in_err-areas c =
    let a = c.args in
    let r = c.in_err-areas.field-0.0 in
    let told = lent_refused page_size a.patch.now a.full.now a.map.now c.blocks-2.result c.map_bytes-needed.result
    c.blocks-2.ensures c.map_bytes-needed.ensures r (c.in_err-areas.ensures.numbers (omega arith, omega arith)) in
    let e : build_outcome page_size a.patch.now a.full.now a.map.now ≡ build_refused (refusal_number r) 0 0 a.map.now =
    build_refused_is page_size a.patch.now a.full.now a.map.now (refusal_number r) told (refusal_some r) in
    rw (left_with c.from_residual.ensures) (record { numbers = rw e; bytes = rw e })

pub returns-in_err-check_blocks : goal.returns-in_err-check_blocks
returns-in_err-check_blocks c =
    let a = c.args in
    let w = opened (goal.at.returns-in_err-check_blocks c).In_ok-areas in
    let f = c.in_ok-areas.areas.frame in
    let lent = c.in_ok-areas.ensures.lent in
    let r = c.in_err-check_blocks.field-0.0 in
    let t : fault_numbers page_size a.patch.now (build_fault page_size a.patch.now a.full.now) ≡ built_numbers (Err r) =
    fault_is page_size a.patch.now a.full.now f.size f.n _ w.own w.count (rw (lent.0, lent.1) at c.in_err-check_blocks.ensures) in
    rw (left_with c.from_residual-in_err-check_blocks.ensures) (faulty page_size a.patch.now a.full.now a.map.now r w.none t)

pub returns : goal.returns
returns c =
    let a = c.args in
    let w = opened (goal.at.returns c).In_ok-areas in
    let f = c.in_ok-areas.areas.frame in
    let lent = c.in_ok-areas.ensures.lent in
    let t : fault_numbers page_size a.patch.now (build_fault page_size a.patch.now a.full.now) ≡ record { number = 0; block = 0; offset = 0 } =
    fault_is page_size a.patch.now a.full.now f.size f.n _ w.own w.count (rw (lent.0, lent.1) at c.in_ok-check_blocks.ensures) in
    let z : (build_fault page_size a.patch.now a.full.now).number ≡ 0 = ap (λ (x : BuildNumbers). x.number) t in
    let e : build_outcome page_size a.patch.now a.full.now a.map.now ≡ build_done (splice a.map.now 0 (built_map a.patch.now)) =
    build_done_is page_size a.patch.now a.full.now a.map.now w.none z in
    record {
      numbers = rw e;
      bytes =
          rw e
          ((rw lent.0 at c.write_map.ensures)
          ∙ ap (λ (k : ℕ). splice a.map.now 0 (packed (kind_pair a.patch.now) k)) w.count
          ∙ ap (λ (m : List ℕ). splice a.map.now 0 m) (sym (built_kinds page_size a.patch.now a.full.now z)));
    }
