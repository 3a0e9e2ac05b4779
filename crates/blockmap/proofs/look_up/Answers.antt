use Rattle.blockmap.specs.CallLaws.{look_pair, look_done}
use Rattle.blockmap.specs.Pairs.{pair_at}
use Rattle.blockmap.specs.Pack.{pair_of, kind_of}
use Rattle.blockmap.specs.SetLaws.{pair_back}
use Rattle.layout.specs.Sizes.{page_size}
use Rattle.std.proofs.Common.{ℕ, ◌%◌, ◌≡◌, sym, ap, ◌∙◌, arith}
use Rattle.blockmap.proofs.look_up.Goals as goal

pub returns-then-pair-eq-RESERVED : goal.returns-then-pair-eq-RESERVED
unfolding pair_at
returns-then-pair-eq-RESERVED c =
    let a = c.args in
    let h = c.in_ok-bytes_held.ensures in
    look_pair page_size a.map.now a.n h.0 h.1 a.block (omega arith)
    (sym (ap (λ (x : ℕ). x % 4) c.pairs_from-pair.ensures) ∙ c.if-pair-eq-RESERVED.true)

pub returns : goal.returns
unfolding pair_at
returns c =
    let a = c.args in
    let h = c.in_ok-bytes_held.ensures in
    let p : ℕ = c.pairs_from-pair.result % 4 in
    let back : pair_of (kind_of p) ≡ p = pair_back p (omega arith) c.if-pair-eq-RESERVED.false in
    look_done page_size a.map.now a.n h.0 h.1 a.block c.kind_of.result (omega arith)
    (ap pair_of c.kind_of.ensures ∙ back ∙ ap (λ (x : ℕ). x % 4) c.pairs_from-pair.ensures)
