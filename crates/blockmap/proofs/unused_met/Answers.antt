use Rattle.blockmap.specs.PairLaws.{unused_none, unused_is}
use Rattle.std.proofs.Common.{◌/◌, ◌%◌, ◌^◌, ◌≡◌, sym, ◌∙◌, arith, get_or}
use Rattle.std.proofs.Math.ListN.{get_or-eq_default}
use Rattle.std.proofs.Math.Nat.{zero-div}
use Rattle.blockmap.proofs.unused_met.Goals as goal
use Rattle.blockmap.proofs.unused_met.Goals.{then-n-eq0-via-then-n-eq0, then-n-eq0-via-else-n-eq0+then-map-last}

pub returns-then-n-eq0 : goal.returns-then-n-eq0
returns-then-n-eq0 c =
    let a = c.args in
    elim c.then-n-eq0.branch [
      | then-n-eq0-via-then-n-eq0 w ↦ sym (unused_none a.map.now a.n (omega arith))
      | then-n-eq0-via-else-n-eq0+then-map-last w ↦
          let z : get_or a.map.now (a.n / 4) 0 ≡ 0 = get_or-eq_default a.map.now 0 (omega arith) in
          sym (unused_is a.map.now a.n (omega arith) (omega arith) ∙ rw (z, zero-div (4 ^ (a.n % 4))))
    ]
