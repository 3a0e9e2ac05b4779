use Prim.Native.Nat.{ℕ, ◌+◌, ◌-◌}
use native.Mathlib.Omega.{arith}
use mathlib.Core.Path.{◌≡◌, subst}
use mathlib.Core.List.{List}
use lib.IntN.{pos}
use lib.ListN.{drop, get_or}
use Rattle.payload.specs.Entries.{stream, code}
use Rattle.payload.specs.Positions.{before}
use Rattle.payload.specs.Steps.{Entered}
use Rattle.payload.proofs.Reading.{Opened, opened_long, enters}
use Rattle.payload.proofs.walk.after_long.Goals as goal

pub returns : goal.returns
returns c =
    let a = c.args in
    let s : List ℕ = a.payload.now in
    let k : ℕ = a.from.place in
    let j : ℕ = c.in_ok-long_jump.field-0 in
    let o : Opened s k j 4 = opened_long s k (omega arith) c.if-payload-from.false j c.in_ok-long_jump.ensures in
    let q : a.from.next + j ≡ a.from.next + c.from.result + 1 - 1 = omega (arith, c.from.ensures) in
    record {
      value = get_or s (k + 3) 0;
      some = omega arith;
      within_page = omega arith;
      entered =
          subst (λ (x : ℕ). Entered a.end s k (stream a.end (before a.from.next) code (drop k s)) (pos x) (get_or s (k + 3) 0) (k + 4)) q
          (enters s k j 4 (k + 3) o (omega arith) a.end a.from.next (omega (arith, c.from.ensures)));
    }
