use Prim.Native.Nat.{ℕ, ◌+◌, ◌-◌}
use native.Mathlib.Omega.{arith}
use mathlib.Core.Path.{◌≡◌, ap, ◌∙◌}
use lib.ListN.{take, drop}
use Rattle.writer.specs.WordLaws.{loaded}
use Rattle.writer.proofs.words.word.Goals as goal

pub returns : goal.returns
returns c =
    let a = c.args in
    let whole = rw c.unwrap-bytes.ensures at c.try_from.ensures.1 in
    let q : a.at + 8 - a.at ≡ 8 = omega arith in
    c.from_le_bytes.ensures ∙ loaded a.s.now c.unwrap-bytes.result a.at (whole.same ∙ ap (λ (n : ℕ). take n (drop a.at a.s.now)) q)
