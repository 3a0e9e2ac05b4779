use Prim.Native.Nat.{ℕ, ◌+◌}
use native.Mathlib.Omega.{arith}
use mathlib.Core.Path.{◌≡◌, sym, ap, ◌∙◌}
use mathlib.Core.Bool.{false}
use mathlib.Core.List.{List}
use Rattle.std.specs.Prelude.{Some}
use Rattle.payload.specs.Steps.{long_among, jumps_of}
use Rattle.payload.proofs.Together.{long_first, together_cut, together_long, together_out, together_in}
use Rattle.payload.proofs.walk.after_together.Goals as goal

pub returns-then-payload-from-lt-TOGETHER_WIDTH : goal.returns-then-payload-from-lt-TOGETHER_WIDTH
returns-then-payload-from-lt-TOGETHER_WIDTH c =
    let a = c.args in
    let s : List ℕ = a.payload.now in
    sym (together_cut a.end s a.from.place a.from.next (omega arith))

pub returns-then-payload-from : goal.returns-then-payload-from
returns-then-payload-from c =
    let a = c.args in
    let s : List ℕ = a.payload.now in
    sym (together_long a.end s a.from.place a.from.next (long_first s a.from.place c.if-payload-from.true 7))

pub returns-then-long_among : goal.returns-then-long_among
returns-then-long_among c =
    let a = c.args in
    let s : List ℕ = a.payload.now in
    sym (together_long a.end s a.from.place a.from.next (sym c.long_among.ensures ∙ c.if-long_among.true))

pub returns-then-end-next : goal.returns-then-end-next
returns-then-end-next c =
    let a = c.args in
    let s : List ℕ = a.payload.now in
    sym (together_out a.end s a.from.place a.from.next (omega (arith, c.from.ensures, c.jumps_of.ensures)))

pub returns : goal.returns
returns c =
    let a = c.args in
    let s : List ℕ = a.payload.now in
    let e : long_among s a.from.place 8 ≡ false = sym c.long_among.ensures ∙ c.if-long_among.false in
    let j : c.from.result ≡ jumps_of s a.from.place 8 = c.from.ensures ∙ c.jumps_of.ensures in
    ap (λ (x : ℕ). Some (a.from.next + 8 + x)) j
    ∙ sym (together_in a.end s a.from.place a.from.next (omega arith) e (omega (arith, j)))
