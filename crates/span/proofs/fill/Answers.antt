use borrow.Rule.Slice.PartMut.{same_len_mid, mid_of, put_mid}
use Prim.Native.Nat.{ℕ, ◌+◌, ◌-◌, ◌*◌, ◌/◌, ◌≤◌}
use native.Mathlib.Omega.{arith}
use mathlib.Core.Path.{◌≡◌, refl, sym, ap, ◌∙◌}
use mathlib.Core.List.{List}
use lib.ListN.{length}
use Rattle.span.specs.Bytes.{zeros, splice}
use Rattle.span.specs.Laws.{zeros_length, zeros_nil, zeros_join, splice_none, splice_whole, splice_join, put_filled}
use Rattle.span.proofs.fill.Goals as goal

-- a part more has been cleared
cleared_on : (dst₀ dst : List ℕ) (at n : ℕ) → at + n ≤ length dst₀ → dst ≡ splice dst₀ 0 (zeros at)
    → splice dst at (zeros n) ≡ splice dst₀ 0 (zeros (at + n))
cleared_on dst₀ dst at n h d =
    let l : length (zeros at) ≡ at = zeros_length at in
    let m : length (zeros n) ≡ n = zeros_length n in
    ap (λ (x : List ℕ). splice x at (zeros n)) d
    ∙ ap (λ (i : ℕ). splice (splice dst₀ 0 (zeros at)) i (zeros n)) (sym l)
    ∙ splice_join dst₀ (zeros at) (zeros n) (omega arith)
    ∙ ap (λ (x : List ℕ). splice dst₀ 0 x) (zeros_join at n)

turn : (dst₀ dst part : List ℕ) (at n k : ℕ) → at + n ≤ length dst₀ → length dst ≡ length dst₀ → dst ≡ splice dst₀ 0 (zeros at)
    → part ≡ zeros (length (mid_of at n dst)) → at + n ≡ k → put_mid at n dst part ≡ splice dst₀ 0 (zeros k)
turn dst₀ dst part at n k h l d p e =
    put_filled at n dst part (omega arith) p ∙ cleared_on dst₀ dst at n h d ∙ ap (λ (i : ℕ). splice dst₀ 0 (zeros i)) e

pub loop-i-init : goal.loop-i-init
loop-i-init c =
    let d : List ℕ = c.args.dst.now in
    (refl, sym (ap (λ (l : List ℕ). splice d 0 l) zeros_nil ∙ splice_none d 0 (omega arith)))

pub loop-i-preserved : goal.loop-i-preserved
loop-i-preserved c =
    let l = c.loop-i in
    let part = c.clear in
    let at : ℕ = 4096 * l.i in
    let n : ℕ = at + 4096 - at in (
      same_len_mid at n l.dst part.new.dst part.auto.dst ∙ l.invariant.0,
      turn c.args.dst.now l.dst part.new.dst at n _ (omega arith) l.invariant.0 l.invariant.1 part.ensures (omega arith),
    )

pub returns : goal.returns
returns c =
    let d : List ℕ = c.args.dst.now in
    let l = c.loop-i in
    let part = c.clear-2 in
    let at : ℕ = 4096 * (length d / 4096) in
    let n : ℕ = length l.dst - at in
    let e : 4096 * l.i ≡ at = omega arith in
    turn d l.dst part.new.dst at n (length d) (omega arith) l.invariant.0 (l.invariant.1 ∙ ap (λ (k : ℕ). splice d 0 (zeros k)) e) part.ensures
    (omega arith)
    ∙ splice_whole d (zeros (length d)) (zeros_length (length d))
