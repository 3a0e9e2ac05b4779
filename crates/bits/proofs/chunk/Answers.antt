use Prim.Native.Nat.{ℕ, ◌+◌}
use native.Mathlib.Omega.{arith}
use mathlib.Core.Path.{◌≡◌, refl, sym, ap, ◌∙◌}
use mathlib.Core.Bool.{not, not-not, ◌||◌}
use mathlib.Core.List.{List}
use lib.Dec.{eqb}
use lib.ListN.{length, get_or}
use lib.Bits.{bit_or}
use lib.Count.{ones}
use Rattle.bits.specs.Bits.{low_bits, high_bits, threes, highs, lows, added, some_three}
use Rattle.bits.specs.BitLaws.{ored_none, added_next, three_next, highs_most, lows_most}
use Rattle.bits.proofs.chunk.Goals as goal

-- a sum and one byte's number more
next : (f : ℕ → ℕ) (map : List ℕ) (i : ℕ) {sum r : ℕ} → sum ≡ added f map 0 i → r ≡ f (get_or map i 0) → sum + r ≡ added f map 0 (i + 1)
next f map i e q =
    let z : 0 + i ≡ i = omega arith in
    omega (arith, e, q, added_next f map 0 i, ap (λ (k : ℕ). f (get_or map k 0)) z)

pub loop-byte-init : goal.loop-byte-init
unfolding added some_three
loop-byte-init c = (refl, refl, refl)

pub overflow_add-high : goal.overflow_add-high
overflow_add-high c =
    let map = c.args.bytes.now in
    let l = c.loop-byte in
    let i : ℕ = l.byte-index in
    let r = next (λ x. ones (high_bits x)) map i l.invariant.0 (c.number_of_bits-high.ensures ∙ ap ones c.high_bits.ensures) in
    record { fits = omega (arith, r, highs_most map (λ k. (c.type_inv.bytes k).fits) 0 (i + 1)) }

pub overflow_add-low : goal.overflow_add-low
overflow_add-low c =
    let map = c.args.bytes.now in
    let l = c.loop-byte in
    let i : ℕ = l.byte-index in
    let r = next (λ x. ones (low_bits x)) map i l.invariant.1 (c.number_of_bits-low.ensures ∙ ap ones c.low_bits.ensures) in
    record { fits = omega (arith, r, lows_most map (λ k. (c.type_inv.bytes k).fits) 0 (i + 1)) }

pub loop-byte-preserved : goal.loop-byte-preserved
loop-byte-preserved c =
    let map = c.args.bytes.now in
    let l = c.loop-byte in
    let i : ℕ = l.byte-index in
    let z : 0 + i ≡ i = omega arith in (
      next (λ x. ones (high_bits x)) map i l.invariant.0 (c.number_of_bits-high.ensures ∙ ap ones c.high_bits.ensures),
      next (λ x. ones (low_bits x)) map i l.invariant.1 (c.number_of_bits-low.ensures ∙ ap ones c.low_bits.ensures),
      ap (λ (t : ℕ). eqb (bit_or l.met t) 0) c.threes-met.ensures
          ∙ ored_none l.met (threes (get_or map i 0)) (some_three map 0 i) l.invariant.2
          ∙ ap (λ (k : ℕ). not (some_three map 0 i || not (eqb (threes (get_or map k 0)) 0))) (sym z)
          ∙ ap not (sym (three_next map 0 i)),
    )

pub returns : goal.returns
returns c =
    let map = c.args.bytes.now in
    let l = c.loop-byte in
    let all : l.byte-index ≡ length map = omega arith in
    record {
      high = l.invariant.0 ∙ ap (highs map 0) all;
      low = l.invariant.1 ∙ ap (lows map 0) all;
      three = ap not l.invariant.2 ∙ not-not (some_three map 0 l.byte-index) ∙ ap (some_three map 0) all;
    }
