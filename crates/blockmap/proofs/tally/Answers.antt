use Rattle.std.proofs.Common.{◌-◌, ◌*◌, ◌≡◌, sym, ap, ◌∙◌, true, false}
use Rattle.layout.specs.Sizes.{page_size}
use Rattle.blockmap.specs.Pairs.{map_bytes, some_used}
use Rattle.blockmap.specs.PairLaws.{unused_bad}
use Rattle.bits.specs.Bits.{highs, lows, some_three}
use Rattle.blockmap.specs.PairBitLaws.{bits_bad, bits_good, bits_patch, bits_full}
use Rattle.blockmap.specs.CallLaws.{tally_pair, tally_done}
use Rattle.blockmap.proofs.tally.Goals as goal

pub returns-then-unused_met : goal.returns-then-unused_met
returns-then-unused_met c =
    let a = c.args in
    let h = c.in_ok-bytes.ensures in
    tally_pair page_size a.map.now a.n h.0 h.1 (unused_bad a.map.now a.n (sym c.if-unused_met.ensures))

pub returns-then-counted : goal.returns-then-counted
returns-then-counted c =
    let a = c.args in
    let k = c.type_inv.map in
    let h = c.in_ok-bytes.ensures in
    let clean : some_used a.map.now a.n (4 * map_bytes a.n - a.n) ≡ false = sym c.if-unused_met.ensures in
    let three : some_three a.map.now 0 (map_bytes a.n) ≡ true = ap (some_three a.map.now 0) (sym h.2) ∙ sym c.count-counted.ensures.three
    ∙ c.if-counted.true in
    tally_pair page_size a.map.now a.n h.0 h.1 (bits_bad a.map.now (λ i. (k i).fits) a.n clean three)

pub returns : goal.returns
returns c =
    let a = c.args in
    let k = c.type_inv.map in
    let h = c.in_ok-bytes.ensures in
    let clean : some_used a.map.now a.n (4 * map_bytes a.n - a.n) ≡ false = sym c.if-unused_met.ensures in
    let none : some_three a.map.now 0 (map_bytes a.n) ≡ false = ap (some_three a.map.now 0) (sym h.2) ∙ sym c.count-counted.ensures.three
    ∙ c.if-counted.false in
    tally_done page_size a.map.now a.n h.0 h.1 c.count-counted.result.high c.count-counted.result.low
    (bits_good a.map.now (λ i. (k i).fits) a.n clean none)
    (c.count-counted.ensures.high ∙ ap (highs a.map.now 0) h.2 ∙ bits_patch a.map.now (λ i. (k i).fits) a.n clean none)
    (c.count-counted.ensures.low ∙ ap (lows a.map.now 0) h.2 ∙ bits_full a.map.now (λ i. (k i).fits) a.n clean none)
