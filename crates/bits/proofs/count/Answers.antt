use Prim.Native.Nat.{ℕ, ◌≤◌, min}
use native.Mathlib.Omega.{arith}
use mathlib.Core.Path.{◌≡◌, sym, ap, subst, ◌∙◌}
use lib.ListN.{length, take, length-take}
use Rattle.std.specs.declared.slice.ChunksExact.{ChunksExact}
use Rattle.std.specs.Slice.Iter.{chunks_exact_rest, chunks_exact_size}
use Rattle.bits.specs.declared.TheConstants.{CHUNK}
use Rattle.bits.specs.declared.Counted.{Counted}
use Rattle.bits.specs.Bits.{together, Counts}
use Rattle.bits.specs.BitLaws.{counts_past}
use Rattle.bits.proofs.Chunks.{Reached, place, start, step, finish, sums_fit, of_map}
use Rattle.bits.proofs.count.Goals as goal

pub loop-part-init : goal.loop-part-init
loop-part-init c =
    let cut = c.chunks_exact-chunks.ensures in
    let same = c.into_iter-part-iterator.ensures.into_iter_gives in
    let size : chunks_exact_size c.into_iter-part-iterator.result ≡ CHUNK = ap (λ (it : ChunksExact ℕ). chunks_exact_size it) same ∙ cut.size in
    (omega arith, tt, start _ _ size (ap (λ (it : ChunksExact ℕ). chunks_exact_rest it) same ∙ cut.rest))

pub with-sum-requires : goal.with-sum-requires
with-sum-requires c =
    let n : ℕ = c.min-end.result in
    let map = c.args.map.now in
    let l = c.loop-part in
    let r = step (take n map) l.part-iterator c.next.new.self c.in-Some.part l.sum c.chunk.result c.in-Some.ensures.steps l.invariant.2 c.chunk.ensures in
    sums_fit map n (place (take n map) c.next.new.self) l.sum c.chunk.result (λ k. (c.type_inv.map k).fits)
    (omega (arith, length-take n map)) (omega (arith, c.ranges.bytes.fits)) r.counts

pub loop-part-preserved : goal.loop-part-preserved
loop-part-preserved c =
    let n : ℕ = c.min-end.result in
    let map = c.args.map.now in
    let l = c.loop-part in
    let r = step (take n map) l.part-iterator c.next.new.self c.in-Some.part l.sum c.chunk.result c.in-Some.ensures.steps l.invariant.2 c.chunk.ensures in
    let size : chunks_exact_size c.next.new.self ≡ CHUNK = r.size in
    (omega arith, tt, subst (Reached (take n map) c.next.new.self) (sym c.with-sum.ensures) r)

pub with-requires : goal.with-requires
with-requires c =
    let n : ℕ = c.min-end.result in
    let map = c.args.map.now in
    let l = c.loop-part in
    let r = finish (take n map) l.part-iterator c.remainder-rest.result.now l.sum c.chunk-2.result c.in-None.ensures.steps.1.0 l.invariant.2
    (c.remainder-rest.ensures ∙ c.chunks_exact-chunks.ensures.remainder) c.chunk-2.ensures in
    sums_fit map n (length (take n map)) l.sum c.chunk-2.result (λ k. (c.type_inv.map k).fits)
    (omega (arith, length-take n map)) (omega (arith, c.ranges.bytes.fits)) r

pub returns : goal.returns
returns c =
    let n : ℕ = c.min-end.result in
    let map = c.args.map.now in
    let l = c.loop-part in
    let r = finish (take n map) l.part-iterator c.remainder-rest.result.now l.sum c.chunk-2.result c.in-None.ensures.steps.1.0 l.invariant.2
    (c.remainder-rest.ensures ∙ c.chunks_exact-chunks.ensures.remainder) c.chunk-2.ensures in
    let e : n ≡ min (length map) c.args.bytes = omega arith in
    let h : n ≤ length map = omega arith in
    counts_past map c.args.bytes c.with.result
    (subst (λ (r : Counted). Counts map 0 (min (length map) c.args.bytes) r) (sym c.with.ensures)
    (subst (λ (k : ℕ). Counts map 0 k (together l.sum c.chunk-2.result)) e (of_map map n (together l.sum c.chunk-2.result) r h)))
