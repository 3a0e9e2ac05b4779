use Rattle.std.specs.Prelude.{ℕ, ◌≡◌, ◌++◌, List, length, take, drop}
use Rattle.std.proofs.Common.{arith, sym, ap, ◌∙◌, length-take-le}
use Rattle.span.specs.Bytes.{splice}
use Rattle.span.specs.Laws.{splice_whole, put_splice}
use Rattle.blockmap.specs.Pairs.{map_bytes}
use Rattle.blockmap.specs.Pack.{packed_first, packed}
use Rattle.blockmap.specs.PackLaws.{packed_length}
use Rattle.building.specs.Steps.{kind_pair}
use Rattle.building.proofs.BuildTold.{bytes_few}
use Rattle.building.proofs.write_map.Goals as goal
use Rattle.building.proofs.write_map.Goals.{After-map_bytes-bytes}

-- as many bytes of the buffer as the map has
size : (c : After-map_bytes-bytes) → length (take c.map_bytes-bytes.result c.args.map.now) ≡ c.map_bytes-bytes.result
size c = length-take-le c.map_bytes-bytes.result c.args.map.now (omega (arith, c.map_bytes-bytes.ensures, c.requires))

pub map_byte-requires : goal.map_byte-requires
map_byte-requires c =
    omega (arith, bytes_few c.args.areas, c.loop-at-test.true, size (goal.at.map_byte-requires c).After-map_bytes-bytes, c.map_bytes-bytes.ensures)

pub returns : goal.returns
unfolding packed
returns c =
    let s = c.args.areas in
    let l = c.loop-at in
    let n : ℕ = c.map_bytes-bytes.result in
    let f : ℕ → ℕ = kind_pair s.patch.now in
    let part : List ℕ = take n c.args.map.now in
    let size_is : length part ≡ n = size (goal.at.returns c).After-map_bytes-bytes in
    let own : length (packed f s.frame.n) ≡ n = packed_length f s.frame.n ∙ sym c.map_bytes-bytes.ensures in
    let q : l.at ≡ map_bytes s.frame.n = omega (arith, l.auto.at-end, c.loop-at-test.false, size_is, c.map_bytes-bytes.ensures) in
    let e : l.byte-items ≡ packed f s.frame.n =
    l.invariant ∙ ap (λ (k : ℕ). splice part 0 (packed_first f s.frame.n k)) q ∙ splice_whole part (packed f s.frame.n) (own ∙ sym size_is) in
    ap (λ (m : List ℕ). m ++ drop n c.args.map.now) e ∙ put_splice 0 n c.args.map.now (packed f s.frame.n) own
