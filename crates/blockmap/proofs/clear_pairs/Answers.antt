use Prim.Native.Nat.{ℕ, ◌+◌, ◌-◌, ◌/◌, ◌≤◌}
use native.Mathlib.Omega.{arith}
use mathlib.Core.Path.{◌≡◌, refl, ap, ◌∙◌}
use lib.ListN.{length}
use borrow.Author.Tests.{le-leb}
use Rattle.span.specs.Laws.{put_filled}
use Rattle.blockmap.specs.Pairs.{map_bytes}
use Rattle.blockmap.specs.ClearLaws.{clear_length, cleared_by_bytes}
use Rattle.blockmap.proofs.clear_pairs.Goals as goal
use Rattle.blockmap.proofs.clear_pairs.Goals.{After-slice_known-2-1, Else-map-map_bytes}

-- a map of all these blocks
long : (c : Else-map-map_bytes) → let a = c.args in map_bytes a.to ≤ length a.map.now
long c = omega (arith, c.map_bytes.ensures, c.if-map-map_bytes.false)

reach : (c : After-slice_known-2-1)
    → let a = c.args in
    map_bytes a.to ≤ length a.map.now → a.to / 4 ≤ length c.clear_each-2.new.map
unfolding map_bytes
reach c h =
    let a = c.args in
    let size : length c.clear_each-2.new.map ≡ length a.map.now = ap length c.clear_each-2.ensures ∙ clear_length a.map.now _ _ in
    omega arith

pub slice_bounds-fill-end : goal.slice_bounds-fill-end
slice_bounds-fill-end c =
    let g = goal.at.slice_bounds-fill-end c in
    reach g.After-slice_known-2-1 (long g.Else-map-map_bytes)

pub returns : goal.returns
returns c =
    let g = goal.at.returns c in
    let a = c.args in
    let f = c.fill in
    let first : ℕ = c.map_bytes-first.result in
    let h : map_bytes a.to ≤ length a.map.now = long g.Else-map-map_bytes in
    let some : first ≤ a.to / 4 = omega (arith, c.if-last-first.false) in
    let fits : first + (a.to / 4 - first) ≤ length c.clear_each-2.new.map = omega (arith, reach g.After-slice_known-2-1 h) in
    rw (le-leb (map_bytes a.to) (length a.map.now) h)
    (cleared_by_bytes a.map.now c.clear_each-2.new.map _ _ a.from a.to first (a.to / 4) h
    c.map_bytes-first.ensures refl some c.clear_each-2.ensures
    (put_filled first (a.to / 4 - first) c.clear_each-2.new.map f.new.dst fits f.ensures)
    c.clear_each-3.ensures)
