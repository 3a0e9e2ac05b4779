use Prim.Native.Nat.{ℕ, ◌+◌, ◌*◌, ◌≤◌}
use native.Mathlib.Omega.{arith}
use lib.ListN.{length as length_of}
use mathlib.Core.Path.{sym, subst, ◌∙◌}
use Rattle.differ.specs.Differ.{chunk}
use Rattle.differ.specs.DifferLaws.{chunk_after_is}
use Rattle.payload.specs.Steps.{farthest}
use Rattle.writer.specs.Steps.{Reached, Unlike}
use Rattle.writer.proofs.Spelling.{Chunk, chunk_reached}
use Rattle.writer.proofs.Chunks.{Marked, marked, marked_few, unlike_at, after}
use Rattle.writer.proofs.pages.Pages.count_rest.Goals as goal
use Rattle.writer.proofs.pages.Pages.count_rest.Goals.{After-excess, After-excess_after, Else-end-at-lt-CHUNK}
use Rattle.writer.proofs.pages.Pages.count_rest.Goals.{After-next_unlike-at, After-next_unlike-mark}

-- the first chunk that differs, and what is known once it is counted
first_at : (c : After-next_unlike-mark)
    → let a = c.args in
    Chunk a.self.base.now a.self.page.now a.from (length_of c.args.self.page.now) c.next_unlike-mark.result a.before
first_at c =
    let a = c.args in
    chunk_reached chunk a.self.base.now a.self.page.now a.from (length_of a.self.page.now) c.next_unlike-mark.result a.before
    (omega arith) (omega arith) c.requires.1 (c.next_unlike-mark.ensures.steps (omega arith))

pub count_each-requires : goal.count_each-requires
count_each-requires c = (first_at (goal.at.count_each-requires c).After-next_unlike-mark).reached

first_marked : (c : After-excess)
    → let a = c.args in
    Chunk a.self.base.now a.self.page.now a.from (length_of c.args.self.page.now) c.next_unlike-mark.result a.before
    → let more : ℕ = c.count_chunk-first.result in
    Marked a.self.base.now a.self.page.now c.next_unlike-mark.result (a.before.used + (c.excess.result + 2 * more)) (a.before.entries + more)
first_marked c at =
    let a = c.args in
    let mark = c.next_unlike-mark in
    marked a.self.base.now a.self.page.now mark.result a.before at.reached
    (unlike_at a.self.base.now a.self.page.now a.from (length_of a.self.page.now) mark.result (omega arith)
    (omega (arith, at.within, c.if-end-mark-lt-CHUNK.false))
    (mark.ensures.steps (omega arith))) c.excess.result c.count_chunk-first.result c.excess.ensures c.count_chunk-first.ensures

first_few : (c : After-excess)
    → let a = c.args in
    Chunk a.self.base.now a.self.page.now a.from (length_of c.args.self.page.now) c.next_unlike-mark.result a.before
    → let more : ℕ = c.count_chunk-first.result in
    (a.before.used + (c.excess.result + 2 * more) ≤ 2 * farthest) × (a.before.entries + more ≤ farthest)
first_few c at =
    let a = c.args in
    let more : ℕ = c.count_chunk-first.result in
    marked_few a.self.base.now a.self.page.now c.next_unlike-mark.result (a.before.used + (c.excess.result + 2 * more)) (a.before.entries + more)
    a.self.near (first_marked c at)

pub overflow_mul-used : goal.overflow_mul-used
overflow_mul-used c =
    let g = goal.at.overflow_mul-used c in
    omega (arith, (first_few g.After-excess (first_at g.After-next_unlike-mark)).0)

pub overflow_add-used : goal.overflow_add-used
overflow_add-used c =
    let g = goal.at.overflow_add-used c in
    omega (arith, (first_few g.After-excess (first_at g.After-next_unlike-mark)).0)

pub overflow_add-used-2 : goal.overflow_add-used-2
overflow_add-used-2 c =
    let g = goal.at.overflow_add-used-2 c in
    omega (arith, (first_few g.After-excess (first_at g.After-next_unlike-mark)).0)

pub overflow_add-entries : goal.overflow_add-entries
overflow_add-entries c =
    let g = goal.at.overflow_add-entries c in
    omega (arith, (first_few g.After-excess (first_at g.After-next_unlike-mark)).1)

pub loop-next-init : goal.loop-next-init
loop-next-init c =
    let g = goal.at.loop-next-init c in
    first_marked g.After-excess (first_at g.After-next_unlike-mark)

-- the next chunk that differs
next_at : (c : After-next_unlike-at)
    → let a = c.args in
    let l = c.loop-next in
    Chunk a.self.base.now a.self.page.now (l.mark + chunk) (length_of c.args.self.page.now) c.next_unlike-at.result
    (after a.self.base.now a.self.page.now l.mark l.used l.entries)
next_at c =
    let a = c.args in
    let l = c.loop-next in
    chunk_reached chunk a.self.base.now a.self.page.now (l.mark + chunk) (length_of a.self.page.now) c.next_unlike-at.result
    (after a.self.base.now a.self.page.now l.mark l.used l.entries)
    (omega (arith, l.invariant.unlike.within_page)) (omega arith) l.invariant.reached (c.next_unlike-at.ensures.steps (omega arith))

pub count_each-requires-then-end-at-lt-CHUNK : goal.count_each-requires-then-end-at-lt-CHUNK
count_each-requires-then-end-at-lt-CHUNK c =
    let a = c.args in
    let l = c.loop-next in
    let old = l.invariant.unlike in
    let q = sym (c.after_chunk-next.ensures ∙ chunk_after_is a.self.base.now a.self.page.now l.mark old.in_base old.within_page) in
    subst (λ (n : ℕ). Reached a.self.base.now a.self.page.now c.next_unlike-at.result (record { used = l.used; entries = l.entries; next = n })) q
    (next_at (goal.at.count_each-requires-then-end-at-lt-CHUNK c).After-next_unlike-at).reached

unlike : (c : Else-end-at-lt-CHUNK)
    → let a = c.args in
    let l = c.loop-next in
    Chunk a.self.base.now a.self.page.now (l.mark + chunk) (length_of c.args.self.page.now) c.next_unlike-at.result
    (after a.self.base.now a.self.page.now l.mark l.used l.entries)
    → Unlike a.self.base.now a.self.page.now c.next_unlike-at.result
unlike c at =
    let a = c.args in
    let next = c.next_unlike-at in
    unlike_at a.self.base.now a.self.page.now (c.loop-next.mark + chunk) (length_of a.self.page.now) next.result (omega arith)
    (omega (
      arith,
      at.within,
      c.if-end-at-lt-CHUNK.false,
    )) (next.ensures.steps (omega arith))

next_marked : (c : After-excess_after)
    → let a = c.args in
    let l = c.loop-next in
    Chunk a.self.base.now a.self.page.now (l.mark + chunk) (length_of c.args.self.page.now) c.next_unlike-at.result
    (after a.self.base.now a.self.page.now l.mark l.used l.entries)
    → Unlike a.self.base.now a.self.page.now c.next_unlike-at.result
    → let more : ℕ = c.count_chunk-more.result in
    Marked a.self.base.now a.self.page.now c.next_unlike-at.result (l.used + (c.excess_after.result + 2 * more)) (l.entries + more)
next_marked c at other =
    let a = c.args in
    let l = c.loop-next in
    marked a.self.base.now a.self.page.now c.next_unlike-at.result (after a.self.base.now a.self.page.now l.mark l.used l.entries)
    at.reached other c.excess_after.result c.count_chunk-more.result c.excess_after.ensures
    c.count_chunk-more.ensures

next_few : (c : After-excess_after)
    → let a = c.args in
    let l = c.loop-next in
    Chunk a.self.base.now a.self.page.now (l.mark + chunk) (length_of c.args.self.page.now) c.next_unlike-at.result
    (after a.self.base.now a.self.page.now l.mark l.used l.entries)
    → Unlike a.self.base.now a.self.page.now c.next_unlike-at.result
    → let more : ℕ = c.count_chunk-more.result in
    (l.used + (c.excess_after.result + 2 * more) ≤ 2 * farthest) × (l.entries + more ≤ farthest)
next_few c at other =
    let a = c.args in
    let l = c.loop-next in
    let more : ℕ = c.count_chunk-more.result in
    marked_few a.self.base.now a.self.page.now c.next_unlike-at.result (l.used + (c.excess_after.result + 2 * more)) (l.entries + more)
    a.self.near (next_marked c at other)

pub overflow_mul-used-in-loop-next : goal.overflow_mul-used-in-loop-next
overflow_mul-used-in-loop-next c =
    let g = goal.at.overflow_mul-used-in-loop-next c in
    omega (arith, (next_few g.After-excess_after (next_at g.After-next_unlike-at) (unlike g.Else-end-at-lt-CHUNK (next_at g.After-next_unlike-at))).0)

pub overflow_add-used-in-loop-next : goal.overflow_add-used-in-loop-next
overflow_add-used-in-loop-next c =
    let g = goal.at.overflow_add-used-in-loop-next c in
    omega (arith, (next_few g.After-excess_after (next_at g.After-next_unlike-at) (unlike g.Else-end-at-lt-CHUNK (next_at g.After-next_unlike-at))).0)

pub overflow_add-used-in-loop-next-2 : goal.overflow_add-used-in-loop-next-2
overflow_add-used-in-loop-next-2 c =
    let g = goal.at.overflow_add-used-in-loop-next-2 c in
    omega (arith, (next_few g.After-excess_after (next_at g.After-next_unlike-at) (unlike g.Else-end-at-lt-CHUNK (next_at g.After-next_unlike-at))).0)

pub overflow_add-entries-in-loop-next : goal.overflow_add-entries-in-loop-next
overflow_add-entries-in-loop-next c =
    let g = goal.at.overflow_add-entries-in-loop-next c in
    omega (arith, (next_few g.After-excess_after (next_at g.After-next_unlike-at) (unlike g.Else-end-at-lt-CHUNK (next_at g.After-next_unlike-at))).1)

pub loop-next-preserved : goal.loop-next-preserved
loop-next-preserved c =
    let g = goal.at.loop-next-preserved c in
    next_marked g.After-excess_after (next_at g.After-next_unlike-at) (unlike g.Else-end-at-lt-CHUNK (next_at g.After-next_unlike-at))
