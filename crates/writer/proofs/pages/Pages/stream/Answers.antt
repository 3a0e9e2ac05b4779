use native.Mathlib.Omega.{arith}
use lib.ListN.{length as length_of}
use mathlib.Core.Path.{◌≡◌}
use Rattle.differ.specs.Differ.{stride}
use Rattle.writer.proofs.Writing.{stored_none}
use Rattle.writer.proofs.Spelling.{reached_none, Chunk, chunk_reached, spelled_all}
use Rattle.writer.proofs.pages.Pages.stream.Goals as goal
use Rattle.writer.proofs.pages.Pages.stream.Goals.{After-next_unlike-at}

pub loop-at-init : goal.loop-at-init
loop-at-init c =
    let a = c.args in
    let s = c.default-s in
    let none : s.result ≡ record { used = 0; entries = 0; next = 0 } =
    λ i. record { used = s.ensures.0 i; entries = s.ensures.1.0 i; next = s.ensures.1.1 i } in
    rw none (omega arith, reached_none a.self.base.now a.self.page.now, stored_none a.self.base.now a.self.page.now a.room.now)

-- where the next chunk is that differs
chunk_at : (c : After-next_unlike-at)
    → let a = c.args in
    let l = c.loop-at in
    Chunk a.self.base.now a.self.page.now l.at (length_of a.self.page.now) c.next_unlike-at.result l.s
chunk_at c =
    let a = c.args in
    let l = c.loop-at in
    chunk_reached stride a.self.base.now a.self.page.now l.at (length_of a.self.page.now) c.next_unlike-at.result l.s l.invariant.0 (omega arith)
    l.invariant.1 (c.next_unlike-at.ensures.steps (omega arith))

pub spell_tail-requires : goal.spell_tail-requires
spell_tail-requires c =
    let at = chunk_at (goal.at.spell_tail-requires c).After-next_unlike-at in
    (at.within, at.reached)

pub returns-then-end-at-lt-STRIDE : goal.returns-then-end-at-lt-STRIDE
returns-then-end-at-lt-STRIDE c =
    let a = c.args in
    let l = c.loop-at in
    let tail = c.spell_tail in
    spelled_all a.self.base.now a.self.page.now (length_of a.self.page.now) tail.result tail.ensures.0 c.found.result c.found.ensures (omega arith)
    a.room.now tail.new.room (tail.ensures.1.1 a.room.now l.invariant.2)

pub count_rest-requires : goal.count_rest-requires
count_rest-requires c =
    let at = chunk_at (goal.at.count_rest-requires c).After-next_unlike-at in
    (at.within, at.reached)

pub spell_chunk-s-requires : goal.spell_chunk-s-requires
spell_chunk-s-requires c =
    let at = chunk_at (goal.at.spell_chunk-s-requires c).After-next_unlike-at in
    (omega (arith, at.within), at.reached)
