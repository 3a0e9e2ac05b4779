use Rattle.std.proofs.Common.{arith, sym, ◌∙◌}
use Rattle.headers.proofs.Images.{begun, too_short}
use Rattle.headers.proofs.head.Head.is_in.Goals as goal

pub returns-then-eq : goal.returns-then-eq
returns-then-eq c =
    let a = c.args in
    let f = c.fields-fields in
    let s = c.in-Some.start.now in
    rw (begun a.self a.size a.area.now f.result f.ensures (omega arith) s c.in-Some.ensures.cases.same, sym c.eq.ensures ∙ c.if-eq.true)
    c.zero_part.ensures

pub returns-else-eq : goal.returns-else-eq
returns-else-eq c =
    let a = c.args in
    let f = c.fields-fields in
    let s = c.in-Some.start.now in
    rw (begun a.self a.size a.area.now f.result f.ensures (omega arith) s c.in-Some.ensures.cases.same, sym c.eq.ensures ∙ c.if-eq.false)
    c.if-eq.false

pub returns-in-None : goal.returns-in-None
returns-in-None c =
    let a = c.args in
    let f = c.fields-fields in
    too_short a.self a.size a.area.now f.result f.ensures (omega arith) c.in-None.ensures.cases
