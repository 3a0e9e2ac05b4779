use Rattle.std.proofs.Common.{◌≡◌, ℕ, List, arith, ap, ◌∙◌, length, take}
use Rattle.span.specs.Bytes.{zeros, splice}
use Rattle.span.specs.Laws.{zeros_length}
use Rattle.headers.specs.Head.{fields, image}
use Rattle.headers.specs.FreshLaws.{fresh_is}
use Rattle.headers.proofs.Images.{fields_length}
use Rattle.headers.proofs.head.Head.begin.Goals as goal

pub returns : goal.returns
unfolding image
returns c =
    let a = c.args in
    let h = a.self in
    let n : ℕ = length a.area.now in
    let k : length (fields h a.size) ≡ 20 = fields_length h (omega arith) a.size in
    let e : c.fill.new.dst ≡ zeros n = c.fill.ensures in
    c.copy.ensures
    ∙ ap (λ (l : List ℕ). splice l 0 (take (length l) c.fields.result)) e
    ∙ ap (λ (k : ℕ). splice (zeros n) 0 (take k c.fields.result)) (zeros_length n)
    ∙ ap (λ (l : List ℕ). splice (zeros n) 0 (take n l)) c.fields.ensures
    ∙ fresh_is (fields h a.size) n h.length (omega (arith, h.has_fields))
