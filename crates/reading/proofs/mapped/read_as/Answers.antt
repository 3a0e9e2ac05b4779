use Rattle.std.specs.Prelude.{ℕ, ◌≡◌}
use Rattle.std.proofs.Common.{arith, sym, ◌∙◌, subst}
use Rattle.stream.specs.Calls.{page_of}
use Rattle.stream.specs.Laws.{base_some}
use Rattle.reading.specs.Parts.{kind_outcome, KindRead}
use Rattle.reading.specs.Read.{read_done}
use Rattle.reading.specs.MappedLaws.{kind_empty, place_as}
use Rattle.reading.proofs.Pages.{copied_page}
use Rattle.reading.proofs.mapped.read_as.Goals as goal

pub returns-in-Empty : goal.returns-in-Empty
returns-in-Empty c =
    let a = c.args in
    let s = a.areas in
    let P : ℕ = s.frame.size in
    let e : kind_outcome 0 P s.patch.now s.full.now a.block a.base.now a.page.now ≡ read_done 0 (page_of P a.base.now) =
    kind_empty P s.patch.now s.full.now a.block a.base.now a.page.now in
    rw c.in-Empty.is
    (record {
      numbers = rw e;
      bytes =
          rw e
          (copied_page P a.page.now a.base.now c.copy.new.dst c.requires.1 c.requires.0 c.copy.ensures
          ∙ sym (base_some P a.base.now (λ q. omega (arith, c.requires.0, s.sized.0))));
    })

pub returns-in-Patch : goal.returns-in-Patch
returns-in-Patch c =
    let a = c.args in
    let r = c.read_slot in
    rw c.in-Patch.is
    (subst (λ (P : ℕ). KindRead 1 P a.areas.patch.now a.areas.full.now a.block a.base.now a.page.now r.result r.new.page) c.requires.1
    (r.ensures a.areas.full.now))

pub returns-in-Full : goal.returns-in-Full
returns-in-Full c =
    let a = c.args in
    let s = a.areas in
    let r = c.read_place in
    rw c.in-Full.is (place_as s.frame.size s.patch.now s.full.now a.block a.base.now a.page.now r.result r.new.page r.ensures)
