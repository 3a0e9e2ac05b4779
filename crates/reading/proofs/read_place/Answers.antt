use Rattle.std.specs.Prelude.{length}
use Rattle.std.proofs.Common.{arith, ◌∙◌}
use Rattle.layout.specs.Lengths.{pages_in}
use Rattle.reading.proofs.Pages.{copied_page}
use borrow.Author.Tests.{lt-ltb}
use Rattle.reading.proofs.read_place.Goals as goal

pub returns : goal.returns
returns c =
    let s = c.args.areas in
    let page = c.args.page.now in
    let found = c.in-Some.ensures.some in
    let e = lt-ltb c.args.block (pages_in s.frame.size (length s.full.now)) (omega (arith, found.0, s.places)) in
    record {
      numbers = rw e;
      bytes = rw e (copied_page s.frame.size page c.in-Some.place.now c.copy.new.dst c.requires found.2 c.copy.ensures ∙ found.1);
    }
