use native.Mathlib.Omega.{arith}
use mathlib.Core.Path.{◌≡◌, sym, ap, ◌∙◌}
use lib.ListN.{length}
use borrow.Author.Rules.{rules}
use Rattle.layout.specs.Lengths.{pages_in}
use Rattle.carrying.specs.Parts.{decision_stored}
use Rattle.carrying.proofs.Making.{places_kept, none_told, one_told, both_told, due_first, due_after}
use Rattle.carrying.proofs.stores.store_first.Goals as goal

pub returns-then-stores-eq0 : goal.returns-then-stores-eq0
returns-then-stores-eq0 c =
    let a = c.args in
    none_told a.frame.size a.block (decision_stored a.stored) a.patch.now a.full.now a.stores c.if-stores-eq0.true

pub returns-then-stores-eq1 : goal.returns-then-stores-eq1
returns-then-stores-eq1 c =
    let a = c.args in
    one_told a.frame.size a.block (decision_stored a.stored) a.patch.now a.full.now _ (search rules) _ _ c.one_store.ensures
    a.stores c.if-stores-eq1.true

pub one_store-requires : goal.one_store-requires
one_store-requires c =
    let a = c.args in record {
      lent = c.requires;
      due = due_first a.frame.size a.block (decision_stored a.stored) a.patch.now a.full.now _ (search rules);
    }

pub one_store-requires-2 : goal.one_store-requires-2
one_store-requires-2 c =
    let a = c.args in
    let n : length c.one_store.new.full ≡ length a.full.now = c.one_store.auto.full in
    let there = places_kept a.frame.size a.full.now c.one_store.new.full n c.requires.full_area.1 in record {
      lent = record {
        sized = c.requires.sized;
        slot_within = omega (arith, c.requires.slot_within, c.one_store.auto.patch);
        full_area = (c.requires.full_area.0 ∙ ap (pages_in a.frame.size) (sym n), there);
        page_lent = c.requires.page_lent;
      };
      due =
          due_after a.frame.size a.block (decision_stored a.stored) a.patch.now a.full.now _ _ _ c.requires.slot_within (search rules)
          c.requires.full_area.1 c.requires.page_lent c.one_store.ensures;
    }

pub returns : goal.returns
returns c =
    let a = c.args in
    both_told a.frame.size a.block (decision_stored a.stored) a.patch.now a.full.now _ (search rules) _ _ c.one_store.ensures
    a.stores c.if-stores-eq0.false c.if-stores-eq1.false _ _ c.one_store-2.ensures
