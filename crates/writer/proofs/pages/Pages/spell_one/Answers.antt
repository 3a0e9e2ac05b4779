use Prim.Native.Nat.{◌+◌}
use native.Mathlib.Omega.{arith}
use mathlib.Core.Path.{refl}
use Rattle.writer.specs.declared.Spelled.{Spelled}
use Rattle.writer.proofs.Spelling.{spells_none, reached_one, spells_one}
use Rattle.writer.proofs.pages.Pages.spell_one.Goals as goal

pub returns : goal.returns
returns c =
    let a = c.args in
    let most = c.requires in
    let put = c.put_entry in
    let r : Spelled = record { used = put.result; entries = a.before.entries + 1; next = a.at + 1 } in (
      reached_one a.self.base.now a.self.page.now a.at a.before most.2 a.at most.1 (omega arith) most.0 a.room.now put.new.room r
          (put.ensures, refl, refl),
      spells_one a.self.base.now a.self.page.now a.at a.before most.2 a.at most.1 (omega arith) most.0 a.room.now put.new.room r
          (put.ensures, refl, refl) a.before a.room.now (spells_none a.self.base.now a.self.page.now a.room.now a.before),
    )
