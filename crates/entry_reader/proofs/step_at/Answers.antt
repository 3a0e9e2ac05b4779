use native.Mathlib.Omega.{arith}
use mathlib.Core.Path.{refl, sym}
use lib.ListN.{length}
use borrow.Author.Tests.{eqb-true, eqb-false}
use Rattle.payload.specs.Steps.{reach}
use Rattle.payload.specs.declared.Step.TheVariants.{End, Broken}
use Rattle.entry_reader.specs.TurnLaws.{room_empty, room_long, room_some}
use Rattle.entry_reader.proofs.Answers.{unfit, ended, outside, stepped, entered}
use Rattle.entry_reader.proofs.step_at.Goals as goal
use Rattle.entry_reader.proofs.step_at.Goals.{then-is_empty-via-then-is_empty, then-is_empty-via-else-is_empty+then-payload-gt-ROOM}

pub returns-then-is_empty : goal.returns-then-is_empty
returns-then-is_empty c =
    let a = c.args in
    let s = a.payload.now in
    elim c.then-is_empty.branch [
      | then-is_empty-via-then-is_empty w ↦
          unfit (reach a.size) s a.at a.position c.ranges.position _ (room_empty s (eqb-true (length s) 0 (sym w.if-is_empty.ensures))) refl
      | then-is_empty-via-else-is_empty+then-payload-gt-ROOM w ↦
          unfit (reach a.size) s a.at a.position c.ranges.position _ (room_long s w.if-payload-gt-ROOM.true) refl
    ]

pub returns-then-payload-at : goal.returns-then-payload-at
returns-then-payload-at c =
    let a = c.args in
    let s = a.payload.now in
    ended (reach a.size) s a.at a.position c.ranges.position _
    (room_some s (omega (arith, eqb-false (length s) 0 (sym c.if-is_empty.ensures))) (omega arith)) (omega arith) refl

pub returns-then-not-stands : goal.returns-then-not-stands
returns-then-not-stands c =
    let a = c.args in
    let on = c.stands in
    outside (reach a.size) a.payload.now a.at a.position c.ranges.position _
    (room_some a.payload.now (omega arith) (omega arith)) on.result on.ensures
    (omega arith) c.if-not-stands.true refl

pub returns-in-End : goal.returns-in-End
returns-in-End c =
    let a = c.args in
    let on = c.stands in
    let step = c.step in
    stepped (reach a.size) a.payload.now a.at a.position c.ranges.position _
    (room_some a.payload.now (omega arith) (omega arith)) on.result on.ensures
    c.if-not-stands.false step.result End c.in-End.is step.ensures refl

pub returns-in-Broken : goal.returns-in-Broken
returns-in-Broken c =
    let a = c.args in
    let on = c.stands in
    let step = c.step in
    stepped (reach a.size) a.payload.now a.at a.position c.ranges.position _
    (room_some a.payload.now (omega arith) (omega arith)) on.result on.ensures
    c.if-not-stands.false step.result Broken c.in-Broken.is step.ensures refl

pub returns-in-Entry : goal.returns-in-Entry
returns-in-Entry c =
    let a = c.args in
    let on = c.stands in
    let step = c.step in
    entered (reach a.size) a.payload.now a.at a.position c.ranges.position _
    (room_some a.payload.now (omega arith) (omega arith)) on.result on.ensures
    (omega arith) c.if-not-stands.false step.result c.in-Entry.to c.in-Entry.value c.in-Entry.next c.in-Entry.is step.ensures refl
