use Prim.Native.Nat.{ℕ, ◌+◌, ◌-◌, ◌≤◌}
use mathlib.Core.Path.{◌≡◌, sym, ap, subst, ◌∙◌}
use native.Mathlib.Omega.{arith}
use lib.IntN.{ℤ, pos, nat_abs}
use lib.ListN.{drop}
use mir.Syntax.{w32}
use mir.Val.{to_z, of_z}
use mir.ValLaws.{to_z-of_z}
use Rattle.payload.specs.Entries.{stream, code}
use Rattle.payload.specs.Positions.{before, before_next}
use Rattle.payload.specs.Steps.{reach, Entered, Passes}
use Rattle.payload.specs.StepLaws.{SoundAs, unsound_told, sound_told}
use Rattle.payload.specs.declared.Step.TheVariants.{End, Broken, Entry}
use Rattle.payload.proofs.Together.{passed_together}
use Rattle.payload.proofs.Turns.{told, index_is, index_in, index_fits, Passed, passed_at, passed_more, passed_all, passed_broken}
use Rattle.payload.proofs.walk.check_entries.Goals as goal
use Rattle.payload.proofs.walk.check_entries.Goals.{After-last-last, In-Some-after_together, In-Entry}

-- a long entry
pub loop-next-preserved-in-Some : goal.loop-next-preserved-in-Some
loop-next-preserved-in-Some c =
    let s = c.args.payload.now in
    let l = c.loop-next in
    let n : ℕ = reach c.args.size in
    let k : ℕ = l.reached.place in
    let to : ℕ = c.in-Some.next in
    let e : Passes c.min-end.result s k l.reached.next 4 to = c.in-Some.ensures in
    let m : Passes n s k l.reached.next 4 to = rw l.invariant.0 at e in
    let q : to - 1 + 1 ≡ to = omega (arith, m.some) in
    let r = c.new-reached-in-Some in (
      l.invariant.0,
      passed_at n s (k + 4) to (l.entries + 1)
          (passed_more n s k (before l.reached.next) l.entries l.invariant.1 (pos (to - 1)) (before to) m.value (k + 4)
          (ap before (sym q) ∙ before_next (to - 1)) m.entered)
          r.result r.ensures.place r.ensures.next,
    )

-- eight short entries at one go
short : (c : In-Some-after_together)
    → let n = reach c.args.size in
    let l = c.loop-next in
    let to = c.in-Some-after_together.next in
    (to ≤ n) × Passed n c.args.payload.now (l.reached.place + 16) (before to) (l.entries + 8)
short c =
    let l = c.loop-next in
    let e = c.in-Some-after_together.ensures in
    passed_together (reach c.args.size) c.args.payload.now l.reached.place l.reached.next l.entries l.invariant.1 c.in-Some-after_together.next
    (rw l.invariant.0 at e)

pub new-reached-requires-in-Some-after_together : goal.new-reached-requires-in-Some-after_together
new-reached-requires-in-Some-after_together c =
    omega (arith, (short (goal.at.new-reached-requires-in-Some-after_together c).In-Some-after_together).0)

pub loop-next-smaller-in-Some-after_together : goal.loop-next-smaller-in-Some-after_together
loop-next-smaller-in-Some-after_together c =
    omega (
      arith,
      c.new-reached-in-Some-after_together.ensures.place,
      (short (goal.at.loop-next-smaller-in-Some-after_together c).In-Some-after_together).1.on,
    )

pub loop-next-preserved-in-Some-after_together : goal.loop-next-preserved-in-Some-after_together
loop-next-preserved-in-Some-after_together c =
    let l = c.loop-next in
    let r = c.new-reached-in-Some-after_together in (
      l.invariant.0,
      passed_at (reach c.args.size) c.args.payload.now (l.reached.place + 16) c.in-Some-after_together.next (l.entries + 8)
          (short (goal.at.loop-next-preserved-in-Some-after_together c).In-Some-after_together).1 r.result r.ensures.place r.ensures.next,
    )

-- where the step looked from
looked : (c : After-last-last) → to_z w32 (of_z w32 c.last-last.result) ≡ before c.loop-next.reached.next
looked c = to_z-of_z w32 c.last-last.result (record { sfits = c.last-last.type_inv }) ∙ c.last-last.ensures

pub returns-in-End : goal.returns-in-End
returns-in-End c =
    let from = looked (goal.at.returns-in-End c).After-last-last in
    let s = c.args.payload.now in
    let l = c.loop-next in
    let n : ℕ = reach c.args.size in
    let p : ℤ = to_z w32 (of_z w32 c.last-last.result) in
    let k : ℕ = l.reached.place in
    let q : ℤ = before l.reached.next in
    sound_told n s (record { entries = l.entries; last = p })
    (subst (SoundAs n s l.entries) (sym from)
    (passed_all n s k q l.entries l.invariant.1 (omega arith) (omega arith) (told n s k q p End from c.in-End.ensures)))

pub returns-in-Broken : goal.returns-in-Broken
returns-in-Broken c =
    let from = looked (goal.at.returns-in-Broken c).After-last-last in
    let s = c.args.payload.now in
    let l = c.loop-next in
    let n : ℕ = reach c.args.size in
    let k : ℕ = l.reached.place in
    let q : ℤ = before l.reached.next in
    unsound_told n s (record { offset = k })
    (passed_broken n s k q l.entries l.invariant.1 (omega arith)
    (told n s k q (to_z w32 (of_z w32 c.last-last.result)) Broken from c.in-Broken.ensures))

entered : (c : In-Entry) → to_z w32 (of_z w32 c.last-last.result) ≡ before c.loop-next.reached.next
    → let s = c.args.payload.now in
    let n = reach c.args.size in
    let l = c.loop-next in
    Entered n s l.reached.place (stream n (before l.reached.next) code (drop l.reached.place s)) c.in-Entry.position c.in-Entry.value c.in-Entry.next
entered c from =
    let l = c.loop-next in
    told (reach c.args.size) c.args.payload.now l.reached.place (before l.reached.next) (to_z w32 (of_z w32 c.last-last.result))
    (Entry c.in-Entry.position c.in-Entry.value c.in-Entry.next) from c.in-Entry.ensures

pub overflow_cast-position : goal.overflow_cast-position
overflow_cast-position c =
    let g = goal.at.overflow_cast-position c in
    index_fits (reach c.args.size) c.in-Entry.position (omega arith) (entered g.In-Entry (looked g.After-last-last)).lands

pub new-reached-requires-in-Entry : goal.new-reached-requires-in-Entry
new-reached-requires-in-Entry c =
    let g = goal.at.new-reached-requires-in-Entry c in
    omega (arith, index_in (reach c.args.size) c.in-Entry.position (omega arith) (entered g.In-Entry (looked g.After-last-last)).lands)

pub loop-next-preserved : goal.loop-next-preserved
loop-next-preserved c =
    let g = goal.at.loop-next-preserved c in
    let s = c.args.payload.now in
    let l = c.loop-next in
    let n : ℕ = reach c.args.size in
    let q : ℤ = c.in-Entry.position in
    let k : ℕ = nat_abs (to_z w32 (of_z w32 q)) in
    let m = entered g.In-Entry (looked g.After-last-last) in
    let r = c.new-reached-in-Entry in (
      l.invariant.0,
      passed_at n s c.in-Entry.next (k + 1) (l.entries + 1)
          (passed_more n s l.reached.place (before l.reached.next) l.entries l.invariant.1 q (before (k + 1)) c.in-Entry.value c.in-Entry.next
          (before_next k ∙ index_is n q (omega arith) m.lands) m)
          r.result r.ensures.place r.ensures.next,
    )
