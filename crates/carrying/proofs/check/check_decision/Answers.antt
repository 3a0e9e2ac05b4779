use native.Mathlib.Omega.{arith}
use mathlib.Core.Path.{◌≡◌, sym, ap, ◌∙◌}
use mathlib.Core.Bool.{false, not, ◌&&◌}
use Prim.Native.Nat.{ℕ, ◌≤◌}
use lib.Dec.{eqb, leb}
use borrow.Author.Tests.{le-leb}
use Rattle.layout.specs.Exits.{left_with}
use Rattle.layout.specs.Sizes.{patch_kind, full_kind}
use Rattle.layout.specs.Numbers.{kind_number}
use Rattle.payload.specs.Entries.{sound}
use Rattle.carrying.specs.Parts.{stored_payload}
use Rattle.carrying.proofs.KindTests.{is_full, kind_few}
use Rattle.carrying.proofs.Decisions.{place_there, kind_above, no_place, wrong_payload, nothing_wrong, stored_few}
use Rattle.carrying.proofs.check.check_decision.Goals as goal
use Rattle.carrying.proofs.check.check_decision.Goals.{In_ok-kind, After-eq, Joined-else-eq}

-- the kind has the number asked
known : (c : In_ok-kind) → c.args.asked.kind ≤ full_kind
known c = omega (arith, c.in_ok-kind.ensures, kind_few c.in_ok-kind.kind)

full_asked : (c : After-eq) → c.eq.result ≡ eqb c.args.asked.kind full_kind
full_asked c = c.eq.ensures ∙ is_full c.in_ok-kind.kind ∙ ap (λ (n : ℕ). eqb n full_kind) c.in_ok-kind.ensures

-- a block with no place is asked for none
placed : (c : Joined-else-eq) → let a = c.args in (eqb a.asked.kind full_kind && leb a.frame.m a.block) ≡ false
placed c =
    let a = c.args in
    let t = c.eq.ensures ∙ is_full c.in_ok-kind.kind ∙ ap (λ (n : ℕ). eqb n full_kind) c.in_ok-kind.ensures in
    rw (← t) (place_there c.eq.result a.frame.m a.block c.else-eq.either)

pub returns-in_err-kind : goal.returns-in_err-kind
returns-in_err-kind c =
    let a = c.args in
    let e = c.in_err-kind.ensures in
    rw (left_with c.from_residual.ensures, e.0) (kind_above a.frame.size a.frame.m a.block a.asked.kind a.asked.payload.now e.1)

pub returns-then-frame-block : goal.returns-then-frame-block
returns-then-frame-block c =
    let g = goal.at.returns-then-frame-block c in
    let a = c.args in
    no_place a.frame.size a.frame.m a.block a.asked.kind a.asked.payload.now (known g.In_ok-kind)
    (rw (← full_asked g.After-eq, c.if-eq.true) (le-leb a.frame.m a.block c.if-frame-block.true))

pub returns-in_err-payload : goal.returns-in_err-payload
returns-in_err-payload c =
    let g = goal.at.returns-in_err-payload c in
    let a = c.args in
    let e = c.in_err-payload.ensures in
    rw (left_with c.from_residual-in_err-payload.ensures, e.0)
    (wrong_payload a.frame.size a.frame.m a.block a.asked.kind a.asked.payload.now (known g.In_ok-kind) (placed g.Joined-else-eq)
    (ap (λ (k : ℕ). eqb k patch_kind && not (sound a.frame.size a.asked.payload.now)) (sym c.in_ok-kind.ensures) ∙ e.1))

pub invariant_of-result : goal.invariant_of-result
invariant_of-result c =
    let a = c.args in
    let e = c.in_ok-payload.ensures in
    record { few = stored_few a.frame.size (kind_number c.in_ok-kind.kind) a.asked.payload.now c.in_ok-payload.payload.now e.0 e.1 }

pub returns : goal.returns
returns c =
    let g = goal.at.returns c in
    let a = c.args in
    let k = c.in_ok-kind.ensures in
    let e = c.in_ok-payload.ensures in (
      nothing_wrong a.frame.size a.frame.m a.block a.asked.kind a.asked.payload.now (known g.In_ok-kind) (placed g.Joined-else-eq)
          (ap (λ (k : ℕ). eqb k patch_kind && not (sound a.frame.size a.asked.payload.now)) (sym k) ∙ e.0),
      λ i. record { kind = k i; payload = (e.1 ∙ ap (λ (n : ℕ). stored_payload n a.asked.payload.now) k) i; page = a.asked.page.now },
    )
