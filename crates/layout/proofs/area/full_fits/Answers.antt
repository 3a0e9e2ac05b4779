use Prim.Native.Nat.{ℕ}
use mathlib.Core.Path.{◌≡◌, sym, ap, ◌∙◌}
use native.Mathlib.Omega.{arith}
use mathlib.Core.Bool.{Bool, true, false, ◌&&◌, and-true, and-false}
use lib.Dec.{eqb, leb}
use borrow.Author.Tests.{eq-eqb, ne_eqb, le-leb, lt-leb}
use Rattle.layout.specs.Sizes.{page_at}
use Rattle.layout.specs.Lengths.{full_fits, pages_in}
use Rattle.layout.proofs.area.full_fits.Goals as goal

pub returns-then-full_length-eq0 : goal.returns-then-full_length-eq0
unfolding full_fits
returns-then-full_length-eq0 c = rw (eq-eqb c.args.full_length 0 c.if-full_length-eq0.true)

pub returns-then-full_length-lt-FULL_HEAD : goal.returns-then-full_length-lt-FULL_HEAD
unfolding full_fits
returns-then-full_length-lt-FULL_HEAD c =
    let a = c.args in
    rw (ne_eqb a.full_length 0 c.if-full_length-eq0.false, ne_eqb a.full_length (page_at a.size (pages_in a.size a.full_length)) (λ q. omega arith))

pub returns-then-n-m : goal.returns-then-n-m
unfolding full_fits
returns-then-n-m c =
    let a = c.args in
    let l : ℕ = a.full_length in
    let m : ℕ = pages_in a.size l in
    let f : leb m a.n ≡ false = lt-leb m a.n (omega (arith, c.pages-m.ensures)) in
    rw (ne_eqb l 0 c.if-full_length-eq0.false) (sym (ap (λ (t : Bool). eqb l (page_at a.size m) && t) f ∙ and-false (eqb l (page_at a.size m))))

pub returns : goal.returns
unfolding full_fits
returns c =
    let a = c.args in
    let l : ℕ = a.full_length in
    let m : ℕ = pages_in a.size l in
    let f : leb m a.n ≡ true = le-leb m a.n (omega (arith, c.pages-m.ensures)) in
    rw (ne_eqb l 0 c.if-full_length-eq0.false)
    (ap (λ (k : ℕ). eqb l k) c.page_at.ensures
    ∙ ap (λ (k : ℕ). eqb l (page_at a.size k)) c.pages-m.ensures
    ∙ sym (ap (λ (t : Bool). eqb l (page_at a.size m) && t) f ∙ and-true (eqb l (page_at a.size m))))
