use Rattle.std.specs.Prelude.{ℕ, ◌≡◌}
use Rattle.std.proofs.Common.{arith, sym, ◌∙◌}
use Rattle.store.specs.Open.{FrameNumbers}
use Rattle.store.specs.OpenLaws.{Framed, nothing_wrong, open_done}
use Rattle.store.proofs.frame.open.Goals as goal
use Rattle.store.proofs.frame.open.Goals.{In_ok-check_frame}

-- the numbers of a frame, from those of its areas
numbered : {P x y n m : ℕ} → x ≡ y → n ≡ m
    → ◌≡◌ {A = FrameNumbers} (record { number = 0; size = P; n = x; m = n }) (record { number = 0; size = P; n = y; m = m })
numbered e f = cc

-- where nothing was found, the frame is sound
framed : (c : In_ok-check_frame)
    → let a = c.args in
    Framed a.size a.pages_fit a.buffer_fits a.patch.now a.full.now
framed c =
    let a = c.args in
    nothing_wrong a.size a.pages_fit a.buffer_fits a.patch.now a.full.now (sym c.in_ok-check_frame.ensures)

pub overflow_cast-result : goal.overflow_cast-result
overflow_cast-result c = omega (arith, c.blocks-2.ensures, (framed (goal.at.overflow_cast-result c).In_ok-check_frame).few_blocks)

pub overflow_cast-result-2 : goal.overflow_cast-result-2
overflow_cast-result-2 c = omega (arith, c.pages.ensures, (framed (goal.at.overflow_cast-result-2 c).In_ok-check_frame).few_places)

pub returns : goal.returns
returns c =
    let a = c.args in
    numbered c.blocks-2.ensures c.pages.ensures
    ∙ sym (open_done a.size a.pages_fit a.buffer_fits a.patch.now a.full.now (framed (goal.at.returns c).In_ok-check_frame).none)
