use Rattle.std.proofs.Common.{◌≡◌, ℕ, List, arith, sym, ap, length, ◌/◌, ◌++◌}
use Rattle.headers.specs.Head.{fields}
use Rattle.headers.proofs.Images.{eight}
use Rattle.layout.specs.Numbers.{le}
use Rattle.headers.proofs.head.Head.fields.Goals as goal

pub returns : goal.returns
unfolding fields le
returns c =
    let a = c.args in
    let h = a.self in
    let m : length h.magic ≡ 8 = omega arith in
    let p : a.size / 65536 ≡ a.size / 256 / 256 = omega arith in
    let q : a.size / 16777216 ≡ a.size / 256 / 256 / 256 = omega arith in
    let s : h.slot_size / 65536 ≡ h.slot_size / 256 / 256 = omega arith in
    let t : h.slot_size / 16777216 ≡ h.slot_size / 256 / 256 / 256 = omega arith in
    rw (c.to_le_bytes-version.ensures, c.to_le_bytes-flags.ensures, c.to_le_bytes-page.ensures, c.to_le_bytes-slot.ensures, p, q, s, t)
    (sym (ap (λ (l : List ℕ). l ++ (le 2 h.version ++ (le 2 0 ++ (le 4 a.size ++ le 4 h.slot_size)))) (eight h.magic m)))
