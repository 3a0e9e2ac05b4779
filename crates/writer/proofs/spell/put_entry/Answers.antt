use Prim.Native.Nat.{ℕ, ◌+◌, ◌/◌, ◌%◌}
use mathlib.Core.List.{List}
use mathlib.Core.Path.{◌≡◌, ap, ◌∙◌}
use lib.ListN.{get_or, set}
use native.Mathlib.Omega.{arith}
use Rattle.writer.proofs.Writing.{put_short, put_long}
use Rattle.writer.proofs.spell.put_entry.Goals as goal

pub returns-then-jump : goal.returns-then-jump
returns-then-jump c =
    let a = c.args in
    put_short a.room.now c.put.new.dst c.put-then-jump.new.dst a.used a.jump
    a.value (omega arith) c.put.ensures c.put-then-jump.ensures

pub returns : goal.returns
returns c =
    let a = c.args in
    let digits = c.to_le_bytes-digits in
    let low : get_or digits.result 0 0 ≡ a.jump % 256 = ap (λ (l : List ℕ). get_or l 0 0) digits.ensures in
    let high : get_or digits.result 1 0 ≡ a.jump / 256 % 256 = ap (λ (l : List ℕ). get_or l 1 0) digits.ensures in
    put_long a.room.now c.put-2.new.dst c.put-3.new.dst c.put-4.new.dst c.put-5.new.dst a.used a.jump a.value (omega arith) c.put-2.ensures
    (c.put-3.ensures ∙ ap (λ (v : ℕ). set c.put-2.new.dst (a.used + 1) v) low)
    (c.put-4.ensures ∙ ap (λ (v : ℕ). set c.put-3.new.dst (a.used + 2) v) high)
    c.put-5.ensures
