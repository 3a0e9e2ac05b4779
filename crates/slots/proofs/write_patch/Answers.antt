use Rattle.std.proofs.Common.{ℕ, ◌+◌, ◌-◌, ◌/◌, ◌%◌, List, ◌≡◌, ◌∙◌, ap, arith, length, get_or}
use Rattle.std.proofs.Math.ListN.{set, length-set}
use Rattle.span.specs.Laws.{put_copied}
use Rattle.slots.specs.SlotLaws.{patch_laid}
use Rattle.layout.specs.Sizes.{slot_size}
use Rattle.span.specs.Bytes.{zeros}
use Rattle.slots.proofs.write_patch.Goals as goal

pub returns : goal.returns
returns c =
    let p : List ℕ = c.args.payload.now in
    let n : ℕ = length p in
    let f = c.fill in
    let e : f.new.dst ≡ zeros slot_size = f.ensures ∙ ap (λ (k : ℕ). zeros k) c.requires.0 in
    let lo : get_or c.to_le_bytes.result 0 0 ≡ n % 256 = ap (λ (b : List ℕ). get_or b 0 0) c.to_le_bytes.ensures in
    let hi : get_or c.to_le_bytes.result 1 0 ≡ n / 256 % 256 = ap (λ (b : List ℕ). get_or b 1 0) c.to_le_bytes.ensures in
    let w : List ℕ = set (set (set (set f.new.dst 0 1) 1 1) 2 (get_or c.to_le_bytes.result 0 0)) 3 (get_or c.to_le_bytes.result 1 0) in
    let lf : length f.new.dst ≡ slot_size = f.auto.dst ∙ c.requires.0 in
    let lw : length w ≡ slot_size = simp length-set lf in
    let q : n ≡ 8 + n - 8 = omega arith in
    put_copied 8 (8 + n - 8) w c.copy.new.dst p q (omega arith) c.copy.ensures
    ∙ rw (e, lo, hi) (patch_laid p c.requires.1)
