use Rattle.std.proofs.Common.{◌≡◌, ℕ, List, arith, ap, ◌∙◌, take, min, ◌-◌, length}
use Rattle.std.specs.Int.{w32, from_le_bytes}
use Rattle.span.specs.Bytes.{zeros, part, splice}
use Rattle.span.specs.Laws.{part_short}
use Rattle.headers.specs.Stored.{stored_size}
use Rattle.headers.proofs.Images.{read}
use Rattle.headers.proofs.stored_size.Goals as goal

pub returns : goal.returns
unfolding stored_size zeros
returns c =
    let xs : List ℕ = c.args.area.now in
    let s : length (part 12 4 xs) ≡ min 4 (length xs - 12) = part_short 12 4 xs in
    c.from_le_bytes.ensures
    ∙ ap (λ (l : List ℕ). from_le_bytes w32 l) (c.copy.ensures ∙ ap (λ (l : List ℕ). splice (zeros 4) 0 (take 4 l)) c.part.ensures.bytes)
    ∙ read (part 12 4 xs) (omega arith)
