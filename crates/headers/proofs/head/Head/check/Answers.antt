use Rattle.std.proofs.Common.{◌≡◌, ℕ, List, arith, sym, ap, ◌∙◌, ◌/◌, length}
use Rattle.layout.specs.Exits.{left_with}
use Rattle.headers.specs.declared.head.Head.{Head}
use Rattle.span.specs.Bytes.{part}
use Rattle.layout.specs.Refusals.{first_of, or_else}
use Rattle.layout.specs.RefusalLaws.{or_skip, or_some}
use Rattle.layout.specs.Numbers.{refusal_number}
use Rattle.layout.specs.NumberLaws.{refusal_some}
use Rattle.span.specs.Laws.{same_is}
use Rattle.headers.specs.Head.{image}
use Rattle.headers.specs.Headers.{head_rows}
use Rattle.headers.specs.Stored.{stored_size, size_rows}
use Rattle.headers.specs.StoredLaws.{same_rule}
use Rattle.headers.specs.Meaning.{head_like}
use Rattle.headers.proofs.Images.{imaged}
use Rattle.headers.proofs.head.Head.check.Goals as goal

pub returns-then-is_in : goal.returns-then-is_in
returns-then-is_in c =
    let a = c.args in
    let h = a.self in
    let i = imaged h (omega arith) in
    sym (head_like (image h a.size) a.area.now h.length (i.long a.size) (omega (arith, h.has_fields))
    (same_is (part 0 h.length a.area.now) (image h a.size) (sym c.is_in.ensures ∙ c.if-is_in.true)))

-- the rows by the call's size, as those by the own image and then the size's
rule : (h : Head) (P : ℕ) (area : List ℕ) → length h.magic ≡ 8 → P / 256 / 256 / 256 / 256 ≡ 0
    → first_of (head_rows (image h P) h.length area)
    ≡ or_else (first_of (head_rows (image h (stored_size area)) h.length area)) (first_of (size_rows P area))
rule h P area m fits = same_rule (image h) h.length (imaged h m) area P fits

pub returns-in_err-check_image : goal.returns-in_err-check_image
returns-in_err-check_image c =
    let a = c.args in
    let r = c.in_err-check_image.field-0.0 in
    let next : ℕ = first_of (size_rows a.size a.area.now) in
    rw (left_with c.from_residual.ensures)
    (sym (rule a.self a.size a.area.now (omega arith) (omega arith)
    ∙ ap (λ (n : ℕ). or_else (first_of (head_rows (image a.self n) a.self.length a.area.now)) next) (sym c.stored_size.ensures)
    ∙ ap (λ (n : ℕ). or_else n next) (sym c.in_err-check_image.ensures)
    ∙ or_some (refusal_number r) next (refusal_some r)))

pub returns : goal.returns
returns c =
    let a = c.args in
    let next : ℕ = first_of (size_rows a.size a.area.now) in
    c.check_size.ensures
    ∙ sym (rule a.self a.size a.area.now (omega arith) (omega arith)
    ∙ ap (λ (n : ℕ). or_else (first_of (head_rows (image a.self n) a.self.length a.area.now)) next) (sym c.stored_size.ensures)
    ∙ or_skip (first_of (head_rows (image a.self c.stored_size.result) a.self.length a.area.now)) next (sym c.in_ok-check_image.ensures))
