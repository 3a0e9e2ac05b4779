-- The exported calls on pages and payloads: from the answer beneath to the struct, and no second outcome.
use Rattle.std.specs.Prelude.{ℕ, ◌≡◌, List, ℤ, Result}
use Rattle.std.proofs.Common.{sym, ap, ◌∙◌}
use Rattle.stream.specs.Calls.{compared_numbers, Compare, applied_numbers, Apply}
use Rattle.entry_reader.specs.Turns.{turn_numbers, turn_at, Turned}
use Rattle.entry_reader.specs.declared.Turn.{Turn}
use Rattle.stream.specs.declared.Compared.{Compared}
use Rattle.layout.specs.declared.Refusal.{Refusal}
use Rattle.layout.specs.declared.RefusedAt.{RefusedAt}
use Rattle.payload.specs.declared.Sound.{Sound}
use Rattle.thonxiliko.specs.declared.thx_compared.{thx_compared}
use Rattle.thonxiliko.specs.declared.thx_applied.{thx_applied}
use Rattle.thonxiliko.specs.declared.thx_entry.{thx_entry}
use Rattle.thonxiliko.specs.Pages.{compared_members, ThxCompare, applied_members, ThxApply, entry_members, ThxNext}

-- a struct that holds the numbers of the answer beneath is as good as that answer

pub compare_held : {P : ℕ} {base page buffer after : List ℕ} {a : Result Compared Refusal} {r : thx_compared}
    → Compare P base page buffer a after → compared_members r ≡ compared_numbers a → ThxCompare P base page buffer r after
compare_held f e = record { numbers = e ∙ f.numbers; bytes = f.bytes }

pub apply_held : {P : ℕ} {base payload page after : List ℕ} {a : Result Sound RefusedAt} {r : thx_applied}
    → Apply P base payload page a after → applied_members r ≡ applied_numbers a → ThxApply P base payload page r after
apply_held f e = record { numbers = e ∙ f.numbers; bytes = f.bytes }

-- the position is read back from its bits
pub next_held : {P : ℕ} {payload : List ℕ} {at : ℕ} {position z : ℤ} {t : Turn} {r : thx_entry} → z ≡ position
    → Turned P payload at z t → entry_members r ≡ turn_numbers t → ThxNext P payload at position r
next_held {P} {payload} {at} q f e =
    record { numbers = e ∙ ap turn_numbers f.turn ∙ ap (λ (p : ℤ). turn_numbers (turn_at P payload at p)) q }

-- no second outcome meets a call's promise

pub compare_only : {P : ℕ} {base page buffer p q : List ℕ} {r s : thx_compared}
    → ThxCompare P base page buffer r p → ThxCompare P base page buffer s q → (r ≡ s) × (p ≡ q)
compare_only {P} {base} {page} {buffer} {p} {q} {r} {s} x y =
    let e : compared_members r ≡ compared_members s = x.numbers ∙ sym y.numbers in (
      λ i. record { number = (e i).number; kind = (e i).kind; length = (e i).length; entries = (e i).entries; last = (e i).last },
      x.bytes
          ∙ sym y.bytes,
    )

pub apply_only : {P : ℕ} {base payload page p q : List ℕ} {r s : thx_applied}
    → ThxApply P base payload page r p → ThxApply P base payload page s q → (r ≡ s) × (p ≡ q)
apply_only {P} {base} {payload} {page} {p} {q} {r} {s} x y =
    let e : applied_members r ≡ applied_members s = x.numbers ∙ sym y.numbers in
    (λ i. record { number = (e i).number; entries = (e i).entries; last = (e i).last; offset = (e i).offset }, x.bytes ∙ sym y.bytes)

pub next_only : {P : ℕ} {payload : List ℕ} {at : ℕ} {position : ℤ} {r s : thx_entry}
    → ThxNext P payload at position r → ThxNext P payload at position s → r ≡ s
next_only {P} {payload} {at} {position} {r} {s} x y =
    let e : entry_members r ≡ entry_members s = x.numbers ∙ sym y.numbers in
    λ i. record { number = (e i).number; found = (e i).found; at = (e i).at; position = (e i).position; value = (e i).value }
