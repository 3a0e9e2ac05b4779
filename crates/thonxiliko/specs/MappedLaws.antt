-- The exported calls on areas and a lent map: from the answer beneath to the struct, and no second outcome.
use Rattle.std.specs.Prelude.{ℕ, ◌≡◌, List, Result}
use Rattle.std.proofs.Common.{sym, ◌∙◌}
use Rattle.reading.specs.Read.{reading_numbers}
use Rattle.reading.specs.Mapped.{ReadMapped}
use Rattle.carrying.specs.Puts.{Decision}
use Rattle.carrying.specs.CarryOut.{written_numbers}
use Rattle.carrying.specs.Mapped.{CarryOutMapped}
use Rattle.layout.specs.declared.Kind.{Kind}
use Rattle.layout.specs.declared.Refusal.{Refusal}
use Rattle.layout.specs.declared.RefusedAt.{RefusedAt}
use Rattle.carrying.specs.declared.Written.{Written}
use Rattle.thonxiliko.specs.declared.thx_reading.{thx_reading}
use Rattle.thonxiliko.specs.declared.thx_written.{thx_written}
use Rattle.thonxiliko.specs.Areas.{read_members, written_members}
use Rattle.thonxiliko.specs.Mapped.{ThxCarryOutMapped, ThxReadMapped}

-- a struct that holds the numbers of the answer beneath is as good as that answer

pub carry_mapped_held : {P b stores : ℕ} {patch full map patch' full' map' : List ℕ} {d : Decision} {a : Result Written Refusal} {r : thx_written}
    → CarryOutMapped P patch full map b d stores a patch' full' map' → written_members r ≡ written_numbers a
    → ThxCarryOutMapped P patch full map b d stores r patch' full' map'
carry_mapped_held f e =
    record { numbers = e ∙ f.numbers; patch_bytes = f.patch_bytes; full_bytes = f.full_bytes; map_bytes_is = f.map_bytes_is }

pub read_mapped_held : {P b : ℕ} {patch full map base page page' : List ℕ} {a : Result Kind RefusedAt} {r : thx_reading}
    → ReadMapped P patch full map b base page a page' → read_members r ≡ reading_numbers a
    → ThxReadMapped P patch full map b base page r page'
read_mapped_held f e = record { numbers = e ∙ f.numbers; bytes = f.bytes }

-- no second outcome meets a call's promise

pub carry_mapped_only : {P b stores : ℕ} {patch full map p q f g m n : List ℕ} {d : Decision} {r s : thx_written}
    → ThxCarryOutMapped P patch full map b d stores r p f m → ThxCarryOutMapped P patch full map b d stores s q g n
    → (r ≡ s) × (p ≡ q) × (f ≡ g) × (m ≡ n)
carry_mapped_only {P} {b} {stores} {patch} {full} {map} {p} {q} {f} {g} {m} {n} {d} {r} {s} x y =
    let e : written_members r ≡ written_members s = x.numbers ∙ sym y.numbers in (
      λ i. record { number = (e i).number; kind = (e i).kind; length = (e i).length },
      x.patch_bytes ∙ sym y.patch_bytes,
      x.full_bytes ∙ sym y.full_bytes,
      x.map_bytes_is ∙ sym y.map_bytes_is,
    )

pub read_mapped_only : {P b : ℕ} {patch full map base page p q : List ℕ} {r s : thx_reading}
    → ThxReadMapped P patch full map b base page r p → ThxReadMapped P patch full map b base page s q → (r ≡ s) × (p ≡ q)
read_mapped_only {P} {b} {patch} {full} {map} {base} {page} {p} {q} {r} {s} x y =
    let e : read_members r ≡ read_members s = x.numbers ∙ sym y.numbers in
    (λ i. record { number = (e i).number; kind = (e i).kind; offset = (e i).offset }, x.bytes ∙ sym y.bytes)
