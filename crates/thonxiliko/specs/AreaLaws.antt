-- The exported calls on areas and slots: from the answer beneath to the struct, and no second outcome.
use Rattle.std.specs.Prelude.{ℕ, ◌≡◌, List, Result, ⊤}
use Rattle.std.proofs.Common.{sym, ◌∙◌}
use Rattle.layout.specs.Numbers.{answer_number}
use Rattle.store.specs.Format.{Format}
use Rattle.store.specs.Judge.{Judge, judged_numbers}
use Rattle.reading.specs.Read.{Read, reading_numbers}
use Rattle.carrying.specs.Puts.{Decision}
use Rattle.carrying.specs.CarryOut.{CarryOut, written_numbers}
use Rattle.building.specs.Build.{Build, built_numbers}
use Rattle.layout.specs.declared.Kind.{Kind}
use Rattle.layout.specs.declared.Refusal.{Refusal}
use Rattle.layout.specs.declared.RefusedAt.{RefusedAt}
use Rattle.store.specs.declared.Judged.{Judged}
use Rattle.carrying.specs.declared.Written.{Written}
use Rattle.building.specs.declared.RefusedIn.{RefusedIn}
use Rattle.thonxiliko.specs.declared.thx_done.{thx_done}
use Rattle.thonxiliko.specs.declared.thx_judged.{thx_judged}
use Rattle.thonxiliko.specs.declared.thx_part.{thx_part}
use Rattle.thonxiliko.specs.declared.thx_reading.{thx_reading}
use Rattle.thonxiliko.specs.declared.thx_written.{thx_written}
use Rattle.thonxiliko.specs.declared.thx_built.{thx_built}
use Rattle.thonxiliko.specs.Areas.{ThxFormat, ThxJudge, ThxShow, ThxRead, ThxCarryOut, ThxBuild}
use Rattle.thonxiliko.specs.Areas.{judged_members, part_members, read_members, written_members, built_members}

-- a struct that holds the numbers of the answer beneath is as good as that answer

pub format_held : {P : ℕ} {patch full patch' full' : List ℕ} {a : Result ⊤ Refusal} {r : thx_done}
    → Format P patch full a patch' full' → r.number ≡ answer_number a → ThxFormat P patch full r patch' full'
format_held f e = record { numbers = e ∙ f.numbers; patch_bytes = f.patch_bytes; full_bytes = f.full_bytes }

pub judge_held : {slot : List ℕ} {a : Result Judged Refusal} {r : thx_judged} → Judge slot a → judged_members r ≡ judged_numbers a → ThxJudge slot r
judge_held f e = record { numbers = e ∙ f.numbers }

pub read_held : {P b : ℕ} {patch full base page page' : List ℕ} {a : Result Kind RefusedAt} {r : thx_reading}
    → Read P patch full b base page a page' → read_members r ≡ reading_numbers a → ThxRead P patch full b base page r page'
read_held f e = record { numbers = e ∙ f.numbers; bytes = f.bytes }

pub carry_held : {P b stores : ℕ} {patch full patch' full' : List ℕ} {d : Decision} {a : Result Written Refusal} {r : thx_written}
    → CarryOut P patch full b d stores a patch' full' → written_members r ≡ written_numbers a
    → ThxCarryOut P patch full b d stores r patch' full'
carry_held f e = record { numbers = e ∙ f.numbers; patch_bytes = f.patch_bytes; full_bytes = f.full_bytes }

pub build_held : {P : ℕ} {patch full map map' : List ℕ} {a : Result ⊤ RefusedIn} {r : thx_built}
    → Build P patch full map a map' → built_members r ≡ built_numbers a → ThxBuild P patch full map r map'
build_held f e = record { numbers = e ∙ f.numbers; bytes = f.bytes }

-- no second outcome meets a call's promise

pub format_only : {P : ℕ} {patch full p q f g : List ℕ} {r s : thx_done}
    → ThxFormat P patch full r p f → ThxFormat P patch full s q g → (r ≡ s) × (p ≡ q) × (f ≡ g)
format_only x y = (
  λ i. record { number = (x.numbers ∙ sym y.numbers) i },
  x.patch_bytes ∙ sym y.patch_bytes,
  x.full_bytes
      ∙ sym y.full_bytes,
)

pub judge_only : {slot : List ℕ} {r s : thx_judged} → ThxJudge slot r → ThxJudge slot s → r ≡ s
judge_only {slot} {r} {s} x y =
    let e : judged_members r ≡ judged_members s = x.numbers ∙ sym y.numbers in
    λ i. record { number = (e i).number; kind = (e i).kind; length = (e i).length }

pub show_only : {P b : ℕ} {patch : List ℕ} {r s : thx_part} → ThxShow P patch b r → ThxShow P patch b s → r ≡ s
show_only {P} {b} {patch} {r} {s} x y =
    let e : part_members r ≡ part_members s = x.place ∙ sym y.place in
    λ i. record { at = (e i).at; len = (e i).len }

pub read_only : {P b : ℕ} {patch full base page p q : List ℕ} {r s : thx_reading}
    → ThxRead P patch full b base page r p → ThxRead P patch full b base page s q → (r ≡ s) × (p ≡ q)
read_only {P} {b} {patch} {full} {base} {page} {p} {q} {r} {s} x y =
    let e : read_members r ≡ read_members s = x.numbers ∙ sym y.numbers in
    (λ i. record { number = (e i).number; kind = (e i).kind; offset = (e i).offset }, x.bytes ∙ sym y.bytes)

pub carry_only : {P b stores : ℕ} {patch full p q f g : List ℕ} {d : Decision} {r s : thx_written}
    → ThxCarryOut P patch full b d stores r p f → ThxCarryOut P patch full b d stores s q g → (r ≡ s) × (p ≡ q) × (f ≡ g)
carry_only {P} {b} {stores} {patch} {full} {p} {q} {f} {g} {d} {r} {s} x y =
    let e : written_members r ≡ written_members s = x.numbers ∙ sym y.numbers in (
      λ i. record { number = (e i).number; kind = (e i).kind; length = (e i).length },
      x.patch_bytes ∙ sym y.patch_bytes,
      x.full_bytes
          ∙ sym y.full_bytes,
    )

pub build_only : {P : ℕ} {patch full map m n : List ℕ} {r s : thx_built}
    → ThxBuild P patch full map r m → ThxBuild P patch full map s n → (r ≡ s) × (m ≡ n)
build_only {P} {patch} {full} {map} {m} {n} {r} {s} x y =
    let e : built_members r ≡ built_members s = x.numbers ∙ sym y.numbers in
    (λ i. record { number = (e i).number; block = (e i).block; offset = (e i).offset }, x.bytes ∙ sym y.bytes)
