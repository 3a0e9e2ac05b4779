-- The exported calls that cut a table short: from the answer beneath to the struct, and no second outcome.
use Rattle.std.specs.Prelude.{ℕ, ◌≡◌, List, Result, ⊤}
use Rattle.std.proofs.Common.{sym, ◌∙◌}
use Rattle.layout.specs.Numbers.{answer_number}
use Rattle.layout.specs.declared.Refusal.{Refusal}
use Rattle.cutting.specs.Cut.{Cut}
use Rattle.cutting.specs.Mapped.{CutMapped}
use Rattle.cutting.specs.Highest.{Highest, extent_numbers}
use Rattle.thonxiliko.specs.declared.thx_done.{thx_done}
use Rattle.thonxiliko.specs.declared.thx_extent.{thx_extent}
use Rattle.thonxiliko.specs.Cuts.{ThxCut, ThxCutMapped, extent_members, ThxHighest}

-- a struct that holds the numbers of the answer beneath is as good as that answer

pub cut_held : {P K : ℕ} {patch full patch' full' : List ℕ} {a : Result ⊤ Refusal} {r : thx_done}
    → Cut P patch full K a patch' full' → r.number ≡ answer_number a → ThxCut P patch full K r patch' full'
cut_held f e = record { numbers = e ∙ f.numbers; patch_bytes = f.patch_bytes; full_bytes = f.full_bytes }

pub cut_mapped_held : {P K : ℕ} {patch full map patch' full' map' : List ℕ} {a : Result ⊤ Refusal} {r : thx_done}
    → CutMapped P patch full map K a patch' full' map' → r.number ≡ answer_number a
    → ThxCutMapped P patch full map K r patch' full' map'
cut_mapped_held f e =
    record { numbers = e ∙ f.numbers; patch_bytes = f.patch_bytes; full_bytes = f.full_bytes; map_bytes_is = f.map_bytes_is }

pub highest_held : {P : ℕ} {patch : List ℕ} {a : Result ℕ Refusal} {r : thx_extent} → Highest P patch a → extent_members r ≡ extent_numbers a
    → ThxHighest P patch r
highest_held f e = record { numbers = e ∙ f.numbers }

-- no second outcome meets a call's promise

pub cut_only : {P K : ℕ} {patch full p q f g : List ℕ} {r s : thx_done}
    → ThxCut P patch full K r p f → ThxCut P patch full K s q g → (r ≡ s) × (p ≡ q) × (f ≡ g)
cut_only x y = (
  λ i. record { number = (x.numbers ∙ sym y.numbers) i },
  x.patch_bytes ∙ sym y.patch_bytes,
  x.full_bytes ∙ sym y.full_bytes,
)

pub cut_mapped_only : {P K : ℕ} {patch full map p q f g m n : List ℕ} {r s : thx_done}
    → ThxCutMapped P patch full map K r p f m → ThxCutMapped P patch full map K s q g n → (r ≡ s) × (p ≡ q) × (f ≡ g) × (m ≡ n)
cut_mapped_only x y = (
  λ i. record { number = (x.numbers ∙ sym y.numbers) i },
  x.patch_bytes ∙ sym y.patch_bytes,
  x.full_bytes ∙ sym y.full_bytes,
  x.map_bytes_is ∙ sym y.map_bytes_is,
)

pub highest_only : {P : ℕ} {patch : List ℕ} {r s : thx_extent} → ThxHighest P patch r → ThxHighest P patch s → r ≡ s
highest_only {P} {patch} {r} {s} x y =
    let e : extent_members r ≡ extent_members s = x.numbers ∙ sym y.numbers in
    λ i. record { number = (e i).number; blocks = (e i).blocks }
