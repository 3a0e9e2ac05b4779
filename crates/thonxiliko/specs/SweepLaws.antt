-- The exported sweep: from the answer beneath to the struct, and no second outcome.
use Rattle.std.specs.Prelude.{ℕ, ◌≡◌, List, Result, ⊤}
use Rattle.std.proofs.Common.{sym, ◌∙◌}
use Rattle.layout.specs.Numbers.{answer_number}
use Rattle.layout.specs.declared.Refusal.{Refusal}
use Rattle.sweeping.specs.Sweep.{Sweep}
use Rattle.thonxiliko.specs.declared.thx_done.{thx_done}
use Rattle.thonxiliko.specs.Sweeps.{ThxSweep}

-- a struct that holds the number of the answer beneath is as good as that answer
pub sweep_held : {P : ℕ} {patch full full' : List ℕ} {a : Result ⊤ Refusal} {r : thx_done}
    → Sweep P patch full a full' → r.number ≡ answer_number a → ThxSweep P patch full r full'
sweep_held f e = record { numbers = e ∙ f.numbers; full_bytes = f.full_bytes }

-- no second outcome meets the call's promise
pub sweep_only : {P : ℕ} {patch full f g : List ℕ} {r s : thx_done}
    → ThxSweep P patch full r f → ThxSweep P patch full s g → (r ≡ s) × (f ≡ g)
sweep_only x y = (λ i. record { number = (x.numbers ∙ sym y.numbers) i }, x.full_bytes ∙ sym y.full_bytes)
