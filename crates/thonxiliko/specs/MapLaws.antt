-- The exported calls on a block map: from the answer beneath to the struct, and no second outcome.
use Rattle.std.specs.Prelude.{ℕ, ◌≡◌, List, Result}
use Rattle.std.proofs.Common.{sym, ◌∙◌}
use Rattle.blockmap.specs.Calls.{looked_numbers, LookUp, tallied_numbers, Tally}
use Rattle.layout.specs.declared.Kind.{Kind}
use Rattle.layout.specs.declared.Refusal.{Refusal}
use Rattle.blockmap.specs.declared.Tallied.{Tallied}
use Rattle.thonxiliko.specs.declared.thx_pair.{thx_pair}
use Rattle.thonxiliko.specs.declared.thx_tallied.{thx_tallied}
use Rattle.thonxiliko.specs.Maps.{pair_members, ThxLookUp, tallied_members, ThxTally}

-- a struct that holds the numbers of the answer beneath is as good as that answer

pub look_up_held : {P n b : ℕ} {map : List ℕ} {a : Result Kind Refusal} {r : thx_pair} → LookUp P map n b a → pair_members r ≡ looked_numbers a
    → ThxLookUp P map n b r
look_up_held f e = record { numbers = e ∙ f.numbers }

pub tally_held : {P n : ℕ} {map : List ℕ} {a : Result Tallied Refusal} {r : thx_tallied} → Tally P map n a → tallied_members r ≡ tallied_numbers a
    → ThxTally P map n r
tally_held f e = record { numbers = e ∙ f.numbers }

-- no second outcome meets a call's promise

pub look_up_only : {P n b : ℕ} {map : List ℕ} {r s : thx_pair} → ThxLookUp P map n b r → ThxLookUp P map n b s → r ≡ s
look_up_only {P} {n} {b} {map} {r} {s} x y =
    let e : pair_members r ≡ pair_members s = x.numbers ∙ sym y.numbers in
    λ i. record { number = (e i).number; pair = (e i).pair }

pub tally_only : {P n : ℕ} {map : List ℕ} {r s : thx_tallied} → ThxTally P map n r → ThxTally P map n s → r ≡ s
tally_only {P} {n} {map} {r} {s} x y =
    let e : tallied_members r ≡ tallied_members s = x.numbers ∙ sym y.numbers in
    λ i. record { number = (e i).number; patch = (e i).patch; full = (e i).full }
