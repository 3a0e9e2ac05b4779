-- "Each refusal is given when its condition holds and no earlier one does, and at no other time": the reader's step.
use Rattle.std.specs.Prelude.{ℕ, ◌≡◌, Bool, not, List, [], ◌∷◌, ℤ}
use Rattle.std.proofs.Common.{arith, sym, ◌∙◌, subst}
use Rattle.std.proofs.Math.Path.{refl, ap}
use Rattle.std.proofs.Math.Bool.{true, false}
use Rattle.layout.specs.Refusals.{◌⇐◌, or_else, first_of, decided}
use Rattle.layout.specs.RefusalLaws.{Exactly, exactly, no_row, row}
use Rattle.layout.specs.Groups.{ordered}
use Rattle.layout.specs.GroupLaws.{once}
use Rattle.payload.specs.Entries.{Stream, done, unsound, entry}
use Rattle.entry_reader.specs.Turns.{roomy, left, begins, next_groups, next_rows, turn_of, turn_at, TurnNumbers, turn_numbers, Turned}
use Rattle.entry_reader.specs.TurnLaws.{outside, by_tests, by_tests_is}
use Rattle.entry_reader.specs.declared.Turn.{Turn}

-- a step that gives no entry leaves the reader where it stood, and gives 0 for the value
pub record PutBack (at : ℕ) (position : ℤ) (told : TurnNumbers) : Type 0 where
  pub place : told.at ≡ at
  pub before : told.position ≡ position
  pub none : told.value ≡ 0

module _ (at : ℕ) (position : ℤ) where
  number_by : (fits o : Bool) (s : Stream)
      → (turn_numbers (by_tests fits o s at position)).number ≡ first_of ((7 ⇐ not fits) ∷ (7 ⇐ o) ∷ (7 ⇐ not (begins s)) ∷ [])
  unfolding first_of or_else decided begins turn_of
  number_by false o s = refl
  number_by true true s = refl
  number_by true false done = refl
  number_by true false unsound = refl
  number_by true false (entry w q v rest) = refl

  put_by : (fits o : Bool) (s : Stream) → (turn_numbers (by_tests fits o s at position)).found ≡ 0
      → PutBack at position (turn_numbers (by_tests fits o s at position))
  unfolding first_of or_else decided begins turn_of
  put_by false o s e = record { place = refl; before = refl; none = refl }
  put_by true true s e = record { place = refl; before = refl; none = refl }
  put_by true false done e = record { place = refl; before = refl; none = refl }
  put_by true false unsound e = record { place = refl; before = refl; none = refl }
  put_by true false (entry w q v rest) e = absurd (omega arith)

module _ (n : ℕ) (payload : List ℕ) (at : ℕ) (position : ℤ) where
  -- the number that a step gives is that of the first refusal
  pub turn_number : (turn_numbers (turn_at n payload at position)).number ≡ first_of (next_rows n payload at position)
  unfolding next_rows ordered
  turn_number =
      ap (λ (t : Turn). (turn_numbers t).number) (by_tests_is n payload at position)
      ∙ number_by at position (roomy payload) (outside n payload at position) (left n payload at position)

  pub next_exactly : Exactly (next_rows n payload at position) (turn_numbers (turn_at n payload at position)).number
  unfolding next_rows ordered
  next_exactly = exactly (next_rows n payload at position) _ turn_number (row (row (row no_row)))

  pub next_once : once (next_groups n payload at position) ≡ true
  next_once = refl

  pub stays_put : (turn_numbers (turn_at n payload at position)).found ≡ 0 → PutBack at position (turn_numbers (turn_at n payload at position))
  stays_put e =
      subst (λ (t : Turn). PutBack at position (turn_numbers t)) (sym (by_tests_is n payload at position))
      (put_by at position (roomy payload) (outside n payload at position) (left n payload at position)
      (sym (ap (λ (t : Turn). (turn_numbers t).found) (by_tests_is n payload at position)) ∙ e))

  -- and the step has one answer
  pub turned_only : (a b : Turn) → Turned n payload at position a → Turned n payload at position b → a ≡ b
  turned_only a b x y = x.turn ∙ sym y.turn
