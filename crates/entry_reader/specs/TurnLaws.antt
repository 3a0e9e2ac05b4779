-- The laws of a step: what it finds by what its rows test, and by how the rest of the payload begins.
use Rattle.std.specs.Prelude.{ℕ, ◌+◌, ◌-◌, ◌≤◌, ◌<◌, ◌≡◌, Bool, true, not, ◌&&◌, ltb, length, ℤ}
use Rattle.std.proofs.Common.{arith, ◌∙◌, drop_of_length-le, lt-ltb, le-ltb, le-leb}
use Rattle.std.proofs.Math.Path.{refl, ap}
use Rattle.std.proofs.Math.Bool.{false}
use mathlib.Core.List.{List, [], ◌∷◌}
use Rattle.std.proofs.lemmas.Bool.{lt-leb}
use Rattle.layout.specs.Sizes.{room}
use Rattle.layout.specs.Refusals.{◌⇐◌, or_else, first_of, decided}
use Rattle.layout.specs.Groups.{ordered}
use Rattle.payload.specs.Entries.{Stream, done, unsound, entry, code, stream}
use Rattle.payload.specs.Steps.{Follows}
use Rattle.payload.specs.declared.Step.{Step}
use Rattle.payload.specs.declared.Step.TheVariants.{End as AtEnd, Broken, Entry as Next}
use Rattle.entry_reader.specs.Turns.{roomy, stands, left, begins, next_rows, stays, turn_of, turn_at}
use Rattle.entry_reader.specs.declared.Found.TheVariants.{Entry, End, Stopped}
use Rattle.entry_reader.specs.declared.Turn.{Turn}

-- what `roomy` says
pub room_empty : (payload : List ℕ) → length payload ≡ 0 → roomy payload ≡ false
unfolding roomy
room_empty payload e = rw (lt-leb 1 (length payload) (omega arith))

pub room_long : (payload : List ℕ) → 504 < length payload → roomy payload ≡ false
unfolding roomy
room_long payload h = rw (le-leb 1 (length payload) (omega arith), lt-leb (length payload) room h)

pub room_some : (payload : List ℕ) → 1 ≤ length payload → length payload ≤ 504 → roomy payload ≡ true
unfolding roomy
room_some payload h k = rw (le-leb 1 (length payload) h, le-leb (length payload) room k)

-- a step by what its three rows test
abbrev pub by_tests : Bool → Bool → Stream → ℕ → ℤ → Turn
by_tests fits outside s at position =
    decided (first_of ((7 ⇐ not fits) ∷ (7 ⇐ outside) ∷ (7 ⇐ not (begins s)) ∷ [])) (turn_of at position s)
    (λ _. stays (Stopped at) at position)

abbrev pub outside : ℕ → List ℕ → ℕ → ℤ → Bool
outside n payload at position = ltb at (length payload) && not (stands n position)

module _ (at : ℕ) (position : ℤ) where
  no_room : (o : Bool) (s : Stream) → by_tests false o s at position ≡ stays (Stopped at) at position
  unfolding first_of or_else decided
  no_room o s = refl

  not_standing : (s : Stream) → by_tests true true s at position ≡ stays (Stopped at) at position
  unfolding first_of or_else decided
  not_standing s = refl

  read : (s : Stream) → by_tests true false s at position ≡ turn_of at position s
  unfolding first_of or_else decided begins turn_of
  read done = refl
  read unsound = refl
  read (entry w q v rest) = refl

module _ (n : ℕ) (payload : List ℕ) (at : ℕ) (position : ℤ) where
  pub by_tests_is : turn_at n payload at position
      ≡ by_tests (roomy payload) (outside n payload at position) (left n payload at position) at position
  unfolding turn_at next_rows ordered
  by_tests_is = refl

  -- an empty or overlong payload stops the reader wherever it stands,
  pub turn_unfit : roomy payload ≡ false → turn_at n payload at position ≡ stays (Stopped at) at position
  turn_unfit r =
      by_tests_is
      ∙ ap (λ (t : Bool). by_tests t (outside n payload at position) (left n payload at position) at position) r
      ∙ no_room at position (outside n payload at position) (left n payload at position)

  -- so does a position outside the page,
  pub turn_outside : roomy payload ≡ true → at < length payload → stands n position ≡ false
      → turn_at n payload at position ≡ stays (Stopped at) at position
  turn_outside r h s =
      let o : outside n payload at position ≡ true = rw (lt-ltb at (length payload) h, s) in
      by_tests_is
      ∙ (λ i. by_tests (r i) (o i) (left n payload at position) at position)
      ∙ not_standing at position (left n payload at position)

  -- and else the rest of the payload says what stands there
  turn_by_is : roomy payload ≡ true → outside n payload at position ≡ false
      → turn_at n payload at position ≡ turn_of at position (left n payload at position)
  turn_by_is r o =
      by_tests_is
      ∙ (λ i. by_tests (r i) (o i) (left n payload at position) at position)
      ∙ read at position (left n payload at position)

  pub turn_past : roomy payload ≡ true → length payload ≤ at → turn_at n payload at position ≡ stays End at position
  unfolding stream turn_of
  turn_past r h =
      let o : outside n payload at position ≡ false = rw (le-ltb at (length payload) h) in
      turn_by_is r o ∙ ap (λ (l : List ℕ). turn_of at position (stream n position code l)) (drop_of_length-le payload h)

  pub turn_read : roomy payload ≡ true → stands n position ≡ true
      → turn_at n payload at position ≡ turn_of at position (left n payload at position)
  turn_read r s = turn_by_is r (go (ltb at (length payload)) (stands n position) s)
    where
      go : (a b : Bool) → b ≡ true → (a && not b) ≡ false
      go true b e = rw e
      go false b e = refl

-- a step of the decoder, as a turn of the reader
abbrev pub turn_told : ℕ → ℤ → Step → Turn
turn_told at position AtEnd = stays End at position
turn_told at position Broken = stays (Stopped at) at position
turn_told at position (Next q v next) = record { found = Entry q v; at = next; position = q }

pub turn_told_is : (n : ℕ) (payload : List ℕ) (at : ℕ) (position : ℤ) (r : Step) → Follows n payload at (left n payload at position) r
    → turn_of at position (left n payload at position) ≡ turn_told at position r
unfolding turn_of
turn_told_is n payload at position AtEnd f = ap (λ (s : Stream). turn_of at position s) f
turn_told_is n payload at position Broken f = ap (λ (s : Stream). turn_of at position s) f
turn_told_is n payload at position (Next q v next) f =
    let e : at + (next - at) ≡ next = omega (arith, f.on) in
    ap (λ (s : Stream). turn_of at position s) f.is ∙ (λ i. record { found = Entry q v; at = e i; position = q })
