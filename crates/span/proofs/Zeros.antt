-- The test for zeros: the bits of a stretch, and the stretches that a list is cut into.
use Prim.Native.Nat.{ℕ, ◌-◌, ◌%◌, ◌≤◌}
use native.Mathlib.Omega.{arith}
use mathlib.Core.Path.{◌≡◌, refl, sym, ap, subst, ◌∙◌}
use mathlib.Core.Bool.{Bool, true, false, ◌&&◌, and-true, and_assoc}
use mathlib.Core.List.{List, [], ◌∷◌, ◌++◌}
use lib.Dec.{eqb}
use lib.ListN.{length, length-append, length-drop, take, drop}
use lib.Bits.{bit_or, or_add_and, and_le_l, and_le_r}
use borrow.Author.Tests.{eqb-true, eqb-false, eq-eqb, ne_eqb}
use denote.Ref.{Bor}
use denote.Param.Members.{Mut}
use Rattle.std.proofs.Common.{drop-drop}
use Rattle.std.proofs.lemmas.List.{take-append-drop, nil_from_length}
use Rattle.std.specs.List.{fold, FoldsTo}
use Rattle.std.specs.Fn.{Called}
use Rattle.std.specs.Prelude.{Option, Some, None}
use Rattle.std.specs.Option.{MatchOption}
use Rattle.std.specs.Iterator.{Yields, YieldsThen}
use Rattle.std.specs.declared.slice.ChunksExact.{ChunksExact}
use Rattle.std.specs.Slice.Iter.{chunks_exact_rest, chunks_exact_size, chunks_exact_steps}
use Rattle.span.specs.Bytes.{zeros, same}
use Rattle.span.specs.Stretches.{tail, tail_step, tail_short}
use Rattle.span.specs.Laws.{zeros_length, zeros_join, same_append}

-- whether a list is zeros alone
abbrev pub blank : List ℕ → Bool
blank xs = same xs (zeros (length xs))

blank_append : (xs ys : List ℕ) → blank (xs ++ ys) ≡ (blank xs && blank ys)
blank_append xs ys =
    ap (λ (k : ℕ). same (xs ++ ys) (zeros k)) (length-append xs ys)
    ∙ ap (λ (l : List ℕ). same (xs ++ ys) l) (sym (zeros_join (length xs) (length ys)))
    ∙ same_append xs (zeros (length xs)) ys (zeros (length ys)) (sym (zeros_length (length xs)))

blank_cut : (k : ℕ) (xs : List ℕ) → blank xs ≡ (blank (take k xs) && blank (drop k xs))
blank_cut k xs = ap (λ (l : List ℕ). blank l) (sym (take-append-drop k xs)) ∙ blank_append (take k xs) (drop k xs)

and_off : (q : Bool) → (q && false) ≡ false
and_off true = refl
and_off false = refl

covers : (p b q t : Bool) → b ≡ (q && t) → (p && b) ≡ t → (p && b) ≡ b
covers true b q t e f = refl
covers false b q t e f = sym (e ∙ ap (λ (u : Bool). q && u) (sym f) ∙ and_off q)

-- what tells of a list by its end tells of it by a longer end
pub longer_end : (k j : ℕ) (xs : List ℕ) → k ≤ j → blank xs ≡ blank (drop j xs) → blank xs ≡ blank (drop k xs)
longer_end k j xs h e =
    let n : ℕ = j - k in
    let here : blank xs ≡ (blank (take k xs) && blank (drop k xs)) = blank_cut k xs in
    let end : drop n (drop k xs) ≡ drop j xs = drop-drop n k xs ∙ ap (λ (i : ℕ). drop i xs) (omega arith) in
    here
    ∙ covers (blank (take k xs)) (blank (drop k xs)) (blank (take n (drop k xs))) (blank (drop j xs))
    (blank_cut n (drop k xs) ∙ ap (λ (l : List ℕ). blank (take n (drop k xs)) && blank l) end)
    (sym here ∙ e)

or_both : (a b : ℕ) → eqb (bit_or a b) 0 ≡ (eqb a 0 && eqb b 0)
or_both a b = go (eqb a 0) (eqb b 0) refl refl
  where
    left : a ≤ bit_or a b
    left = omega (arith, or_add_and a b, and_le_r a b)

    right : b ≤ bit_or a b
    right = omega (arith, or_add_and a b, and_le_l a b)

    go : (x y : Bool) → eqb a 0 ≡ x → eqb b 0 ≡ y → eqb (bit_or a b) 0 ≡ (x && y)
    go true true p q = eq-eqb (bit_or a b) 0 (omega (arith, or_add_and a b, eqb-true a 0 p, eqb-true b 0 q))
    go true false p q = ne_eqb (bit_or a b) 0 (λ e. eqb-false b 0 q (omega (arith, right)))
    go false y p q = ne_eqb (bit_or a b) 0 (λ e. eqb-false a 0 p (omega (arith, left)))

bits_from : (n : ℕ) (s : List ℕ) → eqb (fold bit_or n s) 0 ≡ (eqb n 0 && blank s)
unfolding same zeros
bits_from n [] = sym (and-true (eqb n 0))
bits_from n (x ∷ xs) =
    bits_from (bit_or n x) xs ∙ ap (λ (t : Bool). t && blank xs) (or_both n x) ∙ and_assoc (eqb n 0) (eqb x 0) (blank xs)

-- no bit is set where all bytes are zero
pub bits_blank : (s : List ℕ) → eqb (fold bit_or 0 s) 0 ≡ blank s
bits_blank s = bits_from 0 s

pub blank_none : (s : List ℕ) → length s ≡ 0 → blank s ≡ true
blank_none s e = ap (λ (l : List ℕ). blank l) (nil_from_length s e) ∙ sym (bits_blank [])

-- the stretches that `chunks_exact` gives, each of them tested until one is not zero
module _ {F : Type 0} (g : Mut F (Bor (List ℕ) × Unit {0}) Bool) (f : F)
    (yes : (x : Bor (List ℕ)) (q : F) → Called g f (x, tt) true q → (q ≡ f) × (eqb (fold bit_or 0 x.now) 0 ≡ true))
    (no : (x : Bor (List ℕ)) (q : F) → Called g f (x, tt) false q → eqb (fold bit_or 0 x.now) 0 ≡ false) where
  abbrev Passed : F → Bor (List ℕ) → F → Type 0
  Passed p x q = Called g p (x, tt) true q

  passed : (xs : List (Bor (List ℕ))) (s t : ChunksExact ℕ) (j : F) → Yields chunks_exact_steps s xs t → FoldsTo Passed f xs j
      → (j ≡ f) × (chunks_exact_size t ≡ chunks_exact_size s) × (blank (chunks_exact_rest s) ≡ blank (chunks_exact_rest t))
      × (tail (chunks_exact_size s) (chunks_exact_rest s) ≡ tail (chunks_exact_size s) (chunks_exact_rest t))
  passed [] s t j y c = (
    sym c,
    ap (λ (u : ChunksExact ℕ). chunks_exact_size u) (sym y),
    ap (λ (u : ChunksExact ℕ). blank (chunks_exact_rest u)) y,
    ap (λ (u : ChunksExact ℕ). tail (chunks_exact_size s) (chunks_exact_rest u)) y,
  )
  passed (x ∷ xs) s t j y c =
      let one = yes x c.0 c.1 in
      let n : ℕ = chunks_exact_size s in
      let cut = y.1 in
      let more = passed xs y.0 t j y.2 (subst (λ (p : F). FoldsTo Passed p xs j) one.0 c.2) in (
        more.0,
        more.1 ∙ cut.0,
        ap (λ (l : List ℕ). blank l) cut.1.0 ∙ blank_append x.now (chunks_exact_rest y.0)
            ∙ ap (λ (b : Bool). b && blank (chunks_exact_rest y.0)) (sym (bits_blank x.now) ∙ one.1)
            ∙ more.2,
        ap (λ (l : List ℕ). tail n l) cut.1.0 ∙ tail_step n x.now (chunks_exact_rest y.0) cut.1.1
            ∙ subst (λ (k : ℕ). tail k (chunks_exact_rest y.0) ≡ tail k (chunks_exact_rest t)) cut.0 more.3,
      )

  -- so the list is zeros alone where all of them are, and what is left after them
  pub all_blank : (s u : ChunksExact ℕ) (r : Bool) (n : ℕ) (l : List ℕ) → chunks_exact_size s ≡ n → chunks_exact_rest s ≡ l
      → (xs : List (Bor (List ℕ))) × (o : Option (Bor (List ℕ))) × (j : F) × YieldsThen chunks_exact_steps s xs o u × FoldsTo Passed f xs j
      × MatchOption o (r ≡ true) (λ x. (r ≡ false) × ((h : F) × Called g j (x, tt) false h))
      → blank l ≡ (r && blank (tail n l))
  all_blank s u r n l size rest d =
      let t = d.3.0 in
      let h = passed d.0 s t d.2 d.3.1 d.4 in
      subst (λ (k : ℕ). blank l ≡ (r && blank (tail k l))) size
      (subst (λ (x : List ℕ). blank x ≡ (r && blank (tail (chunks_exact_size s) x))) rest
      (h.2 ∙ ends d.1 t d.3.2 d.5 h.0 h.1 ∙ ap (λ (x : List ℕ). r && blank x) (sym h.3)))
    where
      ends : (o : Option (Bor (List ℕ))) (t : ChunksExact ℕ) → chunks_exact_steps t o u
          → MatchOption o (r ≡ true) (λ x. (r ≡ false) × ((h : F) × Called g d.2 (x, tt) false h)) → d.2 ≡ f
          → chunks_exact_size t ≡ chunks_exact_size s
          → blank (chunks_exact_rest t) ≡ (r && blank (tail (chunks_exact_size s) (chunks_exact_rest t)))
      ends None t cut m e q =
          sym
          (ap (λ (b : Bool). b && blank (tail (chunks_exact_size s) (chunks_exact_rest t))) m
          ∙ ap (λ (l : List ℕ). blank l) (tail_short (chunks_exact_size s) (chunks_exact_rest t) (rw q at cut.1.0)))
      ends (Some x) t cut m e q =
          let b : eqb (fold bit_or 0 x.now) 0 ≡ false = no x m.1.0 (subst (λ (p : F). Called g p (x, tt) false m.1.0) e m.1.1) in
          ap (λ (l : List ℕ). blank l) cut.1.0
          ∙ blank_append x.now (chunks_exact_rest u)
          ∙ ap (λ (v : Bool). v && blank (chunks_exact_rest u)) (sym (bits_blank x.now) ∙ b)
          ∙ sym (ap (λ (v : Bool). v && blank (tail (chunks_exact_size s) (chunks_exact_rest t))) m.0)

-- so a list whose whole stretches are zeros is told by an end that goes back to the last of them
pub by_end : (k n : ℕ) (l : List ℕ) (r : Bool) → blank l ≡ (r && blank (tail n l)) → r ≡ true → k ≤ length l - length l % n → (end : List ℕ) → end ≡ drop k l
    → eqb (fold bit_or 0 end) 0 ≡ blank l
by_end k n l r all whole far end same =
    bits_blank end
    ∙ ap (λ (x : List ℕ). blank x) same
    ∙ sym (longer_end k (length l - length l % n) l far (all ∙ ap (λ (t : Bool). t && blank (tail n l)) whole))

-- and one with no rest by its stretches alone
pub by_whole : (n : ℕ) (l : List ℕ) (r : Bool) → blank l ≡ (r && blank (tail n l)) → length l % n ≡ 0 → r ≡ blank l
by_whole n l r all none =
    let t : blank (tail n l) ≡ true = blank_none (tail n l) (length-drop (length l - length l % n) l ∙ omega (arith, none)) in
    sym (all ∙ ap (λ (b : Bool). r && b) t ∙ and-true r)
