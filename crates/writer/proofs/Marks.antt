-- The words of a chunk that differ: one mark more, and how far the writer has come by the marks that are left, over plain lists.
use Prim.Native.Nat.{ℕ, zero, suc, ◌+◌, ◌-◌, ◌*◌, ◌^◌, ◌%◌, ◌≤◌, ◌<◌}
use native.Mathlib.Omega.{arith}
use native.Mathlib.Nat.{mod-eq_of_lt, mul_assoc, mul-le-mul_right}
use native.Mathlib.Decide.{dec_lt}
use mathlib.Core.Path.{◌≡◌, refl, sym, ap, ◌∙◌, subst}
use mathlib.Core.Bool.{Bool, true, false, not}
use mathlib.Core.List.{List}
use lib.Bits.{bit_and, bit_or, and_le_r, or_shifted_r}
use lib.Count.{count_trailing_zeros}
use lib.Dec.{eqb}
use lib.ListN.{length}
use lib.Pow.{pow-add, pow-lt}
use mir.Val.{bool_byte}
use Rattle.differ.specs.Differ.{stride, Same}
use Rattle.writer.specs.Steps.{Reached}
use Rattle.writer.specs.Words.{word_bytes, stride_words, numeral, one_unless, marked, marks, FirstMark}
use Rattle.writer.specs.WordLaws.{Bytes, zeros_shifted}
use Rattle.writer.specs.MarkLaws.{pow_some, marked_few, marks_below, marks_more, marks_none, first_mark, cut_shifted}
use Rattle.writer.specs.declared.Spelled.{Spelled}
use Rattle.writer.proofs.Spelling.{reached_on}

-- none yet
pub marks_zero : (base page : List ℕ) (at : ℕ) → 0 ≡ marks base page at 0
unfolding marks
marks_zero base page at = refl

-- one word more
pub marks_next : (base page : List ℕ) (at i seen first second : ℕ) → i < stride_words → seen ≡ marks base page at i
    → first ≡ numeral base (at + word_bytes * i) word_bytes → second ≡ numeral page (at + word_bytes * i) word_bytes
    → bit_or seen (bool_byte (not (eqb first second)) * 2 ^ i % 2 ^ 64) ≡ marks base page at (i + 1)
unfolding marked
marks_next base page at i seen first second h e f g =
    let d : ℕ = marked base page (at + word_bytes * i) in
    let is : bool_byte (not (eqb first second)) ≡ d = byte (eqb first second) ∙ (λ l. one_unless (eqb (f l) (g l))) in
    let few : d * 2 ^ i ≤ 1 * 2 ^ i = mul-le-mul_right (2 ^ i) (marked_few base page (at + word_bytes * i)) in
    let small : d * 2 ^ i < 2 ^ 64 = omega (arith, pow-lt {i = i} {j = 64} (omega arith)) in
    ap (λ (v : ℕ). bit_or seen (v * 2 ^ i % 2 ^ 64)) is
    ∙ ap (bit_or seen) (mod-eq_of_lt small)
    ∙ or_shifted_r d i seen (subst (λ (n : ℕ). n < 2 ^ i) (sym e) (marks_below base page i at))
    ∙ ap (λ (n : ℕ). d * 2 ^ i + n) e
    ∙ sym (marks_more base page i at)
  where
    byte : (t : Bool) → bool_byte (not t) ≡ one_unless t
    byte true = refl
    byte false = refl

-- the words before the marks that are left have been passed, and every difference in them is counted
pub record Passed (base page : List ℕ) (at left : ℕ) (s : Spelled) : Type 0 where
  pub words : ℕ
  pub few : words ≤ stride_words
  pub marks_left : left ≡ marks base page (at + word_bytes * words) (stride_words - words) * 2 ^ words
  pub reached : Reached base page (at + word_bytes * words) s

-- what the lowest mark tells: every difference before its word is counted, and after it the next ones
pub record NextWord (base page : List ℕ) (at left i : ℕ) (s : Spelled) : Type 0 where
  pub within : i < stride_words
  pub reached : Reached base page (at + word_bytes * i) s
  pub on : (r : Spelled) → Reached base page (at + word_bytes * i + word_bytes) r → Passed base page at (bit_and left (left - 1)) r

-- none yet
pub passed_none : (base page : List ℕ) (at left : ℕ) (s : Spelled) → left ≡ marks base page at stride_words
    → Reached base page at s → Passed base page at left s
passed_none base page at left s e w =
    let q : at ≡ at + word_bytes * 0 = omega arith in
    let m : marks base page (at + word_bytes * 0) stride_words ≡ marks base page at stride_words = ap (λ (n : ℕ). marks base page n stride_words) (sym q) in
    record {
      words = 0;
      few = omega arith;
      marks_left = omega arith;
      reached = subst (λ (n : ℕ). Reached base page n s) q w;
    }

-- a mark is one less each time
pub fewer : (left : ℕ) → (left ≡ 0 → ⊥) → bit_and left (left - 1) < left
fewer zero n = absurd (n refl)
fewer (suc left) n = omega (arith, and_le_r (suc left) (suc left - 1))

module _ (base page : List ℕ) (wb : Bytes base) (wp : Bytes page) (at left : ℕ) (l : at + stride ≤ length base) (m : at + stride ≤ length page)
    (s : Spelled) (p : Passed base page at left s) where
  abbrev words : ℕ
  words = p.words

  abbrev rest : ℕ
  rest = marks base page (at + word_bytes * words) (stride_words - words)

  -- the end
  pub all_passed : left ≡ 0 → Reached base page (at + stride) s
  all_passed z =
      let none : rest ≡ 0 =
      elim (dec_lt 0 rest) [
        | yes h ↦
            let most : 1 * 2 ^ words ≤ rest * 2 ^ words = mul-le-mul_right (2 ^ words) h in
            absurd (omega (arith, p.marks_left, pow_some words))
        | no h ↦ omega arith
      ] in
      let q : at + word_bytes * words + word_bytes * (stride_words - words) ≡ at + stride = omega (arith, p.few) in
      reached_on base page (at + word_bytes * words) s p.reached (at + stride) (omega (arith, p.few)) l m
      (subst (λ (n : ℕ). Same base page (at + word_bytes * words) n) q
      (marks_none base page wb wp (stride_words - words) (at + word_bytes * words) none))

  module _ (n : left ≡ 0 → ⊥) where
    some : rest ≡ 0 → ⊥
    some z =
        let e : rest * 2 ^ words ≡ 0 * 2 ^ words = ap (λ (x : ℕ). x * 2 ^ words) z in
        n (omega (arith, p.marks_left))

    -- words that are alike before the next one that differs
    abbrev alike : ℕ
    alike = count_trailing_zeros (64 - words) rest

    lowest : FirstMark base page (at + word_bytes * words) (stride_words - words) rest alike
    lowest = first_mark base page wb wp (stride_words - words) (at + word_bytes * words) (64 - words) rest alike (omega arith) refl some refl

    zeros_are : count_trailing_zeros 64 left ≡ words + alike
    zeros_are =
        let q : 64 ≡ words + (64 - words) = omega (arith, p.few) in
        (λ i. count_trailing_zeros (q i) (p.marks_left i)) ∙ zeros_shifted words (64 - words) rest

    -- the marks without the lowest one
    marks_after : bit_and left (left - 1) ≡ marks base page (at + word_bytes * (words + alike + 1))
        (stride_words - (words + alike + 1)) * 2 ^ (words + alike + 1)
    marks_after =
        let then : at + word_bytes * words + word_bytes * (alike + 1) ≡ at + word_bytes * (words + alike + 1) = omega arith in
        let many : stride_words - words - (alike + 1) ≡ stride_words - (words + alike + 1) = omega arith in
        let far : alike + 1 + words ≡ words + alike + 1 = omega arith in
        let r : ℕ = marks base page (at + word_bytes * words + word_bytes * (alike + 1)) (stride_words - words - (alike + 1)) in
        ap (λ (x : ℕ). bit_and x (x - 1)) p.marks_left
        ∙ cut_shifted words rest some
        ∙ ap (λ (x : ℕ). x * 2 ^ words) lowest.left
        ∙ mul_assoc r (2 ^ (alike + 1)) (2 ^ words)
        ∙ ap (λ (x : ℕ). r * x) (sym (pow-add 2 (alike + 1) words))
        ∙ (λ i. marks base page (then i) (many i) * 2 ^ (far i))

    -- the next word that differs
    pub next_word : NextWord base page at left (count_trailing_zeros 64 left) s
    next_word =
        let few : words + alike < stride_words = omega (arith, lowest.within, p.few) in
        let q : at + word_bytes * words + word_bytes * alike ≡ at + word_bytes * count_trailing_zeros 64 left = omega (arith, zeros_are) in
        let on : at + word_bytes * count_trailing_zeros 64 left + word_bytes ≡ at + word_bytes * (words + alike + 1) = omega (arith, zeros_are) in
        record {
          within = omega (arith, zeros_are);
          reached =
              subst (λ (i : ℕ). Reached base page i s) q
              (reached_on base page (at + word_bytes * words) s p.reached
              (at + word_bytes * words + word_bytes * alike) (omega arith) (omega arith) (omega arith)
              lowest.alike);
          on =
              λ r w.
              record {
                words = words + alike + 1;
                few = omega arith;
                marks_left = marks_after;
                reached = subst (λ (i : ℕ). Reached base page i r) on w;
              };
        }
