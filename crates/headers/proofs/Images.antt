-- The header of either area as the definitions have it, and what the comparisons with it tell.
use Rattle.std.specs.Prelude.{ℕ, ◌+◌, ◌-◌, ◌≤◌, ◌<◌, min, Bool, false, ◌&&◌, List, [], ◌∷◌, ◌++◌, ◌≡◌, refl, eqb, length, take}
use Rattle.std.specs.Int.{w32, from_le_bytes}
use Rattle.std.specs.Cmp.Lexicographic.{pointwise}
use Rattle.std.proofs.Common.{arith, eq-eqb, ne_eqb, sym, ap, ◌∙◌, get_or, length-append, take_all, length-take}
use Rattle.span.specs.Bytes.{zeros, part, splice, same}
use Rattle.span.specs.Laws.{zeros_length, zeros_after, splice_zeros, same_false, same_parts}
use Rattle.layout.specs.Sizes.{patch_head, full_head, slot_size, patch_magic, full_magic, patch_version, full_version}
use Rattle.layout.specs.Numbers.{le, number}
use Rattle.layout.specs.Refusals.{first_of, or_else}
use Rattle.headers.specs.declared.head.Head.{Head}
use Rattle.headers.specs.Head.{fields, image}
use Rattle.headers.specs.Headers.{patch_fields, full_fields, header, patch_header, full_header, head_rows, full_head_rows}
use Rattle.headers.specs.HeaderLaws.{head_rows_is, head_number, full_present}
use Rattle.headers.specs.Stored.{stored_size, size_rows}
use Rattle.headers.specs.StoredLaws.{Imaged, number_four}

-- Each area's header is its own

pub patch_image : (h : Head) → h.magic ≡ patch_magic → h.version ≡ patch_version → h.slot_size ≡ slot_size → h.length ≡ patch_head
    → (P : ℕ) → image h P ≡ patch_header P
unfolding image fields patch_header patch_fields
patch_image h m v s l P = rw (m, v, s, l)

pub full_image : (h : Head) → h.magic ≡ full_magic → h.version ≡ full_version → h.slot_size ≡ 0 → h.length ≡ full_head
    → (P : ℕ) → image h P ≡ full_header P
unfolding image fields full_header full_fields header le zeros
full_image h m v s l P = rw (m, v, s, l) refl

-- a full header that is there is compared with this one
pub present_rows : (h : Head) (P : ℕ) (full : List ℕ) → h.magic ≡ full_magic → h.version ≡ full_version → h.slot_size ≡ 0 → h.length ≡ full_head
    → (length full ≡ 0 → ⊥) → first_of (full_head_rows P full) ≡ first_of (head_rows (image h P) h.length full)
present_rows h P full m v s l some = full_present P full some
    ∙ ap (λ (x : List ℕ). first_of (head_rows x full_head full)) (sym (full_image h m v s l P))
    ∙ ap (λ (n : ℕ). first_of (head_rows (image h P) n full)) (sym l)

-- The bytes of a header

-- eight bytes are those at the places 0 to 7
pub eight : (xs : List ℕ) → length xs ≡ 8
    → xs ≡ get_or xs 0 0 ∷ get_or xs 1 0 ∷ get_or xs 2 0 ∷ get_or xs 3 0 ∷ get_or xs 4 0 ∷ get_or xs 5 0 ∷ get_or xs 6 0 ∷ get_or xs 7 0 ∷ []
eight [] e = absurd (omega arith)
eight (a ∷ []) e = absurd (omega arith)
eight (a ∷ b ∷ []) e = absurd (omega arith)
eight (a ∷ b ∷ c ∷ []) e = absurd (omega arith)
eight (a ∷ b ∷ c ∷ d ∷ []) e = absurd (omega arith)
eight (a ∷ b ∷ c ∷ d ∷ f ∷ []) e = absurd (omega arith)
eight (a ∷ b ∷ c ∷ d ∷ f ∷ g ∷ []) e = absurd (omega arith)
eight (a ∷ b ∷ c ∷ d ∷ f ∷ g ∷ h ∷ []) e = absurd (omega arith)
eight (a ∷ b ∷ c ∷ d ∷ f ∷ g ∷ h ∷ i ∷ []) e = refl
eight (a ∷ b ∷ c ∷ d ∷ f ∷ g ∷ h ∷ i ∷ j ∷ xs) e = absurd (omega arith)

module _ (h : Head) (m : length h.magic ≡ 8) where
  pub fields_length : (P : ℕ) → length (fields h P) ≡ 20
  unfolding fields le
  fields_length P = rw (eight h.magic m) refl

  long : (P : ℕ) → length (image h P) ≡ h.length
  unfolding image header
  long P =
      let n : ℕ = h.length - length (fields h P) in
      let f : length (fields h P) ≡ 20 = fields_length P in
      let z : length (zeros n) ≡ n = zeros_length n in
      let s : length (fields h P ++ zeros n) ≡ length (fields h P) + length (zeros n) = length-append (fields h P) (zeros n) in
      omega (arith, h.has_fields)

  by_size : (P Q : ℕ) → le 4 P ≡ le 4 Q → image h P ≡ image h Q
  unfolding image fields
  by_size P Q e = rw e

  pub imaged : Imaged (image h) h.length
  unfolding image header fields le part
  imaged =
      record {
        long = long;
        enough = omega (arith, h.has_fields);
        magic = λ P Q. rw (eight h.magic m) refl;
        version = λ P Q. rw (eight h.magic m) refl;
        size = λ P. rw (eight h.magic m) refl;
        by_size = by_size;
      }

-- The comparison with a whole header

-- the library's equality of slices and the definitions'
alike : (xs ys : List ℕ) → pointwise eqb xs ys ≡ same xs ys
unfolding same
alike [] [] = refl
alike [] (y ∷ ys) = refl
alike (x ∷ xs) [] = refl
alike (x ∷ xs) (y ∷ ys) = ap (λ (t : Bool). eqb x y && t) (alike xs ys)

-- a header by its two parts
pub head_parts : (area fields : List ℕ) (size : ℕ) → length fields ≤ size
    → same (part 0 size area) (header fields size)
    ≡ (same (part 0 (length fields) area) fields && same (part (length fields) (size - length fields) area) (zeros (size - length fields)))
unfolding header
head_parts area fields size h =
    let n : ℕ = length fields in
    let m : ℕ = size - n in
    let e : size ≡ n + m = omega arith in
    let q : 0 + n ≡ n = omega arith in
    ap (λ (k : ℕ). same (part 0 k area) (fields ++ zeros m)) e
    ∙ same_parts 0 n m area fields (zeros m) refl (zeros_length m)
    ∙ ap (λ (k : ℕ). same (part 0 n area) fields && same (part k m area) (zeros m)) q

-- what is compared with a header, where its fields stand in a list of their own
module _ (h : Head) (P : ℕ) (area bytes : List ℕ) (e : bytes ≡ fields h P) (k : length bytes ≡ 20) where
  whole : same (part 0 h.length area) (image h P) ≡ (same (take 20 area) bytes && same (part 20 (h.length - 20) area) (zeros (h.length - 20)))
  unfolding image part
  whole =
      ap (λ (l : List ℕ). same (part 0 h.length area) (header l h.length)) (sym e)
      ∙ head_parts area bytes h.length (omega (arith, h.has_fields))
      ∙ ap (λ (n : ℕ). same (part 0 n area) bytes && same (part n (h.length - n) area) (zeros (h.length - n))) k

  pub begun : (start : List ℕ) → start ≡ take 20 area → same (part 0 h.length area) (image h P)
      ≡ (pointwise eqb start bytes && same (part 20 (h.length - 20) area) (zeros (h.length - 20)))
  begun start s =
      let t : pointwise eqb start bytes ≡ same (take 20 area) bytes = alike start bytes ∙ ap (λ (l : List ℕ). same l bytes) s in
      whole ∙ ap (λ (b : Bool). b && same (part 20 (h.length - 20) area) (zeros (h.length - 20))) (sym t)

  -- an area that is shorter than the fields does not begin with them
  pub too_short : length area < 20 → false ≡ same (part 0 h.length area) (image h P)
  too_short s =
      let l : length (take 20 area) ≡ min 20 (length area) = length-take 20 area in
      let f : same (take 20 area) bytes ≡ false = same_false (take 20 area) bytes
      (λ q.
      let m : length (take 20 area) ≡ length bytes = ap (λ (x : List ℕ). length x) q in
      omega arith) in
      sym (whole ∙ ap (λ (b : Bool). b && same (part 20 (h.length - 20) area) (zeros (h.length - 20))) f)

  pub rows_are : first_of (head_rows (image h P) h.length area)
      ≡ head_number (same (part 0 8 area) (part 0 8 bytes)) (same (part 8 2 area) (part 8 2 bytes)) (same (part 10 10 area) (part 10 10 bytes))
      (same (part 20 (h.length - 20) area) (zeros (h.length - 20)))
  unfolding image
  rows_are =
      ap (λ (l : List ℕ). first_of (head_rows (header l h.length) h.length area)) (sym e)
      ∙ head_rows_is bytes area h.length (omega arith) (omega (arith, h.has_fields))
      ∙ ap (λ (n : ℕ). head_number (same (part 0 8 area) (part 0 8 bytes)) (same (part 8 2 area) (part 8 2 bytes))
      (same (part 10 (n - 10) area) (part 10 (n - 10) bytes)) (same (part n (h.length - n) area) (zeros (h.length - n)))) k

-- what the comparison of the size tells
pub same_size : (P : ℕ) (area : List ℕ) → stored_size area ≡ P → first_of (size_rows P area) ≡ 0
unfolding size_rows first_of or_else
same_size P area e = rw (eq-eqb (stored_size area) P e)

pub other_size : (P : ℕ) (area : List ℕ) → (stored_size area ≡ P → ⊥) → first_of (size_rows P area) ≡ 3
unfolding size_rows first_of or_else
other_size P area n = rw (ne_eqb (stored_size area) P n)

-- four bytes as a number, missing ones as zeros
pub read : (ys : List ℕ) → length ys ≤ 4 → from_le_bytes w32 (splice (zeros 4) 0 (take 4 ys)) ≡ number ys
read ys h =
    let t : take 4 ys ≡ ys = take_all 4 ys h in
    rw (
      splice_zeros 4 (take 4 ys),
      t,
      zeros_after ys (4 - length ys) 0,
      zeros_after ys (4 - length ys) 1,
      zeros_after ys (4 - length ys) 2,
      zeros_after ys (4 - length ys) 3,
      number_four ys h,
    )
    (omega arith)
