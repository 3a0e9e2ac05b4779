-- The laws of what a header says of itself: a header is sound exactly where it is the image of some page size, a size that fits its
-- field is read back, and the check by the own image is the check by the call's size.
use Prim.Native.Nat.{ℕ, zero, suc, ◌+◌, ◌-◌, ◌*◌, ◌/◌, ◌%◌, ◌≤◌, min}
use Rattle.std.proofs.Common.{arith, ◌∙◌, lit<, eqb-true}
use Rattle.std.specs.Prelude.{◌≡◌, ◌↔◌, not, cond, ◌&&◌, get_or}
use Rattle.std.proofs.Math.Path.{refl, sym, ap}
use Rattle.std.proofs.Math.Bool.{Bool, true, false, and-true, and-false}
use mathlib.Core.List.{List, [], ◌∷◌}
use Rattle.std.proofs.Math.Dec.{eqb}
use Rattle.std.proofs.Math.ListN.{length}
use Rattle.std.proofs.lemmas.Bool.{eqb-false}
use Rattle.span.specs.Bytes.{part, same}
use Rattle.span.specs.Laws.{part_short, part_part, part_length, part_at, same_is}
use Rattle.layout.specs.Sizes.{patch_head, full_head, version_at, rest_at, page_size_at, size_width}
use Rattle.layout.specs.Numbers.{le, number}
use Rattle.layout.specs.Refusals.{first_of, or_else}
use Rattle.headers.specs.Headers.{patch_fields, full_fields, header, patch_header, full_header, head_rows, patch_head_rows}
use Rattle.headers.specs.Stored.{stored_size, patch_image_rows, full_image_rows, size_rows}
use Rattle.headers.specs.Meaning.{head_none, head_like, patch_header_length, full_header_length}

-- Numbers in bytes

-- a number that fits so many bytes
abbrev pub Fits : ℕ → ℕ → Type 0
Fits zero v = v ≡ 0
Fits (suc k) v = Fits k (v / 256)

-- it is read back
pub number_le : (k v : ℕ) → Fits k v → number (le k v) ≡ v
unfolding number le
number_le zero v h = sym h
number_le (suc k) v h =
    let e : number (le k (v / 256)) ≡ v / 256 = number_le k (v / 256) h in
    omega arith

-- and the number in a field's bytes gives the same bytes again, whether it fitted or not
pub le_number : (k v : ℕ) → le k (number (le k v)) ≡ le k v
unfolding le number
le_number zero v = refl
le_number (suc k) v =
    let x : ℕ = number (le k (v / 256)) in
    let a : (v % 256 + 256 * x) % 256 ≡ v % 256 = omega arith in
    let b : (v % 256 + 256 * x) / 256 ≡ x = omega arith in
    rw (a, b) (ap (λ (l : List ℕ). v % 256 ∷ l) (le_number k (v / 256)))

-- four bytes, missing ones as zeros
pub number_four : (ys : List ℕ) → length ys ≤ 4
    → number ys ≡ get_or ys 0 0 + 256 * (get_or ys 1 0 + 256 * (get_or ys 2 0 + 256 * get_or ys 3 0))
unfolding number
number_four [] h = refl
number_four (a ∷ []) h = omega arith
number_four (a ∷ b ∷ []) h = omega arith
number_four (a ∷ b ∷ c ∷ []) h = omega arith
number_four (a ∷ b ∷ c ∷ d ∷ []) h = omega arith
number_four (a ∷ b ∷ c ∷ d ∷ e ∷ ys) h = absurd (omega arith)

-- four bytes from `at` on, missing ones as zeros
pub number_4 : (at : ℕ) (xs : List ℕ)
    → number (part at 4 xs) ≡ get_or xs (at + 0) 0 + 256 * (get_or xs (at + 1) 0 + 256 * (get_or xs (at + 2) 0 + 256 * get_or xs (at + 3) 0))
number_4 at xs =
    let s : length (part at 4 xs) ≡ min 4 (length xs - at) = part_short at 4 xs in
    number_four (part at 4 xs) (omega arith)
    ∙ rw (part_at at 4 xs 0 (lit< tt), part_at at 4 xs 1 (lit< tt), part_at at 4 xs 2 (lit< tt), part_at at 4 xs 3 (lit< tt))

-- Headers that differ by their page size alone

-- the number that the comparisons give, with the size's own
split : (a b c d : Bool) → or_else (cond (not a) 3 0) (or_else (cond (not b) 4 0) (or_else (cond (not (c && d)) 3 0) 0))
    ≡ or_else (or_else (cond (not a) 3 0) (or_else (cond (not b) 4 0) (or_else (cond (not c) 3 0) 0))) (or_else (cond (not d) 3 0) 0)
unfolding or_else
split true true true true = refl
split true true true false = refl
split true true false d = refl
split true false c d = refl
split false b c d = refl

-- what an image is: its length, its magic and version whatever the size, and the size's bytes at their place
pub record Imaged (image : ℕ → List ℕ) (head : ℕ) : Type 0 where
  pub long : (P : ℕ) → length (image P) ≡ head
  pub enough : page_size_at + size_width ≤ head
  pub magic : (P Q : ℕ) → part 0 version_at (image P) ≡ part 0 version_at (image Q)
  pub version : (P Q : ℕ) → part version_at (rest_at - version_at) (image P) ≡ part version_at (rest_at - version_at) (image Q)
  pub size : (P : ℕ) → part page_size_at size_width (image P) ≡ le size_width P
  pub by_size : (P Q : ℕ) → le size_width P ≡ le size_width Q → image P ≡ image Q

-- an area begins with the image of some size
pub record Image (image : ℕ → List ℕ) (head : ℕ) (area : List ℕ) : Type 0 where
  pub size : ℕ
  pub bytes : part 0 head area ≡ image size

module _ (image : ℕ → List ℕ) (head : ℕ) (known : Imaged image head) (area : List ℕ) where
  -- the size's bytes, from all that follows the version
  told : (P : ℕ) → part rest_at (head - rest_at) area ≡ part rest_at (head - rest_at) (image P) → stored_size area ≡ number (le size_width P)
  unfolding stored_size
  told P e =
      let n : ℕ = head - rest_at in
      let enough : page_size_at + size_width ≤ head = known.enough in
      let l : length (image P) ≡ head = known.long P in
      let a : length (part rest_at n (image P)) ≡ n = part_length rest_at n (image P) (omega arith) in
      let b : length (part rest_at n area) ≡ min n (length area - rest_at) = part_short rest_at n area in
      let d : length (part rest_at n area) ≡ length (part rest_at n (image P)) = ap (λ (x : List ℕ). length x) e in
      ap (λ (x : List ℕ). number x)
      (sym (part_part 2 size_width rest_at n area (omega arith) (omega arith))
      ∙ ap (λ (x : List ℕ). part 2 size_width x) e
      ∙ part_part 2 size_width rest_at n (image P) (omega arith) (omega arith)
      ∙ known.size P)

  rest : ℕ → Bool
  rest P = same (part rest_at (head - rest_at) area) (part rest_at (head - rest_at) (image P))

  rest_is : (P : ℕ) → Fits size_width P → rest P ≡ (rest (stored_size area) && eqb (stored_size area) P)
  unfolding rest
  rest_is P fits = go (eqb (stored_size area) P) refl
    where
      go : (t : Bool) → eqb (stored_size area) P ≡ t → rest P ≡ (rest (stored_size area) && t)
      go true e = ap (λ (Q : ℕ). rest Q) (sym (eqb-true (stored_size area) P e)) ∙ sym (and-true (rest (stored_size area)))
      go false e = off (rest P) refl ∙ sym (and-false (rest (stored_size area)))
        where
          off : (r : Bool) → rest P ≡ r → rest P ≡ false
          off true q = absurd (eqb-false (stored_size area) P e (told P (same_is _ _ q) ∙ number_le size_width P fits))
          off false q = q

  -- the check by the own image is the check by the call's size
  pub same_rule : (P : ℕ) → Fits size_width P
      → first_of (head_rows (image P) head area)
      ≡ or_else (first_of (head_rows (image (stored_size area)) head area)) (first_of (size_rows P area))
  unfolding head_rows first_of rest size_rows
  same_rule P fits =
      let a : Bool = same (part 0 version_at area) (part 0 version_at (image P)) in
      let b : Bool = same (part version_at (rest_at - version_at) area) (part version_at (rest_at - version_at) (image P)) in
      ap (λ (t : Bool). or_else (cond (not a) 3 0) (or_else (cond (not b) 4 0) (or_else (cond (not t) 3 0) 0))) (rest_is P fits)
      ∙ split a b (rest (stored_size area)) (eqb (stored_size area) P)
      ∙ rw (known.magic P (stored_size area), known.version P (stored_size area))

  -- an area that begins with an image gives that image's size
  told_whole : (P : ℕ) → part 0 head area ≡ image P → stored_size area ≡ number (le size_width P)
  told_whole P e =
      let n : ℕ = head - rest_at in
      let enough : page_size_at + size_width ≤ head = known.enough in
      let m : length (part 0 head area) ≡ min head (length area - 0) = part_short 0 head area in
      let l : length (part 0 head area) ≡ head = ap (λ (x : List ℕ). length x) e ∙ known.long P in
      told P (sym (part_part rest_at n 0 head area (omega arith) (omega arith)) ∙ ap (λ (x : List ℕ). part rest_at n x) e)

  -- and one that fits its field is read back
  pub stored_back : (P : ℕ) → Fits size_width P → part 0 head area ≡ image P → stored_size area ≡ P
  stored_back P fits e = told_whole P e ∙ number_le size_width P fits

  -- a header is sound by its own image exactly where it is the image of some size
  pub image_sound : (first_of (head_rows (image (stored_size area)) head area) ≡ 0) ↔ Image image head area
  image_sound =
      let enough : page_size_at + size_width ≤ head = known.enough in
      let s : ℕ = stored_size area in (
        λ e. record { size = s; bytes = head_none (image s) area head (known.long s) (omega arith) e },
        λ i. head_like (image s) area head (known.long s) (omega arith) (i.bytes ∙ sym (own i)),
      )
    where
      own : (i : Image image head area) → image (stored_size area) ≡ image i.size
      own i = known.by_size (stored_size area) i.size
          (ap (λ (v : ℕ). le size_width v) (told_whole i.size i.bytes) ∙ le_number size_width i.size)

-- Both headers

patch_by_size : (P Q : ℕ) → le size_width P ≡ le size_width Q → patch_header P ≡ patch_header Q
unfolding patch_header patch_fields
patch_by_size P Q e = rw e

full_by_size : (P Q : ℕ) → le size_width P ≡ le size_width Q → full_header P ≡ full_header Q
unfolding full_header full_fields
full_by_size P Q e = rw e

pub patch_imaged : Imaged patch_header patch_head
unfolding part patch_header header patch_fields le
patch_imaged =
    record {
      long = patch_header_length;
      enough = omega arith;
      magic = λ P Q. refl;
      version = λ P Q. refl;
      size = λ P. refl;
      by_size = patch_by_size;
    }

pub full_imaged : Imaged full_header full_head
unfolding part full_header header full_fields le
full_imaged =
    record {
      long = full_header_length;
      enough = omega arith;
      magic = λ P Q. refl;
      version = λ P Q. refl;
      size = λ P. refl;
      by_size = full_by_size;
    }

pub patch_sound : (patch : List ℕ) → (first_of (patch_image_rows patch) ≡ 0) ↔ Image patch_header patch_head patch
unfolding patch_image_rows
patch_sound patch = image_sound patch_header patch_head patch_imaged patch

pub full_sound : (full : List ℕ) → (first_of (full_image_rows full) ≡ 0) ↔ Image full_header full_head full
unfolding full_image_rows
full_sound full = image_sound full_header full_head full_imaged full

pub patch_rule : (P : ℕ) (patch : List ℕ) → Fits size_width P
    → first_of (patch_head_rows P patch) ≡ or_else (first_of (patch_image_rows patch)) (first_of (size_rows P patch))
unfolding patch_head_rows patch_image_rows
patch_rule P patch fits = same_rule patch_header patch_head patch_imaged patch P fits

pub full_rule : (P : ℕ) (full : List ℕ) → Fits size_width P
    → first_of (head_rows (full_header P) full_head full) ≡ or_else (first_of (full_image_rows full)) (first_of (size_rows P full))
unfolding full_image_rows
full_rule P full fits = same_rule full_header full_head full_imaged full P fits
