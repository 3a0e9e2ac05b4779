-- What the headers come to: their images, and their fields at the paper's places.
use Rattle.std.specs.Prelude.{ℕ, ◌+◌, ◌-◌, ◌≤◌, min, ◌⊎◌, not, cond, length}
use Rattle.std.proofs.Common.{arith, sym, ap, ◌∙◌, eqb-true}
use Rattle.std.proofs.Math.Path.{◌≡◌, refl}
use Rattle.std.proofs.Math.Logic.{inl, inr}
use Rattle.std.proofs.Math.Bool.{Bool, true, false}
use mathlib.Core.List.{List, [], ◌∷◌, ◌++◌}
use Rattle.std.proofs.Math.Dec.{eqb}
use Rattle.std.proofs.lemmas.Bool.{eqb-false, not-false}
use Rattle.span.specs.Bytes.{zeros, part, same}
use Rattle.span.specs.Laws.{zeros_length, part_short, part_whole, part_part, part_join, same_is, same_true}
use Rattle.layout.specs.Sizes.{patch_head, full_head, version_at, rest_at}
use Rattle.layout.specs.Numbers.{number, le}
use Rattle.layout.specs.Refusals.{first_of, or_else}
use Rattle.layout.specs.RefusalLaws.{first_append, or_none, row_off}
use Rattle.headers.specs.Headers.{patch_fields, full_fields, header, patch_header, full_header, head_rows, patch_head_rows, full_head_rows}
use Rattle.headers.specs.Headers.{header_rows}
use Rattle.headers.specs.HeaderLaws.{headers_none, headers_full}

-- Headers

module _ (head area : List ℕ) (size : ℕ) (l : length head ≡ size) (h : rest_at ≤ size) where
  in_three : (xs : List ℕ) → part 0 size xs ≡ part 0 version_at xs
      ++ (part version_at (rest_at - version_at) xs ++ part rest_at (size - rest_at) xs)
  in_three xs =
      let q : size ≡ version_at + (rest_at - version_at + (size - rest_at)) = omega arith in
      ap (λ (n : ℕ). part 0 n xs) q
      ∙ part_join 0 version_at (rest_at - version_at + (size - rest_at)) xs
      ∙ ap (λ (t : List ℕ). part 0 version_at xs ++ t) (part_join version_at (rest_at - version_at) (size - rest_at) xs)

  pub head_none : first_of (head_rows head size area) ≡ 0 → part 0 size area ≡ head
  unfolding head_rows first_of
  head_none e =
      let a : Bool = same (part 0 version_at area) (part 0 version_at head) in
      let b : Bool = same (part version_at (rest_at - version_at) area) (part version_at (rest_at - version_at) head) in
      let c : Bool = same (part rest_at (size - rest_at) area) (part rest_at (size - rest_at) head) in
      let x : ◌≡◌ {A = ℕ} (cond (not a) 3 0) 0 × (or_else (cond (not b) 4 0) (or_else (cond (not c) 3 0) 0) ≡ 0) = or_none
      (cond (not a) 3 0) (or_else (cond (not b) 4 0) (or_else (cond (not c) 3 0) 0)) e in
      let y : ◌≡◌ {A = ℕ} (cond (not b) 4 0) 0 × (or_else (cond (not c) 3 0) 0 ≡ 0) = or_none (cond (not b) 4 0)
      (or_else (cond (not c) 3 0) 0) x.1 in
      let z : ◌≡◌ {A = ℕ} (cond (not c) 3 0) 0 × ◌≡◌ {A = ℕ} 0 0 = or_none (cond (not c) 3 0) 0 y.1 in
      let p : part 0 version_at area ≡ part 0 version_at head = same_is (part 0 version_at area) (part 0 version_at head)
      (not-false a (row_off 2 (not a) x.0)) in
      let q : part version_at (rest_at - version_at) area ≡ part version_at (rest_at - version_at) head =
      same_is (part version_at (rest_at - version_at) area) (part version_at (rest_at - version_at) head)
      (not-false b (row_off 3 (not b) y.0)) in
      let r : part rest_at (size - rest_at) area ≡ part rest_at (size - rest_at) head = same_is (part rest_at (size - rest_at) area)
      (part rest_at (size - rest_at) head) (not-false c (row_off 2 (not c) z.0)) in
      in_three area ∙ rw (p, q, r) (sym (in_three head)) ∙ part_whole head size l

  module _ (e : part 0 size area ≡ head) where
    inside : (i k : ℕ) → i + k ≤ size → same (part i k area) (part i k head) ≡ true
    inside i k g =
        let m : length (part 0 size area) ≡ min size (length area - 0) = part_short 0 size area in
        let n : length (part 0 size area) ≡ size = ap (λ (x : List ℕ). length x) e ∙ l in
        let q : 0 + i ≡ i = omega arith in
        same_true (part i k area) (part i k head)
        (sym (ap (λ (x : List ℕ). part i k x) (sym e) ∙ part_part i k 0 size area g (omega arith) ∙ ap (λ (j : ℕ). part j k area) q))

    pub head_like : first_of (head_rows head size area) ≡ 0
    unfolding head_rows first_of or_else
    head_like = rw (
      inside 0 version_at (omega arith),
      inside version_at (rest_at - version_at) (omega arith),
      inside rest_at (size - rest_at)
          (omega arith),
    )

pub patch_header_length : (P : ℕ) → length (patch_header P) ≡ patch_head
unfolding patch_header header patch_fields le
patch_header_length P =
    let z : length (zeros (patch_head - 20)) ≡ patch_head - 20 = zeros_length (patch_head - 20) in
    omega arith

pub full_header_length : (P : ℕ) → length (full_header P) ≡ full_head
unfolding full_header header full_fields le
full_header_length P =
    let z : length (zeros (full_head - 16)) ≡ full_head - 16 = zeros_length (full_head - 16) in
    omega arith

abbrev pub Headers : ℕ → List ℕ → List ℕ → Type 0
Headers P patch full = (part 0 patch_head patch ≡ patch_header P) × ((length full ≡ 0) ⊎ (part 0 full_head full ≡ full_header P))

module _ (P : ℕ) (patch full : List ℕ) where
  pub headers_sound : first_of (header_rows P patch full) ≡ 0 → Headers P patch full
  unfolding header_rows patch_head_rows full_head_rows
  headers_sound e =
      let w : (first_of (patch_head_rows P patch) ≡ 0) × (first_of (full_head_rows P full) ≡ 0) =
      or_none (first_of (patch_head_rows P patch)) (first_of (full_head_rows P full))
      (sym (first_append (patch_head_rows P patch) (full_head_rows P full)) ∙ e) in
      (head_none (patch_header P) patch patch_head (patch_header_length P) (omega arith) w.0, go (eqb (length full) 0) refl w.1)
    where
      go : (t : Bool) → eqb (length full) 0 ≡ t → first_of (cond t [] (head_rows (full_header P) full_head full)) ≡ 0
          → (length full ≡ 0) ⊎ (part 0 full_head full ≡ full_header P)
      go true p q = inl (eqb-true (length full) 0 p)
      go false p q = inr (head_none (full_header P) full full_head (full_header_length P) (omega arith) q)

  pub sound_headers : Headers P patch full → first_of (header_rows P patch full) ≡ 0
  unfolding patch_head_rows
  sound_headers h = go (eqb (length full) 0) refl h.1
    where
      first : first_of (patch_head_rows P patch) ≡ 0
      first = head_like (patch_header P) patch patch_head (patch_header_length P) (omega arith) h.0

      go : (t : Bool) → eqb (length full) 0 ≡ t → (length full ≡ 0) ⊎ (part 0 full_head full ≡ full_header P)
          → first_of (header_rows P patch full) ≡ 0
      go true p q = headers_none P patch full first (eqb-true (length full) 0 p)
      go false p (inl q) = absurd (eqb-false (length full) 0 p q)
      go false p (inr q) = headers_full P patch full first (eqb-false (length full) 0 p)
          ∙ head_like (full_header P) full full_head (full_header_length P) (omega arith) q

-- the fields of both headers at their places, as numbers
pub record Fields : Type 0 where
  pub patch_magic_is : part 0 8 (patch_header 8192) ≡ 0x50 ∷ 0x42 ∷ 0x4B ∷ 0x50 ∷ 0x41 ∷ 0x54 ∷ 0x43 ∷ 0x48 ∷ []
  pub patch_version_is : number (part 8 2 (patch_header 8192)) ≡ 2
  pub patch_flags_is : number (part 10 2 (patch_header 8192)) ≡ 0
  pub patch_page : number (part 12 4 (patch_header 8192)) ≡ 8192
  pub patch_slot_is : number (part 16 4 (patch_header 8192)) ≡ 512
  pub patch_rest : part 20 492 (patch_header 8192) ≡ zeros 492
  pub full_magic_is : part 0 8 (full_header 8192) ≡ 0x50 ∷ 0x42 ∷ 0x4B ∷ 0x46 ∷ 0x55 ∷ 0x4C ∷ 0x4C ∷ 0 ∷ []
  pub full_version_is : number (part 8 2 (full_header 8192)) ≡ 1
  pub full_flags : number (part 10 2 (full_header 8192)) ≡ 0
  pub full_page : number (part 12 4 (full_header 8192)) ≡ 8192
  pub full_rest : part 16 4080 (full_header 8192) ≡ zeros 4080

pub fields : Fields
unfolding part zeros number patch_header full_header header patch_fields full_fields le
fields =
    record {
      patch_magic_is = refl;
      patch_version_is = refl;
      patch_flags_is = refl;
      patch_page = refl;
      patch_slot_is = refl;
      patch_rest = refl;
      full_magic_is = refl;
      full_version_is = refl;
      full_flags = refl;
      full_page = refl;
      full_rest = refl;
    }
