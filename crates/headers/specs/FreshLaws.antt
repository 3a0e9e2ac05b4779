-- The laws of fresh areas: what the code lays is one, and how long it is.
use Rattle.std.specs.Prelude.{ℕ, ◌+◌, ◌-◌, ◌≤◌, ◌<◌, min, ◌⊎◌, Bool, true, false, cond, List, [], ◌++◌, ◌≡◌, refl, eqb, length, take}
use Rattle.std.proofs.Common.{arith, inl, inr, sym, ap, ◌∙◌, lit≤, length-append, length-take, eqb-true, get_or-take}
use Rattle.std.proofs.lemmas.Bool.{eqb-false}
use Rattle.layout.specs.Sizes.{patch_head, full_head}
use Rattle.span.specs.Bytes.{zeros, splice}
use Rattle.span.specs.Laws.{zeros_length, ext, zeros_after, splice_zeros}
use Rattle.headers.specs.Headers.{patch_fields, full_fields, header, patch_header, full_header}
use Rattle.layout.specs.Numbers.{le}
use Rattle.headers.specs.Fresh.{fresh_patch, fresh_full}

pub fresh_is : (fields : List ℕ) (n size : ℕ) → length fields ≤ size
    → splice (zeros n) 0 (take n fields) ≡ take n (header fields size ++ zeros (n - size))
unfolding header
fresh_is fields n size h =
    let k : ℕ = n - length (take n fields) in
    let a : length (take n fields) ≡ min n (length fields) = length-take n fields in
    let b : length (take n fields ++ zeros k) ≡ length (take n fields) + length (zeros k) = length-append (take n fields) (zeros k) in
    let w : List ℕ = (fields ++ zeros (size - length fields)) ++ zeros (n - size) in
    let l : length w ≡ length (fields ++ zeros (size - length fields)) + length (zeros (n - size)) = length-append
    (fields ++ zeros (size - length fields)) (zeros (n - size)) in
    let m : length (fields ++ zeros (size - length fields)) ≡ length fields + length (zeros (size - length fields)) = length-append fields
    (zeros (size - length fields)) in
    let z : length (zeros k) ≡ k = zeros_length k in
    let y : length (zeros (n - size)) ≡ n - size = zeros_length (n - size) in
    let x : length (zeros (size - length fields)) ≡ size - length fields = zeros_length (size - length fields) in
    let t : length (take n w) ≡ min n (length w) = length-take n w in
    splice_zeros n (take n fields)
    ∙ ext (take n fields ++ zeros k) (take n w) (omega arith)
    (λ i j.
    let j' : i < n = omega arith in
    zeros_after (take n fields) k i
    ∙ get_or-take n fields i 0 j'
    ∙ sym (get_or-take n w i 0 j' ∙ zeros_after (fields ++ zeros (size - length fields)) (n - size) i
    ∙ zeros_after fields (size - length fields) i))

pub fresh_patch_is : (P n : ℕ) → splice (zeros n) 0 (take n (patch_fields P)) ≡ take n (fresh_patch P n)
unfolding fresh_patch patch_header patch_fields le
fresh_patch_is P n = fresh_is (patch_fields P) n patch_head (lit≤ tt)

-- a full area of length 0 has no header, and no byte to hold one
pub fresh_full_taken : (P n : ℕ) → take n (fresh_full P n) ≡ take n (full_header P ++ zeros (n - full_head))
unfolding fresh_full
fresh_full_taken P n = go (eqb n 0) refl
  where
    go : (t : Bool) → eqb n 0 ≡ t → take n (cond t [] (full_header P ++ zeros (n - full_head))) ≡ take n (full_header P ++ zeros (n - full_head))
    go true e =
        let q : n ≡ 0 = eqb-true n 0 e in
        ap (λ (k : ℕ). take {A = ℕ} k []) q ∙ sym (ap (λ (k : ℕ). take k (full_header P ++ zeros (n - full_head))) q)
    go false e = refl

pub fresh_full_is : (P n : ℕ) → splice (zeros n) 0 (take n (full_fields P)) ≡ take n (fresh_full P n)
unfolding full_header full_fields le
fresh_full_is P n = fresh_is (full_fields P) n full_head (lit≤ tt) ∙ sym (fresh_full_taken P n)

-- fresh areas have the lengths that they were made for
pub fresh_patch_length : (P l : ℕ) → patch_head ≤ l → length (fresh_patch P l) ≡ l
unfolding fresh_patch patch_header header patch_fields le
fresh_patch_length P l h =
    let z : List ℕ = zeros (l - patch_head) in
    let a : length (header (patch_fields P) patch_head ++ z) ≡ length (header (patch_fields P) patch_head) + length z = length-append
    (header (patch_fields P) patch_head) z in
    let b : length (zeros (patch_head - 20)) ≡ patch_head - 20 = zeros_length (patch_head - 20) in
    let c : length z ≡ l - patch_head = zeros_length (l - patch_head) in
    omega arith

pub fresh_full_length : (P l : ℕ) → (l ≡ 0) ⊎ (full_head ≤ l) → length (fresh_full P l) ≡ l
unfolding fresh_full full_header header full_fields le
fresh_full_length P l h = go (eqb l 0) refl h
  where
    f : List ℕ
    f = header (full_fields P) full_head

    go : (t : Bool) → eqb l 0 ≡ t → (l ≡ 0) ⊎ (full_head ≤ l) → length (cond t [] (f ++ zeros (l - full_head))) ≡ l
    go true e k = sym (eqb-true l 0 e)
    go false e (inl k) = absurd (eqb-false l 0 e k)
    go false e (inr k) =
        let z : List ℕ = zeros (l - full_head) in
        let a : length (f ++ z) ≡ length f + length z = length-append f z in
        let b : length (zeros (full_head - 16)) ≡ full_head - 16 = zeros_length (full_head - 16) in
        let c : length z ≡ l - full_head = zeros_length (l - full_head) in
        omega arith
