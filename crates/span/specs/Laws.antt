-- The laws of zeros, parts and splices that the whole project cites. Lengths first, then a byte at a place, then equations of lists,
-- each of which follows from the bytes at every place.
use Rattle.std.specs.Prelude.{ℕ, ◌+◌, ◌-◌, ◌≤◌, ◌<◌, min, ◌≡◌, refl, Bool, true, false, ◌&&◌, List, [], ◌∷◌, ◌++◌, eqb, take, set, replicate}
use Rattle.std.proofs.Common.{arith, add-one, sym, ◌∙◌, eq-eqb, eqb-true}
use Rattle.std.proofs.Common.{length-set, length-append, length-take, length-drop, drop_of_length-le, get_or-drop, ext_get_or, length-take-le}
use Rattle.std.proofs.Common.{drop-drop, take-add, take_all, get_or-set_same, get_or-set_other, drop_at, drop-cons, take-suc}
use Rattle.std.proofs.Math.Decide.{dec_lt}
use Rattle.std.proofs.Math.Path.{ap}
use Rattle.std.proofs.lemmas.Bool.{false≢true}
use Rattle.std.proofs.Math.Bool.{and-true, and_assoc}
use Rattle.std.proofs.Math.ListN.{length, drop, get_or, get_or-append, get_or-eq_default}
use Rattle.std.proofs.lemmas.List.{replicate-append-replicate, length-replicate, get_or-replicate}
use Rattle.std.proofs.Math.Seq.{get_or-take, get_or-append-add, take-nil, get_or-append_seam, take-length}
use borrow.Rule.Slice.PartMut.{mid_of, put_mid}
use Rattle.span.specs.Bytes.{zeros, part, splice, same}

-- Lengths

pub zeros_length : (n : ℕ) → length (zeros n) ≡ n
unfolding zeros
zeros_length n = length-replicate n 0

pub part_length : (at n : ℕ) (xs : List ℕ) → at + n ≤ length xs → length (part at n xs) ≡ n
unfolding part
part_length at n xs h = simp (length-take, length-drop) (omega arith)

pub splice_length : (xs : List ℕ) (at : ℕ) (ys : List ℕ) → at + length ys ≤ length xs → length (splice xs at ys) ≡ length xs
unfolding splice
splice_length xs at ys h = simp (length-append, length-take, length-drop) (omega arith)

-- A byte at a place

pub zeros_at : (n i : ℕ) → get_or (zeros n) i 0 ≡ 0
unfolding zeros
zeros_at n i =
    elim (dec_lt i n) [
      | yes h ↦ get_or-replicate n i 0 0 h
      | no h ↦ get_or-eq_default (replicate n 0) 0 (simp length-replicate (omega arith))
    ]

pub part_at : (at n : ℕ) (xs : List ℕ) (i : ℕ) → i < n → get_or (part at n xs) i 0 ≡ get_or xs (at + i) 0
unfolding part
part_at at n xs i h = rw (get_or-take, get_or-drop)

module _ (xs : List ℕ) (at : ℕ) (ys : List ℕ) (h : at ≤ length xs) where
  pub splice_before : (i : ℕ) → i < at → get_or (splice xs at ys) i 0 ≡ get_or xs i 0
  unfolding splice
  splice_before i k =
      get_or-append (take at xs) (ys ++ drop (at + length ys) xs) 0 i (rw (length-take-le at xs h) k) ∙ get_or-take at xs i 0 k

  past : (j : ℕ) → get_or (splice xs at ys) (at + j) 0 ≡ get_or (ys ++ drop (at + length ys) xs) j 0
  unfolding splice
  past j =
      ap (λ (k : ℕ). get_or (take at xs ++ (ys ++ drop (at + length ys) xs)) (k + j) 0) (sym (length-take-le at xs h))
      ∙ get_or-append-add (take at xs) (ys ++ drop (at + length ys) xs) j 0

  pub splice_in : (j : ℕ) → j < length ys → get_or (splice xs at ys) (at + j) 0 ≡ get_or ys j 0
  splice_in j k = past j ∙ get_or-append ys (drop (at + length ys) xs) 0 j k

  pub splice_after : (i : ℕ) → at + length ys ≤ i → get_or (splice xs at ys) i 0 ≡ get_or xs i 0
  splice_after i k =
      let j : ℕ = i - (at + length ys) in
      let e : at + (length ys + j) ≡ i = omega arith in
      let f : at + length ys + j ≡ i = omega arith in
      ap (λ (k : ℕ). get_or (splice xs at ys) k 0) (sym e)
      ∙ past (length ys + j)
      ∙ get_or-append-add ys (drop (at + length ys) xs) j 0
      ∙ get_or-drop (at + length ys) xs j 0
      ∙ ap (λ (k : ℕ). get_or xs k 0) f

-- Two lists with the same bytes at every place are one

pub ext : (xs ys : List ℕ) → length xs ≡ length ys → ((i : ℕ) → i < length xs → get_or xs i 0 ≡ get_or ys i 0) → xs ≡ ys
ext xs ys = ext_get_or 0 xs ys

-- Equations of parts

pub zeros_nil : zeros 0 ≡ []
unfolding zeros
zeros_nil = refl

pub part_zeros : (at n k : ℕ) → at + n ≤ k → part at n (zeros k) ≡ zeros n
part_zeros at n k h =
    let f : at + n ≤ length (zeros k) = rw zeros_length h in
    ext (part at n (zeros k)) (zeros n) (part_length at n (zeros k) f ∙ sym (zeros_length n))
    (λ i l. part_at at n (zeros k) i (rw (part_length at n (zeros k) f) at l) ∙ zeros_at k (at + i) ∙ sym (zeros_at n i))

pub part_whole : (xs : List ℕ) (n : ℕ) → length xs ≡ n → part 0 n xs ≡ xs
part_whole xs n e =
    let f : 0 + n ≤ length xs = omega arith in
    ext (part 0 n xs) xs (part_length 0 n xs f ∙ sym e)
    (λ i l. part_at 0 n xs i (rw (part_length 0 n xs f) at l) ∙ ap (λ (k : ℕ). get_or xs k 0) (omega arith))

pub part_none : (at : ℕ) (xs : List ℕ) → part at 0 xs ≡ []
unfolding part
part_none at xs = refl

pub part_part : (i k at n : ℕ) (xs : List ℕ) → i + k ≤ n → at + n ≤ length xs → part i k (part at n xs) ≡ part (at + i) k xs
part_part i k at n xs h l =
    let e : length (part at n xs) ≡ n = part_length at n xs l in
    let f : length (part i k (part at n xs)) ≡ k = part_length i k (part at n xs) (omega arith) in
    ext (part i k (part at n xs)) (part (at + i) k xs) (f ∙ sym (part_length (at + i) k xs (omega arith)))
    (λ j m.
    let m' : j < k = rw f at m in
    let m'' : i + j < n = omega arith in
    let g : at + (i + j) ≡ at + i + j = omega arith in
    part_at i k (part at n xs) j m'
    ∙ part_at at n xs (i + j) m''
    ∙ ap (λ (q : ℕ). get_or xs q 0) g
    ∙ sym (part_at (at + i) k xs j m'))

pub part_join : (at n m : ℕ) (xs : List ℕ) → part at (n + m) xs ≡ part at n xs ++ part (at + n) m xs
unfolding part
part_join at n m xs = take-add n m (drop at xs) ∙ ap (λ (l : List ℕ). take n (drop at xs) ++ take m l) (drop-drop n at xs)

-- a part of one byte more
pub part_more : (at n : ℕ) (xs : List ℕ) → at + n < length xs → part at (n + 1) xs ≡ part at n xs ++ (get_or xs (at + n) 0 ∷ [])
unfolding part
part_more at n xs h =
    let l : length (drop at xs) ≡ length xs - at = length-drop at xs in
    ap (λ (k : ℕ). take k (drop at xs)) (add-one n)
    ∙ take-suc (drop at xs) n 0 (omega arith)
    ∙ ap (λ (v : ℕ). take n (drop at xs) ++ (v ∷ [])) (get_or-drop at xs n 0)

-- Equations of splices

pub splice_whole : (xs ys : List ℕ) → length ys ≡ length xs → splice xs 0 ys ≡ ys
splice_whole xs ys e =
    let f : 0 + length ys ≤ length xs = omega arith in
    ext (splice xs 0 ys) ys (splice_length xs 0 ys f ∙ sym e)
    (λ i l.
    let l' : i < length xs = rw (splice_length xs 0 ys f) at l in
    let g : 0 + i ≡ i = omega arith in
    ap (λ (k : ℕ). get_or (splice xs 0 ys) k 0) (sym g) ∙ splice_in xs 0 ys (omega arith) i (omega arith))

pub splice_none : (xs : List ℕ) (at : ℕ) → at ≤ length xs → splice xs at [] ≡ xs
splice_none xs at h =
    let f : at + length {A = ℕ} [] ≤ length xs = omega arith in
    ext (splice xs at []) xs (splice_length xs at [] f)
    (λ i l.
    elim (dec_lt i at) [
      | yes k ↦ splice_before xs at [] h i k
      | no k ↦ splice_after xs at [] h i (omega arith)
    ])

-- what was laid is there
pub part_splice : (xs : List ℕ) (at : ℕ) (ys : List ℕ) (n : ℕ) → length ys ≡ n → at + n ≤ length xs → part at n (splice xs at ys) ≡ ys
part_splice xs at ys n e h =
    let f : length (splice xs at ys) ≡ length xs = splice_length xs at ys (omega arith) in
    let g : length (part at n (splice xs at ys)) ≡ n = part_length at n (splice xs at ys) (omega arith) in
    ext (part at n (splice xs at ys)) ys (g ∙ sym e)
    (λ i l. part_at at n (splice xs at ys) i (omega arith) ∙ splice_in xs at ys (omega arith) i (omega arith))

-- a part before it, or after it, is as it was
pub part_splice_before : (xs : List ℕ) (at : ℕ) (ys : List ℕ) (i n : ℕ) → at + length ys ≤ length xs → i + n ≤ at
    → part i n (splice xs at ys) ≡ part i n xs
part_splice_before xs at ys i n h k =
    let f : length (splice xs at ys) ≡ length xs = splice_length xs at ys h in
    let g : length (part i n (splice xs at ys)) ≡ n = part_length i n (splice xs at ys) (omega arith) in
    ext (part i n (splice xs at ys)) (part i n xs) (g ∙ sym (part_length i n xs (omega arith)))
    (λ j l.
    let l' : j < n = omega arith in
    part_at i n (splice xs at ys) j l' ∙ splice_before xs at ys (omega arith) (i + j) (omega arith) ∙ sym (part_at i n xs j l'))

pub part_splice_after : (xs : List ℕ) (at : ℕ) (ys : List ℕ) (i n : ℕ) → at + length ys ≤ length xs → at + length ys ≤ i
    → i + n ≤ length xs → part i n (splice xs at ys) ≡ part i n xs
part_splice_after xs at ys i n h k m =
    let f : length (splice xs at ys) ≡ length xs = splice_length xs at ys h in
    let g : length (part i n (splice xs at ys)) ≡ n = part_length i n (splice xs at ys) (omega arith) in
    ext (part i n (splice xs at ys)) (part i n xs) (g ∙ sym (part_length i n xs m))
    (λ j l.
    let l' : j < n = omega arith in
    part_at i n (splice xs at ys) j l' ∙ splice_after xs at ys (omega arith) (i + j) (omega arith) ∙ sym (part_at i n xs j l'))

-- two lists that agree outside a part and in it are one: how a splice is recognized
pub splice_is : (xs : List ℕ) (at : ℕ) (ys zs : List ℕ) → at + length ys ≤ length xs → length zs ≡ length xs
    → ((i : ℕ) → i < at → get_or zs i 0 ≡ get_or xs i 0)
    → ((j : ℕ) → j < length ys → get_or zs (at + j) 0 ≡ get_or ys j 0)
    → ((i : ℕ) → at + length ys ≤ i → i < length xs → get_or zs i 0 ≡ get_or xs i 0)
    → zs ≡ splice xs at ys
splice_is xs at ys zs h e before inside after =
    let g : length (splice xs at ys) ≡ length xs = splice_length xs at ys h in
    ext zs (splice xs at ys) (e ∙ sym g)
    (λ i l.
    elim (dec_lt i at) [
      | yes k ↦ before i k ∙ sym (splice_before xs at ys (omega arith) i k)
      | no k ↦
          elim (dec_lt i (at + length ys)) [
            | yes m ↦
                let j : ℕ = i - at in
                let q : at + j ≡ i = omega arith in
                ap (λ (p : ℕ). get_or zs p 0) (sym q)
                ∙ inside j (omega arith)
                ∙ sym (splice_in xs at ys (omega arith) j (omega arith))
                ∙ ap (λ (p : ℕ). get_or (splice xs at ys) p 0) q
            | no m ↦ after i (omega arith) (omega arith) ∙ sym (splice_after xs at ys (omega arith) i (omega arith))
          ]
    ])

-- to lay the same again changes nothing
pub splice_again : (xs : List ℕ) (at : ℕ) (ys : List ℕ) → at + length ys ≤ length xs → splice xs at ys ≡ splice (splice xs at ys) at ys
splice_again xs at ys h =
    splice_is (splice xs at ys) at ys (splice xs at ys) (omega (arith, splice_length xs at ys h)) refl (λ i k. refl)
    (λ j k. splice_in xs at ys (omega arith) j k) (λ i k m. refl)

-- A part lent by `&mut s[a..e]` comes back as a splice

pub put_splice : (a k : ℕ) (xs ys : List ℕ) → length ys ≡ k → put_mid a k xs ys ≡ splice xs a ys
unfolding splice
put_splice a k xs ys e =
    ap (λ (l : List ℕ). take a xs ++ (ys ++ l)) (drop-drop k a xs) ∙ ap (λ (m : ℕ). take a xs ++ (ys ++ drop (a + m) xs)) (sym e)

-- `same` is equality, and goes by parts

pub same_is : (xs ys : List ℕ) → same xs ys ≡ true → xs ≡ ys
unfolding same
same_is [] [] h = refl
same_is [] (y ∷ ys) h = absurd (false≢true h)
same_is (x ∷ xs) [] h = absurd (false≢true h)
same_is (x ∷ xs) (y ∷ ys) h = go (eqb x y) refl (same_is xs ys) h
  where
    go : (b : Bool) → eqb x y ≡ b → (same xs ys ≡ true → xs ≡ ys) → (b && same xs ys) ≡ true → x ∷ xs ≡ y ∷ ys
    go true e rest k = cc (eqb-true x y e, rest k)
    go false e rest k = absurd (false≢true k)

pub is_same : (xs : List ℕ) → same xs xs ≡ true
unfolding same
is_same [] = refl
is_same (x ∷ xs) = rw (eq-eqb x x refl) (is_same xs)

pub same_true : (xs ys : List ℕ) → xs ≡ ys → same xs ys ≡ true
same_true xs ys e = rw e (is_same ys)

pub same_false : (xs ys : List ℕ) → (xs ≡ ys → ⊥) → same xs ys ≡ false
same_false xs ys h = go (same xs ys) refl
  where
    go : (b : Bool) → same xs ys ≡ b → b ≡ false
    go true e = absurd (h (same_is xs ys e))
    go false e = refl

-- One byte more

pub zeros_more : (n : ℕ) → zeros (n + 1) ≡ zeros n ++ (0 ∷ [])
unfolding zeros
zeros_more n = sym (replicate-append-replicate n 1 0)

pub splice_more : (xs : List ℕ) (at : ℕ) (ys : List ℕ) (v : ℕ) → at + length ys < length xs
    → set (splice xs at ys) (at + length ys) v ≡ splice xs at (ys ++ (v ∷ []))
splice_more xs at ys v h =
    let s : List ℕ = splice xs at ys in
    let l : length s ≡ length xs = splice_length xs at ys (omega arith) in
    let m : length (ys ++ (v ∷ [])) ≡ length ys + 1 = length-append ys (v ∷ []) in
    splice_is xs at (ys ++ (v ∷ [])) (set s (at + length ys) v) (omega arith) (length-set s (at + length ys) v ∙ l)
    (λ i k. get_or-set_other s (at + length ys) i v 0 (omega arith) ∙ splice_before xs at ys (omega arith) i k)
    (λ j k.
    elim (dec_lt j (length ys)) [
      | yes o ↦
          get_or-set_other s (at + length ys) (at + j) v 0 (omega arith)
          ∙ splice_in xs at ys (omega arith) j o
          ∙ sym (get_or-append ys (v ∷ []) 0 j o)
      | no o ↦
          let q : j ≡ length ys = omega arith in
          ap (λ (p : ℕ). get_or (set s (at + length ys) v) (at + p) 0) q
          ∙ get_or-set_same s (at + length ys) v 0 (omega arith)
          ∙ sym (get_or-append_seam ys v [] 0)
          ∙ ap (λ (p : ℕ). get_or (ys ++ (v ∷ [])) p 0) (sym q)
    ])
    (λ i k o. get_or-set_other s (at + length ys) i v 0 (omega arith) ∙ splice_after xs at ys (omega arith) i (omega arith))

-- `take` stops where the list does
pub take_min : (n : ℕ) (xs : List ℕ) → take (min n (length xs)) xs ≡ take n xs
take_min n xs =
    elim (dec_lt n (length xs)) [
      | yes h ↦
          let e : min n (length xs) ≡ n = omega arith in
          ap (λ (k : ℕ). take k xs) e
      | no h ↦ take_all (min n (length xs)) xs (omega arith) ∙ sym (take_all n xs (omega arith))
    ]

-- past its end a list has no part, and a part ends where the list does
pub part_past : (at n : ℕ) (xs : List ℕ) → length xs ≤ at → part at n xs ≡ []
unfolding part
part_past at n xs h = ap (λ (l : List ℕ). take n l) (drop_of_length-le xs h) ∙ take-nil n

pub part_clamped : (at n : ℕ) (xs : List ℕ) → part at (min n (length xs - at)) xs ≡ part at n xs
unfolding part
part_clamped at n xs = ap (λ (k : ℕ). take (min n k) (drop at xs)) (sym (length-drop at xs)) ∙ take_min n (drop at xs)

pub same_append : (xs ys us vs : List ℕ) → length xs ≡ length ys → same (xs ++ us) (ys ++ vs) ≡ (same xs ys && same us vs)
unfolding same
same_append [] [] us vs e = refl
same_append [] (b ∷ ys) us vs e = absurd (omega arith)
same_append (a ∷ xs) [] us vs e = absurd (omega arith)
same_append (a ∷ xs) (b ∷ ys) us vs e = ap (λ (t : Bool). eqb a b && t) (same_append xs ys us vs (omega arith))
    ∙ sym (and_assoc (eqb a b) (same xs ys) (same us vs))

-- laid over zeros, the zeros after it stay
pub drop_zeros : (k n : ℕ) → drop k (zeros n) ≡ zeros (n - k)
drop_zeros k n =
    ext (drop k (zeros n)) (zeros (n - k)) (length-drop k (zeros n) ∙ ap (λ (l : ℕ). l - k) (zeros_length n) ∙ sym (zeros_length (n - k)))
    (λ i h. get_or-drop k (zeros n) i 0 ∙ zeros_at n (k + i) ∙ sym (zeros_at (n - k) i))

pub splice_zeros : (n : ℕ) (ys : List ℕ) → splice (zeros n) 0 ys ≡ ys ++ zeros (n - length ys)
unfolding splice
splice_zeros n ys =
    let e : 0 + length ys ≡ length ys = omega arith in
    ap (λ (k : ℕ). ys ++ drop k (zeros n)) e ∙ ap (λ (l : List ℕ). ys ++ l) (drop_zeros (length ys) n)

pub zeros_join : (n m : ℕ) → zeros n ++ zeros m ≡ zeros (n + m)
unfolding zeros
zeros_join n m = replicate-append-replicate n m 0

pub same_more : (xs ys : List ℕ) (x y : ℕ) → length xs ≡ length ys → same (xs ++ (x ∷ [])) (ys ++ (y ∷ [])) ≡ (same xs ys && eqb x y)
unfolding same
same_more xs ys x y e = same_append xs ys (x ∷ []) (y ∷ []) e ∙ ap (λ (t : Bool). same xs ys && t) (and-true (eqb x y))

-- zeros after a list change no byte that is read of it
pub zeros_after : (xs : List ℕ) (k i : ℕ) → get_or (xs ++ zeros k) i 0 ≡ get_or xs i 0
zeros_after xs k i =
    elim (dec_lt i (length xs)) [
      | yes h ↦ get_or-append xs (zeros k) 0 i h
      | no h ↦
          let j : ℕ = i - length xs in
          let q : length xs + j ≡ i = omega arith in
          ap (λ (p : ℕ). get_or (xs ++ zeros k) p 0) (sym q)
          ∙ get_or-append-add xs (zeros k) j 0
          ∙ zeros_at k j
          ∙ sym (get_or-eq_default xs 0 (omega arith))
    ]

-- a part of the first of two lists
pub part_first : (at n : ℕ) (xs ys : List ℕ) → at + n ≤ length xs → part at n (xs ++ ys) ≡ part at n xs
part_first at n xs ys h =
    let m : length (xs ++ ys) ≡ length xs + length ys = length-append xs ys in
    let l : length (part at n (xs ++ ys)) ≡ n = part_length at n (xs ++ ys) (omega arith) in
    ext (part at n (xs ++ ys)) (part at n xs) (l ∙ sym (part_length at n xs h))
    (λ i k.
    let k' : i < n = omega arith in
    part_at at n (xs ++ ys) i k' ∙ get_or-append xs ys 0 (at + i) (omega arith) ∙ sym (part_at at n xs i k'))

-- the whole of the second
pub part_second : (xs ys : List ℕ) (at n : ℕ) → length xs ≡ at → length ys ≡ n → part at n (xs ++ ys) ≡ ys
unfolding part
part_second xs ys at n e f = ap (λ (l : List ℕ). take n l) (drop_at xs ys at e) ∙ ap (λ (k : ℕ). take k ys) (sym f) ∙ take-length ys

-- a part has at most n bytes, and fewer only where the list ends
pub part_short : (at n : ℕ) (xs : List ℕ) → length (part at n xs) ≡ min n (length xs - at)
unfolding part
part_short at n xs = simp (length-take, length-drop)

-- two parts, one after the other, against two lists of their lengths
pub same_parts : (at n m : ℕ) (xs ys zs : List ℕ) → length ys ≡ n → length zs ≡ m
    → same (part at (n + m) xs) (ys ++ zs) ≡ (same (part at n xs) ys && same (part (at + n) m xs) zs)
same_parts at n m xs ys zs e f =
    elim (dec_lt (length (part at n xs)) n) [
      | yes h ↦
          let l : length (part at (n + m) xs) ≡ min (n + m) (length xs - at) = part_short at (n + m) xs in
          let l' : length (part at n xs) ≡ min n (length xs - at) = part_short at n xs in
          let g : length (ys ++ zs) ≡ length ys + length zs = length-append ys zs in
          same_false (part at (n + m) xs) (ys ++ zs)
          (λ q.
          let r : length (part at (n + m) xs) ≡ length (ys ++ zs) = ap (λ (x : List ℕ). length x) q in
          omega arith)
          ∙ sym
          (ap (λ (t : Bool). t && same (part (at + n) m xs) zs)
          (same_false (part at n xs) ys
          (λ q.
          let r : length (part at n xs) ≡ length ys = ap (λ (x : List ℕ). length x) q in
          omega arith)))
      | no h ↦
          let l' : length (part at n xs) ≡ min n (length xs - at) = part_short at n xs in
          ap (λ (x : List ℕ). same x (ys ++ zs)) (part_join at n m xs)
          ∙ same_append (part at n xs) ys (part (at + n) m xs) zs (omega arith)
    ]

-- What a call leaves in a part that was lent to it, said of the whole

pub copied_whole : (d s : List ℕ) → length s ≡ length d → splice d 0 (take (length d) s) ≡ s
copied_whole d s e = ap (λ (l : List ℕ). splice d 0 l) (take_all (length d) s (omega arith)) ∙ splice_whole d s e

pub mid_length : (a k : ℕ) (xs : List ℕ) → a + k ≤ length xs → length (mid_of a k xs) ≡ k
mid_length a k xs h = simp (length-take, length-drop) (omega arith)

-- copied into
pub put_copied : (a k : ℕ) (xs ys s : List ℕ) → length s ≡ k → a + k ≤ length xs
    → ys ≡ splice (mid_of a k xs) 0 (take (length (mid_of a k xs)) s) → put_mid a k xs ys ≡ splice xs a s
put_copied a k xs ys s e h c =
    let m : length (mid_of a k xs) ≡ k = mid_length a k xs h in
    let y : ys ≡ s = c ∙ copied_whole (mid_of a k xs) s (omega arith) in
    ap (λ (l : List ℕ). put_mid a k xs l) y ∙ put_splice a k xs s e

-- cleared
pub put_filled : (a k : ℕ) (xs ys : List ℕ) → a + k ≤ length xs → ys ≡ zeros (length (mid_of a k xs))
    → put_mid a k xs ys ≡ splice xs a (zeros k)
put_filled a k xs ys h c =
    let y : ys ≡ zeros k = c ∙ ap (λ (n : ℕ). zeros n) (mid_length a k xs h) in
    ap (λ (l : List ℕ). put_mid a k xs l) y ∙ put_splice a k xs (zeros k) (zeros_length k)

-- The parts of a test that holds

pub and_left : (a b : Bool) → (a && b) ≡ true → a ≡ true
and_left true b h = refl
and_left false b h = absurd (false≢true h)

pub and_right : (a b : Bool) → (a && b) ≡ true → b ≡ true
and_right true b h = h
and_right false b h = absurd (false≢true h)

-- laid one after the other is laid together
pub splice_join : (xs ys zs : List ℕ) → length ys + length zs ≤ length xs
    → splice (splice xs 0 ys) (length ys) zs ≡ splice xs 0 (ys ++ zs)
splice_join xs ys zs h =
    let s : List ℕ = splice xs 0 ys in
    let f : length s ≡ length xs = splice_length xs 0 ys (omega arith) in
    let g : length (splice s (length ys) zs) ≡ length s = splice_length s (length ys) zs (omega arith) in
    let l : length (ys ++ zs) ≡ length ys + length zs = length-append ys zs in
    splice_is xs 0 (ys ++ zs) (splice s (length ys) zs) (omega arith) (omega arith) (λ i k. absurd (omega arith))
    (λ j k.
    let z : 0 + j ≡ j = omega arith in
    elim (dec_lt j (length ys)) [
      | yes o ↦
          splice_before s (length ys) zs (omega arith) (0 + j) (omega arith) ∙ splice_in xs 0 ys (omega arith) j o
          ∙ sym (get_or-append ys zs 0 j o)
      | no o ↦
          let i : ℕ = j - length ys in
          let q : 0 + j ≡ length ys + i = omega arith in
          let r : j ≡ length ys + i = omega arith in
          ap (λ (p : ℕ). get_or (splice s (length ys) zs) p 0) q
          ∙ splice_in s (length ys) zs (omega arith) i (omega arith)
          ∙ sym (ap (λ (p : ℕ). get_or (ys ++ zs) p 0) r ∙ get_or-append-add ys zs i 0)
    ])
    (λ i k o. splice_after s (length ys) zs (omega arith) i (omega arith) ∙ splice_after xs 0 ys (omega arith) i (omega arith))

-- the list at a place: its byte there, and the list at the next place
pub peel : (s : List ℕ) (m m' : ℕ) → m < length s → m' ≡ m + 1 → drop m s ≡ get_or s m 0 ∷ drop m' s
peel s m m' h e = drop-cons s m 0 h ∙ ap (λ (k : ℕ). get_or s m 0 ∷ drop k s) (sym (e ∙ add-one m))
