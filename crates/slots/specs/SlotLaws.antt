-- The laws of slots: told by their fields, and laid by their fields.
use Prim.Native.Nat.{ℕ, suc, ◌+◌, ◌-◌, ◌*◌, ◌/◌, ◌%◌, ◌≤◌, ◌<◌, min}
use native.Mathlib.Omega.{arith}
use Rattle.std.specs.Prelude.{◌≡◌, Bool, true, false, ◌&&◌, cond, leb, take, drop, set, Option, Some, None, Ok, ok_or, MatchOption, IsSomeAnd}
use Rattle.std.specs.Bool.{then_some}
use Rattle.std.proofs.Math.Path.{refl, sym, ap}
use Rattle.std.proofs.Common.{◌∙◌, true≢false, take_all, eq-eqb, ne_eqb, leb-true, leb-false, le-leb}
use Rattle.std.proofs.Math.Bool.{and-true}
use mathlib.Core.List.{List, [], ◌∷◌, ◌++◌}
use Rattle.std.proofs.Math.Dec.{eqb}
use Rattle.std.proofs.Math.ListN.{length, get_or, length-append}
use Rattle.std.proofs.Math.Seq.{drop-append-add}
use Rattle.std.proofs.lemmas.Bool.{lt-leb}
use Rattle.span.specs.Bytes.{zeros, part, splice, same}
use Rattle.span.specs.Laws.{zeros_length, zeros_at, zeros_join, drop_zeros, part_length, part_short, part_whole, same_parts, same_false}
use Rattle.span.specs.Laws.{same_is, is_same}
use Rattle.layout.specs.Sizes.{slot_size, payload_at, room}
use Rattle.layout.specs.Numbers.{number, le}
use Rattle.slots.specs.Slots.{empty_slot, patch_slot, full_slot, payload_length, payload_of, is_patch, SlotNumbers, sound_slot}
use Rattle.slots.specs.Slots.{unsound_slot, slot_numbers, state_numbers, slot_image}
use Rattle.layout.specs.declared.Refusal.TheVariants.{Slot}
use Rattle.slots.specs.StateLaws.{none_told, some_told}
use Rattle.slots.specs.declared.SlotState.{SlotState}
use Rattle.slots.specs.declared.SlotState.TheVariants.{Patch}

-- the first four bytes of a list
first_four : (s : List ℕ) → 4 ≤ length s → part 0 4 s ≡ get_or s 0 0 ∷ get_or s 1 0 ∷ get_or s 2 0 ∷ get_or s 3 0 ∷ []
unfolding part
first_four [] h = absurd (omega arith)
first_four (a ∷ []) h = absurd (omega arith)
first_four (a ∷ b ∷ []) h = absurd (omega arith)
first_four (a ∷ b ∷ c ∷ []) h = absurd (omega arith)
first_four (a ∷ b ∷ c ∷ d ∷ s) h = refl

length_field : (s : List ℕ) → 4 ≤ length s → payload_length s ≡ get_or s 2 0 + 256 * get_or s 3 0
unfolding payload_length number part
length_field [] h = absurd (omega arith)
length_field (a ∷ []) h = absurd (omega arith)
length_field (a ∷ b ∷ []) h = absurd (omega arith)
length_field (a ∷ b ∷ c ∷ []) h = absurd (omega arith)
length_field (a ∷ b ∷ c ∷ d ∷ s) h = omega arith

pub patch_slot_length : (payload : List ℕ) → length payload ≤ room → length (patch_slot payload) ≡ slot_size
unfolding patch_slot le
patch_slot_length payload h =
    let a : length (zeros 4 ++ (payload ++ zeros (room - length payload)))
    ≡ length (zeros 4) + length (payload ++ zeros (room - length payload)) =
    length-append (zeros 4) (payload ++ zeros (room - length payload)) in
    let b : length (payload ++ zeros (room - length payload)) ≡ length payload + length (zeros (room - length payload)) = length-append
    payload (zeros (room - length payload)) in
    let c : length (zeros (room - length payload)) ≡ room - length payload = zeros_length (room - length payload) in
    let d : length (zeros 4) ≡ 4 = zeros_length 4 in
    omega arith

upper : (b u : ℕ) → b < 256 → u ≡ b → b ≡ u % 256
upper b u h e = omega arith

four : (a b c d n : ℕ) → a ≡ 1 → c ≡ n % 256 → d ≡ n / 256 % 256 → same (a ∷ b ∷ c ∷ d ∷ []) (1 ∷ 1 ∷ le 2 n) ≡ eqb b 1
unfolding same le
four a b c d n p q r = rw (eq-eqb a 1 p, eq-eqb c (n % 256) q, eq-eqb d (n / 256 % 256) r) (and-true (eqb b 1))

-- a slot that is 1 at its start is the image of its own payload exactly where its other fields are
module _ (s : List ℕ) (l : length s ≡ slot_size) (k : get_or s 0 0 ≡ 1) (low : get_or s 2 0 < 256) (high : get_or s 3 0 < 256)
    (fits : payload_length s ≤ room) where
  pub patch_fields_is : same s (patch_slot (payload_of s))
      ≡ (eqb (get_or s 1 0) 1 && (same (part 4 4 s) (zeros 4) && same (part (payload_at + payload_length s) (room - payload_length s) s)
      (zeros (room - payload_length s))))
  unfolding patch_slot payload_of le
  patch_fields_is =
      let n : ℕ = payload_length s in
      let p : List ℕ = part payload_at n s in
      let z : List ℕ = zeros (room - n) in
      let f : n ≡ get_or s 2 0 + 256 * get_or s 3 0 = length_field s (omega arith) in
      let lp : length p ≡ n = part_length payload_at n s (omega arith) in
      let lz : length z ≡ room - n = zeros_length (room - n) in
      let l4 : length (zeros 4) ≡ 4 = zeros_length 4 in
      let lr : length (p ++ z) ≡ length p + length z = length-append p z in
      let lq : length (zeros 4 ++ (p ++ z)) ≡ length (zeros 4) + length (p ++ z) = length-append (zeros 4) (p ++ z) in
      let q : 4 + (4 + (n + (room - n))) ≡ slot_size = omega arith in
      let e : same s ((1 ∷ 1 ∷ le 2 n) ++ (zeros 4 ++ (p ++ z)))
      ≡ (same (part 0 4 s) (1 ∷ 1 ∷ le 2 n)
      && (same (part 4 4 s) (zeros 4) && (same (part payload_at n s) p && same (part (payload_at + n) (room - n) s) z))) =
      ap (λ (x : List ℕ). same x ((1 ∷ 1 ∷ le 2 n) ++ (zeros 4 ++ (p ++ z))))
      (sym (part_whole s (4 + (4 + (n + (room - n)))) (l ∙ sym q)))
      ∙ same_parts 0 4 (4 + (n + (room - n))) s (1 ∷ 1 ∷ le 2 n) (zeros 4 ++ (p ++ z)) refl (omega arith)
      ∙ ap (λ (t : Bool). same (part 0 4 s) (1 ∷ 1 ∷ le 2 n) && t)
      (same_parts 4 4 (n + (room - n)) s (zeros 4) (p ++ z) l4 (omega arith)
      ∙ ap (λ (t : Bool). same (part 4 4 s) (zeros 4) && t) (same_parts payload_at n (room - n) s p z lp lz)) in
      let lo : get_or s 2 0 ≡ n % 256 = omega arith in
      let up : n / 256 ≡ get_or s 3 0 = omega arith in
      let hi : get_or s 3 0 ≡ n / 256 % 256 = upper (get_or s 3 0) (n / 256) high up in
      let g : same (part 0 4 s) (1 ∷ 1 ∷ le 2 n) ≡ eqb (get_or s 1 0) 1 = ap (λ (x : List ℕ). same x (1 ∷ 1 ∷ le 2 n))
      (first_four s (omega arith)) ∙ four (get_or s 0 0) (get_or s 1 0) (get_or s 2 0) (get_or s 3 0) n k lo hi in
      ap (λ (x : ℕ). same s ((1 ∷ 1 ∷ le 2 x) ++ (zeros 4 ++ (p ++ zeros (room - x))))) lp
      ∙ e
      ∙ ap (λ (t : Bool). t && (same (part 4 4 s) (zeros 4) && (same p p && same (part (payload_at + n) (room - n) s) z))) g
      ∙ ap (λ (t : Bool). eqb (get_or s 1 0) 1 && (same (part 4 4 s) (zeros 4) && (t && same (part (payload_at + n) (room - n) s) z)))
      (is_same p)

-- what is not 512 bytes long is no sound slot
short_patch : (s : List ℕ) → (length s ≡ slot_size → ⊥) → is_patch s ≡ false
unfolding is_patch payload_of
short_patch s h = go (leb 1 (payload_length s)) (leb (payload_length s) room) refl
  where
    p : List ℕ
    p = part payload_at (payload_length s) s

    go : (a b : Bool) → leb (payload_length s) room ≡ b → (a && b && same s (patch_slot p)) ≡ false
    go true true e =
        same_false s (patch_slot p)
        (λ q.
        let m : length p ≡ min (payload_length s) (length s - payload_at) = part_short payload_at (payload_length s) s in
        let r : payload_length s ≤ room = leb-true (payload_length s) room e in
        h (ap (λ (x : List ℕ). length x) q ∙ patch_slot_length p (omega arith)))
    go true false e = refl
    go false b e = refl

pub slot_short : (s : List ℕ) → (length s ≡ slot_size → ⊥) → slot_numbers s ≡ unsound_slot
unfolding slot_numbers empty_slot full_slot
slot_short s h =
    let e : same s (zeros slot_size)
    ≡ false = same_false s (zeros slot_size) (λ q. h (ap (λ (x : List ℕ). length x) q ∙ zeros_length slot_size)) in
    let f : same s (2 ∷ zeros (slot_size - 1)) ≡ false = same_false s (2 ∷ zeros (slot_size - 1))
    (λ q. h (ap (λ (x : List ℕ). length x) q ∙ ap suc (zeros_length (slot_size - 1)))) in
    rw (e, short_patch s h, f)

-- one that is 1 at its start is PATCH or nothing
pub slot_patch : (s : List ℕ) → length s ≡ slot_size → get_or s 0 0 ≡ 1
    → slot_numbers s ≡ cond (is_patch s) (sound_slot 1 (payload_length s)) unsound_slot
unfolding slot_numbers empty_slot full_slot
slot_patch s l k =
    let e : same s (zeros slot_size) ≡ false =
    same_false s (zeros slot_size)
    (λ q.
    let r : get_or s 0 0 ≡ 0 = ap (λ (x : List ℕ). get_or x 0 0) q ∙ zeros_at slot_size 0 in
    omega arith) in
    let f : same s (2 ∷ zeros (slot_size - 1)) ≡ false =
    same_false s (2 ∷ zeros (slot_size - 1))
    (λ q.
    let r : get_or s 0 0 ≡ 2 = ap (λ (x : List ℕ). get_or x 0 0) q in
    omega arith) in
    rw (e, f)

-- any other goes by its kind, and all its other bytes are zero
unfoldable pub plain_numbers : ℕ → SlotNumbers
plain_numbers k = cond (eqb k 0) (sound_slot 0 0) (cond (eqb k 2) (sound_slot 2 0) unsound_slot)

other_patch : (s : List ℕ) → length s ≡ slot_size → (get_or s 0 0 ≡ 1 → ⊥) → is_patch s ≡ false
unfolding is_patch patch_slot
other_patch s l h = go (leb 1 (payload_length s)) (leb (payload_length s) room)
  where
    go : (a b : Bool) → (a && b && same s ((1 ∷ 1 ∷ le 2 (length (payload_of s)))
        ++ (zeros 4 ++ (payload_of s ++ zeros (room - length (payload_of s)))))) ≡ false
    go true true = same_false s ((1 ∷ 1 ∷ le 2 (length (payload_of s)))
        ++ (zeros 4 ++ (payload_of s ++ zeros (room - length (payload_of s))))) (λ q. h (ap (λ (x : List ℕ). get_or x 0 0) q))
    go true false = refl
    go false b = refl

one_zero : 0 ∷ [] ≡ zeros 1
unfolding zeros
one_zero = refl

-- a list of 512 bytes against a first byte and the rest
headed : (s : List ℕ) → length s ≡ slot_size → (b : ℕ) (zs : List ℕ) → length zs ≡ slot_size - 1 → {ys : List ℕ} → b ∷ zs ≡ ys
    → same s ys ≡ (eqb (get_or s 0 0) b && same (part 1 (slot_size - 1) s) zs)
unfolding same part
headed [] l b zs m e = absurd (omega arith)
headed (a ∷ s) l b zs m e =
    ap (λ (y : List ℕ). same (a ∷ s) y) (sym e)
    ∙ ap (λ (x : List ℕ). eqb a b && same x zs) (sym (take_all (slot_size - 1) s (omega arith)))

pub slot_other : (s : List ℕ) → length s ≡ slot_size → (get_or s 0 0 ≡ 1 → ⊥)
    → slot_numbers s ≡ cond (same (part 1 (slot_size - 1) s) (zeros (slot_size - 1))) (plain_numbers (get_or s 0 0)) unsound_slot
unfolding slot_numbers empty_slot full_slot plain_numbers
slot_other s l h =
    let k : ℕ = get_or s 0 0 in
    let r : List ℕ = part 1 (slot_size - 1) s in
    let z : List ℕ = zeros (slot_size - 1) in
    let e : same s (zeros slot_size) ≡ (eqb k 0 && same r z) = headed s l 0 z (zeros_length (slot_size - 1))
    (ap (λ (x : List ℕ). x ++ z) one_zero ∙ zeros_join 1 (slot_size - 1)) in
    let f : same s (2 ∷ z) ≡ (eqb k 2 && same r z) = headed s l 2 z (zeros_length (slot_size - 1)) refl in
    rw (e, other_patch s l h, f) (go (eqb k 0) (eqb k 2) (same r z))
  where
    go : (a b t : Bool)
        → cond (a && t) (sound_slot 0 0) (cond (b && t) (sound_slot 2 0) unsound_slot)
        ≡ cond t (cond a (sound_slot 0 0) (cond b (sound_slot 2 0) unsound_slot)) unsound_slot
    go true true true = refl
    go true true false = refl
    go true false true = refl
    go true false false = refl
    go false true true = refl
    go false true false = refl
    go false false true = refl
    go false false false = refl

-- what makes a PATCH slot, by its other fields
pub patch_test : (s : List ℕ) (n : ℕ) → length s ≡ slot_size → get_or s 0 0 ≡ 1 → payload_length s ≡ n → get_or s 2 0 < 256
    → get_or s 3 0 < 256 → 1 ≤ n → n ≤ room
    → is_patch s ≡ (eqb (get_or s 1 0) 1 && (same (part 4 4 s) (zeros 4) && same (part (payload_at + n) (room - n) s) (zeros (room - n))))
unfolding is_patch
patch_test s n l k e low high some fits =
    rw (e, le-leb 1 n some, le-leb n room fits) (patch_fields_is s l k low high (omega arith)
    ∙ ap (λ (m : ℕ). eqb (get_or s 1 0) 1 && (same (part 4 4 s) (zeros 4) && same (part (payload_at + m) (room - m) s) (zeros (room - m)))) e)

-- what the length of a PATCH slot comes to, by its other fields
pub patch_value : (s : List ℕ) → length s ≡ slot_size → get_or s 0 0 ≡ 1 → get_or s 2 0 < 256 → get_or s 3 0 < 256 → payload_length s ≤ room
    → cond (is_patch s) (payload_length s) 0
    ≡ cond (eqb (get_or s 1 0) 1 && (same (part 4 4 s) (zeros 4) && same (part (payload_at + payload_length s) (room - payload_length s) s)
    (zeros (room - payload_length s)))) (payload_length s) 0
unfolding is_patch
patch_value s l k low high fits =
    let n : ℕ = payload_length s in
    ap (λ (t : Bool). cond (leb 1 n && t && same s (patch_slot (payload_of s))) n 0) (le-leb n room fits)
    ∙ go (leb 1 n) (same s (patch_slot (payload_of s))) n refl
    ∙ ap (λ (t : Bool). cond t n 0) (patch_fields_is s l k low high fits)
  where
    go : (a t : Bool) (n : ℕ) → leb 1 n ≡ a → cond (a && true && t) n 0 ≡ cond t n 0
    go true true n e = refl
    go true false n e = refl
    go false true n e =
        let h : n < 1 = leb-false 1 n e in
        omega arith
    go false false n e = refl

pub patch_over : (s : List ℕ) → room < payload_length s → is_patch s ≡ false
unfolding is_patch
patch_over s h = go (leb 1 (payload_length s)) (leb (payload_length s) room) (lt-leb (payload_length s) room h)
  where
    go : (a b : Bool) → b ≡ false → (a && b && same s (patch_slot (payload_of s))) ≡ false
    go true true e = absurd (true≢false e)
    go true false e = refl
    go false b e = refl

pub patch_under : (s : List ℕ) → payload_length s < 1 → is_patch s ≡ false
unfolding is_patch
patch_under s h = rw (lt-leb 1 (payload_length s) h)

pub length_at_is : (s : List ℕ) → length s ≡ slot_size → payload_length s ≡ get_or s 2 0 + 256 * get_or s 3 0
length_at_is s l = length_field s (omega arith)

eight_zeros : zeros 8 ≡ 0 ∷ 0 ∷ 0 ∷ 0 ∷ 0 ∷ 0 ∷ 0 ∷ 0 ∷ []
unfolding zeros
eight_zeros = refl

eight : (lo hi : ℕ) → set (set (set (set (zeros 8 ++ zeros room) 0 1) 1 1) 2 lo) 3 hi ≡ (1 ∷ 1 ∷ lo ∷ hi ∷ 0 ∷ 0 ∷ 0 ∷ 0 ∷ [])
    ++ zeros room
eight lo hi = ap (λ (l : List ℕ). set (set (set (set (l ++ zeros room) 0 1) 1 1) 2 lo) 3 hi) eight_zeros

four_zeros : (lo hi : ℕ) (rest : List ℕ) → (1 ∷ 1 ∷ lo ∷ hi ∷ []) ++ (zeros 4 ++ rest) ≡ (1 ∷ 1 ∷ lo ∷ hi ∷ 0 ∷ 0 ∷ 0 ∷ 0 ∷ []) ++ rest
unfolding zeros
four_zeros lo hi rest = refl

-- a payload laid over an otherwise zero slot with its fields
pub patch_laid : (payload : List ℕ) → length payload ≤ room
    → splice (set (set (set (set (zeros slot_size) 0 1) 1 1) 2 (length payload % 256)) 3 (length payload / 256 % 256)) payload_at payload
    ≡ patch_slot payload
unfolding splice patch_slot le
patch_laid payload h =
    let n : ℕ = length payload in
    let head : List ℕ = 1 ∷ 1 ∷ (n % 256) ∷ (n / 256 % 256) ∷ 0 ∷ 0 ∷ 0 ∷ 0 ∷ [] in
    let e : set (set (set (set (zeros slot_size) 0 1) 1 1) 2 (n % 256)) 3 (n / 256 % 256) ≡ head ++ zeros room =
    ap (λ (l : List ℕ). set (set (set (set l 0 1) 1 1) 2 (n % 256)) 3 (n / 256 % 256)) (sym (zeros_join 8 room))
    ∙ eight (n % 256) (n / 256 % 256) in
    ap (λ (l : List ℕ). take 8 l ++ (payload ++ drop (8 + n) l)) e
    ∙ ap (λ (l : List ℕ). head ++ (payload ++ l)) (drop-append-add head (zeros room) n ∙ drop_zeros n room)
    ∙ sym (four_zeros (n % 256) (n / 256 % 256) (payload ++ zeros (room - n)))

pub full_laid : set (zeros slot_size) 0 2 ≡ full_slot
unfolding full_slot
full_laid = ap (λ (l : List ℕ). set l 0 2) (sym (zeros_join 1 (slot_size - 1))) ∙ one (zeros (slot_size - 1))
  where
    one : (z : List ℕ) → set (zeros 1 ++ z) 0 2 ≡ 2 ∷ z
    one z = ap (λ (l : List ℕ). set (l ++ z) 0 2) (sym one_zero)

-- what the numbers of a slot say of it
patch_kind_is : (s : List ℕ) (n : ℕ) → slot_numbers s ≡ sound_slot 1 n → (is_patch s ≡ true) × (payload_length s ≡ n)
unfolding slot_numbers
patch_kind_is s n e = go (same s empty_slot) (is_patch s) (same s full_slot) e
  where
    go : (a b t : Bool) → cond a (sound_slot 0 0) (cond b (sound_slot 1 (payload_length s)) (cond t (sound_slot 2 0) unsound_slot))
        ≡ sound_slot 1 n → (b ≡ true) × (payload_length s ≡ n)
    go true b t h =
        let k : ◌≡◌ {A = ℕ} 0 1 = ap (λ (x : SlotNumbers). x.kind) h in
        absurd (omega arith)
    go false true t h = (refl, ap (λ (x : SlotNumbers). x.length) h)
    go false false true h =
        let k : ◌≡◌ {A = ℕ} 2 1 = ap (λ (x : SlotNumbers). x.kind) h in
        absurd (omega arith)
    go false false false h =
        let k : ◌≡◌ {A = ℕ} 0 1 = ap (λ (x : SlotNumbers). x.kind) h in
        absurd (omega arith)

pub told_patch : (s : List ℕ) (n : ℕ) → sound_slot 1 n ≡ slot_numbers s → (is_patch s ≡ true) × (payload_length s ≡ n)
told_patch s n e = patch_kind_is s n (sym e)

-- any other kind says that it is no PATCH
empty_patch : (s : List ℕ) → same s empty_slot ≡ true → is_patch s ≡ false
unfolding empty_slot
empty_patch s e =
    let q : s ≡ zeros slot_size = same_is s (zeros slot_size) e in
    let z : get_or s 0 0 ≡ 0 = ap (λ (x : List ℕ). get_or x 0 0) q ∙ zeros_at slot_size 0 in
    other_patch s (ap (λ (x : List ℕ). length x) q ∙ zeros_length slot_size) (λ k. omega arith)

-- and a PATCH has its numbers
pub patch_told : (s : List ℕ) → is_patch s ≡ true → slot_numbers s ≡ sound_slot 1 (payload_length s)
unfolding slot_numbers
patch_told s e = go (same s empty_slot) refl
  where
    go : (t : Bool) → same s empty_slot ≡ t → slot_numbers s ≡ sound_slot 1 (payload_length s)
    go true q = absurd (true≢false (sym e ∙ empty_patch s q))
    go false q = rw (q, e)

pub told_other : (s : List ℕ) (x : SlotNumbers) → x ≡ slot_numbers s → (x.kind ≡ 1 → ⊥) → is_patch s ≡ false
unfolding slot_numbers
told_other s x e h = go (is_patch s) (same s empty_slot) (same s full_slot) refl refl e
  where
    go : (b a t : Bool) → is_patch s ≡ b → same s empty_slot ≡ a
        → x ≡ cond a (sound_slot 0 0) (cond b (sound_slot 1 (payload_length s)) (cond t (sound_slot 2 0) unsound_slot)) → b ≡ false
    go true true t p r q = sym p ∙ empty_patch s r
    go true false t p r q = absurd (h (ap (λ (y : SlotNumbers). y.kind) q))
    go false a t p r q = refl

-- so the length that is answered for a PATCH, and none for any other kind, is that of the definition
pub patch_length_some : (s : List ℕ) (n : ℕ) → sound_slot 1 n ≡ slot_numbers s → Some n ≡ cond (is_patch s) (Some (payload_length s)) None
patch_length_some s n e =
    let t : (is_patch s ≡ true) × (payload_length s ≡ n) = told_patch s n e in
    rw (t.0, t.1)

pub other_length_none : (s : List ℕ) (x : SlotNumbers) → x ≡ slot_numbers s → (x.kind ≡ 1 → ⊥)
    → ◌≡◌ {A = Option ℕ} None (cond (is_patch s) (Some (payload_length s)) None)
other_length_none s x e h = rw (told_other s x e h)

-- the same where 0 stands for none
pub patch_length_is : (s : List ℕ) (n : ℕ) → sound_slot 1 n ≡ slot_numbers s → n ≡ cond (is_patch s) (payload_length s) 0
patch_length_is s n e =
    let t : (is_patch s ≡ true) × (payload_length s ≡ n) = told_patch s n e in
    rw t.0 (sym t.1)

pub other_length_is : (s : List ℕ) (x : SlotNumbers) → x ≡ slot_numbers s → (x.kind ≡ 1 → ⊥) → 0 ≡ cond (is_patch s) (payload_length s) 0
other_length_is s x e h = rw (told_other s x e h)

-- and 0 is no PATCH
pub length_none : (s : List ℕ) → cond (is_patch s) (payload_length s) 0 ≡ 0 → is_patch s ≡ false
unfolding is_patch
length_none s e = go (leb 1 (payload_length s)) (leb (payload_length s) room) (same s (patch_slot (payload_of s))) (payload_length s) refl e
  where
    go : (a b t : Bool) (n : ℕ) → leb 1 n ≡ a → cond (a && b && t) n 0 ≡ 0 → (a && b && t) ≡ false
    go true true true n p h =
        let k : 1 ≤ n = leb-true 1 n p in
        absurd (omega arith)
    go true true false n p h = refl
    go true false t n p h = refl
    go false b t n p h = refl

pub length_some : (s : List ℕ) (r : ℕ) → (r ≡ 0 → ⊥) → cond (is_patch s) (payload_length s) 0 ≡ r
    → (is_patch s ≡ true) × (payload_length s ≡ r)
length_some s r h e = go (is_patch s) e
  where
    go : (t : Bool) → cond t (payload_length s) 0 ≡ r → (t ≡ true) × (payload_length s ≡ r)
    go true q = (refl, q)
    go false q = absurd (h (sym q))

pub patch_none : (s : List ℕ) → cond (is_patch s) (payload_length s) 0 ≡ 0 → cond (is_patch s) (sound_slot 1 (payload_length s)) unsound_slot
    ≡ unsound_slot
patch_none s e = rw (length_none s e)

pub patch_some : (s : List ℕ) (r : ℕ) → (r ≡ 0 → ⊥) → cond (is_patch s) (payload_length s) 0 ≡ r
    → cond (is_patch s) (sound_slot 1 (payload_length s)) unsound_slot ≡ sound_slot 1 r
patch_some s r h e =
    let t : (is_patch s ≡ true) × (payload_length s ≡ r) = length_some s r h e in
    rw (t.0, t.1)

-- what the code makes of that length: PATCH with it, or unsound
pub patch_state : (s : List ℕ) → length s ≡ slot_size → get_or s 0 0 ≡ 1 → (r : Option ℕ) (m : Option SlotState)
    → r ≡ cond (is_patch s) (Some (payload_length s)) None → MatchOption r (m ≡ None) (λ n. IsSomeAnd m (λ p. p ≡ Patch n))
    → state_numbers (ok_or m Slot) ≡ slot_numbers s
patch_state s l k None None e h = rw (slot_patch s l k, none_told s e)
patch_state s l k None (Some p) e h = cc
patch_state s l k (Some n) None e h = absurd h
patch_state s l k (Some n) (Some p) e h =
    let t : (is_patch s ≡ true) × (payload_length s ≡ n) = some_told s n e in
    rw (slot_patch s l k, t.0, t.1, h)

-- and of a kind whose slots are zero after it: that kind, or unsound
pub plain_state : (s : List ℕ) → length s ≡ slot_size → (get_or s 0 0 ≡ 1 → ⊥) → (p : SlotState)
    → state_numbers (Ok p) ≡ plain_numbers (get_or s 0 0)
    → state_numbers (ok_or (then_some (same (part 1 (slot_size - 1) s) (zeros (slot_size - 1))) p) Slot) ≡ slot_numbers s
plain_state s l k p e = go (same (part 1 (slot_size - 1) s) (zeros (slot_size - 1))) ∙ sym (slot_other s l k)
  where
    go : (t : Bool) → state_numbers (ok_or (then_some t p) Slot) ≡ cond t (plain_numbers (get_or s 0 0)) unsound_slot
    go true = e
    go false = refl

-- a kind above 2 is none
pub slot_unknown : (s : List ℕ) → length s ≡ slot_size → 2 < get_or s 0 0 → slot_numbers s ≡ unsound_slot
unfolding plain_numbers
slot_unknown s l h =
    rw (slot_other s l (λ e. omega arith), ne_eqb (get_or s 0 0) 0 (λ e. omega arith), ne_eqb (get_or s 0 0) 2 (λ e. omega arith))
    (go (same (part 1 (slot_size - 1) s) (zeros (slot_size - 1))))
  where
    go : (t : Bool) → cond t unsound_slot unsound_slot ≡ unsound_slot
    go true = refl
    go false = refl

-- every sound slot has 512 bytes
pub slot_image_length : (k : ℕ) (payload : List ℕ) → length payload ≤ room → length (slot_image k payload) ≡ slot_size
unfolding slot_image empty_slot full_slot
slot_image_length k payload h = go (eqb k 0) (eqb k 1)
  where
    go : (a b : Bool) → length (cond a (zeros slot_size) (cond b (patch_slot payload) (2 ∷ zeros (slot_size - 1)))) ≡ slot_size
    go true b = zeros_length slot_size
    go false true = patch_slot_length payload h
    go false false = ap suc (zeros_length (slot_size - 1))
