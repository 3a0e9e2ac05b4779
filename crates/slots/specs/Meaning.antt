-- What slots come to: by images and by "there is", and byte by byte at the paper's places.
use Prim.Native.Nat.{ℕ, zero, suc, ◌+◌, ◌-◌, ◌*◌, ◌≤◌, ◌<◌, min}
use native.Mathlib.Omega.{arith}
use Rattle.std.specs.Prelude.{◌≡◌, ◌↔◌, false, ◌&&◌, eqb, take}
use Rattle.std.proofs.Math.Path.{refl, sym, ap}
use Rattle.std.proofs.Common.{◌∙◌, take_all}
use Rattle.std.proofs.Math.Bool.{Bool, true}
use mathlib.Core.List.{List, ◌∷◌, ◌++◌}
use Rattle.std.proofs.Math.Dec.{leb}
use Rattle.std.proofs.Math.ListN.{length, get_or}
use Rattle.std.proofs.Math.Seq.{take_at}
use borrow.Author.Tests.{eq-eqb, le-leb, leb-true, eqb-true}
use Rattle.span.specs.Bytes.{zeros, part, same}
use Rattle.span.specs.Laws.{zeros_length, zeros_at, ext, part_length, part_at, part_short, same_is, is_same, same_true, and_left}
use Rattle.span.specs.Laws.{and_right}
use Rattle.layout.specs.Sizes.{slot_size, payload_at, room}
use Rattle.layout.specs.Numbers.{number, le}
use Rattle.slots.specs.Slots.{SlotNumbers, slot_numbers, sound_slot, unsound_slot, empty_slot, patch_slot, full_slot, payload_length}
use Rattle.slots.specs.Slots.{payload_of, is_patch}
use Rattle.slots.specs.SlotLaws.{plain_numbers, patch_slot_length, patch_fields_is, length_at_is, slot_patch, slot_other, told_patch}

-- The numbers of the three images

pub empty_numbers : slot_numbers empty_slot ≡ sound_slot 0 0
unfolding slot_numbers
empty_numbers = rw (is_same empty_slot)

pub full_numbers : slot_numbers full_slot ≡ sound_slot 2 0
unfolding full_slot plain_numbers part
full_numbers =
    let z : List ℕ = zeros (slot_size - 1) in
    let l : length z ≡ slot_size - 1 = zeros_length (slot_size - 1) in
    slot_other (2 ∷ z) (ap suc l) (λ e. omega arith) ∙ rw (same_true (take (slot_size - 1) z) z (take_all (slot_size - 1) z (omega arith)))

module _ (p : List ℕ) (h : length p ≤ room) where
  pub payload_length_of : payload_length (patch_slot p) ≡ length p
  unfolding payload_length part patch_slot le number
  payload_length_of = omega arith

  after_eight : (n : ℕ) → part payload_at n (patch_slot p) ≡ take n (p ++ zeros (room - length p))
  unfolding part patch_slot le zeros
  after_eight n = refl

  pub payload_of_is : payload_of (patch_slot p) ≡ p
  unfolding payload_of
  payload_of_is =
      ap (λ (n : ℕ). part payload_at n (patch_slot p)) payload_length_of
      ∙ after_eight (length p)
      ∙ take_at p (zeros (room - length p)) (length p) refl

  pub patch_is : 1 ≤ length p → is_patch (patch_slot p) ≡ true
  unfolding is_patch
  patch_is g = rw (payload_length_of, payload_of_is, le-leb 1 (length p) g, le-leb (length p) room h) (is_same (patch_slot p))

  kind_one : get_or (patch_slot p) 0 0 ≡ 1
  unfolding patch_slot
  kind_one = refl

  pub patch_numbers : 1 ≤ length p → slot_numbers (patch_slot p) ≡ sound_slot 1 (length p)
  patch_numbers g = slot_patch (patch_slot p) (patch_slot_length p h) kind_one ∙ rw (patch_is g, payload_length_of)

-- and a slot by its numbers: one of the images, or unsound
pub patch_image : (s : List ℕ) → is_patch s ≡ true → (1 ≤ length (payload_of s)) × (length (payload_of s) ≤ room)
    × (s ≡ patch_slot (payload_of s))
unfolding is_patch payload_of
patch_image s e =
    let n : ℕ = payload_length s in
    let p : List ℕ = part payload_at n s in
    let both : (leb 1 n && leb n room) ≡ true = and_left (leb 1 n && leb n room) (same s (patch_slot p)) e in
    let one : 1 ≤ n = leb-true 1 n (and_left (leb 1 n) (leb n room) both) in
    let most : n ≤ room = leb-true n room (and_right (leb 1 n) (leb n room) both) in
    let is : s ≡ patch_slot p = same_is s (patch_slot p) (and_right (leb 1 n && leb n room) (same s (patch_slot p)) e) in
    let short : length p ≡ min n (length s - payload_at) = part_short payload_at n s in
    let long : length s ≡ slot_size = ap (λ (x : List ℕ). length x) is ∙ patch_slot_length p (omega arith) in
    (omega arith, omega arith, is)

pub by_image : {A : Type 0} (s : List ℕ) → (s ≡ empty_slot → A)
    → (1 ≤ length (payload_of s) → length (payload_of s) ≤ room → s ≡ patch_slot (payload_of s) → A) → (s ≡ full_slot → A)
    → (slot_numbers s ≡ unsound_slot → A) → A
unfolding slot_numbers
by_image {A} s empty patch full unsound = go (same s empty_slot) (is_patch s) (same s full_slot) refl refl refl
  where
    go : (a b c : Bool) → same s empty_slot ≡ a → is_patch s ≡ b → same s full_slot ≡ c → A
    go true b c p q r = empty (same_is s empty_slot p)
    go false true c p q r =
        let w = patch_image s q in
        patch w.0 w.1 w.2
    go false false true p q r = full (same_is s full_slot r)
    go false false false p q r = unsound (rw (p, q, r))

-- The first byte of a sound slot is its kind
pub kind_first : (s : List ℕ) → (slot_numbers s).number ≡ 0 → (slot_numbers s).kind ≡ get_or s 0 0
unfolding empty_slot full_slot
kind_first s e =
    by_image s (λ q. image q empty_numbers (zeros_at slot_size 0))
    (λ a b q. image q (patch_numbers (payload_of s) b a) (kind_one (payload_of s) b)) (λ q. image q full_numbers refl)
    (λ q.
    let z : (slot_numbers s).number ≡ 6 = ap (λ (x : SlotNumbers). x.number) q in
    absurd (omega arith))
  where
    image : {t : List ℕ} {k n : ℕ} → s ≡ t → slot_numbers t ≡ sound_slot k n → get_or t 0 0 ≡ k → (slot_numbers s).kind ≡ get_or s 0 0
    image q f g = ap (λ (x : SlotNumbers). x.kind) (ap slot_numbers q ∙ f) ∙ sym (ap (λ (x : List ℕ). get_or x 0 0) q ∙ g)

-- A slot's numbers say which image it is
pub record SlotMeans (s : List ℕ) : Type 0 where
  pub empty : (slot_numbers s ≡ sound_slot 0 0) ↔ (s ≡ empty_slot)
  pub patch : (n : ℕ) → (slot_numbers s ≡ sound_slot 1 n)
      ↔ ((payload : List ℕ) × (length payload ≡ n) × (1 ≤ n) × (n ≤ room) × (s ≡ patch_slot payload))
  pub full : (slot_numbers s ≡ sound_slot 2 0) ↔ (s ≡ full_slot)

kind_apart : {x y : SlotNumbers} → x ≡ y → (x.kind ≡ y.kind → ⊥) → ⊥
kind_apart e h = h (ap (λ (z : SlotNumbers). z.kind) e)

number_apart : {x y : SlotNumbers} → x ≡ y → (x.number ≡ y.number → ⊥) → ⊥
number_apart e h = h (ap (λ (z : SlotNumbers). z.number) e)

pub slot_means : (s : List ℕ) → SlotMeans s
slot_means s =
    record {
      empty = (
        λ e. by_image s (λ q. q)
            (λ a b q. absurd (kind_apart (sym e ∙ ap slot_numbers q ∙ patch_numbers (payload_of s) b a) (λ k. omega arith)))
            (λ q. absurd (kind_apart (sym e ∙ ap slot_numbers q ∙ full_numbers) (λ k. omega arith)))
            (λ q. absurd (number_apart (sym e ∙ q) (λ k. omega arith))),
        λ q. ap slot_numbers q ∙ empty_numbers,
      );
      patch =
          λ n. (
            λ e.
                by_image s (λ q. absurd (kind_apart (sym e ∙ ap slot_numbers q ∙ empty_numbers) (λ k. omega arith)))
                (λ a b q.
                let l : length (payload_of s) ≡ n = ap (λ (z : SlotNumbers). z.length)
                (sym (ap slot_numbers q ∙ patch_numbers (payload_of s) b a) ∙ e) in
                (payload_of s, l, omega arith, omega arith, q))
                (λ q. absurd (kind_apart (sym e ∙ ap slot_numbers q ∙ full_numbers) (λ k. omega arith)))
                (λ q. absurd (number_apart (sym e ∙ q) (λ k. omega arith))),
            λ h. ap slot_numbers h.4 ∙ patch_numbers h.0 (omega (arith, h.1, h.3)) (omega (arith, h.1, h.2))
                ∙ ap (λ (k : ℕ). sound_slot 1 k) h.1,
          );
      full = (
        λ e. by_image s (λ q. absurd (kind_apart (sym e ∙ ap slot_numbers q ∙ empty_numbers) (λ k. omega arith)))
            (λ a b q. absurd (kind_apart (sym e ∙ ap slot_numbers q ∙ patch_numbers (payload_of s) b a) (λ k. omega arith))) (λ q. q)
            (λ q. absurd (number_apart (sym e ∙ q) (λ k. omega arith))),
        λ q. ap slot_numbers q ∙ full_numbers,
      );
    }

-- Slots byte by byte, by no image: each field at its place, as the paper has it

pub record PatchBytes (s : List ℕ) (n : ℕ) : Type 0 where
  pub kind : get_or s 0 0 ≡ 1
  pub flags : get_or s 1 0 ≡ 1
  pub size : get_or s 2 0 + 256 * get_or s 3 0 ≡ n
  pub some : 1 ≤ n
  pub most : n ≤ 504
  pub reserved : (i : ℕ) → 4 ≤ i → i < 8 → get_or s i 0 ≡ 0
  pub after : (i : ℕ) → 8 + n ≤ i → i < 512 → get_or s i 0 ≡ 0

pub record SlotBytes (s : List ℕ) : Type 0 where
  pub empty : (slot_numbers s ≡ sound_slot 0 0) ↔ ((i : ℕ) → i < 512 → get_or s i 0 ≡ 0)
  pub patch : (n : ℕ) → (slot_numbers s ≡ sound_slot 1 n) ↔ PatchBytes s n
  pub full : (slot_numbers s ≡ sound_slot 2 0) ↔ ((get_or s 0 0 ≡ 2) × ((i : ℕ) → 1 ≤ i → i < 512 → get_or s i 0 ≡ 0))
  -- and whose payload it is
  pub payload : (payload : List ℕ) → 1 ≤ length payload → length payload ≤ 504
      → (s ≡ patch_slot payload) ↔ (PatchBytes s (length payload) × ((i : ℕ) → i < length payload → get_or s (8 + i) 0 ≡ get_or payload i 0))

zero_part : (at n : ℕ) (s : List ℕ) → at + n ≤ length s → (part at n s ≡ zeros n) ↔ ((i : ℕ) → at ≤ i → i < at + n → get_or s i 0 ≡ 0)
zero_part at n s h = (
  λ e i a b.
      let q : i ≡ at + (i - at) = omega arith in
      ap (λ (k : ℕ). get_or s k 0) q ∙ sym (part_at at n s (i - at) (omega arith)) ∙ ap (λ (x : List ℕ). get_or x (i - at) 0) e
      ∙ zeros_at n (i - at),
  λ z.
      let l : length (part at n s) ≡ n = part_length at n s h in
      ext (part at n s) (zeros n) (l ∙ sym (zeros_length n)) (λ i k. part_at at n s i (omega arith)
      ∙ z (at + i) (omega arith) (omega arith) ∙ sym (zeros_at n i)),
)

module _ (s : List ℕ) (l : length s ≡ 512) where
  empty_bytes : (s ≡ empty_slot) ↔ ((i : ℕ) → i < 512 → get_or s i 0 ≡ 0)
  unfolding empty_slot
  empty_bytes = (
    λ e i h. ap (λ (x : List ℕ). get_or x i 0) e ∙ zeros_at slot_size i,
    λ z. ext s (zeros slot_size) (l ∙ sym (zeros_length slot_size)) (λ i h. z i (omega arith) ∙ sym (zeros_at slot_size i)),
  )

  full_bytes : (s ≡ full_slot) ↔ ((get_or s 0 0 ≡ 2) × ((i : ℕ) → 1 ≤ i → i < 512 → get_or s i 0 ≡ 0))
  unfolding full_slot
  full_bytes = (
    λ e. (ap (λ (x : List ℕ). get_or x 0 0) e, there e),
    λ z. ext s (2 ∷ zeros (slot_size - 1)) (l ∙ sym (ap suc (zeros_length (slot_size - 1)))) (back z.0 z.1),
  )
    where
      there : s ≡ 2 ∷ zeros (slot_size - 1) → (i : ℕ) → 1 ≤ i → i < 512 → get_or s i 0 ≡ 0
      there e zero a b = absurd (omega arith)
      there e (suc i) a b = ap (λ (x : List ℕ). get_or x (suc i) 0) e ∙ zeros_at (slot_size - 1) i

      back : get_or s 0 0 ≡ 2 → ((i : ℕ) → 1 ≤ i → i < 512 → get_or s i 0 ≡ 0) → (i : ℕ) → i < length s
          → get_or s i 0 ≡ get_or (2 ∷ zeros (slot_size - 1)) i 0
      back k z zero h = k
      back k z (suc i) h = z (suc i) (omega arith) (omega arith) ∙ sym (zeros_at (slot_size - 1) i)

  module _ (byte : (i : ℕ) → get_or s i 0 < 256) where
    bytes_patch : (n : ℕ) → PatchBytes s n → slot_numbers s ≡ sound_slot 1 n
    unfolding is_patch
    bytes_patch n b =
        let p : payload_length s ≡ n = length_at_is s l ∙ b.size in
        let z : part 4 4 s ≡ zeros 4 = (zero_part 4 4 s (omega arith)).1 b.reserved in
        let t : part (payload_at + payload_length s) (room - payload_length s) s ≡ zeros (room - payload_length s) =
        (zero_part (payload_at + payload_length s) (room - payload_length s) s (omega (arith, b.most))).1
        (λ i a c. b.after i (omega arith) (omega (arith, b.most))) in
        let f : same s (patch_slot (payload_of s)) ≡ true =
        patch_fields_is s l b.kind (byte 2) (byte 3) (omega (arith, b.most))
        ∙ rw (
          eq-eqb (get_or s 1 0) 1 b.flags,
          same_true (part 4 4 s) (zeros 4) z,
          same_true (part (payload_at + payload_length s) (room - payload_length s) s) (zeros (room - payload_length s)) t,
        ) in
        let i : is_patch s ≡ true = rw (
          le-leb 1 (payload_length s) (omega (arith, b.some)),
          le-leb (payload_length s) room
              (omega (arith, b.most)),
        ) f in
        slot_patch s l b.kind ∙ rw (i, p)

    patch_bytes : (n : ℕ) → slot_numbers s ≡ sound_slot 1 n → PatchBytes s n
    unfolding is_patch
    patch_bytes n e =
        let m = ((slot_means s).patch n).0 e in
        let t : (is_patch s ≡ true) × (payload_length s ≡ n) = told_patch s n (sym e) in
        let p : ℕ = payload_length s in
        let k : get_or s 0 0 ≡ 1 = ap (λ (x : List ℕ). get_or x 0 0) m.4 ∙ kind_one m.0 (omega (arith, m.1, m.3)) in
        let a : Bool = same (part 4 4 s) (zeros 4) in
        let b : Bool = same (part (payload_at + p) (room - p) s) (zeros (room - p)) in
        let f : (eqb (get_or s 1 0) 1 && (a && b)) ≡ true =
        sym (patch_fields_is s l k (byte 2) (byte 3) (omega (arith, t.1, m.3)))
        ∙ and_right (leb 1 p && leb p room) (same s (patch_slot (payload_of s))) t.0 in
        let g : (a && b) ≡ true = and_right (eqb (get_or s 1 0) 1) (a && b) f in
        record {
          kind = k;
          flags = eqb-true (get_or s 1 0) 1 (and_left (eqb (get_or s 1 0) 1) (a && b) f);
          size = sym (length_at_is s l) ∙ t.1;
          some = m.2;
          most = m.3;
          reserved = (zero_part 4 4 s (omega arith)).0 (same_is (part 4 4 s) (zeros 4) (and_left a b g));
          after =
              λ i x y.
              (zero_part (payload_at + p) (room - p) s (omega (arith, t.1, m.3))).0
              (same_is (part (payload_at + p) (room - p) s) (zeros (room - p)) (and_right a b g)) i
              (omega (arith, t.1)) (omega (arith, t.1, m.3));
        }

    payload_at_is : (payload : List ℕ) → length payload ≤ 504 → s ≡ patch_slot payload → (i : ℕ) → i < length payload
        → get_or s (8 + i) 0 ≡ get_or payload i 0
    unfolding payload_of
    payload_at_is payload h e i k =
        let p : payload_length s ≡ length payload = ap payload_length e ∙ payload_length_of payload h in
        sym (part_at payload_at (payload_length s) s i (omega arith))
        ∙ ap (λ (x : List ℕ). get_or x i 0) (ap payload_of e ∙ payload_of_is payload h)

    -- a 512-byte slot of bytes
    pub slot_bytes : SlotBytes s
    slot_bytes =
        let m : SlotMeans s = slot_means s in
        record {
          empty = (λ e. empty_bytes.0 (m.empty.0 e), λ z. m.empty.1 (empty_bytes.1 z));
          patch = λ n. (patch_bytes n, bytes_patch n);
          full = (λ e. full_bytes.0 (m.full.0 e), λ z. m.full.1 (full_bytes.1 z));
          payload =
              λ p a b. (
                λ e. (patch_bytes (length p) ((m.patch (length p)).1 (p, refl, a, b, e)), payload_at_is p b e),
                λ h.
                    let w = (m.patch (length p)).0 (bytes_patch (length p) h.0) in
                    let n : length w.0 ≡ length p = w.1 in
                    w.4 ∙ ap patch_slot (ext w.0 p n (λ i k. sym (payload_at_is w.0 (omega arith) w.4 i k) ∙ h.1 i (omega arith))),
              );
        }
