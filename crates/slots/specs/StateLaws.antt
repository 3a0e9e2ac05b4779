-- What is known of a slot by what it was found to be.
use Rattle.std.specs.Prelude.{ℕ, ◌≡◌, refl, Bool, true, false, cond, List, Option, Some, None, Err, is_some, unwrap_or}
use Rattle.std.proofs.Common.{sym, ap, true≢false}
use Rattle.span.specs.Bytes.{same}
use Rattle.layout.specs.NumberLaws.{refusal_one, refusal_some}
use Rattle.layout.specs.declared.Refusal.{Refusal}
use Rattle.layout.specs.declared.Refusal.TheVariants.{Slot}
use Rattle.slots.specs.Slots.{SlotNumbers, slot_numbers, state_numbers, sound_slot, unsound_slot, empty_slot, full_slot, is_patch, payload_length}

-- none of the three: the refusal is 6
pub refused_slot : (s : List ℕ) (r : Refusal) → state_numbers (Err r) ≡ slot_numbers s → (r ≡ Slot) × (slot_numbers s ≡ unsound_slot)
unfolding slot_numbers
refused_slot s r = go (same s empty_slot) (is_patch s) (same s full_slot)
  where
    go : (a b c : Bool)
        → state_numbers (Err r) ≡ cond a (sound_slot 0 0) (cond b (sound_slot 1 (payload_length s)) (cond c (sound_slot 2 0) unsound_slot))
        → (r ≡ Slot)
        × (◌≡◌ {A = SlotNumbers} (cond a (sound_slot 0 0) (cond b (sound_slot 1 (payload_length s)) (cond c (sound_slot 2 0) unsound_slot))) unsound_slot)
    go true b c e = absurd (refusal_some r (ap (λ (x : SlotNumbers). x.number) e))
    go false true c e = absurd (refusal_some r (ap (λ (x : SlotNumbers). x.number) e))
    go false false true e = absurd (refusal_some r (ap (λ (x : SlotNumbers). x.number) e))
    go false false false e = (refusal_one r Slot (ap (λ (x : SlotNumbers). x.number) e), refl)

-- a payload's length, or none
pub none_told : (s : List ℕ) → None ≡ cond (is_patch s) (Some (payload_length s)) None → is_patch s ≡ false
none_told s e = go (is_patch s) e
  where
    go : (t : Bool) → None ≡ cond t (Some (payload_length s)) None → t ≡ false
    go true q = absurd (true≢false (sym (ap (λ (o : Option ℕ). is_some o) q)))
    go false q = refl

pub some_told : (s : List ℕ) (n : ℕ) → Some n ≡ cond (is_patch s) (Some (payload_length s)) None
    → (is_patch s ≡ true) × (payload_length s ≡ n)
some_told s n e = go (is_patch s) e
  where
    go : (t : Bool) → Some n ≡ cond t (Some (payload_length s)) None → (t ≡ true) × (payload_length s ≡ n)
    go true q = (refl, sym (ap (λ (o : Option ℕ). unwrap_or o 0) q))
    go false q = absurd (true≢false (ap (λ (o : Option ℕ). is_some o) q))
