-- What Build promises, with none of its rows, walks and tests: by the images of slots and the entries that spell payloads.
use Rattle.std.specs.Prelude.{ℕ, ◌≤◌, ◌<◌, ◌≡◌, ◌↔◌, List, length, get_or, Result, Ok, ⊤}
use Rattle.std.proofs.Common.{sym, ap, ◌∙◌, subst}
use Rattle.std.proofs.Math.Logic.Iff
use Rattle.layout.specs.Numbers.{refusal_number}
use Rattle.layout.specs.NumberLaws.{refusal_some}
use Rattle.layout.specs.FirstFaultLaws.{none_below, lowest_iff}
use Rattle.layout.specs.declared.Refusal.{Refusal}
use Rattle.slots.specs.Slots.{payload_of}
use Rattle.payload.specs.Entries.{offset_with}
use Rattle.payload.specs.Spelling.{Bytes}
use Rattle.blockmap.specs.Pairs.{map_bytes}
use Rattle.store.specs.Block.{slot_of}
use Rattle.building.specs.Build.{block_fault, block_offset, build_fault, refused_in, Build}
use Rattle.building.specs.BuildWords.{blocks, SoundFrame, BlockGives, SoundBlock, LowestFault, PairsOf, Tallies}
use Rattle.building.specs.BuildMeaningLaws.{gives_fault, gives_offset, fault_gives, frame_iff, built_same, done_iff, refused_iff}
use Rattle.building.specs.BuildMeaningLaws.{frame_zeros}
use Rattle.building.specs.BuildMeaningLaws.{kept, pairs_are, tallies_are, later_bytes, same_length}
use Rattle.building.specs.declared.RefusedIn.{RefusedIn}

-- The answer
pub record BuildGives (P : ℕ) (patch full map : List ℕ) (answer : Result ⊤ RefusedIn) : Type 0 where
  -- done just where the frame and every block are sound
  pub accepts : (answer ≡ Ok tt) ↔ (SoundFrame P patch full map × ((b : ℕ) → b < blocks patch → SoundBlock P patch full b))
  -- else, in a sound frame, the lowest faulty block and its first fault, and where its payload breaks if that is the fault
  pub refuses : SoundFrame P patch full map → (r : Refusal) (b at : ℕ)
      → (answer ≡ refused_in r b at) ↔ LowestFault P patch full b (refusal_number r) at
  -- else, by the frame: neither block nor offset
  pub frameless : (SoundFrame P patch full map → ⊥) → (r : Refusal) (b at : ℕ) → answer ≡ refused_in r b at → (b ≡ 0) × (at ≡ 0)

-- The map's buffer
pub record BuildWrites (P : ℕ) (patch map : List ℕ) (answer : Result ⊤ RefusedIn) (map' : List ℕ) : Type 0 where
  -- refused: every byte as it was
  pub untouched : (r : Refusal) (b at : ℕ) → answer ≡ refused_in r b at → map' ≡ map
  -- done: each pair is its slot's kind
  pub pairs : answer ≡ Ok tt → PairsOf patch map'
  -- and Tally counts the slots of each kind
  pub tally : answer ≡ Ok tt → Tallies P patch map'
  -- "later bytes stay"
  pub later : (i : ℕ) → map_bytes (blocks patch) ≤ i → get_or map' i 0 ≡ get_or map i 0
  pub size : length map' ≡ length map

-- In an area of bytes, payloads are told by their entries
module _ (P : ℕ) (patch full : List ℕ) (bytes : Bytes patch) where
  pub block_gives : (b k at : ℕ) → ((block_fault P patch full b ≡ k) × (block_offset P patch full b ≡ at)) ↔ BlockGives P patch full b k at
  block_gives b k at = (
    λ e.
        subst (λ (j : ℕ). BlockGives P patch full b j at) e.0
        (subst (λ (o : ℕ). BlockGives P patch full b (block_fault P patch full b) o) e.1 (fault_gives P patch full bytes b)),
    λ g. (gives_fault P patch full bytes b g, gives_offset P patch full bytes b g),
  )

  -- a block with no fault has no offset
  sound_gives : (b : ℕ) → (block_fault P patch full b ≡ 0) ↔ SoundBlock P patch full b
  sound_gives b = (
    λ e. (block_gives b 0 0).0 (e, ap (λ (k : ℕ). offset_with k P (payload_of (slot_of patch b))) e),
    λ g. gives_fault P patch full bytes b g,
  )

  all_sound : ((build_fault P patch full).number ≡ 0) ↔ ((b : ℕ) → b < blocks patch → SoundBlock P patch full b)
  all_sound =
      Iff.trans (none_below (block_fault P patch full) (blocks patch)) (
        λ h b l. (sound_gives b).0 (h b l),
        λ h b l. (sound_gives b).1 (h b l),
      )

  lowest : (b k at : ℕ) → (k ≡ 0 → ⊥)
      → ((build_fault P patch full ≡ record { number = k; block = b }) × (offset_with k P (payload_of (slot_of patch b)) ≡ at))
      ↔ LowestFault P patch full b k at
  lowest b k at some =
      let w = lowest_iff (block_fault P patch full) (blocks patch) b k some in (
        λ e.
            let l = w.0 e.0 in
            record {
              below = l.below;
              gives = (block_gives b k at).0 (l.fault, ap (λ (j : ℕ). offset_with j P (payload_of (slot_of patch b))) l.fault ∙ e.1);
              lower = λ i h. (sound_gives i).0 (l.lower i h);
            },
        λ l.
            let g = (block_gives b k at).1 l.gives in (
              w.1 (record { below = l.below; fault = g.0; lower = λ i h. (sound_gives i).1 (l.lower i h) }),
              ap (λ (j : ℕ). offset_with j P (payload_of (slot_of patch b))) (sym g.0) ∙ g.1,
            ),
      )

  pub build_gives : (map : List ℕ) (answer : Result ⊤ RefusedIn) (map' : List ℕ) → Build P patch full map answer map'
      → BuildGives P patch full map answer
  build_gives map answer map' call =
      record {
        accepts = Iff.trans (done_iff P patch full map answer map' call) (Iff.and (frame_iff P patch full map) all_sound);
        refuses =
            λ f r b at.
            Iff.trans
            (refused_iff P patch full map answer map' call ((frame_iff P patch full map).1 f) r b at)
            (lowest b (refusal_number r) at (refusal_some r));
        frameless = λ n. frame_zeros P patch full map answer map' call (λ e. n ((frame_iff P patch full map).0 e));
      }

pub build_writes : (P : ℕ) (patch full map : List ℕ) (answer : Result ⊤ RefusedIn) (map' : List ℕ) → Build P patch full map answer map'
    → BuildWrites P patch map answer map'
build_writes P patch full map answer map' call =
    record {
      untouched = kept P patch full map answer map' call;
      pairs = pairs_are P patch full map answer map' call;
      tally = tallies_are P patch full map answer map' call;
      later = later_bytes P patch full map answer map' call;
      size = same_length P patch full map answer map' call;
    }

-- O1: two outcomes that meet Build are equal
pub build_one : (P : ℕ) (patch full map : List ℕ) (x y : Result ⊤ RefusedIn) (map₁ map₂ : List ℕ)
    → Build P patch full map x map₁ → Build P patch full map y map₂ → (x ≡ y) × (map₁ ≡ map₂)
build_one P patch full map x y map₁ map₂ a b = (built_same x y (a.numbers ∙ sym b.numbers), a.bytes ∙ sym b.bytes)
