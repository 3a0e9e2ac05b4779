-- The laws of the map that Build writes: made byte by byte from the slots' first bytes, laid over a buffer, and its pairs.
use Rattle.std.specs.Prelude.{ℕ, zero, suc, ◌+◌, ◌*◌, ◌/◌, ◌%◌, ◌^◌, ◌≤◌, ◌<◌, ◌≡◌, refl, Bool, true, false, List, [], ◌∷◌, ◌++◌, set}
use native.Mathlib.Omega.{arith}
use Rattle.std.proofs.Common.{sym, ◌∙◌, inl, inr}
use Rattle.std.proofs.Math.Path.{ap}
use Rattle.std.proofs.Math.ListN.{length, get_or}
use Rattle.span.specs.Bytes.{splice}
use Rattle.span.specs.Laws.{splice_more, splice_in, splice_after, splice_length}
use Rattle.layout.specs.FirstFaultLaws.{none_below}
use Rattle.layout.specs.Lengths.{blocks_in}
use Rattle.slots.specs.Slots.{slot_numbers}
use Rattle.blockmap.specs.Pairs.{map_bytes, pair_at, reserved_pair, bad_pairs}
use Rattle.blockmap.specs.Meaning.{BadPair, bad_iff}
use Rattle.blockmap.specs.Pack.{pair_of, packed_byte, packed_first, packed}
use Rattle.blockmap.specs.PackLaws.{pair_of_below, packed_length, packed_used, packed_unused, packed_more, packed_first_length, packed_same}
use Rattle.store.specs.Block.{slot_of}
use Rattle.store.specs.BlockLaws.{kind_at_is}
use Rattle.building.specs.Build.{block_fault, build_fault, built_map}
use Rattle.building.specs.Steps.{kind_pair}
use Rattle.building.specs.BuildLaws.{slot_sound}

pub pair_full : (k : ℕ) → (k ≡ 0 → ⊥) → (k ≡ 1 → ⊥) → pair_of 2 ≡ pair_of k
unfolding pair_of
pair_full zero h i = absurd (h refl)
pair_full (suc zero) h i = absurd (i refl)
pair_full (suc (suc k)) h i = refl

-- one more byte of a packed map, laid over a buffer
pub map_turn : (buffer map : List ℕ) (f : ℕ → ℕ) (n at v : ℕ) → at < length buffer
    → map ≡ splice buffer 0 (packed_first f n at) → v ≡ packed_byte f n at
    → set map at v ≡ splice buffer 0 (packed_first f n (at + 1))
map_turn buffer map f n at v h e q =
    let l : length (packed_first f n at) ≡ at = packed_first_length f n at in
    let z : 0 + length (packed_first f n at) ≡ at = omega arith in
    ap (λ (m : List ℕ). set m at v) e
    ∙ ap (λ (i : ℕ). set (splice buffer 0 (packed_first f n at)) i v) (sym z)
    ∙ splice_more buffer 0 (packed_first f n at) v (omega arith)
    ∙ ap (λ (w : ℕ). splice buffer 0 (packed_first f n at ++ (w ∷ []))) q
    ∙ ap (λ (m : List ℕ). splice buffer 0 m) (sym (packed_more f n at))

-- The first byte of a sound slot is its kind, so the map may be made from the slots' first bytes
pub built_kinds : (P : ℕ) (patch full : List ℕ) → (build_fault P patch full).number ≡ 0
    → built_map patch ≡ packed (kind_pair patch) (blocks_in (length patch))
unfolding built_map kind_pair
built_kinds P patch full e =
    packed_same (λ b. pair_of (slot_numbers (slot_of patch b)).kind) (kind_pair patch) (blocks_in (length patch))
    (λ b h.
    let none : block_fault P patch full b ≡ 0 = (none_below (block_fault P patch full) (blocks_in (length patch))).0 e b h in
    ap pair_of (kind_at_is patch b (slot_sound P patch full b none)))

-- A map laid over a buffer: its pairs, and the bytes after it

module _ (buffer map : List ℕ) (fits : length map ≤ length buffer) where
  laid_pair : (b : ℕ) → b < 4 * length map → pair_at (splice buffer 0 map) b ≡ pair_at map b
  unfolding pair_at
  laid_pair b h =
      let q : b / 4 ≡ 0 + b / 4 = omega arith in
      ap (λ (x : ℕ). x / 4 ^ (b % 4) % 4)
      (ap (λ (i : ℕ). get_or (splice buffer 0 map) i 0) q ∙ splice_in buffer 0 map (omega arith) (b / 4) (omega arith))

  pub laid_later : (i : ℕ) → length map ≤ i → get_or (splice buffer 0 map) i 0 ≡ get_or buffer i 0
  laid_later i h = splice_after buffer 0 map (omega arith) i (omega arith)

  pub laid_length : length (splice buffer 0 map) ≡ length buffer
  laid_length = splice_length buffer 0 map (omega arith)

-- The built map, over a buffer that is long enough

pub built_length : (patch : List ℕ) → length (built_map patch) ≡ map_bytes (blocks_in (length patch))
unfolding built_map
built_length patch = packed_length (λ b. pair_of (slot_numbers (slot_of patch b)).kind) (blocks_in (length patch))

module _ (patch buffer : List ℕ) (long : map_bytes (blocks_in (length patch)) ≤ length buffer) where
  pub built_pair : (b : ℕ) → b < blocks_in (length patch)
      → pair_at (splice buffer 0 (built_map patch)) b ≡ pair_of (slot_numbers (slot_of patch b)).kind
  unfolding built_map map_bytes
  built_pair b h =
      let l : length (built_map patch) ≡ map_bytes (blocks_in (length patch)) = built_length patch in
      let small : pair_of (slot_numbers (slot_of patch b)).kind < reserved_pair = pair_of_below (slot_numbers (slot_of patch b)).kind in
      laid_pair buffer (built_map patch) (omega arith) b (omega arith)
      ∙ packed_used (λ i. pair_of (slot_numbers (slot_of patch i)).kind) (blocks_in (length patch)) b h (omega arith)

  pub built_unused : (b : ℕ) → blocks_in (length patch) ≤ b → b < 4 * map_bytes (blocks_in (length patch))
      → pair_at (splice buffer 0 (built_map patch)) b ≡ 0
  unfolding built_map
  built_unused b h k =
      let l : length (built_map patch) ≡ map_bytes (blocks_in (length patch)) = built_length patch in
      laid_pair buffer (built_map patch) (omega arith) b (omega arith)
      ∙ packed_unused (λ i. pair_of (slot_numbers (slot_of patch i)).kind) (blocks_in (length patch)) b h k

  pub built_good : bad_pairs (splice buffer 0 (built_map patch)) (blocks_in (length patch)) ≡ false
  built_good = go (bad_pairs map n) refl
    where
      n : ℕ
      n = blocks_in (length patch)

      map : List ℕ
      map = splice buffer 0 (built_map patch)

      never : (b : ℕ) → BadPair map n b → ⊥
      never b (inl h) =
          let small : pair_of (slot_numbers (slot_of patch b)).kind < reserved_pair = pair_of_below (slot_numbers (slot_of patch b)).kind in
          let e : pair_at map b ≡ pair_of (slot_numbers (slot_of patch b)).kind = built_pair b h.0 in
          omega (arith, h.1)
      never b (inr h) = h.2 (built_unused b h.0 h.1)

      go : (t : Bool) → bad_pairs map n ≡ t → t ≡ false
      go false e = refl
      go true e = let w = (bad_iff map n).0 e in absurd (never w.0 w.1)
