-- The laws of a read by the map: its outcome by what is wrong first, by the kind that the pair stands for, and beside Read's.
use Prim.Native.Nat.{ℕ, ◌≤◌, ◌<◌}
use Rattle.std.proofs.Common.{arith, ◌∙◌}
use Rattle.std.specs.Prelude.{◌≡◌, Bool, true, eqb, ltb, length}
use Rattle.std.proofs.Math.Path.{refl, sym, ap}
use Rattle.std.proofs.Math.Bool.{false}
use mathlib.Core.List.{List, ◌∷◌, ◌++◌}
use Rattle.std.proofs.Math.Dec.{leb}
use borrow.Author.Tests.{le-leb, lt-leb, le-ltb, leb-false, ltb-true, ltb-false, eqb-true}
use Rattle.layout.specs.Sizes.{blocks_at_most}
use Rattle.layout.specs.Numbers.{refusal_number}
use Rattle.layout.specs.declared.Refusal.{Refusal}
use Rattle.layout.specs.Refusals.{Row, ◌⇐◌, first_of, or_else, decided}
use Rattle.layout.specs.RefusalLaws.{first_append, first_skip, row_off, or_none, or_skip, or_some, decided_number, decided_done}
use Rattle.layout.specs.RefusalLaws.{decided_refused, no_such, lacks, first_lacks}
use Rattle.layout.specs.Groups.{ordered}
use Rattle.layout.specs.GroupLaws.{in_halves}
use Rattle.layout.specs.Lengths.{blocks_in, pages_in}
use Rattle.slots.specs.Slots.{slot_numbers, sound_slot, is_patch, payload_length, payload_of}
use Rattle.slots.specs.SlotLaws.{told_patch, patch_told}
use Rattle.payload.specs.Entries.{offset_with}
use Rattle.payload.specs.EntryLaws.{offset_other}
use Rattle.blockmap.specs.Pairs.{map_bytes, pair_at}
use Rattle.blockmap.specs.Pack.{kind_of}
use Rattle.blockmap.specs.Calls.{short_map, map_rows, LookedNumbers, look_up_rows, look_up_numbers, LookUp}
use Rattle.std.specs.Prelude.{Result, Ok, Err}
use Rattle.layout.specs.Numbers.{kind_number}
use Rattle.layout.specs.declared.Kind.{Kind}
use Rattle.layout.specs.declared.Kind.TheVariants.{Empty, Patch, Full}
use Rattle.blockmap.specs.SetLaws.{kind_back}
use Rattle.layout.specs.declared.RefusedAt.{RefusedAt}
use Rattle.blockmap.specs.Pack.{pair_of}
use Rattle.stream.specs.Calls.{page_of, page_rows}
use Rattle.store.specs.Block.{slot_of, place_of, block_rows, slot_rows, full_rows, payload_rows}
use Rattle.store.specs.Frame.{frame_rows}
use Rattle.store.specs.FrameLaws.{frame_lacks}
use Rattle.reading.specs.Read.{contents_as, contents, ReadOutcome, read_numbers, read_done, read_refused}
use Rattle.reading.specs.Mapped.{own_rows, patch_rows, page_row, sound_rows, read_mapped_rows, read_mapped_outcome}
use Rattle.reading.specs.Parts.{slot_outcome, BlockRead, PatchRead, PlaceRead, kind_outcome, KindRead}
use Rattle.reading.specs.ReadLaws.{patch_read}

module _ (P : ℕ) (patch full map : List ℕ) (b : ℕ) (base page : List ℕ) where
  unfoldable pub frame : List Row
  frame = frame_rows P (page_rows P base page) (short_map map (blocks_in (length patch))) patch full

  -- what is decided of the block's number and of its own pair, and what by its kind
  abbrev pub looked : List Row
  looked = block_rows patch b ++ own_rows (pair_at map b)

  unfoldable pub by_kind : List Row
  by_kind =
      let s = slot_of patch b in
      let kind = kind_of (pair_at map b) in
      patch_rows kind s ++ (page_row kind P full b ++ sound_rows kind P s)

  pub mapped_rows : first_of (read_mapped_rows P patch full map b base page)
      ≡ or_else (first_of frame) (or_else (first_of looked) (first_of by_kind))
  unfolding read_mapped_rows frame_rows frame by_kind
  mapped_rows = in_halves _ ∙ ap (λ (n : ℕ). or_else (first_of frame) n) (first_append looked by_kind)

  -- neither gives 7
  frame_other : first_of frame ≡ 7 → ⊥
  unfolding frame
  frame_other =
      first_lacks frame 6
      (frame_lacks P patch full (page_rows P base page) (short_map map (blocks_in (length patch))) 7 (omega arith)
      (lacks 1 (λ e. omega arith) no_such) (lacks 9 (λ e. omega arith) no_such))

  looked_other : first_of looked ≡ 7 → ⊥
  looked_other = first_lacks looked 6 (lacks 5 (λ e. omega arith) (lacks 11 (λ e. omega arith) no_such))

  refused_with : (k : ℕ) → first_of (read_mapped_rows P patch full map b base page) ≡ k → (k ≡ 0 → ⊥) → (k ≡ 7 → ⊥)
      → read_mapped_outcome P patch full map b base page ≡ read_refused k 0 page
  unfolding read_mapped_outcome
  refused_with k e some other =
      decided_refused _ _ (first_of (read_mapped_rows P patch full map b base page)) k e some
      ∙ ap (λ (o : ℕ). read_refused k o page) (offset_other k P (payload_of (slot_of patch b)) other)

  -- the frame's refusal is the call's
  pub mapped_frame : (k : ℕ) → first_of (frame_rows P (page_rows P base page) (short_map map (blocks_in (length patch))) patch full) ≡ k
      → (k ≡ 0 → ⊥) → read_mapped_outcome P patch full map b base page ≡ read_refused k 0 page
  unfolding frame
  mapped_frame k e some =
      refused_with k
      (mapped_rows ∙ ap (λ (n : ℕ). or_else n (or_else (first_of looked) (first_of by_kind))) e
      ∙ or_some k (or_else (first_of looked) (first_of by_kind)) some)
      some (λ q. frame_other (e ∙ q))

  module _ (e : first_of (frame_rows P (page_rows P base page) (short_map map (blocks_in (length patch))) patch full) ≡ 0) where
    inside : first_of (read_mapped_rows P patch full map b base page) ≡ or_else (first_of looked) (first_of by_kind)
    unfolding frame
    inside = mapped_rows ∙ or_skip (first_of frame) (or_else (first_of looked) (first_of by_kind)) e

    -- so is what Look up refuses
    pub mapped_looked : (k : ℕ) → first_of looked ≡ k → (k ≡ 0 → ⊥) → read_mapped_outcome P patch full map b base page ≡ read_refused k 0 page
    mapped_looked k q some =
        refused_with k (inside ∙ ap (λ (n : ℕ). or_else n (first_of by_kind)) q ∙ or_some k (first_of by_kind) some) some
        (λ r. looked_other (q ∙ r))

    pub mapped_within : first_of looked ≡ 0
        → read_mapped_outcome P patch full map b base page ≡ kind_outcome (kind_of (pair_at map b)) P patch full b base page
    unfolding read_mapped_outcome kind_outcome by_kind
    mapped_within q =
        let kind : ℕ = kind_of (pair_at map b) in
        ap (λ (n : ℕ). decided n (read_done kind (contents_as P kind patch full b base))
        (λ (k : ℕ). read_refused k (offset_with k P (payload_of (slot_of patch b))) page))
        (inside ∙ or_skip (first_of looked) (first_of by_kind) q)

kind_few : (k : Kind) → kind_number k < 3
kind_few Empty = omega arith
kind_few Patch = omega arith
kind_few Full = omega arith

-- Look up, told a frame's n and a map that is long enough, looks at the block's number and its own pair
module _ (P : ℕ) (patch map : List ℕ) (n b : ℕ) (own : n ≡ blocks_in (length patch)) (few : n ≤ blocks_at_most P)
    (long : map_bytes n ≤ length map) where
  look_number : (look_up_numbers P map n b).number ≡ first_of (block_rows patch b ++ own_rows (pair_at map b))
  unfolding look_up_numbers look_up_rows map_rows ordered
  look_number =
      decided_number (λ (x : LookedNumbers). x.number) _ _ (first_of (look_up_rows P map n b)) refl (λ k. refl)
      ∙ first_skip 2 (ltb (blocks_at_most P) n) _ (le-ltb (blocks_at_most P) n few)
      ∙ first_skip 9 (ltb (length map) (map_bytes n)) _ (le-ltb (length map) (map_bytes n) long)
      ∙ ap (λ (k : ℕ). first_of ((5 ⇐ leb k b) ∷ own_rows (pair_at map b))) own

  pub look_refuses : (r : Refusal) → LookUp P map n b (Err r)
      → first_of (block_rows patch b ++ own_rows (pair_at map b)) ≡ refusal_number r
  look_refuses r l = sym (ap (λ (x : LookedNumbers). x.number) l.numbers ∙ look_number)

  module _ (kind : Kind) (l : LookUp P map n b (Ok kind)) where
    pub look_none : first_of (block_rows patch b ++ own_rows (pair_at map b)) ≡ 0
    look_none = sym (ap (λ (x : LookedNumbers). x.number) l.numbers ∙ look_number)

    pub look_pair : pair_of (kind_number kind) ≡ pair_at map b
    unfolding look_up_numbers
    look_pair =
        let z : first_of (look_up_rows P map n b) ≡ 0 =
        sym (ap (λ (x : LookedNumbers). x.number) l.numbers
        ∙ decided_number (λ (x : LookedNumbers). x.number) _ _ (first_of (look_up_rows P map n b)) refl (λ k. refl)) in
        ap (λ (x : LookedNumbers). x.pair) (l.numbers ∙ decided_done _ _ (first_of (look_up_rows P map n b)) z)

    -- the kind is the one that the block's pair stands for
    pub look_kind : kind_number kind ≡ kind_of (pair_at map b)
    look_kind = sym (kind_back (kind_number kind) (kind_few kind)) ∙ ap kind_of look_pair

    pub look_below : b < n
    unfolding first_of
    look_below =
        let off : leb (blocks_in (length patch)) b ≡ false =
        row_off 4 (leb (blocks_in (length patch)) b) (or_none _ (first_of (own_rows (pair_at map b))) look_none).0 in
        let h : b < blocks_in (length patch) = leb-false (blocks_in (length patch)) b off in
        omega (arith, own, h)

-- By the kind

module _ (P : ℕ) (patch full : List ℕ) (b : ℕ) (base page : List ℕ) where
  -- nothing is looked at
  pub kind_empty : kind_outcome 0 P patch full b base page ≡ read_done 0 (page_of P base)
  unfolding kind_outcome first_of or_else decided
  kind_empty = refl

  pub kind_not : is_patch (slot_of patch b) ≡ false → kind_outcome 1 P patch full b base page ≡ read_refused 6 0 page
  unfolding kind_outcome first_of or_else
  kind_not e =
      decided_refused _ _ (first_of (patch_rows 1 (slot_of patch b) ++ (page_row 1 P full b ++ sound_rows 1 P (slot_of patch b)))) 6 (rw e)
      (λ q. omega arith)

  pub kind_missing : pages_in P (length full) ≤ b → kind_outcome 2 P patch full b base page ≡ read_refused 8 0 page
  unfolding kind_outcome first_of or_else
  kind_missing h =
      decided_refused _ _ (first_of (patch_rows 2 (slot_of patch b) ++ (page_row 2 P full b ++ sound_rows 2 P (slot_of patch b)))) 8
      (rw (le-leb (pages_in P (length full)) b h)) (λ q. omega arith)

  pub kind_full : b < pages_in P (length full) → kind_outcome 2 P patch full b base page ≡ read_done 2 (place_of P full b)
  unfolding kind_outcome first_of or_else
  kind_full h =
      decided_done _ _ (first_of (patch_rows 2 (slot_of patch b) ++ (page_row 2 P full b ++ sound_rows 2 P (slot_of patch b))))
      (rw (lt-leb (pages_in P (length full)) b h))

  -- the place, whatever the slot is
  pub place_as : (answer : Result Kind RefusedAt) (page' : List ℕ) → PlaceRead P full b page answer page'
      → KindRead 2 P patch full b base page answer page'
  place_as answer page' r = go (ltb b (pages_in P (length full))) refl
    where
      go : (t : Bool) → ltb b (pages_in P (length full)) ≡ t → KindRead 2 P patch full b base page answer page'
      go true h =
          let e = kind_full (ltb-true b (pages_in P (length full)) h) in
          record { numbers = rw e (r.numbers ∙ rw h); bytes = rw e (r.bytes ∙ rw h) }
      go false h =
          let e = kind_missing (ltb-false b (pages_in P (length full)) h) in
          record { numbers = rw e (r.numbers ∙ rw h); bytes = rw e (r.bytes ∙ rw h) }

  -- Read finds in a sound slot what a read by its kind finds
  pub slot_as : (k n : ℕ) → slot_numbers (slot_of patch b) ≡ sound_slot k n
      → slot_outcome P patch full b base page ≡ kind_outcome k P patch full b base page
  unfolding slot_outcome kind_outcome slot_rows full_rows payload_rows contents first_of or_else
  slot_as k n e = go (eqb k 1) refl
    where
      s : List ℕ
      s = slot_of patch b

      go : (t : Bool) → eqb k 1 ≡ t → slot_outcome P patch full b base page ≡ kind_outcome k P patch full b base page
      go true h =
          let q : k ≡ 1 = eqb-true k 1 h in
          let p : is_patch s ≡ true = (told_patch s n (sym (e ∙ ap (λ (j : ℕ). sound_slot j n) q))).0 in
          rw (e, p, q)
      go false h = rw (e, h)

  pub kind_block : (k n : ℕ) (answer : Result Kind RefusedAt) (page' : List ℕ) → slot_numbers (slot_of patch b) ≡ sound_slot k n
      → KindRead k P patch full b base page answer page' → BlockRead P patch full b base page answer page'
  kind_block k n answer page' e r =
      let q = slot_as k n e in
      record {
        numbers = r.numbers ∙ ap read_numbers (sym q);
        bytes = r.bytes ∙ ap (λ (o : ReadOutcome). o.page) (sym q);
      }

  -- a payload read over its base is what a block with a sound PATCH slot holds
  pub patch_as : (payload : List ℕ) (answer : Result Kind RefusedAt) (page' : List ℕ) → is_patch (slot_of patch b) ≡ true
      → payload ≡ payload_of (slot_of patch b) → page_of P base ≡ base → PatchRead P base payload page answer page'
      → KindRead 1 P patch full b base page answer page'
  patch_as payload answer page' e same_payload same_base r =
      let n : ℕ = payload_length (slot_of patch b) in
      let told : slot_numbers (slot_of patch b) ≡ sound_slot 1 n = patch_told (slot_of patch b) e in
      let q = slot_as 1 n told in
      let w = patch_read P patch full b base page n payload answer page' told same_payload same_base r in
      record { numbers = w.numbers ∙ ap read_numbers q; bytes = w.bytes ∙ ap (λ (o : ReadOutcome). o.page) q }

-- a read by the map goes by the page that its base stands for
pub same_base_as : (k P : ℕ) (patch full : List ℕ) (b : ℕ) (base base' page : List ℕ) → page_of P base ≡ page_of P base'
    → kind_outcome k P patch full b base page ≡ kind_outcome k P patch full b base' page
unfolding kind_outcome
same_base_as k P patch full b base base' page e = rw e
