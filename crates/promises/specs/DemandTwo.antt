-- Demand 2. "Slots, streams and pages follow the published version 2 layout. A write stores an empty slot if the page equals its base, a
-- patch if the stream takes at most 504 bytes, a full page otherwise, and refuses for room only if the full area has no place for that
-- block. Reading back over the same base gives the written page; every sound slot from elsewhere reads as the layout says, unless its
-- payload is unsound or its full page missing." With an unsound payload comes "the payload offset at which the first unsound entry
-- starts". "A 16-bit jump below 255 makes the payload unsound ... two sound payloads that list the same positions and values are the same
-- bytes." Cut drops "blocks K and up ... in one go", and Highest "gives one more than the highest non-EMPTY block, or 0".
--
-- Request 06 splits the write: "Compare then decides, and a second call ... carries out a decision ... Demand 2 holds for the pair".
-- Request 07: "Demands 2 and 3 speak of writes told all", so every write here is; `DemandStops` has those that are told fewer.
--
-- `carry_outcome`, `compare_numbers`, `read_outcome`, `Show`, `cut_outcome` and `highest_numbers` are what the contracts of Carry out, Compare, Read,
-- Show, Cut and Highest cite; the other words are in `Words`, `CarryWords`, `Decisions` and `CutWords`. Any lists are areas, bases, payloads and
-- pages here, and any number is a block or a kind.
use Rattle.std.specs.Prelude.{ℕ, ◌+◌, ◌*◌, ◌≤◌, ◌<◌, ◌≡◌, refl, true, false, ◌↔◌, ◌⊎◌, List, [], ◌∷◌, ◌++◌, length, take}
use Rattle.std.proofs.Common.{lit≤}
use Rattle.span.specs.Bytes.{zeros}
use Rattle.layout.specs.Sizes.{page_size, slot_at, payload_at}
use Rattle.slots.specs.Slots.{empty_slot, patch_slot, full_slot}
use Rattle.payload.specs.Entries.{start, payload_stream, sound, breaks_at, applied}
use Rattle.stream.specs.Calls.{page_of, compare_numbers, compare_buffer}
use Rattle.payload.specs.Listing.{listed}
use Rattle.payload.specs.Spelling.{Spelt, Spelled, joined, Coded, Stays, Bytes}
use Rattle.payload.specs.OneSpelling as spelling
use Rattle.stream.specs.OwnStream.{Changes}
use Rattle.payload.specs.Breaking.{Breaks}
use Rattle.writer.specs.Writer.{placed}
use Rattle.writer.specs.ReadBack.{pokes}
use Rattle.store.specs.Block.{slot_of, place_of}
use Rattle.reading.specs.Read.{ReadOutcome, read_outcome, read_done, read_refused}
use Rattle.carrying.specs.Puts.{Decision}
use Rattle.carrying.specs.CarryOut.{CarryOutcome, carry_outcome}
use Rattle.carrying.specs.Mapped.{MappedCarry, carry_mapped_outcome}
use Rattle.blockmap.specs.Pairs.{pair_at, patch_pair, full_pair, reserved_pair}
use Rattle.blockmap.specs.SetPair.{PairSet}
use Rattle.reading.specs.Mapped.{read_mapped_outcome}
use Rattle.store.specs.Show.{Show}
use Rattle.blockmap.specs.SetPair.{PairsCleared}
use Rattle.cutting.specs.Cut.{CutOutcome, cut_outcome}
use Rattle.cutting.specs.Mapped.{MappedCut, cut_mapped_outcome}
use Rattle.cutting.specs.Highest.{HighestNumbers, highest_numbers}
use Rattle.cutting.specs.Reach.{OneMore, LeastFree}
use Rattle.cutting.specs.ReachLaws.{one_least}
use Rattle.promises.specs.CutWords.{CutGives, CutMappedGives, Dropped, HighestGives, NonEmpty}
use Rattle.promises.specs.CutTables.{cut_table, cut_accepted, mapped_as_cut, cut_mapped_table, highest_table}
use Rattle.promises.specs.CutLaws.{cut_drops, dropped_one, cut_nothing, dropped_reads, kept_reads, cut_clears, highest_is}
use Rattle.promises.specs.Words.{blocks, places, PagesFit, AreasFit, FrameFits, PatchOf, SoundSlot, PatchFits, ShowsNothing, Large}
use Rattle.promises.specs.Words.{stream_of, Stored, ReadGives, MapFits, MapAt, ReadMappedGives, PairFor}
use Rattle.promises.specs.CarryWords.{CarryGives, CarryMappedGives, PairGives, Carried, ReadAs}
use Rattle.promises.specs.Decisions.{ComparedBy}
use Rattle.promises.specs.Tables.{read_table}
use Rattle.promises.specs.CarryTables.{carry_table, carry_mapped_table, mapped_as_carry, carry_fitting}
use Rattle.promises.specs.StoreLaws as stored
use Rattle.promises.specs.CarriedLaws.{carried_length, carried_one}
use Rattle.promises.specs.PairLaws.{carried_kind, others_read, pair_table, kind_empty, kind_patch, kind_full, pair_stored, reads_back}
use Rattle.promises.specs.PairLaws as pair
use Rattle.promises.specs.ReadLaws.{reads_empty, reads_patch, reads_unsound, reads_spelled, reads_unspelled, reads_full}
use Rattle.promises.specs.ReadLaws.{reads_missing, reads_sound, zero_bases}
use Rattle.promises.specs.SpellingLaws.{slots_one, reads_below, own_slot, carries_same}
use Rattle.promises.specs.MapTables.{kept_pair, reads_back_by_map, others_by_map}
use Rattle.promises.specs.MapTables as mapped
use Rattle.promises.specs.MapTables.{read_mapped_table, by_map_0, by_map_1, by_map_1_missing, by_map_2, by_map_2_other, by_map_3}
use Rattle.promises.specs.ShowLaws.{shown_payload, shown_in_place, nothing_shown}

-- Carrying out. "A second call, with or without a lent map, carries out a decision (kind 0, 1 or 2, payload, page) on a block, answering the
-- kind and the payload's length, 0 unless PATCH. It looks at the payload only for PATCH, taking any sound one, and at the page only for
-- FULL_REF." Any decision, whoever made it
module _ (patch full : List ℕ) (b : ℕ) (d : Decision) where
  abbrev pub outcome : CarryOutcome
  outcome = carry_outcome page_size patch full b d

  -- every number that it gives, and just when
  pub carry_gives : (k : ℕ) → (outcome.number ≡ k) ↔ CarryGives page_size patch full b d k
  carry_gives = carry_table page_size patch full b d

  module _ (done : outcome.number ≡ 0) where
    pub kind_stored : outcome.kind ≡ d.kind
    kind_stored = carried_kind page_size patch full b d done

    pub length_stored : (d.kind ≡ 1 → outcome.length ≡ length d.payload) × ((d.kind ≡ 1 → ⊥) → outcome.length ≡ 0)
    length_stored = carried_length page_size patch full b d done

    -- afterwards the slot is the sound one of that kind, the place holds the page or zeros, and no other byte is changed
    pub carries : Carried page_size patch full b d outcome.patch outcome.full
    carries = stored.carries page_size patch full b d done

    -- and no other areas are those
    pub carries_only : (p f : List ℕ) → Carried page_size patch full b d p f → (p ≡ outcome.patch) × (f ≡ outcome.full)
    carries_only = carried_one page_size patch full b d done

    -- Read then gives the base, the base with the payload's entries, or the page, over any base and into any page
    pub reads_decided : (base page x : List ℕ) → PagesFit page_size base page → ReadAs page_size base d x
        → read_outcome page_size outcome.patch outcome.full b base page ≡ read_done d.kind x
    reads_decided = pair.reads_decided page_size patch full b d done

    -- "taking any sound one": for a patch each entry's value stands at its place over the base, by whichever entries spell the payload
    pub reads_entries : (base page : List ℕ) → PagesFit page_size base page → d.kind ≡ 1 → (w : Spelled page_size start d.payload)
        → read_outcome page_size outcome.patch outcome.full b base page
        ≡ read_done 1 (pokes (page_of page_size base) (placed 0 w.entries))
    reads_entries = pair.reads_entries page_size patch full b d done

  -- and every other block reads as before, whatever it holds and whether or not the call was refused
  pub others : (c : ℕ) → (c ≡ b → ⊥) → (base page : List ℕ)
      → read_outcome page_size outcome.patch outcome.full c base page ≡ read_outcome page_size patch full c base page
  others = others_read page_size patch full b d

-- The pair of calls. What a Compare that answered 0 gives is a decision: its kind, the first `length` bytes of its buffer, its page
pub compare_decides : (base page buffer : List ℕ) → (compare_numbers page_size base page buffer).number ≡ 0
    → ComparedBy page_size base
    (record {
      kind = (compare_numbers page_size base page buffer).kind;
      payload = take (compare_numbers page_size base page buffer).length (compare_buffer page_size base page buffer);
      page = page;
    })
compare_decides base page buffer e = record { buffer = buffer; answered = e; kind = refl; payload = λ q. refl }

-- "Demand 2 holds for the pair": carrying out what Compare decided over a base
module _ (patch full : List ℕ) (b : ℕ) (base : List ℕ) (d : Decision) (decided : ComparedBy page_size base d) where
  -- no number is left but those of the areas, 5 and 8
  pub pair_gives : (k : ℕ) → ((outcome patch full b d).number ≡ k) ↔ PairGives page_size patch full b base d.page k
  pair_gives = pair_table page_size (lit≤ tt) patch full b base d decided

  -- "refuses for room only if the full area has no place for that block"
  pub pair_room : AreasFit page_size patch full → b < blocks patch
      → ((outcome patch full b d).number ≡ 8) ↔ (Large page_size base d.page × (places page_size full ≤ b))
  pair_room = pair.pair_room page_size (lit≤ tt) patch full b base d decided

  module _ (done : (outcome patch full b d).number ≡ 0) where
    -- The kind stored

    pub empty_iff : ((outcome patch full b d).kind ≡ 0) ↔ (d.page ≡ page_of page_size base)
    empty_iff = kind_empty page_size (lit≤ tt) patch full b base d decided done

    pub patch_iff : ((outcome patch full b d).kind ≡ 1)
        ↔ ((1 ≤ length (stream_of page_size base d.page)) × (length (stream_of page_size base d.page) ≤ 504))
    patch_iff = kind_patch page_size (lit≤ tt) patch full b base d decided done

    pub full_iff : ((outcome patch full b d).kind ≡ 2) ↔ (504 < length (stream_of page_size base d.page))
    full_iff = kind_full page_size (lit≤ tt) patch full b base d decided done

    -- the slot and the place are those of the page over its base
    pub stores : Stored page_size patch full b base d.page (outcome patch full b d).kind (outcome patch full b d).patch
        (outcome patch full b d).full
    stores = pair_stored page_size (lit≤ tt) patch full b base d decided done

    -- "Reading back over the same base gives the written page": over a base that stands for the same page, into any page
    pub read_back : (base' page' : List ℕ) → page_of page_size base' ≡ page_of page_size base → length page' ≡ page_size
        → read_outcome page_size (outcome patch full b d).patch (outcome patch full b d).full b base' page'
        ≡ read_done (outcome patch full b d).kind d.page
    read_back = reads_back page_size (lit≤ tt) patch full b base d decided done

-- Read. Every number that it gives, and just when: the table is `ReadGives`
module _ (patch full : List ℕ) (b : ℕ) (base page : List ℕ) where
  abbrev pub read : ReadOutcome
  read = read_outcome page_size patch full b base page

  pub read_gives : (k : ℕ) → (read.number ≡ k) ↔ ReadGives page_size patch full b base page k
  read_gives = read_table page_size patch full b base page

  -- Every sound slot from elsewhere

  module _ (fits : FrameFits page_size patch full base page) (below : b < blocks patch) where
    pub empty_slot_is : slot_of patch b ≡ empty_slot → read ≡ read_done 0 (page_of page_size base)
    empty_slot_is = reads_empty page_size patch full b base page fits below

    pub patch_slot_is : (payload : List ℕ) → PatchOf (slot_of patch b) payload → sound page_size payload ≡ true
        → read ≡ read_done 1 (applied (page_of page_size base) (payload_stream page_size payload))
    patch_slot_is = reads_patch page_size patch full b base page fits below

    pub patch_slot_7 : (payload : List ℕ) → PatchOf (slot_of patch b) payload → sound page_size payload ≡ false
        → read ≡ read_refused 7 (breaks_at page_size payload) page
    patch_slot_7 = reads_unsound page_size patch full b base page fits below

    -- the same by the entries that spell the payload: each value at its entry's place over the base, and 7 where no entries spell it,
    -- with the offset at which they break off
    pub patch_slot_spelled : (payload : List ℕ) → PatchOf (slot_of patch b) payload → (w : Spelled page_size start payload)
        → read ≡ read_done 1 (pokes (page_of page_size base) (placed 0 w.entries))
    patch_slot_spelled = reads_spelled page_size patch full b base page fits below

    pub patch_slot_unspelled : Bytes patch → (payload : List ℕ) → PatchOf (slot_of patch b) payload → (at : ℕ)
        → (read ≡ read_refused 7 at page) ↔ ((Spelled page_size start payload → ⊥) × Breaks page_size payload at)
    patch_slot_unspelled = reads_unspelled page_size patch full b base page fits below

    -- "A 16-bit jump below 255 makes the payload unsound": after sound entries and before any bytes, with the offset of its entry
    pub patch_slot_below : (es : List Spelt) (lo hi : ℕ) (rest : List ℕ) → Coded es → Stays page_size start es → lo + 256 * hi < 255
        → PatchOf (slot_of patch b) (joined es ++ (255 ∷ lo ∷ hi ∷ rest)) → read ≡ read_refused 7 (length (joined es)) page
    patch_slot_below = reads_below page_size patch full b base page fits below

    -- a slot of which every entry changes its byte is determined by the base and the page that it gives, wherever it came from: it is the
    -- one that Compare's own decision stores for that page, so writing what was read leaves the patch area as it is
    module _ (bytes : Bytes patch) (payload : List ℕ) (p : PatchOf (slot_of patch b) payload) (is_sound : sound page_size payload ≡ true)
        (changes : Changes (page_of page_size base) (listed (payload_stream page_size payload))) where
      abbrev pub given : List ℕ
      given = applied (page_of page_size base) (payload_stream page_size payload)

      pub patch_slot_own : slot_of patch b ≡ patch_slot (stream_of page_size base given)
      patch_slot_own = own_slot page_size patch full b base page fits below bytes payload p is_sound changes

      pub write_leaves : (d : Decision) → ComparedBy page_size base d → d.page ≡ given
          → ((outcome patch full b d).number ≡ 0) × ((outcome patch full b d).kind ≡ 1) × ((outcome patch full b d).patch ≡ patch)
      write_leaves = carries_same page_size patch full b base page fits below bytes payload p is_sound changes (lit≤ tt)

    pub full_slot_is : slot_of patch b ≡ full_slot → b < places page_size full
        → read ≡ read_done 2 (place_of page_size full b)
    full_slot_is = reads_full page_size patch full b base page fits below

    pub full_slot_8 : slot_of patch b ≡ full_slot → places page_size full ≤ b → read ≡ read_refused 8 0 page
    full_slot_8 = reads_missing page_size patch full b base page fits below

    -- "unless its payload is unsound or its full page missing": no other number is given for a sound slot
    pub sound_slot_is : SoundSlot (slot_of patch b) → (read.number ≡ 0) ⊎ (read.number ≡ 7) ⊎ (read.number ≡ 8)
    sound_slot_is = reads_sound page_size patch full b base page fits below

-- "Two sound payloads that list the same positions and values are the same bytes", and so are the slots that hold them
pub one_spelling : (a c : List ℕ) → Bytes a → Bytes c → sound page_size a ≡ true → sound page_size c ≡ true
    → listed (payload_stream page_size a) ≡ listed (payload_stream page_size c) → a ≡ c
one_spelling = spelling.one_spelling page_size

pub one_slot : (s t a c : List ℕ) → Bytes s → Bytes t → PatchOf s a → PatchOf t c → sound page_size a ≡ true → sound page_size c ≡ true
    → listed (payload_stream page_size a) ≡ listed (payload_stream page_size c) → s ≡ t
one_slot = slots_one page_size

-- Show hands out the payload of a sound PATCH, and otherwise an empty part
module _ (patch : List ℕ) (b : ℕ) (lent handed : ℕ × ℕ) (shown : List ℕ) (call : Show page_size patch b lent shown handed) where
  pub shows_payload : PatchFits page_size patch b → (payload : List ℕ) → PatchOf (slot_of patch b) payload → shown ≡ payload
  shows_payload = shown_payload page_size patch b lent handed shown call

  -- "handed out as a part of the patch area itself": it lies in the lent memory, at the payload's own place
  pub shows_in_place : PatchFits page_size patch b → (payload : List ℕ) → PatchOf (slot_of patch b) payload
      → (handed.0 ≡ lent.0) × (handed.1 ≡ lent.1 + (slot_at b + payload_at))
  shows_in_place fits payload p = shown_in_place page_size patch b lent handed shown call fits payload p

  pub shows_nothing : (shown ≡ []) ↔ ShowsNothing page_size patch b
  shows_nothing = nothing_shown page_size patch b lent handed shown call

-- a base of 0 bytes and one of 8,192 zeros are one base page
pub zero_base : page_of page_size [] ≡ page_of page_size (zeros page_size)
zero_base = zero_bases page_size

-- With a lent map. "We want writes that update a lent map, and reads that go by it: pair 0 gives the base without touching the slot, pair
-- 2 needs a sound PATCH (any other slot is 6), pair 1 takes the full page. ... Refusals: 9 for a short map in 01's place; on reads only, 11
-- for pair 3, after 5."
module _ (patch full map : List ℕ) (b : ℕ) (d : Decision) where
  abbrev pub outcome_with : MappedCarry
  outcome_with = carry_mapped_outcome page_size patch full map b d

  pub carry_mapped_gives : (k : ℕ) → (outcome_with.areas.number ≡ k) ↔ CarryMappedGives page_size patch full map b d k
  carry_mapped_gives = carry_mapped_table page_size patch full map b d

  -- with a map that fits it answers and stores as without one, refused or not
  pub carries_as_carry : MapFits patch map → outcome_with.areas ≡ outcome patch full b d
  carries_as_carry = mapped_as_carry page_size patch full map b d

  module _ (done : outcome_with.areas.number ≡ 0) where
    pub accepted_as_carry : outcome_with.areas ≡ outcome patch full b d
    accepted_as_carry = carries_as_carry (carry_fitting page_size patch full map b d done)

    -- the block's own pair is that of the kind, and nothing else of the map is changed: no other pair, used or not, no other byte
    pub keeps_map : (v : ℕ) × PairFor outcome_with.areas.kind v × PairSet map b v outcome_with.map
    keeps_map = kept_pair page_size patch full map b d done

    -- reading by the map gives what the decision says, and for one of Compare's the written page
    pub reads_decided_by_map : (base page x : List ℕ) → PagesFit page_size base page → ReadAs page_size base d x
        → read_mapped_outcome page_size outcome_with.areas.patch outcome_with.areas.full outcome_with.map b base page
        ≡ read_done d.kind x
    reads_decided_by_map = mapped.reads_decided_by_map page_size patch full map b d done

    pub read_back_by_map : (base : List ℕ) → ComparedBy page_size base d
        → (base' page' : List ℕ) → page_of page_size base' ≡ page_of page_size base → length page' ≡ page_size
        → read_mapped_outcome page_size outcome_with.areas.patch outcome_with.areas.full outcome_with.map b base' page'
        ≡ read_done outcome_with.areas.kind d.page
    read_back_by_map = reads_back_by_map page_size patch full map b d done (lit≤ tt)

  -- and every other block reads by the map as before, whatever it holds and whether or not the call was refused
  pub map_others : (c : ℕ) → (c ≡ b → ⊥) → (base page : List ℕ)
      → read_mapped_outcome page_size outcome_with.areas.patch outcome_with.areas.full outcome_with.map c base page
      ≡ read_mapped_outcome page_size patch full map c base page
  map_others = others_by_map page_size patch full map b d

module _ (patch full map : List ℕ) (b : ℕ) (base page : List ℕ) where
  abbrev pub read_by : ReadOutcome
  read_by = read_mapped_outcome page_size patch full map b base page

  pub read_mapped_gives : (k : ℕ) → (read_by.number ≡ k) ↔ ReadMappedGives page_size patch full map b base page k
  read_mapped_gives = read_mapped_table page_size patch full map b base page

  -- The whole outcome of a read, by the block's pair

  module _ (at : MapAt page_size patch full map b base page) where
    pub pair_0 : pair_at map b ≡ 0 → read_by ≡ read_done 0 (page_of page_size base)
    pair_0 = by_map_0 page_size patch full map b base page at

    -- over a sound PATCH slot as Read, which gives the patched base, or 7 with the offset where the payload breaks
    pub pair_2 : pair_at map b ≡ patch_pair → (payload : List ℕ) → PatchOf (slot_of patch b) payload → read_by ≡ read patch full b base page
    pair_2 = by_map_2 page_size patch full map b base page at

    pub pair_2_other : pair_at map b ≡ patch_pair → ((payload : List ℕ) → PatchOf (slot_of patch b) payload → ⊥)
        → read_by ≡ read_refused 6 0 page
    pair_2_other = by_map_2_other page_size patch full map b base page at

    pub pair_1 : pair_at map b ≡ full_pair → b < places page_size full → read_by ≡ read_done 2 (place_of page_size full b)
    pair_1 = by_map_1 page_size patch full map b base page at

    pub pair_1_missing : pair_at map b ≡ full_pair → places page_size full ≤ b → read_by ≡ read_refused 8 0 page
    pair_1_missing = by_map_1_missing page_size patch full map b base page at

    pub pair_3 : pair_at map b ≡ reserved_pair → read_by ≡ read_refused 11 0 page
    pair_3 = by_map_3 page_size patch full map b base page at

-- "After emptying a table the desk wants blocks K and up dropped in one go: their slots, full pages and pairs in a lent map become zero, blocks
-- below K keep every byte. ... Refusals: 2, 9, headers, 5 for K above n (K equal to n changes nothing)"
module _ (patch full : List ℕ) (K : ℕ) where
  abbrev pub cut : CutOutcome
  cut = cut_outcome page_size patch full K

  -- every number that Cut gives, and just when
  pub cut_gives : (k : ℕ) → (cut.number ≡ k) ↔ CutGives page_size patch full K k
  cut_gives = cut_table page_size patch full K

  module _ (done : cut.number ≡ 0) where
    -- slots and places of blocks K and up are zero; headers, lengths and the blocks below K are as they were
    pub drops : Dropped page_size patch full K cut.patch cut.full
    drops = cut_drops page_size patch full K done

    -- and no other areas are those
    pub drops_only : (p f : List ℕ) → Dropped page_size patch full K p f → (p ≡ cut.patch) × (f ≡ cut.full)
    drops_only p f d = dropped_one page_size patch full K (cut_accepted page_size patch full K done).0.lengths p f cut.patch cut.full d drops

    -- K equal to n changes nothing
    pub drops_nothing : K ≡ blocks patch → (cut.patch ≡ patch) × (cut.full ≡ full)
    drops_nothing = cut_nothing page_size patch full K done

    -- each block from K on reads as its base, whatever it held
    pub dropped_as_base : (b : ℕ) (base page : List ℕ) → PagesFit page_size base page → K ≤ b → b < blocks patch
        → read_outcome page_size cut.patch cut.full b base page ≡ read_done 0 (page_of page_size base)
    dropped_as_base = dropped_reads page_size patch full K done

    -- and each block below K as before
    pub below_as_before : (b : ℕ) (base page : List ℕ) → b < K
        → read_outcome page_size cut.patch cut.full b base page ≡ read_outcome page_size patch full b base page
    below_as_before = kept_reads page_size patch full K done

-- with a lent map
module _ (patch full map : List ℕ) (K : ℕ) where
  abbrev pub cut_with : MappedCut
  cut_with = cut_mapped_outcome page_size patch full map K

  pub cut_mapped_gives : (k : ℕ) → (cut_with.areas.number ≡ k) ↔ CutMappedGives page_size patch full map K k
  cut_mapped_gives = cut_mapped_table page_size patch full map K

  -- with a map that fits it answers and drops as Cut does, refused or not
  pub cuts_as_cut : MapFits patch map → cut_with.areas ≡ cut patch full K
  cuts_as_cut = mapped_as_cut page_size patch full map K

  -- the pairs of blocks K to n − 1 are 0; every other pair, used or not, and every byte that has none of them is as it was
  pub clears_pairs : cut_with.areas.number ≡ 0 → PairsCleared map K (blocks patch) cut_with.map
  clears_pairs = cut_clears page_size patch full map K

-- "A further call gives one more than the highest non-EMPTY block, or 0 ... takes the patch area alone and gives 2, its header's, then 6 if any
-- slot is unsound"
module _ (patch : List ℕ) where
  abbrev pub highest : HighestNumbers
  highest = highest_numbers page_size patch

  pub highest_gives : (k : ℕ) → (highest.number ≡ k) ↔ HighestGives page_size patch k
  highest_gives = highest_table page_size patch

  module _ (done : highest.number ≡ 0) where
    pub one_more : OneMore (NonEmpty patch) (blocks patch) highest.blocks
    one_more = highest_is page_size patch done

    -- the least number such that every block from it on is EMPTY
    pub least : LeastFree (NonEmpty patch) (blocks patch) highest.blocks
    least = one_least (NonEmpty patch) (blocks patch) highest.blocks one_more
