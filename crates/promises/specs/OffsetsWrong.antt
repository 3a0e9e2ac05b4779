-- Wrong offsets, each broken by one input: that of the entry after the unsound one, one counted from the slot, and one beside 5. The
-- store has one block, whose payload `00 07 FF 00 20 01 00 09` is an entry, one that leaves the page, and another entry: it breaks at 2.
use Rattle.std.specs.Prelude.{ℕ, suc, ◌+◌, ◌≡◌, refl, false, List, [], ◌∷◌, ◌++◌, length}
use Rattle.std.proofs.Common.{arith, sym, ap, ◌∙◌, inl, lit≤, lit<, length-append}
use Rattle.span.specs.Laws.{part_whole, part_first, part_second}
use Rattle.span.specs.Bytes.{zeros}
use Rattle.span.specs.Laws.{zeros_length}
use Rattle.layout.specs.Sizes.{page_size, slot_size, patch_head, payload_at, slot_at}
use Rattle.layout.specs.Lengths.{blocks_in}
use Rattle.layout.specs.LengthLaws.{blocks_of}
use Rattle.layout.specs.declared.Refusal.TheVariants.{Block, Payload, Place}
use Rattle.headers.specs.Headers.{patch_header}
use Rattle.headers.specs.Meaning.{patch_header_length}
use Rattle.slots.specs.Slots.{patch_slot, payload_of}
use Rattle.slots.specs.Meaning.{payload_of_is}
use Rattle.slots.specs.SlotLaws.{patch_slot_length}
use Rattle.payload.specs.Entries.{stream, in_page, whole, sound, used, breaks_at}
use Rattle.payload.specs.Spelling.{Bytes}
use Rattle.payload.specs.Breaking.{Unsound, unsound_iff}
use Rattle.stream.specs.Calls.{Apply}
use Rattle.stream.specs.Landing.{apply_seven}
use Rattle.store.specs.Block.{slot_of}
use Rattle.reading.specs.Read.{ReadOutcome, read_outcome, read_refused, ReadNumbers, Read}
use Rattle.building.specs.Build.{Build}
use Rattle.promises.specs.Words.{blocks, FrameFits, PatchOf}
use Rattle.promises.specs.DemandOne.{read_offset, build_offset}
use Rattle.promises.specs.DemandTwo.{patch_slot_7}
use Rattle.layout.specs.Numbers.{refused_at}
use Rattle.building.specs.Build.{refused_in}

abbrev pub payload : List ℕ
payload = 0 ∷ 7 ∷ 255 ∷ 0 ∷ 32 ∷ 1 ∷ 0 ∷ 9 ∷ []

unfoldable pub patch : List ℕ
patch = patch_header page_size ++ patch_slot payload

unfoldable pub page : List ℕ
page = zeros page_size

-- The store fits, and its block is a PATCH of that payload

slot_length : length (patch_slot payload) ≡ slot_size
slot_length = patch_slot_length payload (lit≤ tt)

patch_length : length patch ≡ slot_at 1
unfolding patch
patch_length =
    let h : length (patch_header page_size) ≡ patch_head = patch_header_length page_size in
    let s : length (patch_slot payload) ≡ slot_size = slot_length in
    length-append (patch_header page_size) (patch_slot payload) ∙ (λ i. h i + s i)

one_block : blocks patch ≡ 1
one_block = ap blocks_in patch_length ∙ blocks_of 1

fits : FrameFits page_size patch [] [] page
unfolding patch page
fits =
    let h : length (patch_header page_size) ≡ patch_head = patch_header_length page_size in
    record {
      pages = record { base_length = inl refl; page_length = zeros_length page_size };
      lengths = record { patch_length = patch_length ∙ ap slot_at (sym one_block); not_above = rw one_block (lit≤ tt); full_length = inl refl };
      headers =
          record {
            patch_header_is =
                part_first 0 patch_head (patch_header page_size) (patch_slot payload) (omega (arith, h)) ∙ part_whole (patch_header page_size) patch_head h;
            full_header_is = inl refl;
          };
    }

patch_stands : PatchOf (slot_of patch 0) payload
unfolding patch slot_of
patch_stands =
    record {
      image = part_second (patch_header page_size) (patch_slot payload) (slot_at 0) slot_size (patch_header_length page_size) slot_length;
      some = lit≤ tt;
      room_for = lit≤ tt;
    }

is_unsound : sound page_size payload ≡ false
unfolding stream in_page whole sound
is_unsound = refl

breaks_at_2 : breaks_at page_size payload ≡ 2
unfolding stream in_page used breaks_at
breaks_at_2 = refl

-- The request's own words have 2, and no other offset

bytes : Bytes payload
bytes = (lit< tt, (lit< tt, (lit< tt, (lit< tt, (lit< tt, (lit< tt, (lit< tt, (lit< tt, tt {0}))))))))

pub only_2 : (at : ℕ) → Unsound page_size payload at → at ≡ 2
only_2 at u = ((unsound_iff page_size payload bytes at).1 u).1 ∙ breaks_at_2

pub not_entry_after : Unsound page_size payload 6 → ⊥
not_entry_after u = omega (arith, only_2 6 u)

-- What Apply may not answer: by what its answer means, whatever page it is lent
pub not_apply_after : (lent after : List ℕ) → length lent ≡ page_size → Apply page_size [] payload lent (refused_at Payload 6) after → ⊥
not_apply_after lent after l x =
    not_entry_after ((apply_seven page_size [] payload lent (refused_at Payload 6) after x (inl refl) l bytes 6).0 refl)

-- What Read may not answer

reads_2 : read_outcome page_size patch [] 0 [] page ≡ read_refused 7 2 page
reads_2 =
    patch_slot_7 patch [] 0 [] page fits (rw one_block (lit< tt)) payload patch_stands is_unsound ∙ ap (λ (o : ℕ). read_refused 7 o page) breaks_at_2

wrong : (o : ℕ) (after : List ℕ) → Read page_size patch [] 0 [] page (refused_at Payload o) after → o ≡ 2
wrong o after x = ap (λ (n : ReadNumbers). n.offset) x.numbers ∙ ap (λ (r : ReadOutcome). r.offset) reads_2

-- the offset of the entry after
pub not_offset_after : (after : List ℕ) → Read page_size patch [] 0 [] page (refused_at Payload 6) after → ⊥
not_offset_after after x = omega (arith, wrong 6 after x)

-- the offset counted from the slot's first byte
pub not_from_slot : (after : List ℕ) → Read page_size patch [] 0 [] page (refused_at Payload (payload_at + 2)) after → ⊥
not_from_slot after x = omega (arith, wrong (payload_at + 2) after x)

-- none at all
pub not_without : (after : List ℕ) → Read page_size patch [] 0 [] page (refused_at Payload 0) after → ⊥
not_without after x = omega (arith, wrong 0 after x)

-- What Build may not answer, whatever map it is lent
pub not_build_from_slot : (map after : List ℕ) → Build page_size patch [] map (refused_in Payload 0 (payload_at + 2)) after → ⊥
not_build_from_slot map after x =
    let own : payload_of (slot_of patch 0) ≡ payload = ap payload_of patch_stands.image ∙ payload_of_is payload patch_stands.room_for in
    let e : payload_at + 2 ≡ 2 = build_offset page_size patch [] map (refused_in Payload 0 (payload_at + 2)) after x
    ∙ ap (breaks_at page_size) own ∙ breaks_at_2 in
    omega (arith, e)

-- an offset beside 10, for any areas, map and block
pub not_build_beside_10 : (areas full map : List ℕ) (b o : ℕ) (after : List ℕ)
    → Build page_size areas full map (refused_in Place b (suc o)) after → ⊥
not_build_beside_10 areas full map b o after x =
    omega (arith, build_offset page_size areas full map (refused_in Place b (suc o)) after x)

-- What Read may not: an offset beside 5, for any areas, block, base and page
pub not_beside_5 : (areas full : List ℕ) (b : ℕ) (base lent after : List ℕ) (o : ℕ)
    → Read page_size areas full b base lent (refused_at Block (suc o)) after → ⊥
not_beside_5 areas full b base lent after o x = omega (arith, read_offset page_size areas full b base lent (refused_at Block (suc o)) after x)
