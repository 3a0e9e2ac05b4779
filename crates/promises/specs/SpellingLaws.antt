-- What the rule about long jumps says of slots: one with a 16-bit jump below 255, two that list the same, and one of which every entry
-- changes its byte.
use Rattle.std.specs.Prelude.{ℕ, ◌+◌, ◌*◌, ◌≤◌, ◌<◌, ◌≡◌, refl, Bool, true, false, List, ◌∷◌, ◌++◌, eqb, length}
use Rattle.std.proofs.Common.{arith, sym, ap, ◌∙◌, eqb-true}
use Rattle.std.proofs.lemmas.Bool.{eqb-false}
use Rattle.layout.specs.Sizes.{patch_head, slot_size, slot_at}
use Rattle.slots.specs.Slots.{patch_slot}
use Rattle.payload.specs.Entries.{start, payload_stream, sound, applied}
use Rattle.payload.specs.Listing.{listed}
use Rattle.payload.specs.Spelling.{Spelt, joined, Coded, Stays, Bytes, bytes_part}
use Rattle.payload.specs.LongJumps.{below_breaks}
use Rattle.payload.specs.OneSpelling.{one_spelling}
use Rattle.stream.specs.Calls.{page_of}
use Rattle.stream.specs.OwnStream.{Changes, own_stream}
use Rattle.store.specs.Block.{slot_of}
use Rattle.store.specs.BlockLaws.{payload_bytes}
use Rattle.reading.specs.Read.{read_outcome, read_refused}
use Rattle.carrying.specs.Puts.{Decision}
use Rattle.carrying.specs.CarryOut.{carry_outcome}
use Rattle.promises.specs.Words.{blocks, FrameFits, PatchOf, stream_of, StoredAs, Stored}
use Rattle.promises.specs.Cells.{cells_ext}
use Rattle.promises.specs.StoreLaws.{base_page_length}
use Rattle.promises.specs.ReadLaws.{reads_unsound}
use Rattle.promises.specs.Decisions.{ComparedBy}
use Rattle.promises.specs.CarryWords.{PairGives}
use Rattle.promises.specs.PairLaws.{pair_table, pair_stored, kind_patch}

-- the bytes of a slot's payload
patch_bytes : (s payload : List ℕ) → Bytes s → PatchOf s payload → Bytes payload
patch_bytes s payload h p = payload_bytes s payload h p.image p.room_for

-- two PATCH slots whose sound payloads list the same are one
pub slots_one : (P : ℕ) (s t a b : List ℕ) → Bytes s → Bytes t → PatchOf s a → PatchOf t b → sound P a ≡ true → sound P b ≡ true
    → listed (payload_stream P a) ≡ listed (payload_stream P b) → s ≡ t
slots_one P s t a b h k p q u v e =
    p.image ∙ ap (λ (l : List ℕ). patch_slot l) (one_spelling P a b (patch_bytes s a h p) (patch_bytes t b k q) u v e) ∙ sym q.image

-- the slot by the page: kind 1 stores the writer's stream
stored_patch : (P : ℕ) (base page : List ℕ) (k : ℕ) (s c : List ℕ) → k ≡ 1 → StoredAs P base page k s c
    → s ≡ patch_slot (stream_of P base page)
stored_patch P base page _ _ _ e (StoredAs.empty q) = absurd (omega arith)
stored_patch P base page _ _ _ e (StoredAs.patch low high) = refl
stored_patch P base page _ _ _ e (StoredAs.full l) = absurd (omega arith)

-- a patch area of which no slot and no byte of the header changed is the same
patch_same : (P : ℕ) (patch full : List ℕ) (b : ℕ) (base page : List ℕ) (kind : ℕ) (patch' full' : List ℕ)
    → length patch ≡ slot_at (blocks patch) → Stored P patch full b base page kind patch' full' → slot_of patch' b ≡ slot_of patch b
    → patch' ≡ patch
unfolding slot_of
patch_same P patch full b base page kind patch' full' l s same =
    cells_ext patch_head slot_size (blocks patch) patch' patch (s.frame.patch_length ∙ l) (sym s.frame.patch_length)
    s.frame.patch_header_is (λ c k. each c (eqb c b) refl)
  where
    each : (c : ℕ) (t : Bool) → eqb c b ≡ t → slot_of patch' c ≡ slot_of patch c
    each c true e =
        let q : c ≡ b = eqb-true c b e in
        ap (λ (i : ℕ). slot_of patch' i) q ∙ same ∙ ap (λ (i : ℕ). slot_of patch i) (sym q)
    each c false e = s.other_slots c (eqb-false c b e)

module _ (P : ℕ) (patch full : List ℕ) (b : ℕ) (base page : List ℕ) (fits : FrameFits P patch full base page)
    (below : b < blocks patch) where
  -- "A 16-bit jump below 255 makes the payload unsound", and Read tells where its entry starts
  pub reads_below : (es : List Spelt) (lo hi : ℕ) (rest : List ℕ) → Coded es → Stays P start es → lo + 256 * hi < 255
      → PatchOf (slot_of patch b) (joined es ++ (255 ∷ lo ∷ hi ∷ rest))
      → read_outcome P patch full b base page ≡ read_refused 7 (length (joined es)) page
  reads_below es lo hi rest c s h p =
      let u = below_breaks P es lo hi rest c s h p.room_for in
      reads_unsound P patch full b base page fits below (joined es ++ (255 ∷ lo ∷ hi ∷ rest)) p u.0
      ∙ ap (λ (o : ℕ). read_refused 7 o page) u.1

  module _ (bytes : Bytes patch) (payload : List ℕ) (p : PatchOf (slot_of patch b) payload) (is_sound : sound P payload ≡ true)
      (changes : Changes (page_of P base) (listed (payload_stream P payload))) where
    abbrev given : List ℕ
    given = applied (page_of P base) (payload_stream P payload)

    held : Bytes payload
    unfolding slot_of
    held = patch_bytes (slot_of patch b) payload (bytes_part (slot_at b) slot_size patch bytes) p

    own : payload ≡ stream_of P base given
    own = own_stream P (page_of P base) payload (base_page_length P base page fits.pages) held is_sound changes

    -- the slot is determined by the base and the page that it gives
    pub own_slot : slot_of patch b ≡ patch_slot (stream_of P base given)
    own_slot = p.image ∙ ap (λ (l : List ℕ). patch_slot l) own

    -- so carrying out what a Compare of that page over that base decided is accepted, and leaves the patch area as it is
    pub carries_same : P ≤ 65536 → (d : Decision) → ComparedBy P base d → d.page ≡ given
        → ((carry_outcome P patch full b d).number ≡ 0) × ((carry_outcome P patch full b d).kind ≡ 1)
        × ((carry_outcome P patch full b d).patch ≡ patch)
    carries_same small d by e =
        let l : length (stream_of P base d.page) ≡ length payload =
        ap (λ (x : List ℕ). length (stream_of P base x)) e ∙ sym (ap (λ (x : List ℕ). length x) own) in
        let done : (carry_outcome P patch full b d).number ≡ 0 =
        (pair_table P small patch full b base d by 0).1
        (PairGives.done (record { lengths = fits.lengths; headers = fits.headers }) below (λ large. absurd (omega (arith, p.room_for)))) in
        let kind : (carry_outcome P patch full b d).kind ≡ 1 =
        (kind_patch P small patch full b base d by done).1 (omega (arith, p.some), omega (arith, p.room_for)) in
        let s = pair_stored P small patch full b base d by done in
        let same = stored_patch P base d.page (carry_outcome P patch full b d).kind _ s.content kind s.stored
        ∙ ap (λ (x : List ℕ). patch_slot (stream_of P base x)) e in
        (done, kind, patch_same P patch full b base d.page _ _ _ fits.lengths.patch_length s (same ∙ sym own_slot))
