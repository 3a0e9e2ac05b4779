-- Demand 2 over any page size to 65,536: how a block reads at which a decision was carried out, every other block, and the pair of calls: a
-- Compare that answered 0, and carrying out what it decided.
use Rattle.std.specs.Prelude.{ℕ, zero, suc, ◌≤◌, ◌<◌, ◌≡◌, refl, ◌↔◌, List, [], length}
use Rattle.std.proofs.Common.{arith, sym, ap, ◌∙◌}
use Rattle.std.proofs.Math.Decide.{dec_lt}
use Rattle.layout.specs.Sizes.{room}
use Rattle.payload.specs.Entries.{start}
use Rattle.payload.specs.Spelling.{Spelled}
use Rattle.writer.specs.Writer.{placed}
use Rattle.writer.specs.ReadBack.{pokes}
use Rattle.stream.specs.Calls.{page_of, kind_for}
use Rattle.stream.specs.Landing.{spelled_lands}
use Rattle.stream.specs.Kinds.{same_iff, kind_0, kind_1, kind_2, accepted_fits}
use Rattle.store.specs.Block.{slot_of}
use Rattle.reading.specs.Read.{read_outcome, read_done}
use Rattle.carrying.specs.Puts.{Decision, all}
use Rattle.carrying.specs.CarryOut.{CarryOutcome, carry_outcome}
use Rattle.carrying.specs.CarryLaws.{carry_done_is, carry_not, slot_payload}
use Rattle.promises.specs.Words.{blocks, places, PagesFit, AreasFit, FrameFits, Large, stream_of, StoredAs, Stored}
use Rattle.promises.specs.FrameLaws.{tells_pages, frame_same, lengths_moved, headers_moved}
use Rattle.promises.specs.AreaLaws.{areas_gives, areas_zero}
use Rattle.promises.specs.SlotLaws.{image_empty, image_patch, image_full}
use Rattle.promises.specs.Tables.{read_same}
use Rattle.promises.specs.Decisions.{Fit, ComparedBy, Compared}
use Rattle.promises.specs.DecisionLaws.{compared_by, compared_fit}
use Rattle.promises.specs.CarryWords.{CarryGives, PairGives, ReadAs}
use Rattle.promises.specs.CarryTables.{carry_table, Accepted, accepted}
use Rattle.promises.specs.StoreLaws.{image_of, content_of, carry_stored, slot_anew, place_anew}
use Rattle.promises.specs.ReadLaws.{reads_empty, reads_patch, reads_full, stored_reads, base_fits}

-- Any decision

module _ (P : ℕ) (patch full : List ℕ) (b : ℕ) (d : Decision) where
  module _ (e : (carry_outcome P patch full b d).number ≡ 0) where
    pub carried_kind : (carry_outcome P patch full b d).kind ≡ d.kind
    carried_kind = ap (λ (o : CarryOutcome). o.kind) (carry_done_is P [] patch full b d all e)

    -- what is left is a store of the same frame
    pub left_fits : (base page : List ℕ) → PagesFit P base page
        → FrameFits P (carry_outcome P patch full b d).patch (carry_outcome P patch full b d).full base page
    left_fits base page p =
        let f = (carry_stored P patch full b d e).frame in
        let h = (accepted P patch full b d e).fits in
        record {
          pages = p;
          lengths = lengths_moved P patch full _ _ f h.lengths;
          headers = headers_moved P patch full _ _ f h.headers;
        }

    pub reads_decided : (base page x : List ℕ) → PagesFit P base page → ReadAs P base d x
        → read_outcome P (carry_outcome P patch full b d).patch (carry_outcome P patch full b d).full b base page ≡ read_done d.kind x
    reads_decided base page x p r = go r a.fit
      where
        a : Accepted P patch full b d
        a = accepted P patch full b d e

        patch' : List ℕ
        patch' = (carry_outcome P patch full b d).patch

        full' : List ℕ
        full' = (carry_outcome P patch full b d).full

        below : b < blocks (carry_outcome P patch full b d).patch
        below = rw (carry_stored P patch full b d e).frame.patch_length a.below

        image : slot_of (carry_outcome P patch full b d).patch b ≡ image_of d
        image = (carry_stored P patch full b d e).slot_is ∙ slot_anew d (slot_of patch b)

        go : {x : List ℕ} → ReadAs P base d x → Fit P d
            → read_outcome P (carry_outcome P patch full b d).patch (carry_outcome P patch full b d).full b base page ≡ read_done d.kind x
        go (ReadAs.base_page_is k) f =
            reads_empty P _ _ b base page (left_fits base page p) below (image ∙ rw k (image_empty d.payload)) ∙ rw k
        go (ReadAs.patched k) (Fit.empty z) = absurd (omega arith)
        go (ReadAs.patched k) (Fit.full z l) = absurd (omega arith)
        go (ReadAs.patched k) (Fit.patch z low high u) =
            reads_patch P _ _ b base page (left_fits base page p) below d.payload
            (record { image = image ∙ rw k (image_patch d.payload); some = low; room_for = high }) u ∙ rw k
        go (ReadAs.own_page k) f =
            let m : b < places P full = a.room_for k in
            let s = carry_stored P patch full b d e in
            let own : content_of P d ≡ d.page = rw k in
            reads_full P _ _ b base page (left_fits base page p) below (image ∙ rw k (image_full d.payload))
            (rw s.frame.full_length m)
            ∙ ap (λ (y : List ℕ). read_done 2 y) (s.place_is m ∙ place_anew P d _ ∙ own)
            ∙ rw k

    -- a patch by the entries that spell its payload
    pub reads_entries : (base page : List ℕ) → PagesFit P base page → d.kind ≡ 1 → (w : Spelled P start d.payload)
        → read_outcome P (carry_outcome P patch full b d).patch (carry_outcome P patch full b d).full b base page
        ≡ read_done 1 (pokes (page_of P base) (placed 0 w.entries))
    reads_entries base page p k w =
        reads_decided base page _ p (ReadAs.patched k)
        ∙ (λ i. read_done (k i) ((spelled_lands P d.payload w).page (page_of P base) i))

  pub others_read : (c : ℕ) → (c ≡ b → ⊥) → (base page : List ℕ)
      → read_outcome P (carry_outcome P patch full b d).patch (carry_outcome P patch full b d).full c base page
      ≡ read_outcome P patch full c base page
  others_read c q base page = go (carry_outcome P patch full b d).number refl
    where
      go : (k : ℕ) → (carry_outcome P patch full b d).number ≡ k
          → read_outcome P (carry_outcome P patch full b d).patch (carry_outcome P patch full b d).full c base page
          ≡ read_outcome P patch full c base page
      go zero e =
          let s = carry_stored P patch full b d e in
          let f = s.frame in
          read_same P patch full _ _ c base page (frame_same P patch full _ _ f base page) f.patch_length f.full_length
          (s.other_slots c q) (λ z. s.other_places c q)
      go (suc k) e =
          ap (λ (o : CarryOutcome). read_outcome P o.patch o.full c base page)
          (carry_not P [] patch full b d all (λ z. omega arith))

-- A decision of Compare

module _ (P : ℕ) (small : P ≤ 65536) (patch full : List ℕ) (b : ℕ) (base : List ℕ) (d : Decision) (by : ComparedBy P base d) where
  c : Compared P (page_of P base) d
  c = compared_by P base d by

  fits : PagesFit P base d.page
  fits = (tells_pages P base d.page).0 (accepted_fits P base d.page by.buffer by.answered)

  n : ℕ
  n = length (stream_of P base d.page)

  large_iff : (d.kind ≡ 2) ↔ Large P base d.page
  large_iff = (λ q. (kind_2 (length (stream_of P base d.page))).0 (sym c.kind ∙ q), λ q. c.kind ∙ (kind_2 (length (stream_of P base d.page))).1 q)

  -- the numbers that carrying it out gives
  pub pair_table : (k : ℕ) → ((carry_outcome P patch full b d).number ≡ k) ↔ PairGives P patch full b base d.page k
  pair_table k = (λ e. to ((carry_table P patch full b d k).0 e), λ g. (carry_table P patch full b d k).1 (of g))
    where
      f : Fit P d
      f = compared_fit P small (page_of P base) d c

      to : {k : ℕ} → CarryGives P patch full b d k → PairGives P patch full b base d.page k
      to (CarryGives.page e l) = absurd (l c.page_length)
      to (CarryGives.frame p r) = PairGives.frame r
      to (CarryGives.block p h m) = PairGives.block h m
      to (CarryGives.kind h m l) = absurd (none f)
        where
          none : Fit P d → ⊥
          none (Fit.empty e) = omega arith
          none (Fit.patch e low high u) = omega arith
          none (Fit.full e p) = omega arith
      to (CarryGives.no_room h m e l o) = PairGives.no_room h m (large_iff.0 e) o
      to (CarryGives.payload h m e u) = absurd (none f)
        where
          none : Fit P d → ⊥
          none (Fit.empty z) = omega arith
          none (Fit.patch z low high v) = let q : ◌≡◌ {A = ℕ} 0 1 = cc (u, v) in omega arith
          none (Fit.full z p) = omega arith
      to (CarryGives.done h m g o) = PairGives.done h m (λ l. o (large_iff.1 l))

      of : {k : ℕ} → PairGives P patch full b base d.page k → CarryGives P patch full b d k
      of (PairGives.frame r) = CarryGives.frame (λ q. c.page_length) r
      of (PairGives.block h m) = CarryGives.block (λ q. c.page_length) h m
      of (PairGives.no_room h m l o) = CarryGives.no_room h m (large_iff.1 l) c.page_length o
      of (PairGives.done h m o) = CarryGives.done h m f (λ q. o (large_iff.0 q))

  -- 8, where nothing that comes before it is wrong
  pub pair_room : AreasFit P patch full → b < blocks patch → ((carry_outcome P patch full b d).number ≡ 8)
      ↔ (Large P base d.page × (places P full ≤ b))
  pair_room h m = (λ e. go ((pair_table 8).0 e), λ q. (pair_table 8).1 (PairGives.no_room h m q.0 q.1))
    where
      go : PairGives P patch full b base d.page 8 → Large P base d.page × (places P full ≤ b)
      go (PairGives.frame r) = absurd (omega (arith, areas_gives P patch full r, areas_zero P patch full h))
      go (PairGives.no_room h m l o) = (l, o)

  module _ (e : (carry_outcome P patch full b d).number ≡ 0) where
    kind_is : (carry_outcome P patch full b d).kind ≡ kind_for (length (stream_of P base d.page))
    kind_is = carried_kind P patch full b d e ∙ c.kind

    pub kind_empty : ((carry_outcome P patch full b d).kind ≡ 0) ↔ (d.page ≡ page_of P base)
    kind_empty =
        let s = same_iff (page_of P base) d.page (c.base_length ∙ sym c.page_length) in
        let m : ℕ = length (stream_of P base d.page) in
        (λ q. sym (s.0 ((kind_0 m).0 (sym kind_is ∙ q))), λ q. kind_is ∙ (kind_0 m).1 (s.1 (sym q)))

    pub kind_patch : ((carry_outcome P patch full b d).kind ≡ 1)
        ↔ ((1 ≤ length (stream_of P base d.page)) × (length (stream_of P base d.page) ≤ room))
    kind_patch =
        let m : ℕ = length (stream_of P base d.page) in
        (λ q. (kind_1 m).0 (sym kind_is ∙ q), λ q. kind_is ∙ (kind_1 m).1 q)

    pub kind_full : ((carry_outcome P patch full b d).kind ≡ 2) ↔ Large P base d.page
    kind_full =
        let m : ℕ = length (stream_of P base d.page) in
        (λ q. (kind_2 m).0 (sym kind_is ∙ q), λ q. kind_is ∙ (kind_2 m).1 q)

    stored_as : StoredAs P base d.page (carry_outcome P patch full b d).kind (image_of d) (content_of P d)
    stored_as =
        let w : List ℕ = stream_of P base d.page in
        let m : ℕ = length w in
        let image : image_of d ≡ _ = slot_payload d.kind d.payload w c.payload in
        rw (carried_kind P patch full b d e, image)
        (elim (dec_lt 0 m) [
          | yes k ↦
              elim (dec_lt room m) [
                | yes l ↦ rw (c.kind ∙ (kind_2 m).1 l, image_full w) (StoredAs.full l)
                | no l ↦
                    let f : m ≤ room = omega arith in
                    rw (c.kind ∙ (kind_1 m).1 (k, f), image_patch w) (StoredAs.patch k f)
              ]
          | no k ↦
              let z : m ≡ 0 = omega arith in
              rw (c.kind ∙ (kind_0 m).1 z, image_empty w)
              (StoredAs.empty (sym ((same_iff (page_of P base) d.page (c.base_length ∙ sym c.page_length)).0 z)))
        ])

    pub pair_stored : Stored P patch full b base d.page (carry_outcome P patch full b d).kind (carry_outcome P patch full b d).patch
        (carry_outcome P patch full b d).full
    pair_stored =
        let s = carry_stored P patch full b d e in
        record {
          content = content_of P d;
          stored = rw (s.slot_is ∙ slot_anew d (slot_of patch b)) stored_as;
          place = λ m. s.place_is m ∙ place_anew P d _;
          frame = s.frame;
          other_slots = s.other_slots;
          other_places = s.other_places;
        }

    pub reads_back : (base' page' : List ℕ) → page_of P base' ≡ page_of P base → length page' ≡ P
        → read_outcome P (carry_outcome P patch full b d).patch (carry_outcome P patch full b d).full b base' page'
        ≡ read_done (carry_outcome P patch full b d).kind d.page
    reads_back base' page' q l =
        let a : Accepted P patch full b d = accepted P patch full b d e in
        let s = pair_stored in
        let f = s.frame in
        stored_reads P small base d.page fits s.stored (carry_outcome P patch full b d).patch
        (carry_outcome P patch full b d).full b base' page'
        (left_fits P patch full b d e base' page' (base_fits P base base' d.page page' fits l q))
        (rw f.patch_length a.below)
        q
        refl
        (rw f.full_length s.place)
        (λ large. rw f.full_length (a.room_for (large_iff.1 large)))
