-- What Compare decides can be carried out, and leaves the one cell that reads as the page.
use Rattle.std.specs.Prelude.{ℕ, ◌≤◌, ◌≡◌, refl, cond, List, eqb, length}
use Rattle.std.proofs.Common.{arith, sym, ap, ◌∙◌}
use Rattle.std.proofs.Math.Decide.{dec_lt}
use Rattle.span.specs.Bytes.{zeros}
use Rattle.span.specs.Laws.{zeros_length}
use Rattle.layout.specs.Sizes.{room}
use Rattle.slots.specs.Slots.{patch_slot, slot_numbers, slot_image}
use Rattle.slots.specs.Meaning.{empty_numbers, full_numbers}
use Rattle.writer.specs.Differences.{written}
use Rattle.stream.specs.Calls.{page_of, compare_numbers}
use Rattle.stream.specs.Laws.{page_length, present_length, compare_number}
use Rattle.stream.specs.Kinds.{same_iff, kind_0, kind_1, kind_2, compare_gives, accepted_fits, compare_kind, compare_payload}
use Rattle.writer.specs.ReadBack.{Back, read_back}
use Rattle.carrying.specs.Puts.{Decision}
use Rattle.carrying.specs.CarryLaws.{slot_payload}
use Rattle.promises.specs.Words.{PagesFit}
use Rattle.promises.specs.FrameLaws.{tells_pages}
use Rattle.promises.specs.SlotLaws.{patch_of, image_empty, image_patch, image_full}
use Rattle.promises.specs.CarryWords.{ReadAs}
use Rattle.promises.specs.Decisions.{cell_for, blank_cell, Fit, ComparedBy, Compared, page_in, cell_of}

-- "a Compare that answered 0": what it says of the base page, and that there is such a Compare
pub compared_by : (P : ℕ) (base : List ℕ) (d : Decision) → ComparedBy P base d → Compared P (page_of P base) d
compared_by P base d h =
    let f = accepted_fits P base d.page h.buffer h.answered in
    record {
      base_length = present_length P base d.page f;
      page_length = page_length P base d.page f;
      kind = h.kind ∙ compare_kind P base d.page h.buffer h.answered;
      payload = λ k. h.payload k ∙ compare_payload P base d.page h.buffer h.answered (sym h.kind ∙ k);
    }

pub by_compare : (P : ℕ) (base : List ℕ) (d : Decision) → PagesFit P base d.page → Compared P (page_of P base) d → ComparedBy P base d
by_compare P base d f h =
    let r : length (zeros room) ≡ room = zeros_length room in
    let e : (compare_numbers P base d.page (zeros room)).number ≡ 0 = compare_gives P base d.page (zeros room)
    ∙ compare_number P base d.page (zeros room) ∙ rw ((tells_pages P base d.page).1 f, r) in
    let k : d.kind ≡ (compare_numbers P base d.page (zeros room)).kind = h.kind ∙ sym (compare_kind P base d.page (zeros room) e) in
    record {
      buffer = zeros room;
      answered = e;
      kind = k;
      payload = λ q. h.payload q ∙ sym (compare_payload P base d.page (zeros room) e (sym k ∙ q));
    }

-- the cell depends on the page and the base page alone
pub compared_cell : (P : ℕ) (β : List ℕ) (d : Decision) → Compared P β d → cell_for P d ≡ cell_of P β d.page
unfolding cell_of
compared_cell P β d h =
    λ i. record {
      slot = (slot_payload d.kind d.payload (written β d.page) h.payload
          ∙ ap (λ (k : ℕ). slot_image k (written β d.page)) h.kind) i;
      place = cond (eqb (h.kind i) 2) d.page (zeros P);
    }

pub cell_reads : (P : ℕ) → P ≤ 65536 → (β page : List ℕ) → length β ≡ P → length page ≡ P → page_in P β (cell_of P β page) ≡ page
unfolding page_in cell_of
cell_reads P small β page lβ lp =
    let w : List ℕ = written β page in
    let n : ℕ = length w in
    let back : Back P β page = read_back P β page small lβ lp in
    elim (dec_lt 0 n) [
      | yes k ↦
          elim (dec_lt room n) [
            | yes l ↦ rw ((kind_2 n).1 l, image_full w, full_numbers)
            | no l ↦
                let f : n ≤ room = omega arith in
                let q = patch_of (patch_slot w) w (record { image = refl; some = k; room_for = f }) in
                rw ((kind_1 n).1 (k, f), image_patch w, q.0, q.1) back.page
          ]
      | no k ↦
          let z : n ≡ 0 = omega arith in
          rw ((kind_0 n).1 z, image_empty w, empty_numbers) ((same_iff β page (lβ ∙ sym lp)).0 z)
    ]

-- the page that is its base leaves the blank cell, which reads as any base
pub blank_cell_is : (P : ℕ) (β : List ℕ) → cell_of P β β ≡ blank_cell P
unfolding cell_of
blank_cell_is P β = rw ((kind_0 (length (written β β))).1 ((same_iff β β refl).1 refl), image_empty (written β β))

pub blank_page : (P : ℕ) (β : List ℕ) → page_in P β (blank_cell P) ≡ β
unfolding page_in
blank_page P β = rw empty_numbers

pub compared_fit : (P : ℕ) → P ≤ 65536 → (β : List ℕ) (d : Decision) → Compared P β d → Fit P d
compared_fit P small β d h =
    let n : ℕ = length (written β d.page) in
    let back : Back P β d.page = read_back P β d.page small h.base_length h.page_length in
    elim (dec_lt 0 n) [
      | yes k ↦
          elim (dec_lt room n) [
            | yes l ↦ Fit.full (h.kind ∙ (kind_2 n).1 l) h.page_length
            | no l ↦
                let f : n ≤ room = omega arith in
                let e : d.kind ≡ 1 = h.kind ∙ (kind_1 n).1 (k, f) in
                let q : d.payload ≡ written β d.page = h.payload e in
                Fit.patch e (rw q k) (rw q f) (rw q (back.is_sound k f))
          ]
      | no k ↦
          let z : n ≡ 0 = omega arith in
          Fit.empty (h.kind ∙ (kind_0 n).1 z)
    ]

-- the slot of a decision that can be carried out has its kind
pub fit_kind : (P : ℕ) (d : Decision) → Fit P d → (slot_numbers (slot_image d.kind d.payload)).kind ≡ d.kind
fit_kind P d (Fit.empty e) = rw (e, image_empty d.payload, empty_numbers)
fit_kind P d (Fit.patch e low high u) =
    let p : List ℕ = d.payload in
    rw (e, image_patch p, (patch_of (patch_slot p) p (record { image = refl; some = low; room_for = high })).0)
fit_kind P d (Fit.full e l) = rw (e, image_full d.payload, full_numbers)

-- and the cell reads as the decision says
pub fit_page_in : (P : ℕ) (base : List ℕ) (d : Decision) → Fit P d → (x : List ℕ) → ReadAs P base d x
    → page_in P (page_of P base) (cell_for P d) ≡ x
unfolding page_in
fit_page_in P base d f x (ReadAs.base_page_is k) = rw (k, image_empty d.payload, empty_numbers)
fit_page_in P base d (Fit.empty z) x (ReadAs.patched k) = absurd (omega arith)
fit_page_in P base d (Fit.full z l) x (ReadAs.patched k) = absurd (omega arith)
fit_page_in P base d (Fit.patch z low high u) x (ReadAs.patched k) =
    let q = patch_of (patch_slot d.payload) d.payload (record { image = refl; some = low; room_for = high }) in
    rw (k, image_patch d.payload, q.0, q.1)
fit_page_in P base d f x (ReadAs.own_page k) = rw (k, image_full d.payload, full_numbers)
