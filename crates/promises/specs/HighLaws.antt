-- Highest after a run.
use Rattle.std.specs.Prelude.{ℕ, ◌≤◌, ◌<◌, ◌≡◌, refl, List, [], length}
use Rattle.std.proofs.Common.{arith, sym, ap, ◌∙◌, inl}
use Rattle.std.proofs.Math.Option.{Option, none, some}
use Rattle.span.specs.Bytes.{zeros}
use Rattle.span.specs.Laws.{zeros_length}
use Rattle.layout.specs.Lengths.{blocks_in}
use Rattle.slots.specs.Slots.{SlotNumbers, empty_slot, slot_numbers, slot_image}
use Rattle.slots.specs.Meaning.{empty_numbers}
use Rattle.writer.specs.Differences.{written}
use Rattle.stream.specs.Calls.{page_of}
use Rattle.stream.specs.Kinds.{same_iff, kind_0}
use Rattle.store.specs.Block.{slot_of}
use Rattle.cutting.specs.Highest.{highest_numbers}
use Rattle.cutting.specs.Reach.{OneMore}
use Rattle.cutting.specs.ReachLaws.{same_sort}
use Rattle.promises.specs.Words.{blocks, SoundSlot, FrameFits}
use Rattle.promises.specs.SlotLaws.{image_empty, image_patch, image_full}
use Rattle.promises.specs.CutWords.{PatchSized, HighestGives, NonEmpty}
use Rattle.promises.specs.CutTables.{highest_table}
use Rattle.promises.specs.CutLaws.{highest_is}
use Rattle.promises.specs.Decisions.{Cell, Fit, Compared}
use Rattle.promises.specs.DecisionLaws.{compared_fit, fit_kind}
use Rattle.promises.specs.Runs.{write, wipe}
use Rattle.promises.specs.StandingLaws.{write_left, blank_left}
use Rattle.promises.specs.RunWords.{Decision, Areas, Lent, Operation, after, accepted, last_to, OverBases, ChangedAt, FreshAreas}
use Rattle.promises.specs.RunStore.{cell_at, store}
use Rattle.promises.specs.RunStoreLaws.{store_laws}
use Rattle.promises.specs.RunReads.{Held}
use Rattle.promises.specs.RunLaws.{last_is, fresh, kept, run_fits, in_frame, held}

-- the slot of a decision that can be carried out is sound
fit_sound : (P : ℕ) (d : Decision) → Fit P d → SoundSlot (slot_image d.kind d.payload)
fit_sound P d (Fit.empty e) = SoundSlot.empty (rw e (image_empty d.payload))
fit_sound P d (Fit.patch e low high u) =
    SoundSlot.patch d.payload (record { image = rw e (image_patch d.payload); some = low; room_for = high })
fit_sound P d (Fit.full e l) = SoundSlot.full (rw e (image_full d.payload))

-- and that of a decision over a base page is EMPTY just if the page is the base page
compared_empty : (P : ℕ) → P ≤ 65536 → (β : List ℕ) (d : Decision) → Compared P β d
    → (slot_image d.kind d.payload ≡ empty_slot → d.page ≡ β) × (d.page ≡ β → slot_image d.kind d.payload ≡ empty_slot)
compared_empty P small β d c = (
  λ e.
      let k : d.kind ≡ 0 = sym (fit_kind P d (compared_fit P small β d c)) ∙ ap (λ (x : SlotNumbers). x.kind)
      (ap slot_numbers e ∙ empty_numbers) in
      sym ((same_iff β d.page (c.base_length ∙ sym c.page_length)).0
      ((kind_0 (length (written β d.page))).0 (sym c.kind ∙ k))),
  λ e.
      let z : length (written β d.page) ≡ 0 = (same_iff β d.page (c.base_length ∙ sym c.page_length)).1 (sym e) in
      let k : d.kind ≡ 0 = c.kind ∙ (kind_0 (length (written β d.page))).1 z in
      rw k (image_empty d.payload),
)

module _ (P : ℕ) (s : Areas) (h : FreshAreas P s) (small : P ≤ 65536) (os : List Operation) where
  same_blocks : blocks (after P s os).patch ≡ blocks s.patch
  same_blocks = ap blocks_in (kept P s h os).patch_length

  -- Highest accepts what a run leaves
  pub run_highest_done : (highest_numbers P (after P s os).patch).number ≡ 0
  run_highest_done = (highest_table P (after P s os).patch 0).1 (HighestGives.done sized f.headers.patch_header_is sound)
    where
      f : FrameFits P (after P s os).patch (after P s os).full [] (zeros P)
      f = run_fits P s h os [] (zeros P) (record { base_length = inl refl; page_length = zeros_length P })

      sized : PatchSized P (after P s os).patch
      sized = record { patch_length = f.lengths.patch_length; not_above = f.lengths.not_above }

      sound : (b : ℕ) → b < blocks (after P s os).patch → SoundSlot (slot_of (after P s os).patch b)
      sound b n =
          let c : Held P (after P s os).full b (cell_at P (after P s os) b) = held P s h small os b (rw same_blocks at n) in
          rw (ap (λ (x : Cell). x.slot) c.is) (fit_sound P c.decision c.fit)

  -- and gives one more than the highest block at which a write stands whose page differs from its base, or 0
  module _ (bases : ℕ → List ℕ) (over : OverBases P bases s os) where
    to_changed : (b : ℕ) → b < blocks s.patch → NonEmpty (after P s os).patch b → ChangedAt P bases s os b
    to_changed b n u = go (last_to b (accepted P s os)) refl
      where
        none_stands : ((w : Lent) → last_to b (accepted P s os) ≡ some (write w) → ⊥) → ChangedAt P bases s os b
        none_stands nobody =
            absurd
            (u
            (ap (λ (c : Cell). c.slot)
            (blank_left (store P) (store_laws P) s (fresh P s h) os b (in_frame P s h small os b n) (λ w e. nobody w (sym (last_is P s os b) ∙ e)))))

        go : (m : Option Operation) → last_to b (accepted P s os) ≡ m → ChangedAt P bases s os b
        go none e = none_stands (λ w q. let z : ◌≡◌ {A = ℕ} 0 1 = cc (sym e ∙ q) in absurd (omega arith))
        go (some (wipe K)) e = none_stands (λ w q. let z : ◌≡◌ {A = ℕ} 0 1 = cc (sym e ∙ q) in absurd (omega arith))
        go (some (write w)) e =
            record {
              last = w;
              stands = e;
              differs =
                  λ q.
                  u
                  (ap (λ (c : Cell). c.slot)
                  (write_left (store P) (store_laws P) s (fresh P s h) os b (in_frame P s h small os b n) w (last_is P s os b ∙ e))
                  ∙ (compared_empty P small (page_of P (bases b)) w.decision (over b n w e)).1 q);
            }

    of_changed : (b : ℕ) → b < blocks s.patch → ChangedAt P bases s os b → NonEmpty (after P s os).patch b
    of_changed b n c e =
        c.differs
        ((compared_empty P small (page_of P (bases b)) c.last.decision (over b n c.last c.stands)).0
        (sym (ap (λ (x : Cell). x.slot)
        (write_left (store P) (store_laws P) s (fresh P s h) os b (in_frame P s h small os b n) c.last
        (last_is P s os b ∙ c.stands)))
        ∙ e))

    pub run_highest : OneMore (ChangedAt P bases s os) (blocks s.patch) (highest_numbers P (after P s os).patch).blocks
    run_highest =
        same_sort (NonEmpty (after P s os).patch) (ChangedAt P bases s os) (blocks s.patch)
        (highest_numbers P (after P s os).patch).blocks to_changed of_changed
        (rw same_blocks at (highest_is P (after P s os).patch run_highest_done))
