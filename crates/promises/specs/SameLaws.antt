-- How a block reads after a run from a fresh state, and when two runs leave the same.
use Rattle.std.specs.Prelude.{ℕ, ◌<◌, refl, ◌↔◌}
use Rattle.std.proofs.Common.{arith, ◌∙◌, eqb-true}
use Rattle.std.proofs.Math.Path.{◌≡◌, sym, ap}
use Rattle.std.proofs.Math.Logic.{inl, inr}
use Rattle.std.proofs.Math.Option.{Option, none, some, none-ne-some}
use mathlib.Core.List.{[], ◌∷◌}
use Rattle.promises.specs.Runs.{run, taking, last_such, Op, write, wipe, concerns, Store, Ops, Laws, Fresh, standing, leaves}
use Rattle.promises.specs.Runs.{Reading, ReadingLaws, OverAt, Over, Bases, shown, ReadSame}
use Rattle.promises.specs.LastLaws.{later_some, later_none}
use Rattle.promises.specs.StandingLaws.{same_write, stands, standing_is, fresh_at, same_run}

module _ (S : Store) (R : Reading S) where
  open S use {State, Frame, Write, Wipe, frame, blocks, at, block, blank, covers, takes, step}
  open R use {Base, Page, Fits, base_page, reads, canon, Decided, page_of}

  -- What a paper may say of bases is enough

  bases_none : (f : Frame) (b : ℕ) (start end : ℕ → Base) (os : Ops S) → Bases S R f start os end
      → last_such (concerns block (covers f) b) os ≡ none → start b ≡ end b
  unfolding last_such concerns
  bases_none f b start end [] h e = h b
  bases_none f b start end (write w ∷ os) h e = bases_none f b start end os h.1 (later_none _ _ _ e).0
  bases_none f b start end (wipe c ∷ os) h e =
      let q = later_none _ _ _ e in
      h.1 b q.1 ∙ bases_none f b h.0 end os h.2 q.0

  bases_last : (f : Frame) (b : ℕ) (w : Write) (start end : ℕ → Base) (os : Ops S) → Bases S R f start os end
      → last_such (concerns block (covers f) b) os ≡ some (write w) → Decided (end b) w
  unfolding last_such concerns
  bases_last f b w start end [] h e = absurd (none-ne-some _ e)
  bases_last f b w start end (write v ∷ os) h e =
      elim ((later_some _ _ _ _).0 e) [
        | inl q ↦ bases_last f b w start end os h.1 q
        | inr q ↦
            let d : Decided (start (block v)) v = h.0 in
            rw (eqb-true (block v) b q.1, bases_none f b start end os h.1 q.2, same_write q.0) at d
      ]
  bases_last f b w start end (wipe c ∷ os) h e =
      elim ((later_some _ _ _ _).0 e) [
        | inl q ↦ bases_last f b w h.0 end os h.2 q
        | inr q ↦ let z : ◌≡◌ {A = ℕ} 0 1 = cc q.0 in absurd (omega arith)
      ]

  pub bases_over : Laws S → (s : State) (start end : ℕ → Base) (os : Ops S) → Bases S R (frame s) start (taking takes step s os) end
      → Over S R end (frame s) os
  unfolding Over OverAt
  bases_over L s start end os h b n w e = bases_last (frame s) b w start end (taking takes step s os) h (sym (standing_is S L b s os) ∙ e)

  module _ (L : Laws S) (Q : ReadingLaws S R) where
    module _ (s : State) (fresh : Fresh S s) (b : ℕ) (below : b < blocks (frame s)) (β : Base) (fit : Fits β) where
      -- what is read of a cell that a run leaves, and that no other cell is read so
      seen : (os : Ops S) → OverAt S R β (frame s) b os → (m : Option (Op Write Wipe)) → standing S (frame s) b os ≡ m
          → (reads β (leaves S blank m) ≡ shown S R β m) × (canon β (shown S R β m) ≡ leaves S blank m)
      unfolding OverAt shown leaves
      seen os over none e = (Q.reads_blank β fit, Q.canon_base β fit)
      seen os over (some (wipe c)) e = (Q.reads_blank β fit, Q.canon_base β fit)
      seen os over (some (write w)) e =
          let t = stands S os e in
          let d : Decided β w = over w e in
          (Q.reads_cell (frame s) w β t.0 d, sym (Q.cell_canon (frame s) w β t.0 d))

      -- a block reads as its last accepted write, or as its base if no write stands there
      pub run_reads : (os : Ops S) → OverAt S R β (frame s) b os
          → reads β (at (run step s os) b) ≡ shown S R β (standing S (frame s) b os)
      run_reads os over = rw (fresh_at S L s fresh os b below) (seen os over (standing S (frame s) b os) refl).0

      -- and holds the one cell that this page makes
      run_canon : (os : Ops S) → OverAt S R β (frame s) b os → canon β (reads β (at (run step s os) b)) ≡ at (run step s os) b
      run_canon os over = rw (run_reads os over, fresh_at S L s fresh os b below) (seen os over (standing S (frame s) b os) refl).1

      -- so a block at which two runs end with one base holds the same just if it reads the same
      pub same_at : (os os' : Ops S) → OverAt S R β (frame s) b os → OverAt S R β (frame s) b os'
          → (at (run step s os) b ≡ at (run step s os') b) ↔ (reads β (at (run step s os) b) ≡ reads β (at (run step s os') b))
      same_at os os' over over' = (ap (reads β), λ e. sym (run_canon os over) ∙ ap (canon β) e ∙ run_canon os' over')

    -- and two runs that end with the same bases leave the same just if each block reads the same after both
    pub same_iff_read_same : (s : State) → Fresh S s → (bases : ℕ → Base) → ((b : ℕ) → b < blocks (frame s) → Fits (bases b))
        → (os os' : Ops S) → Over S R bases (frame s) os → Over S R bases (frame s) os'
        → (run step s os ≡ run step s os') ↔ ReadSame S R bases (blocks (frame s)) (run step s os) (run step s os')
    unfolding ReadSame Over
    same_iff_read_same s fresh bases fit os os' over over' = (
      λ e b h. ap (λ (t : State). reads (bases b) (at t b)) e,
      λ e. same_run S L s fresh.good os os' (λ b h. (same_at s fresh b h (bases b) (fit b h) os os' (over b h) (over' b h)).1 (e b h)),
    )
