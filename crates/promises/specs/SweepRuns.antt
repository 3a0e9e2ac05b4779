-- After a sweep a run with stopped writes has left what some run without them leaves: with each stopped write whole or without it.
use Rattle.std.specs.Prelude.{ℕ, ◌<◌, ◌≡◌, Bool, eqb}
use Rattle.std.proofs.Math.Path.{refl}
use Rattle.std.proofs.Common.{sym, ap, ◌∙◌, eqb-true}
use Rattle.std.proofs.Math.Bool.{true, false, cond}
use Rattle.std.proofs.Math.Option.{none}
use mathlib.Core.List.{[], ◌∷◌, ◌++◌}
use Rattle.std.proofs.lemmas.Bool.{eqb-false}
use Rattle.promises.specs.Runs.{run, later, Op, write, wipe, Store, Ops, Laws, Fresh, Left, left_blank, left_cell, leaves, touches}
use Rattle.promises.specs.Runs.{concerns}
use Rattle.promises.specs.StandingLaws.{hit, run_append, run_frame, step_at, run_left}
use Rattle.promises.specs.Stops.{Event, whole, stop, sweep, Events, Stopping, StopLaws, happen, kept, comes, comes_to, Tidies}

module _ (S : Store) (T : Stopping S) (L : Laws S) (K : StopLaws S T) where
  open S use {State, Frame, Write, Wipe, Cell, frame, blocks, at, block, cell, blank, accepts, step, Good}
  open T use {stopped, swept, half, tidy, holds}

  -- a cell that a run leaves has nothing to be swept away
  tidy_left : {f : Frame} {b : ℕ} (c : Cell) → Left S f b c → tidy c ≡ c
  tidy_left c left_blank = K.tidy_blank
  tidy_left c (left_cell w a e) = K.tidy_cell_is _ w a

  -- An operation made whole leaves of a cell, tidied, what it leaves of the tidied cell

  after_op : (f : Frame) (b : ℕ) (o : Op Write Wipe) (u : Bool) → touches S f b o ≡ u → (c d : Cell) → tidy c ≡ d → Left S f b d
      → (tidy (leaves S c (later u o none)) ≡ leaves S d (later u o none)) × Left S f b (leaves S d (later u o none))
  unfolding leaves later touches concerns
  after_op f b o false e c d q l = (q, l)
  after_op f b (write w) true e c d q l = let k = hit S e in (K.tidy_cell_is f w k.0, left_cell w k.0 k.1)
  after_op f b (wipe x) true e c d q l = (K.tidy_blank, left_blank)

  whole_tidies : (s t : State) → Tidies S T s t → (o : Op Write Wipe) → Tidies S T (step s o) (step t o)
  whole_tidies s t h o =
      record {
        frames = L.frame_kept s o ∙ h.frames ∙ sym (L.frame_kept t o);
        good = rw (L.frame_kept t o) h.good;
        cells =
            λ b n.
            let k : b < blocks (frame t) = rw (L.frame_kept t o) at n in
            ap tidy (step_at S L s o b (rw h.frames k)) ∙ rw h.frames (both b k).0 ∙ sym (step_at S L t o b k);
        lefts =
            λ b n.
            let k : b < blocks (frame t) = rw (L.frame_kept t o) at n in
            rw (L.frame_kept t o, step_at S L t o b k) (both b k).1;
      }
    where
      both : (b : ℕ) (k : b < blocks (frame t))
          → (tidy (leaves S (at s b) (later (touches S (frame t) b o) o none)) ≡ leaves S (at t b) (later (touches S (frame t) b o) o none))
          × Left S (frame t) b (leaves S (at t b) (later (touches S (frame t) b o) o none))
      both b k = after_op (frame t) b o (touches S (frame t) b o) refl (at s b) (at t b) (h.cells b k) (h.lefts b k)

  -- So does a stopped write, by whether it took hold

  stop_cell : (s : State) (k : ℕ) (w : Write) (b : ℕ) → accepts (frame s) (write w) ≡ true → b < blocks (frame s) → (u : Bool)
      → holds k w (at s (block w)) ≡ u
      → (v : Bool) → eqb (block w) b ≡ v → tidy (at (stopped s k w) b) ≡ cond v (cond u (cell w) (tidy (at s b))) (tidy (at s b))
  stop_cell s k w b a n u e true q =
      let p : block w ≡ b = eqb-true (block w) b q in
      ap tidy (K.stopped_here s k w b a n p) ∙ K.tidy_half (frame s) k w (at s b) a
      ∙ ap (λ (x : Bool). cond x (cell w) (tidy (at s b))) (rw p at e)
  stop_cell s k w b a n u e false q = ap tidy (K.stopped_elsewhere s k w b a n (eqb-false (block w) b q))

  stop_tidies : (s t : State) → Tidies S T s t → (k : ℕ) (w : Write) → Tidies S T (stopped s k w) (run step t (kept S T s k w))
  unfolding run kept
  stop_tidies s t h k w = go (accepts (frame t) (write w)) refl (holds k w (at s (block w))) refl
    where
      same : (v : Bool) (c : Cell) → cond v c c ≡ c
      same true c = refl
      same false c = refl

      took : accepts (frame t) (write w) ≡ true → holds k w (at s (block w)) ≡ true → (b : ℕ) → b < blocks (frame t)
          → (v : Bool) → eqb (block w) b ≡ v → tidy (at (stopped s k w) b) ≡ at (step t (write w)) b
      took a e b m true q =
          stop_cell s k w b (rw h.frames a) (rw h.frames m) true e true q ∙ sym (L.write_here t w b a m (eqb-true (block w) b q))
      took a e b m false q =
          stop_cell s k w b (rw h.frames a) (rw h.frames m) true e false q ∙ h.cells b m
          ∙ sym (L.write_elsewhere t w b a m (eqb-false (block w) b q))

      go : (a : Bool) → accepts (frame t) (write w) ≡ a → (u : Bool) → holds k w (at s (block w)) ≡ u
          → Tidies S T (stopped s k w) (run step t (cond u (write w ∷ []) []))
      go false a true e = rw (K.stopped_refused s k w (rw h.frames a), L.refused t (write w) a) h
      go false a false e = rw (K.stopped_refused s k w (rw h.frames a)) h
      go true a false e =
          record {
            frames = K.stopped_frame s k w ∙ h.frames;
            good = h.good;
            cells =
                λ b n. stop_cell s k w b (rw h.frames a) (rw h.frames n) false e (eqb (block w) b) refl
                ∙ same (eqb (block w) b) (tidy (at s b)) ∙ h.cells b n;
            lefts = h.lefts;
          }
      go true a true e =
          let r : Tidies S T (step s (write w)) (step t (write w)) = whole_tidies s t h (write w) in
          record {
            frames = K.stopped_frame s k w ∙ h.frames ∙ sym (L.frame_kept t (write w));
            good = r.good;
            cells =
                λ b n.
                let m : b < blocks (frame t) = rw (L.frame_kept t (write w)) at n in
                took a e b m (eqb (block w) b) refl;
            lefts = r.lefts;
          }

  -- And a sweep leaves just that

  -- such a state can be swept
  pub sweepable : (s t : State) → Tidies S T s t → (b : ℕ) → b < blocks (frame s) → Left S (frame s) b (tidy (at s b))
  sweepable s t h b n = let m : b < blocks (frame t) = rw h.frames at n in rw (h.frames, h.cells b m) (h.lefts b m)

  sweep_tidies : (s t : State) → Tidies S T s t → Tidies S T (swept s) t
  sweep_tidies s t h =
      record {
        frames = K.swept_frame s ∙ h.frames;
        good = h.good;
        cells =
            λ b n. ap tidy (K.swept_at s (rw h.frames h.good) (sweepable s t h) b (rw h.frames n) ∙ h.cells b n)
            ∙ tidy_left (at t b) (h.lefts b n);
        lefts = h.lefts;
      }

  pub sweep_same : (s t : State) → Tidies S T s t → swept s ≡ t
  sweep_same s t h =
      L.ext (swept s) t (rw (K.swept_frame s, h.frames) h.good) (K.swept_frame s ∙ h.frames)
      (λ b n.
      let m : b < blocks (frame t) = rw (K.swept_frame s, h.frames) at n in
      K.swept_at s (rw h.frames h.good) (sweepable s t h) b (rw h.frames m) ∙ h.cells b m)

  -- Events, one after the other

  event_tidies : (s t : State) → Tidies S T s t → (e : Event Write Wipe) → Tidies S T (happen S T s e) (run step t (comes S T s e))
  unfolding happen comes run
  event_tidies s t h (whole o) = whole_tidies s t h o
  event_tidies s t h (stop k w) = stop_tidies s t h k w
  event_tidies s t h sweep = sweep_tidies s t h

  events_tidy : (s t : State) → Tidies S T s t → (es : Events S) → Tidies S T (run (happen S T) s es) (run step t (comes_to S T s es))
  unfolding run comes_to
  events_tidy s t h [] = h
  events_tidy s t h (e ∷ es) =
      rw (run_append S L t (comes S T s e) (comes_to S T (happen S T s e) es))
      (events_tidy (happen S T s e) (run step t (comes S T s e)) (event_tidies s t h e) es)

  -- The same write told all after it was stopped is the whole write

  pub finished : (s : State) → Good (frame s) → (k : ℕ) (w : Write) → step (stopped s k w) (write w) ≡ step s (write w)
  finished s good k w = go (accepts (frame s) (write w)) refl
    where
      here : accepts (frame s) (write w) ≡ true → (b : ℕ) → b < blocks (frame s) → (v : Bool) → eqb (block w) b ≡ v
          → at (step (stopped s k w) (write w)) b ≡ at (step s (write w)) b
      here a b n true q =
          let p : block w ≡ b = eqb-true (block w) b q in
          L.write_here (stopped s k w) w b (rw (K.stopped_frame s k w) a) (rw (K.stopped_frame s k w) n) p ∙ sym (L.write_here s w b a n p)
      here a b n false q =
          let p : block w ≡ b → ⊥ = eqb-false (block w) b q in
          L.write_elsewhere (stopped s k w) w b (rw (K.stopped_frame s k w) a) (rw (K.stopped_frame s k w) n) p
          ∙ K.stopped_elsewhere s k w b a n p ∙ sym (L.write_elsewhere s w b a n p)

      go : (a : Bool) → accepts (frame s) (write w) ≡ a → step (stopped s k w) (write w) ≡ step s (write w)
      go false a = ap (λ (t : State). step t (write w)) (K.stopped_refused s k w a)
      go true a =
          let e : frame (step (stopped s k w) (write w)) ≡ frame s = L.frame_kept (stopped s k w) (write w) ∙ K.stopped_frame s k w in
          L.ext (step (stopped s k w) (write w)) (step s (write w)) (rw e good) (e ∙ sym (L.frame_kept s (write w)))
          (λ b n. here a b (rw e at n) (eqb (block w) b) refl)

  -- From a fresh state
  module _ (s : State) (fresh : Fresh S s) where
    -- a run leaves nothing to be swept
    run_tidies : (os : Ops S) → Tidies S T (run step s os) (run step s os)
    run_tidies os =
        record {
          frames = refl;
          good = rw (run_frame S L s os) fresh.good;
          cells = λ b n. tidy_left (at (run step s os) b) (lefts b n);
          lefts = lefts;
        }
      where
        lefts : (b : ℕ) → b < blocks (frame (run step s os)) → Left S (frame (run step s os)) b (at (run step s os) b)
        lefts b n = rw (run_frame S L s os) (run_left S L s fresh os b (rw (run_frame S L s os) at n))

    -- any events, as many stops and sweeps among them as there may be, anywhere
    pub events_tidied : (es : Events S) → Tidies S T (run (happen S T) s es) (run step s (comes_to S T s es))
    unfolding run
    events_tidied es = events_tidy s s (run_tidies []) es

    pub swept_events : (es : Events S) → swept (run (happen S T) s es) ≡ run step s (comes_to S T s es)
    swept_events es = sweep_same _ _ (events_tidied es)

    -- one stop in a run
    pub stop_tidied : (ws : Ops S) (k : ℕ) (w : Write) (vs : Ops S)
        → Tidies S T (run step (stopped (run step s ws) k w) vs) (run step s (ws ++ (kept S T (run step s ws) k w ++ vs)))
    unfolding run
    stop_tidied ws k w vs =
        rw (run_append S L s ws (kept S T (run step s ws) k w ++ vs), run_append S L (run step s ws) (kept S T (run step s ws) k w) vs)
        (on _ _ (stop_tidies (run step s ws) (run step s ws) (run_tidies ws) k w) vs)
      where
        on : (x y : State) → Tidies S T x y → (vs : Ops S) → Tidies S T (run step x vs) (run step y vs)
        on x y h [] = h
        on x y h (v ∷ vs) = on (step x v) (step y v) (whole_tidies x y h v) vs
