-- What stands at each block after a run, and so what the run leaves. From a fresh state the last accepted writes alone leave the same.
use Rattle.std.specs.Prelude.{ℕ, ◌<◌, ◌≡◌, ◌↔◌, ◌⊎◌, Bool, ◌&&◌, cond}
use Rattle.std.proofs.Common.{arith, ◌∙◌, inl, inr}
use Rattle.std.proofs.Math.Path.{refl, sym, ap}
use Rattle.std.proofs.Math.Bool.{true, false}
use Rattle.std.proofs.Math.Option
use Rattle.std.proofs.Math.Option.{Option, none, some, none-ne-some}
use mathlib.Core.List.Memᴰ
use mathlib.Core.List.{List, [], ◌∷◌, ◌++◌, map, Memᴰ}
use Rattle.std.proofs.Math.Dec.{eqb}
use borrow.Author.Tests.{eqb-true, eqb-false, eq-eqb}
use Rattle.span.specs.Laws.{and_left, and_right}
use Rattle.promises.specs.Runs.{run, taking, later, last_such, keep, NoRepeats, Op, write, wipe, concerns, Store, Ops, Laws, Fresh}
use Rattle.promises.specs.Runs.{touches, standing, leaves, Left, left_blank, left_cell, Lasts, lasts}
use Rattle.promises.specs.LastLaws.{later_some, keep_mem, last_map, last_none, last_in}

pub same_write : {W C : Type 0} {v w : W} → ◌≡◌ {A = Op W C} (write v) (write w) → v ≡ w
same_write e = cc

module _ (S : Store) where
  open S use {State, Frame, Write, Wipe, Cell, frame, blocks, at, block, cell, blank, covers, takes, step, accepts, Good}

  -- a write that touches a block is accepted and goes there
  pub hit : {f : Frame} {b : ℕ} {w : Write} → (accepts f (write w) && eqb (block w) b) ≡ true → (accepts f (write w) ≡ true) × (block w ≡ b)
  hit {f} {b} {w} e = (and_left (accepts f (write w)) _ e, eqb-true (block w) b (and_right (accepts f (write w)) _ e))

  -- and so does one that stands there
  pub stands : {f : Frame} {b : ℕ} {w : Write} (os : Ops S) → standing S f b os ≡ some (write w)
      → (accepts f (write w) ≡ true) × (block w ≡ b)
  unfolding standing touches concerns
  stands {f} {b} os e = hit (last_in (touches S f b) os e).1

  -- the last of some writes that touches block b
  unfoldable last_write : Frame → ℕ → List Write → Option Write
  last_write f b ws = last_such (λ w. accepts f (write w) && eqb (block w) b) ws

  writes_stand : (f : Frame) (b : ℕ) (ws : List Write) → standing S f b (map write ws) ≡ Option.map write (last_write f b ws)
  unfolding standing last_write touches concerns
  writes_stand f b ws = last_map (touches S f b) write ws

  -- a list of just the last accepted writes, without repeats, is there for every run
  pub lasts_are : (f : Frame) (os : Ops S) → Lasts S f os (lasts S f os)
  unfolding Lasts lasts standing last_such touches concerns
  lasts_are f [] v = (λ i. absurd (Memᴰ.not-nil i), λ e. absurd (none-ne-some _ e))
  lasts_are f (o ∷ os) v = more o (lasts_are f os v)
    where
      later_v : (o : Op Write Wipe) → (standing S f (block v) (o ∷ os) ≡ some (write v))
          ↔ ((standing S f (block v) os ≡ some (write v))
          ⊎ ((o ≡ write v) × (touches S f (block v) o ≡ true) × (standing S f (block v) os ≡ none)))
      later_v o = later_some (touches S f (block v) o) o (write v) (standing S f (block v) os)

      more : (o : Op Write Wipe) → Memᴰ v (lasts S f os) ↔ (standing S f (block v) os ≡ some (write v))
          → Memᴰ v (lasts S f (o ∷ os)) ↔ (standing S f (block v) (o ∷ os) ≡ some (write v))
      more (wipe c) below = (
        λ i. (later_v (wipe c)).1 (inl (below.0 i)),
        λ e. elim ((later_v (wipe c)).0 e) [ inl h ↦ below.1 h | inr q ↦ let z : ◌≡◌ {A = ℕ} 0 1 = cc q.0 in absurd (omega arith) ],
      )
      more (write w) below =
          let kept = keep_mem (accepts f (write w)) w v (standing S f (block w) os) (lasts S f os) in (
            λ i.
                (later_v (write w)).1
                (elim (kept.0 i) [
                  | inl j ↦ inl (below.0 j)
                  | inr q ↦ inr (ap write (sym q.0), rw (q.0, q.1, eq-eqb (block w) (block w) refl), rw q.0 q.2)
                ]),
            λ e.
                kept.1
                (elim ((later_v (write w)).0 e) [
                  | inl h ↦ inl (below.1 h)
                  | inr q ↦ inr (sym (same_write q.0), (hit q.1).0, rw (same_write q.0) q.2)
                ]),
          )

  pub lasts_apart : (f : Frame) (os : Ops S) → NoRepeats block (lasts S f os)
  unfolding lasts keep Lasts
  lasts_apart f [] = tt
  lasts_apart f (wipe c ∷ os) = lasts_apart f os
  lasts_apart f (write w ∷ os) = go (accepts f (write w)) (standing S f (block w) os) refl (lasts_apart f os)
    where
      go : (t : Bool) (m : Option (Op Write Wipe)) → standing S f (block w) os ≡ m → NoRepeats block (lasts S f os)
          → NoRepeats block (keep t w m (lasts S f os))
      go t (some o) e r = r
      go true none e r = (λ v i q. none-ne-some _ (sym e ∙ rw q at ((lasts_are f os v).0 i)), r)
      go false none e r = r

  module _ (L : Laws S) where
    -- a run of two parts
    pub run_append : (s : State) (os os' : Ops S) → run step s (os ++ os') ≡ run step (run step s os) os'
    unfolding run
    run_append s [] os' = refl
    run_append s (o ∷ os) os' = run_append (step s o) os os'

    -- no run changes the frame
    pub run_frame : (s : State) (os : Ops S) → frame (run step s os) ≡ frame s
    unfolding run
    run_frame s [] = refl
    run_frame s (o ∷ os) = run_frame (step s o) os ∙ L.frame_kept s o

    -- what stands is the last, of the operations that were taken when their turn came, that has to do with the block
    pub standing_is : (b : ℕ) (s : State) (os : Ops S)
        → standing S (frame s) b os ≡ last_such (concerns block (covers (frame s)) b) (taking takes step s os)
    unfolding standing last_such taking touches later
    standing_is b s [] = refl
    standing_is b s (o ∷ os) =
        rw (L.by_frame s o) (go (accepts (frame s) o) (rw (L.frame_kept s o) at (standing_is b (step s o) os)))
      where
        rest : Ops S
        rest = taking takes step (step s o) os

        skip : (m : Option (Op Write Wipe)) → later false o m ≡ m
        skip none = refl
        skip (some v) = refl

        go : (t : Bool) → standing S (frame s) b os ≡ last_such (concerns block (covers (frame s)) b) rest
            → later (t && concerns block (covers (frame s)) b o) o (standing S (frame s) b os)
            ≡ last_such (concerns block (covers (frame s)) b) (cond t (o ∷ rest) rest)
        go true e = ap (later (concerns block (covers (frame s)) b o) o) e
        go false e = skip (standing S (frame s) b os) ∙ e

    -- an operation that was taken is one that the frame accepts
    pub taking_accepts : (s : State) (os : Ops S) (o : Op Write Wipe) → Memᴰ o (taking takes step s os) → accepts (frame s) o ≡ true
    unfolding taking
    taking_accepts s [] o i = absurd (Memᴰ.not-nil i)
    taking_accepts s (v ∷ os) o i = go (takes s v) refl i (λ j. rw (L.frame_kept s v) at (taking_accepts (step s v) os o j))
      where
        rest : Ops S
        rest = taking takes step (step s v) os

        go : (t : Bool) → takes s v ≡ t → Memᴰ o (cond t (v ∷ rest) rest) → (Memᴰ o rest → accepts (frame s) o ≡ true)
            → accepts (frame s) o ≡ true
        go true e j later = elim (Memᴰ.cases_cons j) [ inl q ↦ rw q (sym (L.by_frame s v) ∙ e) | inr k ↦ later k ]
        go false e j later = later j

    -- one operation
    pub step_at : (s : State) (o : Op Write Wipe) (b : ℕ) → b < blocks (frame s)
        → at (step s o) b ≡ leaves S (at s b) (later (touches S (frame s) b o) o none)
    unfolding touches concerns leaves later
    step_at s o b h = go (accepts (frame s) o) o refl
      where
        go : (t : Bool) (o : Op Write Wipe) → accepts (frame s) o ≡ t
            → at (step s o) b ≡ leaves S (at s b) (later (t && concerns block (covers (frame s)) b o) o none)
        go false o e = ap (λ (t : State). at t b) (L.refused s o e)
        go true (write w) e = here (eqb (block w) b) refl
          where
            here : (u : Bool) → eqb (block w) b ≡ u → at (step s (write w)) b ≡ leaves S (at s b) (later u (write w) none)
            here true k = L.write_here s w b e h (eqb-true (block w) b k)
            here false k = L.write_elsewhere s w b e h (eqb-false (block w) b k)
        go true (wipe c) e = here (covers (frame s) c b) refl
          where
            here : (u : Bool) → covers (frame s) c b ≡ u → at (step s (wipe c)) b ≡ leaves S (at s b) (later u (wipe c) none)
            here true k = L.wiped s c b e h k
            here false k = L.not_wiped s c b e h k

    -- after any run, from any state, a block holds what the operation that stands there makes of it
    pub run_at : (s : State) (os : Ops S) (b : ℕ) → b < blocks (frame s)
        → at (run step s os) b ≡ leaves S (at s b) (standing S (frame s) b os)
    unfolding run standing last_such leaves later
    run_at s [] b h = refl
    run_at s (o ∷ os) b h =
        (rw (L.frame_kept s o) at (run_at (step s o) os b (rw (L.frame_kept s o) h)))
        ∙ rw (step_at s o b h) (go (touches S (frame s) b o) (last_such (touches S (frame s) b) os))
      where
        go : (t : Bool) (m : Option (Op Write Wipe)) → leaves S (leaves S (at s b) (later t o none)) m ≡ leaves S (at s b) (later t o m)
        go t (some (write w)) = refl
        go t (some (wipe c)) = refl
        go true none = refl
        go false none = refl

    -- runs after which each block holds the same leave the same
    pub same_run : (s : State) → Good (frame s) → (os os' : Ops S)
        → ((b : ℕ) → b < blocks (frame s) → at (run step s os) b ≡ at (run step s os') b)
        → run step s os ≡ run step s os'
    same_run s good os os' h =
        let e : frame (run step s os) ≡ frame s = run_frame s os in
        L.ext (run step s os) (run step s os') (rw e good) (e ∙ sym (run_frame s os')) (rw e h)

    -- From a fresh state

    pub fresh_at : (s : State) → Fresh S s → (os : Ops S) (b : ℕ) → b < blocks (frame s)
        → at (run step s os) b ≡ leaves S blank (standing S (frame s) b os)
    fresh_at s fresh os b h = run_at s os b h ∙ rw (fresh.all_blank b h)

    -- so each block holds a cell that a run can leave
    pub run_left : (s : State) → Fresh S s → (os : Ops S) (b : ℕ) → b < blocks (frame s) → Left S (frame s) b (at (run step s os) b)
    unfolding leaves
    run_left s fresh os b h = rw (fresh_at s fresh os b h) (go (standing S (frame s) b os) refl)
      where
        go : (m : Option (Op Write Wipe)) → standing S (frame s) b os ≡ m → Left S (frame s) b (leaves S blank m)
        go none e = left_blank
        go (some (wipe c)) e = left_blank
        go (some (write w)) e = let t = stands os e in left_cell w t.0 t.1

    -- the one of the write that stands there, or else the blank one
    pub write_left : (s : State) → Fresh S s → (os : Ops S) (b : ℕ) → b < blocks (frame s) → (w : Write)
        → standing S (frame s) b os ≡ some (write w) → at (run step s os) b ≡ cell w
    unfolding leaves
    write_left s fresh os b h w e = fresh_at s fresh os b h ∙ rw e

    pub blank_left : (s : State) → Fresh S s → (os : Ops S) (b : ℕ) → b < blocks (frame s)
        → ((w : Write) → standing S (frame s) b os ≡ some (write w) → ⊥) → at (run step s os) b ≡ blank
    unfolding leaves
    blank_left s fresh os b h n = fresh_at s fresh os b h ∙ go (standing S (frame s) b os) refl
      where
        go : (m : Option (Op Write Wipe)) → standing S (frame s) b os ≡ m → leaves S blank m ≡ blank
        go none e = refl
        go (some (wipe c)) e = refl
        go (some (write w)) e = absurd (n w e)

    -- the last accepted writes alone, in any order, are all accepted
    lasts_taken : (s : State) (os : Ops S) (ls : List Write) → Lasts S (frame s) os ls → taking takes step s (map write ls) ≡ map write ls
    unfolding Lasts taking
    lasts_taken s os ls l = go s ls (λ w i. (stands os ((l w).0 i)).0)
      where
        go : (t : State) (ks : List Write) → ((w : Write) → Memᴰ w ks → accepts (frame t) (write w) ≡ true)
            → taking takes step t (map write ks) ≡ map write ks
        go t [] h = refl
        go t (k ∷ ks) h =
            rw (L.by_frame t (write k), h k (Memᴰ.head refl))
            (ap (λ (x : Ops S). write k ∷ x)
            (go (step t (write k)) ks (λ w i. rw (L.frame_kept t (write k)) (h w (Memᴰ.tail i)))))

    -- and leave what the whole run leaves
    lasts_same : (s : State) → Fresh S s → (os : Ops S) (ls : List Write) → Lasts S (frame s) os ls
        → run step s (map write ls) ≡ run step s os
    unfolding Lasts leaves last_write
    lasts_same s fresh os ls l =
        same_run s fresh.good (map write ls) os
        (λ b h.
        fresh_at s fresh (map write ls) b h
        ∙ rw (writes_stand (frame s) b ls) (go b (last_write (frame s) b ls) refl (standing S (frame s) b os) refl)
        ∙ sym (fresh_at s fresh os b h))
      where
        go : (b : ℕ) (m : Option Write) → last_write (frame s) b ls ≡ m → (k : Option (Op Write Wipe)) → standing S (frame s) b os ≡ k
            → leaves S blank (Option.map write m) ≡ leaves S blank k
        go b none e none q = refl
        go b none e (some (wipe c)) q = refl
        go b none e (some (write w)) q =
            let t = stands os q in
            absurd (last_none _ ls e w ((l w).1 (rw t.1 q)) (rw (t.0, eq-eqb (block w) b t.1)))
        go b (some w) e k q = let i = last_in _ ls e in rw (sym q ∙ rw (hit i.1).1 at ((l w).0 i.0))

    pub lasts_leave : (s : State) → Fresh S s → (os : Ops S) (ls : List Write) → Lasts S (frame s) os ls
        → (taking takes step s (map write ls) ≡ map write ls) × (run step s (map write ls) ≡ run step s os)
    lasts_leave s fresh os ls l = (lasts_taken s os ls l, lasts_same s fresh os ls l)
