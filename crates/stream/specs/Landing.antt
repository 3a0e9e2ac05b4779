-- What a payload does, the writer's or not: where entries spell it and stay in the page, Apply counts those entries, the last of them
-- gives the last position, and each value lands at its entry's place. What is said of the entries shares nothing with the reader's
-- definition.
use Rattle.std.specs.Prelude.{ℕ, suc, ◌+◌, ◌≤◌, ◌≡◌, refl, Bool, true, false, cond, List, [], ◌∷◌, ◌↔◌, ◌⊎◌, length, set, get_or, ℤ, pos, ◌+ℤ◌, Result, Ok}
use Rattle.std.proofs.Common.{arith, sym, ap, ◌∙◌, subst, inl, inr, length-set, get_or-set_same, get_or-set_other}
use Rattle.layout.specs.Sizes.{room}
use Rattle.layout.specs.Refusals.{first_of}
use Rattle.payload.specs.Entries.{Stream, done, entry, start, payload_stream, sound, breaks_at}
use Rattle.payload.specs.Entries.{entries, last, put, applied}
use Rattle.writer.specs.Differences.{Change, last_place}
use Rattle.stream.specs.Calls.{page_of, pages_fit, AppliedNumbers, applied_numbers, Apply, apply_rows, apply_done, apply_refused}
use Rattle.writer.specs.Steps.{before}
use Rattle.stream.specs.Laws.{pages_fit_is, present_length, apply_number, apply_done_is, apply_not}
use Rattle.payload.specs.Spelling.{Spelt, Inside, Stays, Spelled, Bytes}
use Rattle.payload.specs.SpellingLaws.{wide, prefixed}
use Rattle.payload.specs.Soundness.{spelled_read, spelled_sound}
use Rattle.payload.specs.Breaking.{Unsound, unsound_iff}
use Rattle.writer.specs.Writer.{In, Rising, Below, placed}
use Rattle.writer.specs.LastPlace.{LastOf, last_some}
use Rattle.writer.specs.ReadBack.{before_next, moved, pokes}
use Rattle.stream.specs.Only.{applied_one}
use Rattle.layout.specs.Numbers.{refused_at}
use Rattle.layout.specs.declared.RefusedAt.{RefusedAt}
use Rattle.payload.specs.declared.Sound.{Sound}
use Rattle.layout.specs.declared.Refusal.TheVariants.{Payload}

-- Where the entries put their values: in rising order, in the page

pub placed_rising : (es : List Spelt) (next : ℕ) → Rising next (placed next es)
placed_rising [] next = tt {0}
placed_rising (e ∷ es) next = (omega arith, placed_rising es (next + e.jump + 1))

-- a jump from before `next` leads to next + jump, and before the place after that
pub lands_at : (next : ℕ) (j : ℕ) → before next +ℤ pos (j + 1) ≡ before (next + j + 1)
lands_at next j = moved next j ∙ sym (before_next (next + j))

pub placed_below : (n : ℕ) (es : List Spelt) (next : ℕ) → Stays n (before next) es → Below n (placed next es)
placed_below n [] next s = tt {0}
placed_below n (e ∷ es) next s = (
  subst (λ (z : ℤ). Inside n z) (moved next e.jump) s.0,
  placed_below n es (next + e.jump + 1) (subst (λ (z : ℤ). Stays n z es) (lands_at next e.jump) s.1),
)

-- What the stream of these entries does: how many there are, the last place, and each value at its place

pub record Lands (next : ℕ) (es : List Spelt) (s : Stream) : Type 0 where
  pub count : entries s ≡ length es
  pub last : (p : ℤ) → last p s ≡ last_place p (placed next es)
  pub page : (base : List ℕ) → applied base s ≡ pokes base (placed next es)

one_more : (next w : ℕ) (e : Spelt) (es : List Spelt) (s : Stream) → Lands (next + e.jump + 1) es s
    → Lands next (e ∷ es) (entry w (pos (next + e.jump)) e.value s)
unfolding entries last last_place applied put
one_more next w e es s l = record {
  count = ap suc l.count;
  last = λ p. l.last (pos (next + e.jump));
  page = λ base. l.page (set base (next + e.jump) e.value);
}

lands : (es : List Spelt) (next : ℕ) → Lands next es (prefixed (before next) es done)
unfolding entries last last_place applied
lands [] next = record { count = refl; last = λ p. refl; page = λ base. refl }
lands (e ∷ es) next =
    let q : ℤ = before next +ℤ pos (e.jump + 1) in
    let later : Lands (next + e.jump + 1) es (prefixed q es done) =
    subst (λ (z : ℤ). Lands (next + e.jump + 1) es (prefixed z es done)) (sym (lands_at next e.jump)) (lands es (next + e.jump + 1)) in
    subst (λ (z : ℤ). Lands next (e ∷ es) (entry (wide e.form) z e.value (prefixed q es done))) (sym (moved next e.jump))
    (one_more next (wide e.form) e es (prefixed q es done) later)

-- the payload that they spell reads so
pub spelled_lands : (n : ℕ) (payload : List ℕ) (w : Spelled n start payload) → Lands 0 w.entries (payload_stream n payload)
spelled_lands n payload w =
    subst (λ (s : Stream). Lands 0 w.entries s) (sym (spelled_read n start payload w)) (lands w.entries 0)

-- Byte by byte

pub pokes_length : (cs : List Change) (base : List ℕ) → length (pokes base cs) ≡ length base
pokes_length [] base = refl
pokes_length (c ∷ cs) base = pokes_length cs (set base c.place c.value) ∙ length-set base c.place c.value

-- a place that no change names keeps its byte
pub pokes_others : (cs : List Change) (base : List ℕ) (i : ℕ) → ((c : Change) → In c cs → c.place ≡ i → ⊥)
    → get_or (pokes base cs) i 0 ≡ get_or base i 0
pokes_others [] base i h = refl
pokes_others (c ∷ cs) base i h =
    pokes_others cs (set base c.place c.value) i (λ d m. h d (inr m))
    ∙ get_or-set_other base c.place i c.value 0 (λ e. h c (inl refl) (sym e))

pub from_next : (cs : List Change) (next : ℕ) (c : Change) → Rising next cs → In c cs → next ≤ c.place
from_next [] next c r m = absurd m
from_next (d ∷ cs) next c r (inl e) =
    let q : c.place ≡ d.place = ap (λ (x : Change). x.place) e in
    omega (arith, r.0)
from_next (d ∷ cs) next c r (inr m) = omega (arith, r.0, from_next cs (d.place + 1) c r.1 m)

-- one that a change names has its value: no later change names it again
pub pokes_named : (cs : List Change) (base : List ℕ) (next : ℕ) (c : Change) → Rising next cs → Below (length base) cs → In c cs
    → get_or (pokes base cs) c.place 0 ≡ c.value
pokes_named [] base next c r b m = absurd m
pokes_named (d ∷ cs) base next c r b (inl e) =
    let q : c.place ≡ d.place = ap (λ (x : Change). x.place) e in
    pokes_others cs (set base d.place d.value) c.place
    (λ x m k.
    let l : d.place + 1 ≤ x.place = from_next cs (d.place + 1) x r.1 m in
    omega arith)
    ∙ ap (λ (i : ℕ). get_or (set base d.place d.value) i 0) q
    ∙ get_or-set_same base d.place d.value 0 b.0
    ∙ sym (ap (λ (x : Change). x.value) e)
pokes_named (d ∷ cs) base next c r b (inr m) =
    pokes_named cs (set base d.place d.value) (d.place + 1) c r.1
    (subst (λ (n : ℕ). Below n cs) (sym (length-set base d.place d.value)) b.1) m

-- Apply

-- what Apply gives over a base for a payload that these entries spell
pub record Landed (P : ℕ) (base : List ℕ) (es : List Spelt) (answer : Result Sound RefusedAt) (after : List ℕ) : Type 0 where
  -- "the number of entries it applied and the last position"
  pub numbers : answer ≡ Ok (record { entries = length es; last = last_place start (placed 0 es) })
  -- the last position is the place of the last entry
  pub last_at : (i : ℕ) → (last_place start (placed 0 es) ≡ pos i) ↔ LastOf (placed 0 es) i
  -- each value at its entry's place, in order
  pub page : after ≡ pokes (page_of P base) (placed 0 es)
  -- byte by byte: the places rise, each has its entry's value, and every other place the base's byte
  pub rising : Rising 0 (placed 0 es)
  pub named : (c : Change) → In c (placed 0 es) → get_or after c.place 0 ≡ c.value
  pub others : (i : ℕ) → ((c : Change) → In c (placed 0 es) → c.place ≡ i → ⊥) → get_or after i 0 ≡ get_or (page_of P base) i 0
  pub size : length after ≡ P

module _ (P : ℕ) (base payload page : List ℕ) (answer : Result Sound RefusedAt) (after : List ℕ) (call : Apply P base payload page answer after)
    (base_fits : (length base ≡ 0) ⊎ (length base ≡ P)) (page_fits : length page ≡ P) where
  fit : pages_fit P base page ≡ true
  fit = pages_fit_is P base page base_fits page_fits

  pub apply_lands : 1 ≤ length payload → length payload ≤ room → (w : Spelled P start payload) → Landed P base w.entries answer after
  apply_lands some few w =
      let es : List Spelt = w.entries in
      let d = apply_done_is P base payload page (apply_number P base payload page ∙ rw (fit, spelled_sound P payload some few w)) in
      let l : Lands 0 es (payload_stream P payload) = spelled_lands P payload w in
      let k : length (page_of P base) ≡ P = present_length P base page fit in
      let q : after ≡ pokes (page_of P base) (placed 0 es) = call.bytes ∙ d.1 ∙ l.page (page_of P base) in
      record {
        numbers =
            applied_one answer (Ok (record { entries = length es; last = last_place start (placed 0 es) }))
            (call.numbers ∙ d.0 ∙ (λ i. apply_done (l.count i) (l.last start i)));
        last_at = last_some 0 (placed 0 es) (placed_rising es 0);
        page = q;
        rising = placed_rising es 0;
        named =
            λ c m.
            ap (λ (x : List ℕ). get_or x c.place 0) q
            ∙ pokes_named (placed 0 es) (page_of P base) 0 c (placed_rising es 0)
            (subst (λ (n : ℕ). Below n (placed 0 es)) (sym k) (placed_below P es 0 w.stays)) m;
        others = λ i h. ap (λ (x : List ℕ). get_or x i 0) q ∙ pokes_others (placed 0 es) (page_of P base) i h;
        size = ap (λ (x : List ℕ). length x) q ∙ pokes_length (placed 0 es) (page_of P base) ∙ k;
      }

  -- and 7 where no entries spell it, with the offset at which they break off
  pub apply_seven : Bytes payload → (at : ℕ) → (answer ≡ refused_at Payload at) ↔ Unsound P payload at
  apply_seven h at = (λ e. go (sound P payload) refl e, λ u. refused ((unsound_iff P payload h at).1 u))
    where
      number : (t : Bool) → sound P payload ≡ t → first_of (apply_rows P base payload page) ≡ cond t 0 7
      number t e = apply_number P base payload page ∙ rw (fit, e)

      refused : (sound P payload ≡ false) × (at ≡ breaks_at P payload) → answer ≡ refused_at Payload at
      refused u =
          applied_one answer (refused_at Payload at)
          (call.numbers ∙ (apply_not P base payload page 6 (number false u.0)).0 ∙ ap (λ (o : ℕ). apply_refused 7 o) (sym u.1))

      go : (t : Bool) → sound P payload ≡ t → answer ≡ refused_at Payload at → Unsound P payload at
      go true s e =
          let z : ◌≡◌ {A = ℕ} 7 0 =
          ap (λ (a : Result Sound RefusedAt). (applied_numbers a).number) (sym e)
          ∙ ap (λ (x : AppliedNumbers). x.number) (call.numbers ∙ (apply_done_is P base payload page (number true s)).0) in
          absurd (omega arith)
      go false s e =
          (unsound_iff P payload h at).0 (
            s,
            ap (λ (a : Result Sound RefusedAt). (applied_numbers a).offset) (sym e)
                ∙ ap (λ (x : AppliedNumbers). x.offset) (call.numbers ∙ (apply_not P base payload page 6 (number false s)).0),
          )
