-- What one turn of each loop over a payload gives, over plain lists.
use Prim.Native.Nat.{ℕ, suc, ◌+◌, ◌-◌, ◌≤◌, ◌<◌}
use native.Mathlib.Omega.{arith}
use mathlib.Core.Path.{◌≡◌, refl, sym, ap, ◌∙◌, subst}
use mathlib.Core.Bool.{Bool, true, false, ◌&&◌, and-false, false≢true}
use mathlib.Core.List.{List, [], ◌∷◌}
use lib.Dec.{leb, ltb, eqb, T}
use lib.ListN.{length, drop, get_or, set, length-set}
use lib.IntN.{ℤ, pos, negsuc, nat_abs}
use lib.Signed.{non_neg}
use mir.Syntax.{w32, w64}
use mir.Val.{Fits, SFits, to_z, of_z}
use mir.ValLaws.{to_z-of_z}
use borrow.Author.Tests.{le-leb, lt-leb, ltb-true, ltb-false, eqb-true, eqb-false}
use Rattle.layout.specs.Sizes.{room}
use Rattle.payload.specs.Entries.{Stream, done, unsound, code, in_page, stream, start, payload_stream, whole, sound}
use Rattle.payload.specs.Entries.{entries, last, used, breaks_at, put, applied}
use Rattle.payload.specs.Positions.{before, before_next}
use Rattle.payload.specs.Steps.{Follows, Entered, Laid, LaysTo, Lays, code_at, Over}
use Rattle.payload.specs.StepLaws.{SoundAs, UnsoundAt}
use Rattle.payload.specs.declared.Step.{Step}
use Rattle.payload.specs.declared.reached.Reached.{Reached}
use Rattle.payload.proofs.Reading.{at_end, cut}

-- A step's answer from a position that the code found.
pub told : (n : ℕ) (payload : List ℕ) (place : ℕ) (p p' : ℤ) (r : Step) → p' ≡ p → Follows n payload place (stream n p' code (drop place payload)) r
    → Follows n payload place (stream n p code (drop place payload)) r
told n payload place p p' r e s = subst (λ (z : ℤ). Follows n payload place (stream n z code (drop place payload)) r) e s

-- A place in the page is a signed 32-bit number, and an index.
pub place_is : (n : ℕ) (q : ℤ) → in_page n q ≡ true → q ≡ pos (nat_abs q)
unfolding in_page
place_is n (pos k) e = refl
place_is n (negsuc k) e = absurd (false≢true e)

pub place_in : (n : ℕ) (q : ℤ) → in_page n q ≡ true → nat_abs q < n
unfolding in_page
place_in n (pos k) e = ltb-true k n e
place_in n (negsuc k) e = absurd (false≢true e)

pub place_fits : (n : ℕ) (q : ℤ) → n ≤ 65536 → in_page n q ≡ true → SFits w32 q
place_fits n q h e =
    let k : nat_abs q < n = place_in n q e in
    subst (SFits w32) (sym (place_is n q e)) (record { sfits = omega arith })

pub place_back : (n : ℕ) (q : ℤ) → n ≤ 65536 → in_page n q ≡ true → to_z w32 (of_z w32 q) ≡ q
place_back n q h e = to_z-of_z w32 q (place_fits n q h e)

-- an index that the code reads back from a place's bits
pub index_is : (n : ℕ) (q : ℤ) → n ≤ 65536 → in_page n q ≡ true → pos (nat_abs (to_z w32 (of_z w32 q))) ≡ q
index_is n q h e = ap (λ (z : ℤ). pos (nat_abs z)) (place_back n q h e) ∙ sym (place_is n q e)

pub index_in : (n : ℕ) (q : ℤ) → n ≤ 65536 → in_page n q ≡ true → nat_abs (to_z w32 (of_z w32 q)) < n
index_in n q h e =
    let f : nat_abs (to_z w32 (of_z w32 q)) ≡ nat_abs q = ap nat_abs (place_back n q h e) in
    omega (arith, place_in n q e)

pub index_fits : (n : ℕ) (q : ℤ) → n ≤ 65536 → in_page n q ≡ true → T (non_neg (to_z w32 (of_z w32 q))) × Fits w64 (nat_abs (to_z w32 (of_z w32 q)))
index_fits n q h e =
    let b : to_z w32 (of_z w32 q) ≡ pos (nat_abs q) = place_back n q h e ∙ place_is n q e in
    (subst (λ (z : ℤ). T (non_neg z)) (sym b) tt, record { fits = omega (arith, index_in n q h e) })

-- The check: what is known after the entries before `place`.
pub record Passed (n : ℕ) (payload : List ℕ) (place : ℕ) (p : ℤ) (count : ℕ) : Type 0 where
  pub on : place ≤ length payload
  pub few : count ≤ place
  pub wholly : whole (payload_stream n payload) ≡ whole (stream n p code (drop place payload))
  pub many : entries (payload_stream n payload) ≡ count + entries (stream n p code (drop place payload))
  pub final : last start (payload_stream n payload) ≡ last p (stream n p code (drop place payload))
  pub far : used (payload_stream n payload) ≡ place + used (stream n p code (drop place payload))

pub passed_none : (n : ℕ) (payload : List ℕ) → Passed n payload 0 start 0
passed_none n payload = record { on = omega arith; few = omega arith; wholly = refl; many = omega arith; final = refl; far = omega arith }

module _ (n : ℕ) (payload : List ℕ) (place : ℕ) (p : ℤ) (count : ℕ) (h : Passed n payload place p count) where
  pub passed_more : (q r : ℤ) (v next : ℕ) → r ≡ q → Entered n payload place (stream n p code (drop place payload)) q v next
      → Passed n payload next r (count + 1)
  unfolding whole entries last used
  passed_more q r v next e m =
      subst (λ (z : ℤ). Passed n payload next z (count + 1)) (sym e)
      (record {
        on = m.within;
        few = omega (arith, m.on, h.few);
        wholly = h.wholly ∙ ap (λ (s : Stream). whole s) m.is;
        many =
            let f : entries (stream n p code (drop place payload)) ≡ suc (entries (stream n q code (drop next payload))) = ap (λ (s : Stream). entries s)
            m.is in
            omega (arith, h.many);
        final = h.final ∙ ap (λ (s : Stream). last p s) m.is;
        far =
            let f : used (stream n p code (drop place payload)) ≡ (next - place) + used (stream n q code (drop next payload)) = ap (λ (s : Stream). used s)
            m.is in
            omega (arith, h.far, m.on);
      })

  pub passed_all : 1 ≤ length payload → length payload ≤ 504 → stream n p code (drop place payload) ≡ done → SoundAs n payload count p
  unfolding sound whole entries last
  passed_all k l e =
      let f : whole (payload_stream n payload) ≡ true = h.wholly ∙ ap (λ (s : Stream). whole s) e in
      let g : entries (stream n p code (drop place payload)) ≡ 0 = ap (λ (s : Stream). entries s) e in
      record {
        is = rw (le-leb 1 (length payload) k, le-leb (length payload) room l, f);
        entries = omega (arith, h.many);
        last = sym (h.final ∙ ap (λ (s : Stream). last p s) e);
      }

  pub passed_broken : length payload ≤ 504 → stream n p code (drop place payload) ≡ unsound → UnsoundAt n payload place
  unfolding sound whole breaks_at used
  passed_broken l e =
      let f : whole (payload_stream n payload) ≡ false = h.wholly ∙ ap (λ (s : Stream). whole s) e in
      let g : used (stream n p code (drop place payload)) ≡ 0 = ap (λ (s : Stream). used s) e in
      let k : place ≡ used (payload_stream n payload) = omega (arith, h.far) in
      record {
        is = ap (λ (t : Bool). leb 1 (length payload) && leb (length payload) room && t) f ∙ and-false (leb 1 (length payload) && leb (length payload) room);
        at = rw (le-leb (length payload) room l) k;
      }

-- at a place that was told by equations
pub passed_at : (n : ℕ) (payload : List ℕ) (place next count : ℕ) → Passed n payload place (before next) count
    → (r : Reached) → r.place ≡ place → r.next ≡ next → Passed n payload r.place (before r.next) count
passed_at n payload place next count h r e f =
    subst (λ (x : ℕ). Passed n payload x (before r.next) count) (sym e) (subst (λ (x : ℕ). Passed n payload place (before x) count) (sym f) h)

pub unsound_empty : (n : ℕ) (payload : List ℕ) → length payload ≡ 0 → UnsoundAt n payload 0
unfolding sound breaks_at used stream
unsound_empty n [] e = record { is = refl; at = refl }
unsound_empty n (b ∷ bs) e = absurd (omega arith)

pub unsound_long : (n : ℕ) (payload : List ℕ) → 504 < length payload → UnsoundAt n payload 0
unfolding sound breaks_at
unsound_long n payload h = record {
  is = rw (lt-leb (length payload) room h, le-leb 1 (length payload) (omega arith));
  at = rw (lt-leb (length payload) room h);
}

-- The overlay

pub laid_none : (n : ℕ) (page payload : List ℕ) → Laid n page payload page 0 start
laid_none n page payload = record { on = omega arith; same = refl; still = refl }

laid_more : (n : ℕ) (page₀ payload page : List ℕ) (place : ℕ) (p : ℤ) → Laid n page₀ payload page place p
    → (at v to : ℕ) → Entered n payload place (stream n p code (drop place payload)) (pos at) v to → Laid n page₀ payload (set page at v) to (before (at + 1))
unfolding applied put
laid_more n page₀ payload page place p h at v to m =
    subst (Laid n page₀ payload (set page at v) to) (sym (before_next at))
    (record { on = m.within; same = length-set page at v ∙ h.same; still = h.still ∙ ap (λ (s : Stream). applied page s) m.is })

-- what its loops lay: nothing yet, an entry more, and one after the other
pub lays_none : (n : ℕ) (payload page : List ℕ) (from : Reached) → from.place ≤ length payload
    → LaysTo n payload page from page from.place from.next
lays_none n payload page from h = record { on = omega arith; within = h; same = refl; still = λ e. refl; laid = λ page₀ w. w }

pub lays_more : (n : ℕ) (payload page : List ℕ) (from : Reached) (page₁ : List ℕ) (place next : ℕ)
    → LaysTo n payload page from page₁ place next → (at v to : ℕ) → Entered n payload place (stream n (before next) code (drop place payload)) (pos at) v to
    → LaysTo n payload page from (set page₁ at v) to (at + 1)
lays_more n payload page from page₁ place next h at v to e = record {
  on = omega (arith, h.on, e.on);
  within = e.within;
  same = length-set page₁ at v ∙ h.same;
  still = λ q. absurd (omega (arith, h.on, e.on, q));
  laid = λ page₀ w. laid_more n page₀ payload page₁ place (before next) (h.laid page₀ w) at v to e;
}

pub lays_then : (n : ℕ) (payload page : List ℕ) (from : Reached) (page₁ : List ℕ) (s : Reached) (page₂ : List ℕ) (place next : ℕ)
    → Lays n payload page from page₁ s → LaysTo n payload page₁ s page₂ place next → LaysTo n payload page from page₂ place next
lays_then n payload page from page₁ s page₂ place next f g = record {
  on = omega (arith, f.on, g.on);
  within = g.within;
  same = g.same ∙ f.same;
  still = λ e. g.still (omega (arith, f.on, g.on, e)) ∙ f.still (omega (arith, f.on, g.on, e));
  laid = λ page₀ w. g.laid page₀ (f.laid page₀ w);
}

pub lays_at : (n : ℕ) (payload page : List ℕ) (from : Reached) (page₁ : List ℕ) (place next : ℕ)
    → LaysTo n payload page from page₁ place next → (r : Reached) → r.place ≡ place → r.next ≡ next → Lays n payload page from page₁ r
lays_at n payload page from page₁ place next h r e f =
    subst (λ (x : ℕ). LaysTo n payload page from page₁ x r.next) (sym e) (subst (LaysTo n payload page from page₁ place) (sym f) h)

-- where the stream lays nothing more: at an unsound entry, and with one byte left or none
module _ (n : ℕ) (payload : List ℕ) (r : Reached) where
  pub over_broken : stream n (before r.next) code (drop r.place payload) ≡ unsound → Over n payload r
  unfolding applied
  over_broken e page = ap (λ (s : Stream). applied page s) e

  over_done : stream n (before r.next) code (drop r.place payload) ≡ done → Over n payload r
  unfolding applied
  over_done e page = ap (λ (s : Stream). applied page s) e

  pub over_few : length payload ≤ r.place + 1 → Over n payload r
  over_few h = go (ltb r.place (length payload)) refl
    where
      go : (t : Bool) → ltb r.place (length payload) ≡ t → Over n payload r
      go true e = over_broken (cut payload r.place n (before r.next) (ltb-true r.place (length payload) e) (omega arith))
      go false e = over_done (at_end payload r.place n (before r.next) (ltb-false r.place (length payload) e))

-- neither loop moved
pub over_both : (n : ℕ) (payload : List ℕ) (s r : Reached) → r.place ≡ s.place → r.next ≡ s.next
    → ((code_at payload s ≡ 255 → ⊥) → Over n payload s) → (code_at payload r ≡ 255 → Over n payload r) → Over n payload r
over_both n payload s r e f g h = go (eqb (code_at payload r) 255) refl
  where
    go : (t : Bool) → eqb (code_at payload r) 255 ≡ t → Over n payload r
    go true q = h (eqb-true (code_at payload r) 255 q)
    go false q = λ page.
        ap (λ (x : ℕ). applied page (stream n (before x) code (drop r.place payload))) f
        ∙ ap (λ (x : ℕ). applied page (stream n (before s.next) code (drop x payload))) e
        ∙ g (λ z. eqb-false (code_at payload r) 255 q (ap (λ (x : ℕ). get_or payload x 0) e ∙ z)) page

-- what the overlay has made of the page there
pub laid_over : (n : ℕ) (page₀ payload page : List ℕ) (r : Reached) → Laid n page₀ payload page r.place (before r.next) → Over n payload r
    → page ≡ applied page₀ (payload_stream n payload)
laid_over n page₀ payload page r h o = sym (h.still ∙ o page)
