-- What the writer leaves in its room, over plain lists.
use Prim.Native.Nat.{ℕ, suc, ◌+◌, ◌-◌, ◌/◌, ◌%◌, ◌≤◌, ◌<◌}
use native.Mathlib.Omega.{arith}
use native.Mathlib.Decide.{dec_lt}
use native.Mathlib.Numerals.{add-one}
use mathlib.Core.Path.{◌≡◌, refl, sym, ap, ◌∙◌, subst}
use mathlib.Core.Bool.{Bool, cond}
use mathlib.Core.Logic.{◌⊎◌}
use mathlib.Core.List.{List, [], ◌∷◌, ◌++◌, append_assoc, append-nil}
use lib.ListN.{length, take, get_or, set, length-append, length-take}
use lib.Seq.{sets, set_out, take-append-le, take_all, take-nil, length-sets}
use borrow.Author.Tests.{lt-ltb, le-ltb}
use Rattle.std.proofs.lemmas.List.{take-take}
use Rattle.span.specs.Bytes.{part, splice, Put}
use Rattle.span.specs.Laws.{splice_more, splice_length, splice_none}
use Rattle.differ.specs.Differ.{next_diff}
use Rattle.layout.specs.Numbers.{le}
use Rattle.payload.specs.Entries.{start}
use Rattle.payload.specs.Steps.{farthest}
use Rattle.writer.specs.Differences.{Change, diffs, spelled, coded, written, last_place}
use Rattle.writer.specs.Steps.{near, shared, rest, Stored, Numbers, Differs}
use Rattle.writer.specs.declared.Difference.{Difference}
use Rattle.writer.proofs.Counting.{diffs_cut, rest_ends, rest_more}

-- One entry

pub put_short : (room a b : List ℕ) (used jump v : ℕ) → jump < 255 → a ≡ set room used jump → b ≡ set a (used + 1) v
    → Put room used (spelled jump v) (used + 2) b
unfolding spelled
put_short room a b used jump v h e f =
    let s : spelled jump v ≡ jump ∷ v ∷ [] = ap (λ (t : Bool). cond t (jump ∷ v ∷ []) (255 ∷ (le 2 jump ++ (v ∷ [])))) (lt-ltb jump 255 h) in
    subst (λ (ys : List ℕ). Put room used ys (used + 2) b) (sym s)
    (record { next = refl; bytes = f ∙ ap (λ (l : List ℕ). set l (used + 1) v) e ∙ ap (λ (k : ℕ). set (set room used jump) k v) (add-one used) })

pub put_long : (room a b d g : List ℕ) (used jump v : ℕ) → 255 ≤ jump → a ≡ set room used 255 → b ≡ set a (used + 1) (jump % 256)
    → d ≡ set b (used + 2) (jump / 256 % 256)
    → g ≡ set d (used + 3) v → Put room used (spelled jump v) (used + 4) g
unfolding spelled le
put_long room a b d g used jump v h e₁ e₂ e₃ e₄ =
    let s : spelled jump v ≡ 255 ∷ (jump % 256) ∷ (jump / 256 % 256) ∷ v ∷ [] =
    ap (λ (t : Bool). cond t (jump ∷ v ∷ []) (255 ∷ (le 2 jump ++ (v ∷ [])))) (le-ltb jump 255 h) in
    let q₁ : used + 1 ≡ suc used = add-one used in
    let q₂ : used + 2 ≡ suc (suc used) = omega arith in
    let q₃ : used + 3 ≡ suc (suc (suc used)) = omega arith in
    subst (λ (ys : List ℕ). Put room used ys (used + 4) g) (sym s)
    (record {
      next = refl;
      bytes =
          e₄
          ∙ ap (λ (l : List ℕ). set l (used + 3) v) e₃
          ∙ ap (λ (l : List ℕ). set (set l (used + 2) (jump / 256 % 256)) (used + 3) v) e₂
          ∙ ap (λ (l : List ℕ). set (set (set l (used + 1) (jump % 256)) (used + 2) (jump / 256 % 256)) (used + 3) v) e₁
          ∙ (λ i. set (set (set (set room used 255) (q₁ i) (jump % 256)) (q₂ i) (jump / 256 % 256)) (q₃ i) v);
    })

-- A room with as much of a stream as it holds takes the next bytes

abbrev stored : List ℕ → List ℕ → List ℕ
stored room w = splice room 0 (take (length room) w)

store_one : (room w : List ℕ) (k v : ℕ) → k ≡ length w → set (stored room w) k v ≡ stored room (w ++ (v ∷ []))
store_one room w k v e =
    let m : length (w ++ (v ∷ [])) ≡ length w + 1 = length-append w (v ∷ []) in
    elim (dec_lt k (length room)) [
      | yes h ↦
          let t : take (length room) w ≡ w = take_all (length room) w (omega arith) in
          let t' : take (length room) (w ++ (v ∷ [])) ≡ w ++ (v ∷ []) = take_all (length room) (w ++ (v ∷ [])) (omega arith) in
          let q : k ≡ 0 + length w = omega arith in
          ap (λ (l : List ℕ). set (splice room 0 l) k v) t
          ∙ ap (λ (j : ℕ). set (splice room 0 w) j v) q
          ∙ splice_more room 0 w v (omega arith)
          ∙ ap (λ (l : List ℕ). splice room 0 l) (sym t')
      | no h ↦
          let l : length (stored room w) ≡ length room = splice_length room 0 (take (length room) w) (simp length-take (omega arith)) in
          set_out (stored room w) k v (omega arith) ∙ ap (λ (l : List ℕ). splice room 0 l) (sym (take-append-le (length room) w (v ∷ []) (omega arith)))
    ]

store_more : (ys room w : List ℕ) (k : ℕ) → k ≡ length w → sets (stored room w) k ys ≡ stored room (w ++ ys)
store_more [] room w k e = ap (λ (l : List ℕ). stored room l) (sym (append-nil w))
store_more (y ∷ ys) room w k e =
    let m : length (w ++ (y ∷ [])) ≡ length w + 1 = length-append w (y ∷ []) in
    ap (λ (l : List ℕ). sets l (suc k) ys) (store_one room w k y e)
    ∙ store_more ys room (w ++ (y ∷ [])) (suc k) (omega arith)
    ∙ ap (λ (l : List ℕ). stored room l) (append_assoc w (y ∷ []) ys)

-- What is stored

pub stored_none : (base page room : List ℕ) → Stored base page room room 0 0
unfolding written
stored_none base page room = record {
  spelt = [];
  size = refl;
  kept = refl;
  stream = refl;
  bytes = sym (ap (λ (l : List ℕ). splice room 0 l) (take-nil (length room)) ∙ splice_none room 0 (omega arith));
}

module _ (base page room₀ room : List ℕ) (next used : ℕ) (w : Stored base page room₀ room next used) where
  -- there is no room left: the rest is only counted
  pub stored_full : (d : Difference) → length room ≤ used → Numbers base page d → Differs base page room₀ d room
  stored_full d h n = record {
    numbers = n;
    bytes =
        w.bytes
        ∙ ap (λ (l : List ℕ). splice room₀ 0 l)
        (sym
        (ap (λ (l : List ℕ). take (length room₀) l) w.stream
        ∙ take-append-le (length room₀) w.spelt (coded next (rest base page next)) (omega (arith, w.kept, w.size))));
  }

  module _ (at : ℕ) (e : at ≡ next_diff base page next) where
    -- a difference more
    pub stored_more : (used' : ℕ) (room' : List ℕ) → at < length base → at < length page → Put room used (spelled (at - next) (get_or page at 0)) used' room'
        → Stored base page room₀ room' (at + 1) used'
    unfolding coded
    stored_more used' room' l m p =
        let s : List ℕ = spelled (at - next) (get_or page at 0) in
        let r : rest base page next ≡ record { place = at; value = get_or page at 0 } ∷ rest base page (at + 1) = rest_more base page next at e l m in
        let x : length (w.spelt ++ s) ≡ length w.spelt + length s = length-append w.spelt s in
        let b : room' ≡ stored room₀ (w.spelt ++ s) =
        p.bytes ∙ ap (λ (l : List ℕ). sets l used s) w.bytes ∙ store_more s room₀ w.spelt used w.size in
        let t : length (sets room used s) ≡ length room = length-sets room used s in
        let z : length room' ≡ length (sets room used s) = ap (λ (l : List ℕ). length l) p.bytes in
        record {
          spelt = w.spelt ++ s;
          size = omega (arith, w.size, p.next);
          kept = omega (arith, w.kept);
          stream =
              w.stream
              ∙ ap (λ (ds : List Change). w.spelt ++ coded next ds) r
              ∙ sym (append_assoc w.spelt s (coded (at + 1) (rest base page (at + 1))));
          bytes = b;
        }

    -- no difference more
    pub stored_all : (d : Difference) → (length base ≤ at) ⊎ (length page ≤ at) → Numbers base page d → Differs base page room₀ d room
    unfolding coded
    stored_all d k n =
        let r : rest base page next ≡ [] = rest_ends base page next at e k in
        let s : written base page ≡ w.spelt = w.stream ∙ ap (λ (ds : List Change). w.spelt ++ coded next ds) r ∙ append-nil w.spelt in
        record { numbers = n; bytes = w.bytes ∙ ap (λ (l : List ℕ). stored room₀ l) (sym s) }

-- What both pages do not share within the writer's reach does not count

module _ (base page : List ℕ) where
  abbrev n : ℕ
  n = shared base page

  shared_diffs : diffs 0 (take n base) (take n page) ≡ diffs 0 base (near page)
  unfolding part
  shared_diffs =
      ap (λ (ys : List ℕ). diffs 0 (take n base) ys) (sym (take-take n farthest page (omega arith)))
      ∙ diffs_cut n 0 base (near page) (simp length-take (omega arith))

  shared_written : written (take n base) (take n page) ≡ written base (near page)
  unfolding written
  shared_written = ap (λ (ds : List Change). coded 0 ds) shared_diffs

  pub differs_cut : (b p room₀ room : List ℕ) (d : Difference) → b ≡ take n base → p ≡ take n page → Differs b p room₀ d room
      → Differs base (near page) room₀ d room
  differs_cut b p room₀ room d e f w =
      let ds : diffs 0 b p ≡ diffs 0 base (near page) = (λ i. diffs 0 (e i) (f i)) ∙ shared_diffs in
      let bytes : written b p ≡ written base (near page) = (λ i. written (e i) (f i)) ∙ shared_written in
      record {
        numbers =
            record {
              length = w.numbers.length ∙ ap (λ (l : List ℕ). length l) bytes;
              entries = w.numbers.entries ∙ ap (λ (l : List Change). length l) ds;
              last = w.numbers.last ∙ ap (λ (l : List Change). last_place start l) ds;
            };
        bytes = w.bytes ∙ ap (λ (l : List ℕ). splice room₀ 0 (take (length room₀) l)) bytes;
      }
