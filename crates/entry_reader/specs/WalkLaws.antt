-- What is known of a reader after k steps: a law for each step, so that the theorems of `Reads.antt` follow from where it stands.
use Prim.Native.Nat.{ℕ, zero, suc, ◌+◌, ◌≤◌, ◌<◌}
use Rattle.std.proofs.Common.{arith, ◌∙◌}
use Rattle.std.proofs.Math.Path.{◌≡◌, refl, sym, ap, subst}
use Rattle.std.specs.Prelude.{true, false, cond, length, take, ℤ, pos, negsuc}
use mathlib.Core.List.{List, [], ◌∷◌, ◌++◌, append-nil}
use Rattle.std.proofs.Math.ListN.{drop, get_or, drop_of_length-le}
use Rattle.std.proofs.Math.Seq.{drop-cons}
use Rattle.payload.specs.Entries.{Stream, done, unsound, entry, in_page, start, payload_stream, whole, used, sound, breaks_at}
use Rattle.payload.specs.Listing.{Listed, listed}
use Rattle.entry_reader.specs.Turns.{roomy, stands, left, turn_of, turn_at}
use Rattle.entry_reader.specs.TurnLaws.{turn_read}
use Rattle.entry_reader.specs.Walk.{standing_by, given_by, standing, finds, entry_of, given, ending}
use Rattle.payload.specs.RestLaws.{After, after_entry}
use Rattle.entry_reader.specs.FitLaws.{ends_whole, ends_broken, at_whole, at_broken}
use Rattle.entry_reader.specs.declared.Found.{Found}
use Rattle.entry_reader.specs.declared.Found.TheVariants.{Entry, End, Stopped}
use Rattle.entry_reader.specs.declared.Turn.{Turn}

-- One more of a list

taken : (xs : List Listed) (k : ℕ) (e : Listed) (es : List Listed) → drop k xs ≡ e ∷ es → take (suc k) xs ≡ take k xs ++ (e ∷ [])
taken [] zero e es h = let z : ◌≡◌ {A = ℕ} 0 1 = cc in absurd (omega arith)
taken [] (suc k) e es h = let z : ◌≡◌ {A = ℕ} 0 1 = cc in absurd (omega arith)
taken (x ∷ xs) zero e es h = let s : x ≡ e = cc in ap (λ (y : Listed). y ∷ []) s
taken (x ∷ xs) (suc k) e es h = ap (λ (l : List Listed). x ∷ l) (taken xs k e es h)

dropped : (xs : List Listed) (k : ℕ) (e : Listed) (es : List Listed) → drop k xs ≡ e ∷ es → drop (suc k) xs ≡ es
dropped [] zero e es h = let z : ◌≡◌ {A = ℕ} 0 1 = cc in absurd (omega arith)
dropped [] (suc k) e es h = let z : ◌≡◌ {A = ℕ} 0 1 = cc in absurd (omega arith)
dropped (x ∷ xs) zero e es h = cc
dropped (x ∷ xs) (suc k) e es h = dropped xs k e es h

taken_all : (xs : List Listed) (k : ℕ) → drop k xs ≡ [] → take (suc k) xs ≡ take k xs
taken_all [] zero h = refl
taken_all [] (suc k) h = refl
taken_all (x ∷ xs) zero h = let z : ◌≡◌ {A = ℕ} 0 1 = cc in absurd (omega arith)
taken_all (x ∷ xs) (suc k) h = ap (λ (l : List Listed). x ∷ l) (taken_all xs k h)

dropped_all : (xs : List Listed) (k : ℕ) → drop k xs ≡ [] → drop (suc k) xs ≡ []
dropped_all [] zero h = refl
dropped_all [] (suc k) h = refl
dropped_all (x ∷ xs) zero h = let z : ◌≡◌ {A = ℕ} 0 1 = cc in absurd (omega arith)
dropped_all (x ∷ xs) (suc k) h = dropped_all xs k h

-- A place in the page is one where a reader can stand.
lands_stands : (n : ℕ) (q : ℤ) → in_page n q ≡ true → stands n q ≡ true
unfolding in_page stands
lands_stands n (pos k) e = e
lands_stands n (negsuc k) e = let z : ◌≡◌ {A = ℕ} 0 1 = cc in absurd (omega arith)

-- What is known of a reader of a payload of 1 to 504 bytes after k steps, which gave `so`.
pub record Gone (n : ℕ) (payload : List ℕ) (k at : ℕ) (position : ℤ) (so : List Listed) : Type 0 where
  pub can : stands n position ≡ true
  pub front : so ≡ take k (listed (payload_stream n payload))
  pub back : listed (left n payload at position) ≡ drop k (listed (payload_stream n payload))
  pub far : at + used (left n payload at position) ≡ used (payload_stream n payload)
  pub wholly : whole (left n payload at position) ≡ whole (payload_stream n payload)

gone_none : (n : ℕ) (payload : List ℕ) → Gone n payload 0 0 start []
unfolding stands
gone_none n payload = record { can = refl; front = refl; back = refl; far = omega arith; wholly = refl }

module _ (n : ℕ) (payload : List ℕ) (fits : roomy payload ≡ true) where
  -- a step that gives no entry changes nothing
  no_more : (k at : ℕ) (position : ℤ) (so : List Listed) (f : Found) → Gone n payload k at position so
      → listed (left n payload at position) ≡ [] → entry_of f ≡ []
      → Gone n payload (suc k) at position (so ++ entry_of f)
  no_more k at position so f g e h =
      let none : drop k (listed (payload_stream n payload)) ≡ [] = sym g.back ∙ e in
      record {
        can = g.can;
        front =
            ap (λ (l : List Listed). so ++ l) h
            ∙ append-nil so
            ∙ g.front
            ∙ sym (taken_all (listed (payload_stream n payload)) k none);
        back = e ∙ sym (dropped_all (listed (payload_stream n payload)) k none);
        far = g.far;
        wholly = g.wholly;
      }

  -- and one that gives an entry goes on after it
  one_more : (k at : ℕ) (position : ℤ) (so : List Listed) → Gone n payload k at position so → (w : ℕ) (q : ℤ) (v : ℕ) (rest : Stream)
      → left n payload at position ≡ entry w q v rest
      → Gone n payload (suc k) (at + w) q (so ++ (record { position = q; value = v } ∷ []))
  unfolding listed used whole
  one_more k at position so g w q v rest e =
      let a : After n payload at w q rest = after_entry n payload at position w q v rest e in
      let first : Listed = record { position = q; value = v } in
      let next : drop k (listed (payload_stream n payload)) ≡ first ∷ listed rest = sym g.back ∙ ap (λ (s : Stream). listed s) e in
      let u : used (left n payload at position) ≡ w + used rest = ap (λ (s : Stream). used s) e in
      let u' : used rest ≡ used (left n payload (at + w) q) = ap (λ (s : Stream). used s) a.then in
      record {
        can = lands_stands n q a.lands;
        front =
            ap (λ (l : List Listed). l ++ (first ∷ [])) g.front
            ∙ sym (taken (listed (payload_stream n payload)) k first (listed rest) next);
        back =
            sym (ap (λ (s : Stream). listed s) a.then)
            ∙ sym (dropped (listed (payload_stream n payload)) k first (listed rest) next);
        far = omega (arith, g.far);
        wholly = sym (ap (λ (s : Stream). whole s) a.then) ∙ sym (ap (λ (s : Stream). whole s) e) ∙ g.wholly;
      }

  gone_more : (k at : ℕ) (position : ℤ) (so : List Listed) → Gone n payload k at position so
      → Gone n payload (suc k) (turn_at n payload at position).at (turn_at n payload at position).position
      (so ++ entry_of (turn_at n payload at position).found)
  unfolding turn_of listed
  gone_more k at position so g =
      subst (λ (t : Turn). Gone n payload (suc k) t.at t.position (so ++ entry_of t.found))
      (sym (turn_read n payload at position fits g.can))
      (go (left n payload at position) refl)
    where
      go : (s : Stream) → left n payload at position ≡ s
          → Gone n payload (suc k) (turn_of at position s).at (turn_of at position s).position (so ++ entry_of (turn_of at position s).found)
      go done e = no_more k at position so End g (ap (λ (s : Stream). listed s) e) refl
      go unsound e = no_more k at position so (Stopped at) g (ap (λ (s : Stream). listed s) e) refl
      go (entry w q v rest) e = one_more k at position so g w q v rest e

  pub gone : (k : ℕ) → Gone n payload k (standing n payload k).at (standing n payload k).position (given n payload k)
  unfolding standing_by given_by
  gone zero = gone_none n payload
  gone (suc k) = gone_more k (standing n payload k).at (standing n payload k).position (given n payload k) (gone k)

  -- so step k finds the next entry, or what comes after the last
  module _ (k : ℕ) where
    abbrev pub here : ℕ
    here = (standing n payload k).at

    abbrev rest : Stream
    rest = left n payload (standing n payload k).at (standing n payload k).position

    found : finds n payload k ≡ (turn_of here (standing n payload k).position rest).found
    found = ap (λ (t : Turn). t.found) (turn_read n payload here (standing n payload k).position fits (gone k).can)

    pub fit_each : (d : Listed) → k < length (listed (payload_stream n payload))
        → finds n payload k
        ≡ Entry (get_or (listed (payload_stream n payload)) k d).position (get_or (listed (payload_stream n payload)) k d).value
    unfolding turn_of listed
    fit_each d h = found ∙ go rest ((gone k).back ∙ drop-cons (listed (payload_stream n payload)) k d h)
      where
        go : (s : Stream)
            → listed s ≡ get_or (listed (payload_stream n payload)) k d ∷ drop (suc k) (listed (payload_stream n payload))
            → (turn_of here (standing n payload k).position s).found
            ≡ Entry (get_or (listed (payload_stream n payload)) k d).position (get_or (listed (payload_stream n payload)) k d).value
        go done e = let z : ◌≡◌ {A = ℕ} 0 1 = cc in absurd (omega arith)
        go unsound e = let z : ◌≡◌ {A = ℕ} 0 1 = cc in absurd (omega arith)
        go (entry w q v r) e =
            let f : record { position = q; value = v } ≡ get_or (listed (payload_stream n payload)) k d = cc in
            ap (λ (x : Listed). Entry x.position x.value) f

    -- after the last entry
    abbrev pub Last : Type 0
    Last = (finds n payload k ≡ ending n payload) × (here ≡ cond (sound n payload) (length payload) (breaks_at n payload))

    far : used rest ≡ 0 → here ≡ used (payload_stream n payload)
    far u = omega (arith, (gone k).far)

    last_whole : whole rest ≡ true → used rest ≡ 0 → finds n payload k ≡ End → Last
    last_whole w u f =
        let all : whole (payload_stream n payload) ≡ true = sym (gone k).wholly ∙ w in
        (f ∙ sym (ends_whole n payload fits all), at_whole n payload fits here all (far u))

    last_broken : whole rest ≡ false → used rest ≡ 0 → finds n payload k ≡ Stopped here → Last
    last_broken w u f =
        let some : whole (payload_stream n payload) ≡ false = sym (gone k).wholly ∙ w in
        (f ∙ sym (ends_broken n payload fits here some (far u)), at_broken n payload fits here some (far u))

    pub fit_ends : length (listed (payload_stream n payload)) ≤ k → Last
    unfolding turn_of listed whole used
    fit_ends h = go rest refl
      where
        none : listed rest ≡ []
        none = (gone k).back ∙ drop_of_length-le (listed (payload_stream n payload)) h

        found_in : (s : Stream) → rest ≡ s → finds n payload k ≡ (turn_of here (standing n payload k).position s).found
        found_in s e = found ∙ ap (λ (x : Stream). (turn_of here (standing n payload k).position x).found) e

        go : (s : Stream) → rest ≡ s → Last
        go done e = last_whole (ap (λ (x : Stream). whole x) e) (ap (λ (x : Stream). used x) e) (found_in done e)
        go unsound e = last_broken (ap (λ (x : Stream). whole x) e) (ap (λ (x : Stream). used x) e) (found_in unsound e)
        go (entry w q v r) e =
            let c : record { position = q; value = v } ∷ listed r ≡ [] = sym (ap (λ (x : Stream). listed x) e) ∙ none in
            let z : ◌≡◌ {A = ℕ} 0 1 = cc in
            absurd (omega arith)
