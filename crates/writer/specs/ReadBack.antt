-- Applying the writer's stream to the base gives the page, with the writer's own numbers, in pages up to 65,536 bytes.
use Rattle.std.specs.Prelude.{ℕ, suc, ◌+◌, ◌-◌, ◌≤◌, ◌≡◌, refl, Bool, true, false, List, [], ◌∷◌, ◌++◌, eqb, length, set, ℤ, pos, ◌+ℤ◌}
use Rattle.std.proofs.Common.{arith, sym, ap, ◌∙◌, append_assoc, length-append, eqb-true, lt-ltb}
use Rattle.std.proofs.lemmas.List.{set_at}
use Rattle.layout.specs.Sizes.{room}
use Rattle.payload.specs.Entries.{Stream, done, entry, code, in_page, stream, start, payload_stream, whole, sound, entries, last, put}
use Rattle.payload.specs.Entries.{applied}
use Rattle.writer.specs.Differences.{Change, diffs, spelled, coded, written, last_place}
use Rattle.writer.specs.Steps.{before}
use Rattle.payload.specs.EntryLaws.{parts_sound}
use Rattle.payload.specs.Spelling.{Form, takes, bytes}
use Rattle.payload.specs.SpellingLaws.{wide, wide_is, entry_in}
use Rattle.writer.specs.Writer.{Rising, Below, diffs_rising, diffs_below, form_of, form_takes, spelled_bytes}
-- the position before the next place, and where a jump from there leads
pub use Rattle.payload.specs.Positions.{before_next, moved}

-- what the stream of these changes reads as
abbrev pub entered : ℕ → List Change → Stream
entered next [] = done
entered next (c ∷ cs) = entry (length (spelled (c.place - next) c.value)) (pos c.place) c.value (entered (c.place + 1) cs)

pub read_coded : (n : ℕ) (ds : List Change) (next : ℕ) → n ≤ 65536 → Rising next ds → Below n ds
    → stream n (before next) code (coded next ds) ≡ entered next ds
unfolding coded stream in_page
read_coded n [] next h r b = refl
read_coded n (c ∷ cs) next h r b =
    let f : Form = form_of j in
    let t : takes f j = form_takes j (omega (arith, b.0)) in
    let e : spelled j c.value ≡ bytes f j c.value = spelled_bytes f j c.value t in
    let w : wide f ≡ length (spelled j c.value) = sym (ap (λ (l : List ℕ). length l) e ∙ wide_is f j c.value) in
    ap (λ (l : List ℕ). stream n (before next) code (l ++ coded (c.place + 1) cs)) e
    ∙ entry_in n (before next) f j c.value (coded (c.place + 1) cs) t inside
    ∙ on (read_coded n cs (c.place + 1) h r.1 b.1) (wide f)
    ∙ ap (λ (x : ℕ). entry x (pos c.place) c.value (entered (c.place + 1) cs)) w
  where
    j : ℕ
    j = c.place - next

    at : before next +ℤ pos (j + 1) ≡ pos c.place
    at =
        let e : next + j ≡ c.place = omega (arith, r.0) in
        moved next j ∙ ap pos e

    inside : in_page n (before next +ℤ pos (j + 1)) ≡ true
    inside = ap (λ (z : ℤ). in_page n z) at ∙ lt-ltb c.place n b.0

    on : stream n (before (c.place + 1)) code (coded (c.place + 1) cs) ≡ entered (c.place + 1) cs
        → (w : ℕ) → entry w (before next +ℤ pos (j + 1)) c.value (stream n (before next +ℤ pos (j + 1)) code (coded (c.place + 1) cs))
        ≡ entry w (pos c.place) c.value (entered (c.place + 1) cs)
    on rest w =
        ap (λ (z : ℤ). entry w z c.value (stream n z code (coded (c.place + 1) cs))) at
        ∙ ap (λ (z : ℤ). entry w (pos c.place) c.value (stream n z code (coded (c.place + 1) cs))) (sym (before_next c.place))
        ∙ ap (λ (s : Stream). entry w (pos c.place) c.value s) rest

whole_entered : (ds : List Change) (next : ℕ) → whole (entered next ds) ≡ true
unfolding whole
whole_entered [] next = refl
whole_entered (c ∷ cs) next = whole_entered cs (c.place + 1)

entries_entered : (ds : List Change) (next : ℕ) → entries (entered next ds) ≡ length ds
unfolding entries
entries_entered [] next = refl
entries_entered (c ∷ cs) next = ap suc (entries_entered cs (c.place + 1))

last_entered : (ds : List Change) (next : ℕ) (p : ℤ) → last p (entered next ds) ≡ last_place p ds
unfolding last last_place
last_entered [] next p = refl
last_entered (c ∷ cs) next p = last_entered cs (c.place + 1) (pos c.place)

-- each change written into a page
abbrev pub pokes : List ℕ → List Change → List ℕ
pokes page [] = page
pokes page (c ∷ cs) = pokes (set page c.place c.value) cs

applied_entered : (ds : List Change) (next : ℕ) (page : List ℕ) → applied page (entered next ds) ≡ pokes page ds
unfolding applied put
applied_entered [] next page = refl
applied_entered (c ∷ cs) next page = applied_entered cs (c.place + 1) (set page c.place c.value)

-- the differences turn the base into the page
pokes_diffs : (q : ℕ) (pre xs ys : List ℕ) → length pre ≡ q → length xs ≡ length ys → pokes (pre ++ xs) (diffs q xs ys) ≡ pre ++ ys
unfolding diffs
pokes_diffs q pre [] [] e f = refl
pokes_diffs q pre [] (y ∷ ys) e f = absurd (omega arith)
pokes_diffs q pre (x ∷ xs) [] e f = absurd (omega arith)
pokes_diffs q pre (x ∷ xs) (y ∷ ys) e f =
    go (eqb x y) refl
    (λ z. pokes_diffs (q + 1) (pre ++ (z ∷ [])) xs ys (length-append pre (z ∷ []) ∙ ap (λ (k : ℕ). k + 1) e) (omega arith))
  where
    one : (z : ℕ) → pokes ((pre ++ (z ∷ [])) ++ xs) (diffs (q + 1) xs ys) ≡ (pre ++ (z ∷ [])) ++ ys
        → pokes (pre ++ (z ∷ xs)) (diffs (q + 1) xs ys) ≡ pre ++ (z ∷ ys)
    one z r = ap (λ (l : List ℕ). pokes l (diffs (q + 1) xs ys)) (sym (append_assoc pre (z ∷ []) xs)) ∙ r ∙ append_assoc pre (z ∷ []) ys

    go : (t : Bool) → eqb x y ≡ t → ((z : ℕ) → pokes ((pre ++ (z ∷ [])) ++ xs) (diffs (q + 1) xs ys) ≡ (pre ++ (z ∷ [])) ++ ys)
        → pokes (pre ++ (x ∷ xs)) (elim t as (λ _. List Change) [
          | true ↦ diffs (q + 1) xs ys
          | false ↦ record { place = q; value = y }
              ∷ diffs (q + 1) xs ys
        ]) ≡ pre ++ (y ∷ ys)
    go true k r = one x (r x) ∙ ap (λ (z : ℕ). pre ++ (z ∷ ys)) (eqb-true x y k)
    go false k r = ap (λ (l : List ℕ). pokes l (diffs (q + 1) xs ys)) (set_at pre x xs y q e) ∙ one y (r y)

-- what reading the writer's stream gives
pub record Back (n : ℕ) (base modified : List ℕ) : Type 0 where
  pub stream : payload_stream n (written base modified) ≡ entered 0 (diffs 0 base modified)
  pub wholly : whole (payload_stream n (written base modified)) ≡ true
  pub entries : entries (payload_stream n (written base modified)) ≡ length (diffs 0 base modified)
  pub last : last start (payload_stream n (written base modified)) ≡ last_place start (diffs 0 base modified)
  pub page : applied base (payload_stream n (written base modified)) ≡ modified
  -- a stream of 1 to 504 bytes is a sound payload
  pub is_sound : 1 ≤ length (written base modified) → length (written base modified) ≤ room → sound n (written base modified) ≡ true

pub read_back : (n : ℕ) (base page : List ℕ) → n ≤ 65536 → length base ≡ n → length page ≡ n → Back n base page
unfolding written
read_back n base page h k l =
    let ds : List Change = diffs 0 base page in
    let e : payload_stream n (written base page) ≡ entered 0 ds =
    read_coded n ds 0 h (diffs_rising 0 base page) (diffs_below n 0 base page (omega arith)) in
    let w : whole (payload_stream n (written base page)) ≡ true = ap (λ (s : Stream). whole s) e ∙ whole_entered ds 0 in
    record {
      stream = e;
      wholly = w;
      entries = ap (λ (s : Stream). entries s) e ∙ entries_entered ds 0;
      last = ap (λ (s : Stream). last start s) e ∙ last_entered ds 0 start;
      page = ap (λ (s : Stream). applied base s) e ∙ applied_entered ds 0 base ∙ pokes_diffs 0 [] base page refl (k ∙ sym l);
      is_sound = λ a b. parts_sound n (written base page) (record { some = a; few = b; wholly = w });
    }
