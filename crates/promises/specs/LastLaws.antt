-- The last element that passes a test.
use Rattle.std.specs.Prelude.{◌≡◌, ◌↔◌, ◌⊎◌, Bool, false}
use Rattle.std.proofs.Math.Path.{refl, ap}
use Rattle.std.proofs.Common.{sym, ◌∙◌}
use Rattle.std.proofs.Math.Logic.{inl, inr}
use Rattle.std.proofs.Math.Bool.{true, true≢false}
use Rattle.std.proofs.Math.Option
use Rattle.std.proofs.Math.Option.{Option, none, some, none-ne-some, some-injective}
use mathlib.Core.List.Memᴰ
use mathlib.Core.List.{List, [], ◌∷◌, ◌++◌, map, Memᴰ}
use Rattle.promises.specs.Runs.{later, last_such, LastAt, keep}

pub later_some : {A : Type 0} (t : Bool) (x z : A) (m : Option A)
    → (later t x m ≡ some z) ↔ ((m ≡ some z) ⊎ ((x ≡ z) × (t ≡ true) × (m ≡ none)))
unfolding later
later_some t x z (some y) = (inl, elim [ inl e ↦ e | inr q ↦ absurd (none-ne-some _ (sym q.2)) ])
later_some true x z none = (
  λ e. inr (some-injective _ _ e, refl, refl),
  elim [ inl e ↦ absurd (none-ne-some _ e) | inr q ↦ ap some q.0 ],
)
later_some false x z none = (inl, elim [ inl e ↦ e | inr q ↦ absurd (true≢false (sym q.1)) ])

pub later_none : {A : Type 0} (t : Bool) (x : A) (m : Option A) → later t x m ≡ none → (m ≡ none) × (t ≡ false)
unfolding later
later_none t x (some y) e = absurd (none-ne-some _ (sym e))
later_none true x none e = absurd (none-ne-some _ (sym e))
later_none false x none e = (refl, refl)

pub keep_mem : {A B : Type 0} (t : Bool) (x z : A) (m : Option B) (xs : List A)
    → Memᴰ z (keep t x m xs) ↔ (Memᴰ z xs ⊎ ((z ≡ x) × (t ≡ true) × (m ≡ none)))
unfolding keep
keep_mem t x z (some y) xs = (inl, elim [ inl i ↦ i | inr q ↦ absurd (none-ne-some _ (sym q.2)) ])
keep_mem true x z none xs = (
  λ i. elim (Memᴰ.cases_cons i) [ inl e ↦ inr (e, refl, refl) | inr j ↦ inl j ],
  elim [ inl i ↦ Memᴰ.tail i | inr q ↦ Memᴰ.head q.0 ],
)
keep_mem false x z none xs = (inl, elim [ inl i ↦ i | inr q ↦ absurd (true≢false (sym q.1)) ])

pub last_map : {A B : Type 0} (p : B → Bool) (f : A → B) (xs : List A) → last_such p (map f xs) ≡ Option.map f (last_such (λ x. p (f x)) xs)
unfolding last_such later
last_map p f [] = refl
last_map p f (x ∷ xs) = rw (last_map p f xs) (go (p (f x)) (last_such (λ x. p (f x)) xs))
  where
    go : (t : Bool) (m : Option _) → later t (f x) (Option.map f m) ≡ Option.map f (later t x m)
    go t (some y) = refl
    go true none = refl
    go false none = refl

module _ {A : Type 0} (p : A → Bool) where
  pub last_none : (xs : List A) → last_such p xs ≡ none → (y : A) → Memᴰ y xs → p y ≡ true → ⊥
  unfolding last_such
  last_none [] e y m h = Memᴰ.not-nil m
  last_none (x ∷ xs) e y m h =
      let q = later_none (p x) x (last_such p xs) e in
      elim (Memᴰ.cases_cons m) [ inl f ↦ true≢false (sym h ∙ ap p f ∙ q.1) | inr n ↦ last_none xs q.0 y n h ]

  pub last_at : (xs : List A) (x : A) → last_such p xs ≡ some x → LastAt p xs x
  unfolding last_such
  last_at [] x e = absurd (none-ne-some _ e)
  last_at (y ∷ xs) x e = go (last_at xs x) ((later_some (p y) y x (last_such p xs)).0 e)
    where
      go : (last_such p xs ≡ some x → LastAt p xs x) → (last_such p xs ≡ some x) ⊎ ((y ≡ x) × (p y ≡ true) × (last_such p xs ≡ none))
          → LastAt p (y ∷ xs) x
      go below (inl e) =
          let l : LastAt p xs x = below e in
          record {
            before = y ∷ l.before;
            after = l.after;
            split = ap (λ (k : List A). y ∷ k) l.split;
            passes = l.passes;
            none_later = l.none_later;
          }
      go below (inr q) =
          record {
            before = [];
            after = xs;
            split = ap (λ (z : A). z ∷ xs) q.0;
            passes = ap p (sym q.0)
                ∙ q.1;
            none_later = last_none xs q.2;
          }

  pub last_in : {x : A} (xs : List A) → last_such p xs ≡ some x → Memᴰ x xs × (p x ≡ true)
  last_in {x} xs e =
      let l : LastAt p xs x = last_at xs x e in
      (rw l.split (Memᴰ.append_right l.before (Memᴰ.head refl)), l.passes)

  pub at_last : (xs : List A) (x : A) → LastAt p xs x → last_such p xs ≡ some x
  unfolding last_such later
  at_last xs x l = ap (last_such p) l.split ∙ go l.before
    where
      alone : (m : Option A) → last_such p l.after ≡ m → later true x m ≡ some x
      alone none e = refl
      alone (some y) e = let i = last_in l.after e in absurd (l.none_later y i.0 i.1)

      go : (us : List A) → last_such p (us ++ (x ∷ l.after)) ≡ some x
      go [] = rw l.passes (alone (last_such p l.after) refl)
      go (u ∷ us) = rw (go us)
