-- The two ways of saying it are one, there is one such number, and `extent` is it.
use Rattle.std.specs.Prelude.{ℕ, zero, suc, ◌+◌, ◌≤◌, ◌<◌, ◌≡◌, refl, ◌⊎◌, Bool, true, false, cond}
use Rattle.std.proofs.Common.{arith, sym, ◌∙◌, inl, inr, true≢false}
use Rattle.std.proofs.Math.Decide.{dec_lt}
use Rattle.cutting.specs.Highest.{extent}
use Rattle.cutting.specs.Reach.{OneMore, LeastFree}

module _ (Q : ℕ → Type 0) (n : ℕ) where
  pub one_least : (h : ℕ) → OneMore Q n h → LeastFree Q n h
  one_least h o = record { none_from = o.none_from; least = λ k free. go k free o.highest }
    where
      go : (k : ℕ) → ((b : ℕ) → k ≤ b → b < n → Q b → ⊥) → (h ≡ 0) ⊎ ((b : ℕ) × (h ≡ b + 1) × (b < n) × Q b) → h ≤ k
      go k free (inl e) = omega arith
      go k free (inr w) =
          elim (dec_lt k h) [
            | yes l ↦ absurd (free w.0 (omega (arith, w.1)) w.2 w.3)
            | no l ↦ omega arith
          ]

  -- there is one such number
  pub least_one : (h k : ℕ) → LeastFree Q n h → LeastFree Q n k → h ≡ k
  least_one h k x y =
      let a : h ≤ k = x.least k y.none_from in
      let b : k ≤ h = y.least h x.none_from in
      omega arith

  pub one_more_one : (h k : ℕ) → OneMore Q n h → OneMore Q n k → h ≡ k
  one_more_one h k x y = least_one h k (one_least h x) (one_least k y)

-- and a test of blocks finds it
pub extent_is : (test : ℕ → Bool) (n : ℕ) → OneMore (λ b. test b ≡ true) n (extent test n)
unfolding extent
extent_is test zero = record { none_from = λ b l m q. omega arith; highest = inl refl }
extent_is test (suc n) = go (test n) refl (extent_is test n)
  where
    go : (t : Bool) → test n ≡ t → OneMore (λ b. test b ≡ true) n (extent test n)
        → OneMore (λ b. test b ≡ true) (suc n) (cond t (suc n) (extent test n))
    go true e o =
        record { none_from = λ b l m q. omega arith; highest = inr (n, omega arith, omega arith, e) }
    go false e o =
        record {
          none_from =
              λ b l m q.
              elim (dec_lt b n) [
                | yes k ↦ o.none_from b l k q
                | no k ↦ let z : b ≡ n = omega arith in true≢false (sym (rw z at q) ∙ e)
              ];
          highest = elim o.highest [ inl z ↦ inl z | inr w ↦ inr (w.0, w.1, omega (arith, w.2), w.3) ];
        }

-- the same of blocks of another sort, where they are the same blocks
pub same_sort : (Q R : ℕ → Type 0) (n h : ℕ) → ((b : ℕ) → b < n → Q b → R b) → ((b : ℕ) → b < n → R b → Q b) → OneMore Q n h → OneMore R n h
same_sort Q R n h to from o =
    record {
      none_from = λ b l m r. o.none_from b l m (from b m r);
      highest = elim o.highest [ inl z ↦ inl z | inr w ↦ inr (w.0, w.1, w.2, to w.0 w.2 w.3) ];
    }
