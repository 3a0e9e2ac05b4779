-- Entries that stay in the front of a page leave what lies behind it.
use Prim.Native.Nat.{ℕ, ◌+◌, ◌*◌, ◌≤◌, ◌<◌}
use native.Mathlib.Omega.{arith}
use mathlib.Core.Path.{◌≡◌, refl, sym, ap, ◌∙◌}
use mathlib.Core.Bool.{Bool, true, false, false≢true}
use mathlib.Core.List.{List, [], ◌∷◌, ◌++◌}
use lib.Dec.{eqb, leb}
use lib.ListN.{length, take, drop, length-set, length-take, take-append-drop}
use lib.IntN.{ℤ, pos, negsuc, ◌+ℤ◌}
use lib.Seq.{set-append_left}
use borrow.Author.Tests.{ltb-true}
use Rattle.payload.specs.Entries.{Stream, entry, unsound, Next, code, low, high, value, in_page, stream, payload_stream, put, applied}

module _ (n : ℕ) (ys : List ℕ) where
  put_front : (xs : List ℕ) (q : ℤ) (v : ℕ) → n ≤ length xs → in_page n q ≡ true → put (xs ++ ys) q v ≡ put xs q v ++ ys
  unfolding in_page put
  put_front xs (pos q) v h e = let k : q < n = ltb-true q n e in set-append_left xs ys q v (omega arith)
  put_front xs (negsuc k) v h e = absurd (false≢true e)

  put_length : (xs : List ℕ) (q : ℤ) (v : ℕ) → length (put xs q v) ≡ length xs
  unfolding put
  put_length xs (pos q) v = length-set xs q v
  put_length xs (negsuc k) v = refl

  abbrev Stays : Stream → Type 0
  Stays s = (xs : List ℕ) → n ≤ length xs → applied (xs ++ ys) s ≡ applied xs s ++ ys

  stays : (l : List ℕ) (p : ℤ) (x : Next) → Stays (stream n p x l)
  unfolding stream applied
  stays [] p code = λ xs h. refl
  stays [] p low = λ xs h. refl
  stays [] p (high a) = λ xs h. refl
  stays [] p (value w j) = λ xs h. refl
  stays (b ∷ bs) p code = go (eqb b 255) (stays bs p low) (stays bs p (value 2 b))
    where
      go : (t : Bool) → Stays (stream n p low bs) → Stays (stream n p (value 2 b) bs)
          → Stays (elim t as (λ _. Stream) [ true ↦ stream n p low bs | false ↦ stream n p (value 2 b) bs ])
      go true f g = f
      go false f g = g
  stays (b ∷ bs) p low = stays bs p (high b)
  stays (b ∷ bs) p (high a) = go (leb 255 (a + 256 * b)) (stays bs p (value 4 (a + 256 * b)))
    where
      go : (t : Bool) → Stays (stream n p (value 4 (a + 256 * b)) bs)
          → Stays (elim t as (λ _. Stream) [ true ↦ stream n p (value 4 (a + 256 * b)) bs | false ↦ unsound ])
      go true f = f
      go false f = λ xs h. refl
  stays (b ∷ bs) p (value w j) = go (in_page n (p +ℤ pos (j + 1))) refl (stays bs (p +ℤ pos (j + 1)) code)
    where
      go : (t : Bool) → in_page n (p +ℤ pos (j + 1)) ≡ t → Stays (stream n (p +ℤ pos (j + 1)) code bs)
          → Stays (elim t as (λ _. Stream) [
            | true ↦ entry w (p +ℤ pos (j + 1)) b (stream n (p +ℤ pos (j + 1)) code bs)
            | false ↦ unsound
          ])
      go true e f = λ xs h.
          let k : length (put xs (p +ℤ pos (j + 1)) b) ≡ length xs = put_length xs (p +ℤ pos (j + 1)) b in
          ap (λ (l : List ℕ). applied l (stream n (p +ℤ pos (j + 1)) code bs)) (put_front xs (p +ℤ pos (j + 1)) b h e)
          ∙ f (put xs (p +ℤ pos (j + 1)) b) (omega arith)
      go false e f = λ xs h. refl

-- laid over the first n bytes of a page, where the payload's entries are those of a page of n bytes
pub applied_front : (n : ℕ) (page payload front : List ℕ) → n ≤ length page
    → front ≡ applied (take n page) (payload_stream (length (take n page)) payload)
    → front ++ drop n page ≡ applied page (payload_stream n payload)
applied_front n page payload front h e =
    let m : length (take n page) ≡ n = omega (arith, length-take n page) in
    let f : front ≡ applied (take n page) (payload_stream n payload) = e ∙ ap (λ (k : ℕ). applied (take n page) (payload_stream k payload)) m in
    ap (λ (l : List ℕ). l ++ drop n page) f
    ∙ sym (stays n (drop n page) payload _ code (take n page) (omega arith))
    ∙ ap (λ (l : List ℕ). applied l (payload_stream n payload)) (take-append-drop n page)
