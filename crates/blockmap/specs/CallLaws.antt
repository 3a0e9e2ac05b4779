-- Look up and Tally, outcome by outcome; and that each has one outcome.
use Rattle.std.specs.Prelude.{ℕ, suc, ◌≤◌, ◌<◌, ◌≡◌, true, not, List, leb, ltb, length, Result, Ok, Err}
use Rattle.std.proofs.Common.{arith, sym, ap, ◌∙◌, inl, inr}
use Rattle.std.proofs.Math.Decide.{dec_lt}
use Rattle.std.proofs.Math.Path.{refl}
use Rattle.std.proofs.Math.Bool.{false}
use Rattle.std.proofs.Math.Dec.{eqb}
use borrow.Author.Tests.{eq-eqb, ne_eqb, le-leb, lt-leb, lt-ltb, le-ltb}
use Rattle.layout.specs.Sizes.{blocks_at_most}
use Rattle.layout.specs.Numbers.{kind_number, refusal_number}
use Rattle.layout.specs.NumberLaws.{kind_one, refusal_one, refusal_some}
use Rattle.layout.specs.declared.Kind.{Kind}
use Rattle.layout.specs.declared.Kind.TheVariants.{Empty, Patch, Full}
use Rattle.layout.specs.Refusals.{first_of, decided}
use Rattle.layout.specs.RefusalLaws.{first_hit, first_skip, first_done}
use Rattle.layout.specs.Groups.{ordered}
use Rattle.layout.specs.declared.Refusal.{Refusal}
use Rattle.layout.specs.declared.Refusal.TheVariants.{Length, Buffer, Block, Pair}
use Rattle.blockmap.specs.Pairs.{map_bytes, pair_at, pairs, patch_pair, full_pair, reserved_pair, bad_pairs}
use Rattle.blockmap.specs.Calls.{map_rows, Held, LookedNumbers, look_up_rows, look_up_numbers, looked_numbers, LookUp, TalliedNumbers}
use Rattle.blockmap.specs.Calls.{tally_rows, tally_numbers, tallied_numbers, Tally}
use Rattle.blockmap.specs.Pack.{pair_of, kind_of}
use Rattle.blockmap.specs.PackLaws.{pair_of_below}
use Rattle.blockmap.specs.SetLaws.{kind_back}
use Rattle.blockmap.specs.declared.Tallied.{Tallied}

-- what a test of the length says of the row
pub not_fits : (k l : ℕ) → ltb l k ≡ not (leb k l)
not_fits k l =
    elim (dec_lt l k) [
      | yes h ↦ rw (lt-ltb l k h, lt-leb k l h)
      | no h ↦
          let i : k ≤ l = omega arith in
          rw (le-ltb l k i, le-leb k l i)
    ]

module _ (P : ℕ) (map : List ℕ) (n : ℕ) where
  look_refused : (b k : ℕ) (r : Refusal) → refusal_number r ≡ suc k → first_of (look_up_rows P map n b) ≡ suc k
      → LookUp P map n b (Err r)
  unfolding look_up_numbers decided
  look_refused b k r q e = record { numbers = rw (look_up_numbers, q, e) }

  look_given : (b : ℕ) (kind : Kind) → first_of (look_up_rows P map n b) ≡ 0 → pair_of (kind_number kind) ≡ pair_at map b
      → LookUp P map n b (Ok kind)
  unfolding look_up_numbers decided
  look_given b kind e q = record { numbers = rw (look_up_numbers, q, e) }

  tally_refused : (k : ℕ) (r : Refusal) → refusal_number r ≡ suc k → first_of (tally_rows P map n) ≡ suc k → Tally P map n (Err r)
  unfolding tally_numbers decided
  tally_refused k r q e = record { numbers = rw (tally_numbers, q, e) }

  tally_given : (p f : ℕ) → first_of (tally_rows P map n) ≡ 0 → p ≡ pairs patch_pair map n → f ≡ pairs full_pair map n
      → Tally P map n (Ok (record { patch = p; full = f }))
  unfolding tally_numbers decided
  tally_given p f e q r = record { numbers = rw (tally_numbers, q, r, e) }

  -- n is over the most blocks, or not; the map is too short, or not
  pub look_length : (b : ℕ) → blocks_at_most P < n → LookUp P map n b (Err Length)
  unfolding look_up_rows map_rows ordered
  look_length b h = look_refused b 1 Length refl (first_hit 1 (ltb (blocks_at_most P) n) _ (lt-ltb (blocks_at_most P) n h))

  pub tally_length : blocks_at_most P < n → Tally P map n (Err Length)
  unfolding tally_rows map_rows ordered
  tally_length h = tally_refused 1 Length refl (first_hit 1 (ltb (blocks_at_most P) n) _ (lt-ltb (blocks_at_most P) n h))

  module _ (few : n ≤ blocks_at_most P) where
    fits : ltb (blocks_at_most P) n ≡ false
    fits = le-ltb (blocks_at_most P) n few

    pub look_buffer : (b : ℕ) → length map < map_bytes n → LookUp P map n b (Err Buffer)
    unfolding look_up_rows map_rows ordered
    look_buffer b h =
        look_refused b 8 Buffer refl
        (first_skip 2 (ltb (blocks_at_most P) n) _ fits
        ∙ first_hit 8 (ltb (length map) (map_bytes n)) _ (lt-ltb (length map) (map_bytes n) h))

    pub tally_buffer : length map < map_bytes n → Tally P map n (Err Buffer)
    unfolding tally_rows map_rows ordered
    tally_buffer h =
        tally_refused 8 Buffer refl
        (first_skip 2 (ltb (blocks_at_most P) n) _ fits
        ∙ first_hit 8 (ltb (length map) (map_bytes n)) _ (lt-ltb (length map) (map_bytes n) h))

    module _ (long : map_bytes n ≤ length map) where
      holds : ltb (length map) (map_bytes n) ≡ false
      holds = le-ltb (length map) (map_bytes n) long

      pub look_block : (b : ℕ) → n ≤ b → LookUp P map n b (Err Block)
      unfolding look_up_rows map_rows ordered
      look_block b h =
          look_refused b 4 Block refl
          (first_skip 2 (ltb (blocks_at_most P) n) _ fits ∙ first_skip 9 (ltb (length map) (map_bytes n)) _ holds
          ∙ first_hit 4 (leb n b) _ (le-leb n b h))

      pub look_pair : (b : ℕ) → b < n → pair_at map b ≡ reserved_pair → LookUp P map n b (Err Pair)
      unfolding look_up_rows map_rows ordered
      look_pair b h e =
          look_refused b 10 Pair refl
          (first_skip 2 (ltb (blocks_at_most P) n) _ fits
          ∙ first_skip 9 (ltb (length map) (map_bytes n)) _ holds
          ∙ first_skip 5 (leb n b) _ (lt-leb n b h)
          ∙ first_hit 10 (eqb (pair_at map b) reserved_pair) _ (eq-eqb (pair_at map b) reserved_pair e))

      pub look_done : (b : ℕ) (kind : Kind) → b < n → pair_of (kind_number kind) ≡ pair_at map b → LookUp P map n b (Ok kind)
      unfolding look_up_rows map_rows ordered
      look_done b kind h e =
          let below : pair_of (kind_number kind) < reserved_pair = pair_of_below (kind_number kind) in
          let d : eqb (pair_at map b) reserved_pair ≡ false = ne_eqb (pair_at map b) reserved_pair (λ q. omega arith) in
          look_given b kind (first_done (look_up_rows P map n b) (fits, (holds, (lt-leb n b h, (d, tt {0}))))) e

      pub tally_pair : bad_pairs map n ≡ true → Tally P map n (Err Pair)
      unfolding tally_rows map_rows ordered
      tally_pair e =
          tally_refused 10 Pair refl
          (first_skip 2 (ltb (blocks_at_most P) n) _ fits ∙ first_skip 9 (ltb (length map) (map_bytes n)) _ holds
          ∙ first_hit 10 (bad_pairs map n) _ e)

      pub tally_done : (p f : ℕ) → bad_pairs map n ≡ false → p ≡ pairs patch_pair map n → f ≡ pairs full_pair map n
          → Tally P map n (Ok (record { patch = p; full = f }))
      unfolding tally_rows map_rows ordered
      tally_done p f e = tally_given p f (first_done (tally_rows P map n) (fits, (holds, (e, tt {0}))))

  -- n, or the map's length, is refused
  pub look_unheld : (b : ℕ) (r : Refusal) → Held P map n (Err r) → LookUp P map n b (Err r)
  look_unheld b r (inl h) = rw h.1 (look_length b h.0)
  look_unheld b r (inr h) = rw h.2 (look_buffer h.0 b h.1)

  pub tally_unheld : (r : Refusal) → Held P map n (Err r) → Tally P map n (Err r)
  tally_unheld r (inl h) = rw h.1 (tally_length h.0)
  tally_unheld r (inr h) = rw h.2 (tally_buffer h.0 h.1)

-- The numbers determine the answer

kind_below : (k : Kind) → kind_number k < 3
kind_below Empty = omega arith
kind_below Patch = omega arith
kind_below Full = omega arith

-- a pair that is given is a kind's, and of one kind alone
pair_one : (j k : Kind) → pair_of (kind_number j) ≡ pair_of (kind_number k) → j ≡ k
pair_one j k e =
    kind_one j k (sym (kind_back (kind_number j) (kind_below j)) ∙ ap kind_of e ∙ kind_back (kind_number k) (kind_below k))

looked_one : (r s : Result Kind Refusal) → looked_numbers r ≡ looked_numbers s → r ≡ s
looked_one (Ok p) (Ok q) e = ap Ok (pair_one p q (ap (λ (x : LookedNumbers). x.pair) e))
looked_one (Ok p) (Err q) e = absurd (refusal_some q (sym (ap (λ (x : LookedNumbers). x.number) e)))
looked_one (Err p) (Ok q) e = absurd (refusal_some p (ap (λ (x : LookedNumbers). x.number) e))
looked_one (Err p) (Err q) e = ap Err (refusal_one p q (ap (λ (x : LookedNumbers). x.number) e))

tallied_one : (r s : Result Tallied Refusal) → tallied_numbers r ≡ tallied_numbers s → r ≡ s
tallied_one (Ok p) (Ok q) e = λ i. Ok (record { patch = (e i).patch; full = (e i).full })
tallied_one (Ok p) (Err q) e = absurd (refusal_some q (sym (ap (λ (x : TalliedNumbers). x.number) e)))
tallied_one (Err p) (Ok q) e = absurd (refusal_some p (ap (λ (x : TalliedNumbers). x.number) e))
tallied_one (Err p) (Err q) e = ap Err (refusal_one p q (ap (λ (x : TalliedNumbers). x.number) e))

-- Two outcomes that meet a call's promise are one

pub look_up_one : (P : ℕ) (map : List ℕ) (n b : ℕ) (r s : Result Kind Refusal) → LookUp P map n b r → LookUp P map n b s → r ≡ s
look_up_one P map n b r s g h = looked_one r s (g.numbers ∙ sym h.numbers)

pub tally_one : (P : ℕ) (map : List ℕ) (n : ℕ) (r s : Result Tallied Refusal) → Tally P map n r → Tally P map n s → r ≡ s
tally_one P map n r s g h = tallied_one r s (g.numbers ∙ sym h.numbers)
