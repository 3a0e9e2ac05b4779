-- The laws of the first fault: when there is none, which one it is, what it depends on, and how a walk over the blocks finds it.
use Prim.Native.Nat.{ℕ, zero, suc, ◌+◌, ◌-◌, ◌≤◌, ◌<◌}
use Rattle.std.proofs.Common.{arith, sym, ap, ◌∙◌, subst, inr, ⊎_elim}
use Rattle.std.proofs.Math.Decide.{dec_lt}
use Rattle.std.specs.Prelude.{◌≡◌, ◌↔◌, ◌⊎◌, List}
use Rattle.std.proofs.Math.Path.{refl}
use Rattle.std.proofs.Math.Logic.{inl}
use Rattle.layout.specs.Refusals.{Row, first_of, or_else, decided}
use Rattle.layout.specs.RefusalLaws.{Numbered, no_row, both, first_append, decided_done, decided_refused, decided_or}
use Rattle.layout.specs.FirstFault.{BlockFault, no_fault, first_fault, rows_from}

-- nothing is wrong with the k blocks from b on
abbrev pub NoneIn : (ℕ → ℕ) → ℕ → ℕ → Type 0
NoneIn test b k = (i : ℕ) → b ≤ i → i < b + k → test i ≡ 0

-- f names the lowest of them with which something is wrong, and gives its number
pub record FirstIn (test : ℕ → ℕ) (b k : ℕ) (f : BlockFault) : Type 0 where
  pub some : f.number ≡ 0 → ⊥
  pub from : b ≤ f.block
  pub within : f.block < b + k
  pub fault : test f.block ≡ f.number
  pub lower : (i : ℕ) → b ≤ i → i < f.block → test i ≡ 0

-- the same of the blocks below n
pub record Lowest (test : ℕ → ℕ) (n b r : ℕ) : Type 0 where
  pub below : b < n
  pub fault : test b ≡ r
  pub lower : (i : ℕ) → i < b → test i ≡ 0

module _ (test : ℕ → ℕ) where
  -- The first block decides, or the rest does

  pub first_passes : (b k : ℕ) → test b ≡ 0 → first_fault test b (suc k) ≡ first_fault test (b + 1) k
  unfolding first_fault
  first_passes b k e = decided_done _ _ (test b) e

  pub first_stops : (b k r : ℕ) → test b ≡ r → (r ≡ 0 → ⊥) → first_fault test b (suc k) ≡ record { number = r; block = b }
  unfolding first_fault
  first_stops b k r e some = decided_refused _ _ (test b) r e some

  -- What there is says which one it is

  pub none_is : (b k : ℕ) → NoneIn test b k → first_fault test b k ≡ no_fault
  unfolding first_fault
  none_is b zero h = refl
  none_is b (suc k) h = first_passes b k (h b (omega arith) (omega arith)) ∙ none_is (b + 1) k (λ i j m. h i (omega arith) (omega arith))

  pub first_is : (b k : ℕ) (f : BlockFault) → FirstIn test b k f → first_fault test b k ≡ f
  first_is b zero f w = absurd (omega (arith, w.from, w.within))
  first_is b (suc k) f w =
      elim (dec_lt b f.block) [
        | yes l ↦
            first_passes b k (w.lower b (omega arith) l)
            ∙ first_is (b + 1) k f
            (record {
              some = w.some;
              from = omega arith;
              within = omega (arith, w.within);
              fault = w.fault;
              lower = λ i j m. w.lower i (omega arith) m;
            })
        | no l ↦
            let q : b ≡ f.block = omega (arith, w.from) in
            first_stops b k f.number (ap test q ∙ w.fault) w.some ∙ ap (λ (x : ℕ). record { number = f.number; block = x }) q
      ]

  -- and there is one of the two
  pub none_or_first : (b k : ℕ) → NoneIn test b k ⊎ FirstIn test b k (first_fault test b k)
  unfolding first_fault decided
  none_or_first b zero = inl (λ i l m. absurd (omega arith))
  none_or_first b (suc k) = go (test b) refl (none_or_first (b + 1) k)
    where
      rest : BlockFault
      rest = first_fault test (b + 1) k

      more : test b ≡ 0 → {c : ℕ} → ((i : ℕ) → b + 1 ≤ i → i < c → test i ≡ 0) → (i : ℕ) → b ≤ i → i < c → test i ≡ 0
      more e h i l m =
          elim (dec_lt b i) [
            | yes j ↦ h i (omega arith) m
            | no j ↦
                let q : i ≡ b = omega arith in
                ap test q ∙ e
          ]

      go : (x : ℕ) → test b ≡ x → NoneIn test (b + 1) k ⊎ FirstIn test (b + 1) k rest
          → NoneIn test b (suc k) ⊎ FirstIn test b (suc k) (decided x rest (λ n. record { number = n; block = b }))
      go zero e (inl h) = inl (λ i l m. more e h i l (omega arith))
      go zero e (inr w) =
          inr
          (record {
            some = w.some;
            from = omega (arith, w.from);
            within = omega (arith, w.within);
            fault = w.fault;
            lower = more e w.lower;
          })
      go (suc x) e h =
          inr (record {
            some = λ q. omega arith;
            from = omega arith;
            within = omega arith;
            fault = e;
            lower = λ i l m. absurd
                (omega arith);
          })

  -- Nothing is wrong just where every block gives 0; a fault is named just where it is the lowest block's

  pub none_iff : (b k : ℕ) → ((first_fault test b k).number ≡ 0) ↔ NoneIn test b k
  none_iff b k = (
    λ e. ⊎_elim (λ h. h) (λ w. absurd (w.some e)) (none_or_first b k),
    λ h. ap (λ (f : BlockFault). f.number) (none_is b k h),
  )

  pub first_in : (b k : ℕ) → ((first_fault test b k).number ≡ 0 → ⊥) → FirstIn test b k (first_fault test b k)
  first_in b k some = ⊎_elim (λ h. absurd (some ((none_iff b k).1 h))) (λ w. w) (none_or_first b k)

  pub first_iff : (b k : ℕ) (f : BlockFault) → (f.number ≡ 0 → ⊥) → (first_fault test b k ≡ f) ↔ FirstIn test b k f
  first_iff b k f some = (
    λ e. subst (λ (g : BlockFault). FirstIn test b k g) e (first_in b k (λ z. some (sym (ap (λ (g : BlockFault). g.number) e) ∙ z))),
    first_is b k f,
  )

  pub first_one : (b k : ℕ) (f g : BlockFault) → FirstIn test b k f → FirstIn test b k g → f ≡ g
  first_one b k f g v w = sym (first_is b k f v) ∙ first_is b k g w

  -- The same of the blocks below n

  pub none_below : (n : ℕ) → ((first_fault test 0 n).number ≡ 0) ↔ ((b : ℕ) → b < n → test b ≡ 0)
  none_below n = (λ e b l. (none_iff 0 n).0 e b (omega arith) (omega arith), λ h. (none_iff 0 n).1 (λ i _ l. h i (omega arith)))

  pub lowest_iff : (n b r : ℕ) → (r ≡ 0 → ⊥) → (first_fault test 0 n ≡ record { number = r; block = b }) ↔ Lowest test n b r
  lowest_iff n b r some = (
    λ e.
        let w : FirstIn test 0 n (record { number = r; block = b }) = (first_iff 0 n (record { number = r; block = b }) some).0 e in
        record { below = omega (arith, w.within); fault = w.fault; lower = λ i l. w.lower i (omega arith) l },
    λ w.
        first_is 0 n (record { number = r; block = b })
        (record {
          some = some;
          from = omega arith;
          within = omega (arith, w.below);
          fault = w.fault;
          lower = λ i _ l. w.lower i l;
        }),
  )

  -- Cut after j blocks: what the first j say, or where they say nothing what the others say

  pub cut_none : (b j k : ℕ) → (first_fault test b j).number ≡ 0 → first_fault test b (j + k) ≡ first_fault test (b + j) k
  cut_none b j k e = ⊎_elim none some (none_or_first (b + j) k)
    where
      before : NoneIn test b j
      before = (none_iff b j).0 e

      both_parts : {c : ℕ} → ((i : ℕ) → b + j ≤ i → i < c → test i ≡ 0) → (i : ℕ) → b ≤ i → i < c → test i ≡ 0
      both_parts h i l m =
          elim (dec_lt i (b + j)) [
            | yes p ↦ before i l p
            | no p ↦ h i (omega arith) m
          ]

      none : NoneIn test (b + j) k → first_fault test b (j + k) ≡ first_fault test (b + j) k
      none h = none_is b (j + k) (λ i l m. both_parts h i l (omega arith)) ∙ sym (none_is (b + j) k h)

      some : FirstIn test (b + j) k (first_fault test (b + j) k) → first_fault test b (j + k) ≡ first_fault test (b + j) k
      some w =
          first_is b (j + k) _
          (record {
            some = w.some;
            from = omega (arith, w.from);
            within = omega (arith, w.within);
            fault = w.fault;
            lower = both_parts w.lower;
          })

  pub cut_some : (b j k : ℕ) → ((first_fault test b j).number ≡ 0 → ⊥) → first_fault test b (j + k) ≡ first_fault test b j
  cut_some b j k h =
      let w : FirstIn test b j (first_fault test b j) = first_in b j h in
      first_is b (j + k) _
      (record { some = w.some; from = w.from; within = omega (arith, w.within); fault = w.fault; lower = w.lower })

  -- A loop over the blocks below n that stands at b

  pub fault_next : (b n : ℕ) → b < n → test b ≡ 0 → first_fault test b (n - b) ≡ first_fault test (b + 1) (n - (b + 1))
  fault_next b n h e =
      let q : n - b ≡ suc (n - (b + 1)) = omega arith in
      ap (λ (k : ℕ). first_fault test b k) q ∙ first_passes b (n - (b + 1)) e

  pub fault_here : (b n r : ℕ) → b < n → test b ≡ r → (r ≡ 0 → ⊥) → first_fault test b (n - b) ≡ record { number = r; block = b }
  fault_here b n r h e some =
      let q : n - b ≡ suc (n - (b + 1)) = omega arith in
      ap (λ (k : ℕ). first_fault test b k) q ∙ first_stops b (n - (b + 1)) r e some

  pub fault_end : (b n : ℕ) → n ≤ b → first_fault test b (n - b) ≡ no_fault
  fault_end b n h = none_is b (n - b) (λ i l m. absurd (omega arith))

  -- What holds of 0 and of every block's number holds of the number given
  pub number_among : (Q : ℕ → Type 0) → Q 0 → ((i : ℕ) → Q (test i)) → (b k : ℕ) → Q (first_fault test b k).number
  number_among Q none each b k =
      ⊎_elim
      (λ h. subst Q (sym ((none_iff b k).1 h)) none)
      (λ w. subst Q w.fault (each (first_fault test b k).block))
      (none_or_first b k)

-- It depends on the numbers of these blocks alone
pub same_tests : (test other : ℕ → ℕ) (b k : ℕ) → ((i : ℕ) → b ≤ i → i < b + k → test i ≡ other i)
    → first_fault test b k ≡ first_fault other b k
unfolding first_fault
same_tests test other b zero h = refl
same_tests test other b (suc k) h =
    ap (λ (n : ℕ). decided n (first_fault test (b + 1) k) (λ n. record { number = n; block = b })) (h b (omega arith) (omega arith))
    ∙ ap (λ (f : BlockFault). decided (other b) f (λ n. record { number = n; block = b }))
    (same_tests test other (b + 1) k (λ i l m. h i (omega arith) (omega arith)))

-- A test by rows: the number is that of the blocks' rows, one block after the other

pub rows_numbered : (rows : ℕ → List Row) → ((i : ℕ) → Numbered (rows i)) → (b k : ℕ) → Numbered (rows_from rows b k)
unfolding rows_from
rows_numbered rows each b zero = no_row
rows_numbered rows each b (suc k) = both (each b) (rows_numbered rows each (b + 1) k)

pub first_by_rows : (rows : ℕ → List Row) (b k : ℕ) → (first_fault (λ i. first_of (rows i)) b k).number ≡ first_of (rows_from rows b k)
unfolding rows_from first_fault first_of
first_by_rows rows b zero = refl
first_by_rows rows b (suc k) =
    decided_or (λ (f : BlockFault). f.number) _ (λ (n : ℕ). record { number = n; block = b }) (first_of (rows b)) (λ k. refl)
    ∙ ap (λ (n : ℕ). or_else (first_of (rows b)) n) (first_by_rows rows (b + 1) k)
    ∙ sym (first_append (rows b) (rows_from rows (b + 1) k))
