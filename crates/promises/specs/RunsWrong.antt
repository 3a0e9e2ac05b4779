-- Statements about runs that are false: each is a part of demand 3 with one thing changed or left out, and a run over the areas and pages
-- of `Sample` shows it so.
use Rattle.std.specs.Prelude.{ℕ, ◌<◌, ◌≡◌, refl, ◌↔◌, Bool, true, false, cond, eqb, replicate}
use Rattle.std.proofs.Common.{arith, sym, ap, ◌∙◌, inr, lit≤, lit<}
use Rattle.std.proofs.Math.Decide.{dec_lt}
use Rattle.std.proofs.Math.Option.{Option, none, some, some-injective, none-ne-some}
use mathlib.Core.List.Memᴰ
use mathlib.Core.List.{List, [], ◌∷◌, map, Memᴰ}
use Rattle.span.specs.Bytes.{zeros, splice}
use Rattle.layout.specs.Sizes.{page_size, slot_at}
use Rattle.slots.specs.Slots.{full_slot, slot_image}
use Rattle.payload.specs.Entries.{stream, in_page, whole, sound, put, applied}
use Rattle.stream.specs.Calls.{page_of, kind_for}
use Rattle.reading.specs.Read.{ReadOutcome}
use Rattle.carrying.specs.Puts.{put_slot, all}
use Rattle.carrying.specs.CarryOut.{CarryOutcome}
use Rattle.carrying.specs.CarryLaws.{carry_done_is, carried_is}
use Rattle.promises.specs.Words.{blocks, PagesFit, stream_of}
use Rattle.promises.specs.ReadLaws.{reads_patch}
use Rattle.promises.specs.PairLaws.{others_read}
use Rattle.promises.specs.Runs.{run, write, concerns}
use Rattle.promises.specs.StandingLaws.{same_write}
use Rattle.promises.specs.RunWords.{Areas, read_at, Lent, cuts, Operation, after, accepted, next, FreshAreas}
use Rattle.promises.specs.RunLaws.{run_fits}
use Rattle.promises.specs.Sample.{sample, sample_fresh, two_blocks, takes, page, same_bytes, one, two, many, one_fits, two_fits}
use Rattle.promises.specs.Sample.{many_fits, stream_one, large_ones, large_twos, to, puts, both_taken, slot_of_is, changes, same_page}
use Rattle.promises.specs.Sample.{nothing_stands, decides, decides_fit}

-- the first of some operations that has to do with block b
unfoldable pub first_to : ℕ → List Operation → Option Operation
first_to b [] = none
first_to b (o ∷ os) = cond (concerns (λ (w : Lent). w.block) cuts b o) (some o) (first_to b os)

-- each block's first accepted write, in place of its last
pub not_first : ((s : Areas) → FreshAreas page_size s → (os : List Operation) (ls : List Lent)
    → ((w : Lent) → Memᴰ w ls ↔ (first_to w.block (accepted page_size s os) ≡ some (write w)))
    → after page_size s (map write ls) ≡ after page_size s os)
    → ⊥
unfolding first_to concerns run
not_first claim =
    let e : after page_size sample (puts 0 one ∷ []) ≡ after page_size sample (puts 0 one ∷ puts 0 two ∷ []) =
    claim sample sample_fresh (puts 0 one ∷ puts 0 two ∷ []) (to 0 one ∷ [])
    (λ w. rw (both_taken 0 (lit< tt) two two_fits)
    (λ i. rw (Memᴰ.eq_of_singleton i), λ e. Memᴰ.head (only (eqb 0 w.block) e))) in
    let z : ◌≡◌ {A = ℕ} 0 9 = same_bytes (7 ∷ []) (7 ∷ 9 ∷ []) (same_page [] (puts 0 one ∷ []) one two one_fits two_fits e) 1 in
    omega arith
  where
    only : {w : Lent} (t : Bool) → cond t (some (puts 0 one)) (cond t (some (puts 0 two)) none) ≡ some (write w) → w ≡ to 0 one
    only true e = sym (same_write (some-injective _ _ e))
    only false e = absurd (none-ne-some _ e)

-- runs that read the same, whatever base pages they were written over
pub not_any_base : ((s : Areas) → FreshAreas page_size s → (bases into : ℕ → List ℕ)
    → ((b : ℕ) → b < blocks s.patch → PagesFit page_size (bases b) (into b))
    → (os os' : List Operation)
    → ((b : ℕ) → b < blocks s.patch → (read_at page_size (after page_size s os) b (bases b) (into b)).page
    ≡ (read_at page_size (after page_size s os') b (bases b) (into b)).page)
    → after page_size s os ≡ after page_size s os')
    → ⊥
unfolding run page page_of zeros slot_image kind_for stream in_page whole sound put applied
not_any_base claim = changes 0 (lit< tt) (claim sample sample_fresh (λ b. one) (λ b. one) (λ b n. both) (puts 0 one ∷ []) [] same)
  where
    both : PagesFit page_size one one
    both = record { base_length = inr one_fits.page_length; page_length = one_fits.page_length }

    -- `00 07` over a base that has 07 there already
    at_0 : (read_at page_size (next page_size sample (to 0 one)) 0 one one).page ≡ (read_at page_size sample 0 one one).page
    at_0 =
        ap (λ (o : ReadOutcome). o.page)
        (reads_patch page_size (next page_size sample (to 0 one)).patch (next page_size sample (to 0 one)).full 0 one one
        (run_fits page_size sample sample_fresh (puts 0 one ∷ []) one one both) (rw (two_blocks (puts 0 one ∷ [])) (lit< tt)) (0 ∷ 7 ∷ [])
        (record { image = slot_of_is [] one (0 ∷ 7 ∷ []) one_fits stream_one; some = lit≤ tt; room_for = lit≤ tt }) refl)
        ∙ sym (ap (λ (o : ReadOutcome). o.page) (nothing_stands 0 (lit< tt) one one both))

    same : (b : ℕ) → b < blocks sample.patch
        → (read_at page_size (next page_size sample (to 0 one)) b one one).page ≡ (read_at page_size sample b one one).page
    same b n =
        elim (dec_lt 0 b) [
          | yes h ↦ ap (λ (o : ReadOutcome). o.page) (others_read page_size sample.patch sample.full 0 (decides [] one) b (λ q. omega arith)
              one one)
          | no h ↦ let z : b ≡ 0 = omega arith in rw z at_0
        ]

-- runs that leave the same slots: that of a full page does not say which
pub not_slots_alone : ((s : Areas) → FreshAreas page_size s → (os os' : List Operation)
    → (after page_size s os).patch ≡ (after page_size s os').patch
    → after page_size s os ≡ after page_size s os') → ⊥
unfolding run many put_slot slot_image
not_slots_alone claim =
    let z : ◌≡◌ {A = ℕ} 1 2 =
    same_bytes (replicate 253 1) (replicate 253 2)
    (same_page [] [] (many 1) (many 2) (many_fits 1) (many_fits 2)
    (claim sample sample_fresh (puts 0 (many 1) ∷ []) (puts 0 (many 2) ∷ []) (full_patch (many 1) (many_fits 1) large_ones
    ∙ sym (full_patch (many 2) (many_fits 2) large_twos)))) 0 in
    omega arith
  where
    full_patch : (x : List ℕ) → PagesFit page_size [] x → (decides [] x).kind ≡ 2
        → (next page_size sample (to 0 x)).patch ≡ splice sample.patch (slot_at 0) full_slot
    full_patch x f l =
        ap (λ (o : CarryOutcome). o.patch)
        (carry_done_is page_size [] sample.patch sample.full 0 (decides [] x) all (takes [] (to 0 x) (lit< tt) (decides_fit [] x f)))
        ∙ ap (λ (s : Areas). s.patch) (carried_is page_size 0 (decides [] x) sample)
        ∙ ap (λ (k : ℕ). splice sample.patch (slot_at 0) (slot_image k (stream_of page_size [] x))) l
