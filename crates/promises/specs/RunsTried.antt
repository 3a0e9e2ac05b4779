-- Runs with cuts, worked over the two blocks of `Sample`. The first: a write to each block, a cut in the middle, one at n, which covers
-- nothing, and one above n, which is refused. The write to block 0 stands; that to block 1 is wiped.
use Rattle.std.specs.Prelude.{ℕ, zero, suc, ◌<◌, ◌≡◌, refl, cond, List, [], ◌∷◌, eqb, length}
use Rattle.std.proofs.Common.{arith, sym, ap, ◌∙◌, inr, lit≤, lit<, eq-eqb, ne_eqb}
use Rattle.std.proofs.Math.Option.{some}
use Rattle.layout.specs.Sizes.{page_size}
use Rattle.writer.specs.Differences.{written}
use Rattle.stream.specs.Calls.{page_of, kind_for}
use Rattle.reading.specs.Read.{ReadOutcome}
use Rattle.promises.specs.Words.{PagesFit}
use Rattle.promises.specs.DecisionLaws.{compared_by}
use Rattle.promises.specs.Runs.{run, taking, later, last_such, concerns, write, wipe}
use Rattle.promises.specs.RunWords.{Areas, read_at, Lent, Operation, outcome, cutting, cut_next, next, after, accepted, last_to}
use Rattle.promises.specs.RunWords.{FollowsBases, OverBases}
use Rattle.promises.specs.DemandThree.{compare_is_decided, reads_as_last, reads_as_base, changed_bases_enough}
use Rattle.promises.specs.Sample.{sample, sample_fresh, two_blocks, takes, cut_takes, cut_refuses, one, two, one_fits, two_fits, to}
use Rattle.promises.specs.Sample.{puts, stream_two, stream_next, decides, decides_by, decides_fit, one_fit}

abbrev pub tried : List Operation
tried = puts 0 one ∷ puts 1 one ∷ wipe 1 ∷ wipe 2 ∷ wipe 3 ∷ []

pub tried_accepted : accepted page_size sample tried ≡ puts 0 one ∷ puts 1 one ∷ wipe 1 ∷ wipe 2 ∷ []
unfolding run taking
tried_accepted =
    let s1 : Areas = next page_size sample (to 0 one) in
    let s2 : Areas = next page_size s1 (to 1 one) in
    let s3 : Areas = cut_next page_size s2 1 in
    let s4 : Areas = cut_next page_size s3 2 in
    rw (
      eq-eqb (outcome page_size sample (to 0 one)).number 0 (takes [] (to 0 one) (lit< tt) one_fit),
      eq-eqb (outcome page_size s1 (to 1 one)).number 0 (takes (puts 0 one ∷ []) (to 1 one) (lit< tt) one_fit),
      eq-eqb (cutting page_size s2 1).number 0 (cut_takes (puts 0 one ∷ puts 1 one ∷ []) 1 (lit≤ tt)),
      eq-eqb (cutting page_size s3 2).number 0 (cut_takes (puts 0 one ∷ puts 1 one ∷ wipe 1 ∷ []) 2 (lit≤ tt)),
      ne_eqb (cutting page_size s4 3).number 0
          (λ z. omega (arith, z, cut_refuses (puts 0 one ∷ puts 1 one ∷ wipe 1 ∷ wipe 2 ∷ []) 3 (lit< tt))),
    )

-- what stands at each block
pub tried_stands : (last_to 0 (accepted page_size sample tried) ≡ some (puts 0 one)) × (last_to 1 (accepted page_size sample tried) ≡ some (wipe 1))
unfolding last_to last_such later concerns
tried_stands = rw tried_accepted (refl, refl)

-- and how it reads
pub tried_reads : ((read_at page_size (after page_size sample tried) 0 [] two).page ≡ one)
    × ((read_at page_size (after page_size sample tried) 1 one two).page ≡ page_of page_size one)
unfolding run
tried_reads = (
  ap (λ (o : ReadOutcome). o.page)
      (reads_as_last sample sample_fresh tried 0 (rw (two_blocks []) (lit< tt)) (to 0 one) tried_stands.0 [] two two_fits
      (compare_is_decided (to 0 one) [] [] (decides_by [] one one_fits) refl)),
  ap (λ (o : ReadOutcome). o.page)
      (reads_as_base sample sample_fresh tried 1 (rw (two_blocks []) (lit< tt))
      (λ w e. let z : ◌≡◌ {A = ℕ} 0 1 = cc (sym tried_stands.1 ∙ e) in omega arith) one two
      (record { base_length = inr one_fits.page_length; page_length = two_fits.page_length })),
)

-- Another base after a cut

-- `two`, written to a block whose base is `one`; until now no block had a base
abbrev over_one : ℕ → Lent
over_one b = record { block = b; decision = decides one two }

over_fits : PagesFit page_size one two
over_fits = record { base_length = inr one_fits.page_length; page_length = two_fits.page_length }

-- a write to block b, a cut that covers block 1 alone, and block b again, over its new base
abbrev pub rebased : ℕ → List Operation
rebased b = puts b one ∷ wipe 1 ∷ write (over_one b) ∷ []

pub rebased_accepted : (b : ℕ) → b < 2 → accepted page_size sample (rebased b) ≡ rebased b
unfolding run taking
rebased_accepted b h =
    let s1 : Areas = next page_size sample (to b one) in
    let s2 : Areas = cut_next page_size s1 1 in
    rw (
      eq-eqb (outcome page_size sample (to b one)).number 0 (takes [] (to b one) h one_fit),
      eq-eqb (cutting page_size s1 1).number 0 (cut_takes (puts b one ∷ []) 1 (lit≤ tt)),
      eq-eqb (outcome page_size s2 (over_one b)).number 0 (takes (puts b one ∷ wipe 1 ∷ []) (over_one b) h (decides_fit one two over_fits)),
    )

-- block 1 was covered: no base at the beginning, `one` at the end
abbrev pub none_at_first : ℕ → List ℕ
none_at_first b = []

abbrev pub one_in_the_end : ℕ → List ℕ
one_in_the_end b = cond (eqb b 1) one []

pub covered_follows : FollowsBases page_size none_at_first sample (rebased 1) one_in_the_end
covered_follows = rw (rebased_accepted 1 (lit< tt)) (decides_by [] one one_fits, (one_in_the_end, below, (decides_by one two over_fits, λ b. refl)))
  where
    below : (b : ℕ) → b < 1 → page_of page_size [] ≡ page_of page_size (one_in_the_end b)
    below zero h = refl
    below (suc b) h = absurd (omega (arith, h))

-- so the run is over the bases that it ends with, and block 1 reads as `two` over its new one
pub covered_over : OverBases page_size one_in_the_end sample (rebased 1)
covered_over = changed_bases_enough sample (rebased 1) none_at_first one_in_the_end covered_follows

pub covered_reads : (read_at page_size (after page_size sample (rebased 1)) 1 one one).page ≡ two
unfolding run last_to last_such later concerns
covered_reads =
    let stands : last_to 1 (accepted page_size sample (rebased 1)) ≡ some (write (over_one 1)) = rw (rebased_accepted 1 (lit< tt)) refl in
    ap (λ (o : ReadOutcome). o.page)
    (reads_as_last sample sample_fresh (rebased 1) 1 (rw (two_blocks []) (lit< tt)) (over_one 1) stands one one
    (record { base_length = inr one_fits.page_length; page_length = one_fits.page_length })
    (covered_over 1 (rw (two_blocks []) (lit< tt)) (over_one 1) stands))

-- block 0 was not: whatever the bases are at the end, the run is none of the request's
pub below_does_not_follow : (end : ℕ → List ℕ) → FollowsBases page_size none_at_first sample (rebased 0) end → ⊥
unfolding kind_for
below_does_not_follow end f =
    let g = rw (rebased_accepted 0 (lit< tt)) at f in
    let c = compared_by page_size (g.1.0 0) (decides one two) g.1.2.0 in
    let small : (decides one two).kind ≡ 1 = ap (λ (l : List ℕ). kind_for (length l)) stream_next in
    let z : ◌≡◌ {A = ℕ} 2 4 =
    ap (λ (l : List ℕ). length l)
    (sym stream_next ∙ c.payload small ∙ ap (λ (β : List ℕ). written β two) (sym (g.1.1 0 (lit< tt))) ∙ stream_two) in
    omega arith
