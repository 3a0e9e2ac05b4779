-- The pieces of the writer in pages of an ordinary size.
use Rattle.std.specs.Prelude.{ℕ, ◌≤◌, ◌≡◌, List, length}
use Rattle.std.proofs.Common.{arith, ap, ◌∙◌, subst, take_all}
use Rattle.span.specs.Bytes.{splice, part}
use Rattle.writer.specs.Differences.{written}
use Rattle.payload.specs.Steps.{farthest}
use Rattle.writer.specs.Steps.{near, Differs}
use Rattle.writer.specs.declared.Difference.{Difference}

-- The pieces, in pages of an ordinary size

pub near_is : (page : List ℕ) → length page ≤ farthest → near page ≡ page
unfolding part
near_is page h = take_all farthest page h

pub differs_near : (base page room₀ after : List ℕ) (d : Difference) → length page ≤ farthest → Differs base (near page) room₀ d after
    → Differs base page room₀ d after
differs_near base page room₀ after d h w = subst (λ (l : List ℕ). Differs base l room₀ d after) (near_is page h) w

-- where there is room for the whole stream, it is there
pub differs_fits : (base page room₀ after : List ℕ) (d : Difference) → Differs base page room₀ d after → d.length ≤ length room₀
    → after ≡ splice room₀ 0 (written base page)
differs_fits base page room₀ after d w h =
    let e : d.length ≡ length (written base page) = w.numbers.length in
    w.bytes ∙ ap (λ (l : List ℕ). splice room₀ 0 l) (take_all (length room₀) (written base page) (omega arith))
