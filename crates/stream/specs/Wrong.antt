-- A wrong program that the predicate of Apply shuts out: one that writes entries while it checks them, so that a broken last entry leaves
-- half a page behind.
use Rattle.std.specs.Prelude.{ℕ, ◌≡◌, refl, List, [], ◌∷◌, get_or}
use Rattle.std.proofs.Common.{arith, ap, ◌∙◌}
use Rattle.span.specs.Bytes.{zeros}
use Rattle.layout.specs.Sizes.{page_size}
use Rattle.layout.specs.declared.Refusal.TheVariants.{Payload}
use Rattle.payload.specs.Entries.{stream, in_page, put, applied, payload_stream}
use Rattle.stream.specs.Calls.{page_of, Apply}
use Rattle.stream.specs.Edges.{absent, refuses_cut}
use Rattle.layout.specs.Numbers.{refused_at}

-- the page that it leaves when it refuses: the base, and the entries before the broken one
unfoldable pub while_checking : ℕ → List ℕ → List ℕ → List ℕ
while_checking P base payload = applied (page_of P base) (payload_stream P payload)

-- at `00 07 00` it refuses with 7, as it should, and has changed byte 0
pub applying_while_checking : Apply page_size [] (0 ∷ 7 ∷ 0 ∷ []) (zeros page_size) (refused_at Payload 2)
    (while_checking page_size [] (0 ∷ 7 ∷ 0 ∷ [])) → ⊥
unfolding while_checking zeros page_of stream in_page put applied
applying_while_checking a =
    let e : while_checking page_size [] (0 ∷ 7 ∷ 0 ∷ []) ≡ zeros page_size = a.bytes ∙ refuses_cut.bytes [] absent (zeros page_size) refl in
    let f : ◌≡◌ {A = ℕ} 7 0 = ap (λ (l : List ℕ). get_or l 0 0) e in
    omega arith
