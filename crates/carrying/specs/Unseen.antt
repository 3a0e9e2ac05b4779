-- "It looks at the payload only for PATCH ... and at the page only for FULL_REF": the outcome does not depend on what is not looked at,
-- whatever number of stores is told.
use Rattle.std.specs.Prelude.{ℕ, ◌≡◌, Bool, true, false, cond, List, eqb, length, take}
use Rattle.std.proofs.Math.Path.{refl}
use Rattle.std.proofs.Common.{ap, ◌∙◌, eqb-true}
use Rattle.layout.specs.Sizes.{patch_kind, full_kind}
use Rattle.layout.specs.Refusals.{Row, first_of, decided}
use Rattle.layout.specs.Lengths.{blocks_in}
use Rattle.slots.specs.Slots.{slot_image}
use Rattle.blockmap.specs.Pack.{pair_of, set_pair}
use Rattle.blockmap.specs.Calls.{short_map}
use Rattle.carrying.specs.Puts.{Decision, order, carried, told_all}
use Rattle.carrying.specs.CarryOut.{carry_rows, CarryOutcome, carry_by}
use Rattle.carrying.specs.Mapped.{carry_mapped_rows, carry_mapped_told}
use Rattle.carrying.specs.CarryLaws.{puts_alike}

abbrev with : ℕ → List ℕ → List ℕ → Decision
with k payload page = record { kind = k; payload = payload; page = page }

module _ (P : ℕ) (buffers : List Row) (patch full : List ℕ) (b stores : ℕ) where
  -- rows and outcome together: what the map goes by too
  abbrev seen : Decision → ℕ × CarryOutcome
  seen d = (first_of (carry_rows P buffers patch full b d), carry_by P buffers patch full b d stores)

  no_payload : (k : ℕ) (p q page : List ℕ) → eqb k patch_kind ≡ false → seen (with k p page) ≡ seen (with k q page)
  unfolding carry_rows carry_by carried slot_image
  no_payload k p q page e = rw (
    puts_alike P b (with k p page) (with k q page) (rw e) refl (take stores (order k)) (record { patch = patch; full = full }),
    e,
  )

  no_page : (k : ℕ) (p x y : List ℕ) → eqb k full_kind ≡ false → seen (with k p x) ≡ seen (with k p y)
  unfolding carry_rows carry_by carried
  no_page k p x y e = rw (
    puts_alike P b (with k p x) (with k p y) refl (rw e) (take stores (order k)) (record { patch = patch; full = full }),
    e,
  )

  -- two decisions of one kind that differ only in what is not looked at
  alike : (d e : Decision) → d.kind ≡ e.kind → (d.kind ≡ patch_kind → d.payload ≡ e.payload)
      → (d.kind ≡ full_kind → d.page ≡ e.page) → seen d ≡ seen e
  alike d e kinds payloads pages =
      payload (eqb d.kind patch_kind) refl ∙ page (eqb d.kind full_kind) refl
      ∙ ap (λ (k : ℕ). seen (with k e.payload e.page)) kinds
    where
      payload : (t : Bool) → eqb d.kind patch_kind ≡ t → seen d ≡ seen (with d.kind e.payload d.page)
      payload true q = ap (λ (p : List ℕ). seen (with d.kind p d.page)) (payloads (eqb-true d.kind patch_kind q))
      payload false q = no_payload d.kind d.payload e.payload d.page q

      page : (t : Bool) → eqb d.kind full_kind ≡ t → seen (with d.kind e.payload d.page) ≡ seen (with d.kind e.payload e.page)
      page true q = ap (λ (x : List ℕ). seen (with d.kind e.payload x)) (pages (eqb-true d.kind full_kind q))
      page false q = no_page d.kind e.payload d.page e.page q

  pub unseen : (d e : Decision) → d.kind ≡ e.kind → (d.kind ≡ patch_kind → d.payload ≡ e.payload)
      → (d.kind ≡ full_kind → d.page ≡ e.page) → carry_by P buffers patch full b d stores ≡ carry_by P buffers patch full b e stores
  unseen d e kinds payloads pages = ap (λ (x : ℕ × CarryOutcome). x.1) (alike d e kinds payloads pages)

pub unseen_mapped : (P : ℕ) (patch full map : List ℕ) (b stores : ℕ) (d e : Decision) → d.kind ≡ e.kind
    → (d.kind ≡ patch_kind → d.payload ≡ e.payload) → (d.kind ≡ full_kind → d.page ≡ e.page)
    → carry_mapped_told P patch full map b d stores ≡ carry_mapped_told P patch full map b e stores
unfolding carry_mapped_told carry_mapped_rows
unseen_mapped P patch full map b stores d e kinds payloads pages =
    let same = alike P (short_map map (blocks_in (length patch))) patch full b stores d e kinds payloads pages in
    λ i. record {
      areas = (same i).1;
      map = decided (same i).0 (cond (told_all stores) (set_pair map b (pair_of (kinds i))) map) (λ _. map);
    }
