-- The words of the statements about carrying out, each as the request has it. P is the page size, 8,192 in the calls.
use Rattle.std.specs.Prelude.{ℕ, ◌≤◌, ◌<◌, ◌≡◌, false, List, length}
use Rattle.span.specs.Bytes.{zeros}
use Rattle.layout.specs.Sizes.{empty_kind, patch_kind, full_kind}
use Rattle.slots.specs.Slots.{empty_slot, patch_slot, full_slot}
use Rattle.payload.specs.Entries.{payload_stream, applied, sound}
use Rattle.blockmap.specs.Pairs.{map_bytes}
use Rattle.stream.specs.Calls.{page_of}
use Rattle.store.specs.Block.{slot_of, place_of}
use Rattle.carrying.specs.Puts.{Decision}
use Rattle.promises.specs.Words.{blocks, places, LengthsFit, AreasRefuse, AreasFit, SameFrame, Large, MapFits}
use Rattle.promises.specs.Decisions.{Fit}

-- "and at the page only for FULL_REF"
abbrev pub PageFits : ℕ → Decision → Type 0
PageFits P d = d.kind ≡ full_kind → length d.page ≡ P

-- "Refusals: 1 for a FULL_REF page, 6 for a kind above 2, 7 for an unsound PATCH payload, in 01's order": k is given just under these
-- conditions
pub data CarryGives (P : ℕ) (patch full : List ℕ) (b : ℕ) (d : Decision) : ℕ → Type 0 where
  page : d.kind ≡ full_kind → (length d.page ≡ P → ⊥) → CarryGives P patch full b d 1
  frame : {k : ℕ} → PageFits P d → AreasRefuse P patch full k → CarryGives P patch full b d k
  block : PageFits P d → AreasFit P patch full → blocks patch ≤ b → CarryGives P patch full b d 5
  kind : AreasFit P patch full → b < blocks patch → full_kind < d.kind → CarryGives P patch full b d 6
  no_room : AreasFit P patch full → b < blocks patch → d.kind ≡ full_kind → length d.page ≡ P → places P full ≤ b
      → CarryGives P patch full b d 8
  payload : AreasFit P patch full → b < blocks patch → d.kind ≡ patch_kind → sound P d.payload ≡ false
      → CarryGives P patch full b d 7
  done : AreasFit P patch full → b < blocks patch → Fit P d → (d.kind ≡ full_kind → b < places P full) → CarryGives P patch full b d 0

-- with a lent map: "9 for a short map in 01's place"
pub data CarryMappedGives (P : ℕ) (patch full map : List ℕ) (b : ℕ) (d : Decision) : ℕ → Type 0 where
  page : d.kind ≡ full_kind → (length d.page ≡ P → ⊥) → CarryMappedGives P patch full map b d 1
  lengths : PageFits P d → (LengthsFit P patch full → ⊥) → CarryMappedGives P patch full map b d 2
  short : PageFits P d → LengthsFit P patch full → length map < map_bytes (blocks patch) → CarryMappedGives P patch full map b d 9
  -- with a map that fits, as without one
  inside : {k : ℕ} → MapFits patch map → CarryGives P patch full b d k → CarryMappedGives P patch full map b d k

-- the numbers that are left where a Compare that answered 0 decided
pub data PairGives (P : ℕ) (patch full : List ℕ) (b : ℕ) (base page : List ℕ) : ℕ → Type 0 where
  frame : {k : ℕ} → AreasRefuse P patch full k → PairGives P patch full b base page k
  block : AreasFit P patch full → blocks patch ≤ b → PairGives P patch full b base page 5
  no_room : AreasFit P patch full → b < blocks patch → Large P base page → places P full ≤ b → PairGives P patch full b base page 8
  done : AreasFit P patch full → b < blocks patch → (Large P base page → b < places P full) → PairGives P patch full b base page 0

-- slot and place of a decision: the payload counts only for PATCH, the page only for FULL_REF
pub data CarriedAs (P : ℕ) (d : Decision) : ℕ → List ℕ → List ℕ → Type 0 where
  empty : CarriedAs P d empty_kind empty_slot (zeros P)
  patch : CarriedAs P d patch_kind (patch_slot d.payload) (zeros P)
  full : CarriedAs P d full_kind full_slot d.page

-- patch' and full' are patch and full with a decision carried out at block b, if there is a place for it, and no other byte changed
pub record Carried (P : ℕ) (patch full : List ℕ) (b : ℕ) (d : Decision) (patch' full' : List ℕ) : Type 0 where
  pub content : List ℕ
  pub carried : CarriedAs P d d.kind (slot_of patch' b) content
  pub place : b < places P full → place_of P full' b ≡ content
  pub frame : SameFrame patch full patch' full'
  pub other_slots : (c : ℕ) → (c ≡ b → ⊥) → slot_of patch' c ≡ slot_of patch c
  pub other_places : (c : ℕ) → (c ≡ b → ⊥) → place_of P full' c ≡ place_of P full c

-- what Read gives of a block at which a decision was carried out: "the base (0), the base with the payload's entries (1), the page (2)"
pub data ReadAs (P : ℕ) (base : List ℕ) (d : Decision) : List ℕ → Type 0 where
  base_page_is : d.kind ≡ empty_kind → ReadAs P base d (page_of P base)
  patched : d.kind ≡ patch_kind → ReadAs P base d (applied (page_of P base) (payload_stream P d.payload))
  own_page : d.kind ≡ full_kind → ReadAs P base d d.page
