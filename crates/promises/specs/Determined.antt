-- "The answer and every lent byte after a call follow from the inputs, refusals too": two outcomes that both meet a call's predicate,
-- which
-- is what its contract cites, have the same answer, the code's own enum, and the same bytes. One statement a call. Of Show the bytes are
-- determined; where an empty part lies cannot be told (docs/PROMISES.md, O1).
use Rattle.std.specs.Prelude.{ℕ, ◌≡◌, List, [], ℤ, Result, ⊤}
use Rattle.std.proofs.Common.{sym, ◌∙◌}
use Rattle.layout.specs.Sizes.{patch_kind, full_kind}
use Rattle.blockmap.specs.Calls.{LookUp, Tally}
use Rattle.blockmap.specs.CallLaws.{look_up_one, tally_one}
use Rattle.entry_reader.specs.Turns.{Turned}
use Rattle.entry_reader.specs.Given.{turned_only}
use Rattle.entry_reader.specs.declared.Turn.{Turn}
use Rattle.stream.specs.Calls.{Compare, Apply}
use Rattle.stream.specs.Only.{compare_only, apply_only}
use Rattle.store.specs.Format.{Format}
use Rattle.store.specs.Judge.{Judge}
use Rattle.store.specs.Show.{Show}
use Rattle.reading.specs.Read.{Read}
use Rattle.carrying.specs.Puts.{Decision}
use Rattle.carrying.specs.CarryOut.{carry_told, CarryOut}
use Rattle.reading.specs.Mapped.{ReadMapped}
use Rattle.carrying.specs.Unseen.{unseen, unseen_mapped}
use Rattle.carrying.specs.Mapped.{carry_mapped_told, CarryOutMapped}
use Rattle.cutting.specs.Cut.{Cut}
use Rattle.cutting.specs.Mapped.{CutMapped}
use Rattle.cutting.specs.Highest.{Highest}
use Rattle.sweeping.specs.Sweep.{Sweep}
use Rattle.building.specs.Build.{Build}
use Rattle.building.specs.BuildMeaning.{build_one}
use Rattle.promises.specs.Answers.{judged_one, reading_one, written_one, extent_one}
use Rattle.layout.specs.NumberLaws.{answer_one}
use Rattle.payload.specs.declared.Sound.{Sound}
use Rattle.layout.specs.declared.RefusedAt.{RefusedAt}
use Rattle.layout.specs.declared.Refusal.{Refusal}
use Rattle.layout.specs.declared.Kind.{Kind}
use Rattle.building.specs.declared.RefusedIn.{RefusedIn}
use Rattle.store.specs.declared.Judged.{Judged}
use Rattle.blockmap.specs.declared.Tallied.{Tallied}
use Rattle.carrying.specs.declared.Written.{Written}
use Rattle.stream.specs.declared.Compared.{Compared}

module _ (P : ℕ) where
  pub one_format : (patch full : List ℕ) (a b : Result ⊤ Refusal) (p q f g : List ℕ) → Format P patch full a p f → Format P patch full b q g
      → (a ≡ b) × (p ≡ q) × (f ≡ g)
  one_format patch full a b p q f g x y =
      (answer_one a b (x.numbers ∙ sym y.numbers), x.patch_bytes ∙ sym y.patch_bytes, x.full_bytes ∙ sym y.full_bytes)

  pub one_compare : (base page buffer : List ℕ) (a b : Result Compared Refusal) (p q : List ℕ) → Compare P base page buffer a p
      → Compare P base page buffer b q → (a ≡ b) × (p ≡ q)
  one_compare = compare_only P

  pub one_apply : (base payload page : List ℕ) (a b : Result Sound RefusedAt) (p q : List ℕ) → Apply P base payload page a p
      → Apply P base payload page b q → (a ≡ b) × (p ≡ q)
  one_apply = apply_only P

  pub one_next : (payload : List ℕ) (at : ℕ) (position : ℤ) (a b : Turn) → Turned P payload at position a → Turned P payload at position b
      → a ≡ b
  one_next = turned_only P

  pub one_judge : (slot : List ℕ) (a b : Result Judged Refusal) → Judge slot a → Judge slot b → a ≡ b
  one_judge slot a b x y = judged_one a b (x.numbers ∙ sym y.numbers)

  -- its bytes, and where they lie
  pub one_show : (patch : List ℕ) (b : ℕ) (lent : ℕ × ℕ) (p q : List ℕ) (to to' : ℕ × ℕ) → Show P patch b lent p to
      → Show P patch b lent q to' → (p ≡ q) × (to.0 ≡ to'.0) × (to.1 ≡ to'.1)
  one_show patch b lent p q to to' x y = (x.bytes ∙ sym y.bytes, x.memory ∙ sym y.memory, x.place ∙ sym y.place)

  pub one_read : (patch full : List ℕ) (n : ℕ) (base page : List ℕ) (a b : Result Kind RefusedAt) (p q : List ℕ)
      → Read P patch full n base page a p → Read P patch full n base page b q → (a ≡ b) × (p ≡ q)
  one_read patch full n base page a b p q x y = (reading_one a b (x.numbers ∙ sym y.numbers), x.bytes ∙ sym y.bytes)

  pub one_carry_out : (patch full : List ℕ) (n : ℕ) (d : Decision) (k : ℕ) (a b : Result Written Refusal) (p q f g : List ℕ)
      → CarryOut P patch full n d k a p f → CarryOut P patch full n d k b q g → (a ≡ b) × (p ≡ q) × (f ≡ g)
  one_carry_out patch full n d k a b p q f g x y =
      (written_one a b (x.numbers ∙ sym y.numbers), x.patch_bytes ∙ sym y.patch_bytes, x.full_bytes ∙ sym y.full_bytes)

  pub one_read_mapped : (patch full map : List ℕ) (n : ℕ) (base page : List ℕ) (a b : Result Kind RefusedAt) (p q : List ℕ)
      → ReadMapped P patch full map n base page a p → ReadMapped P patch full map n base page b q → (a ≡ b) × (p ≡ q)
  one_read_mapped patch full map n base page a b p q x y = (reading_one a b (x.numbers ∙ sym y.numbers), x.bytes ∙ sym y.bytes)

  pub one_carry_out_mapped : (patch full map : List ℕ) (n : ℕ) (d : Decision) (k : ℕ) (a b : Result Written Refusal) (p q f g l m : List ℕ)
      → CarryOutMapped P patch full map n d k a p f l → CarryOutMapped P patch full map n d k b q g m
      → (a ≡ b) × (p ≡ q) × (f ≡ g) × (l ≡ m)
  one_carry_out_mapped patch full map n d k a b p q f g l m x y = (
    written_one a b (x.numbers ∙ sym y.numbers),
    x.patch_bytes ∙ sym y.patch_bytes,
    x.full_bytes ∙ sym y.full_bytes,
    x.map_bytes_is ∙ sym y.map_bytes_is,
  )

  pub one_cut : (patch full : List ℕ) (K : ℕ) (a b : Result ⊤ Refusal) (p q f g : List ℕ) → Cut P patch full K a p f → Cut P patch full K b q g
      → (a ≡ b) × (p ≡ q) × (f ≡ g)
  one_cut patch full K a b p q f g x y =
      (answer_one a b (x.numbers ∙ sym y.numbers), x.patch_bytes ∙ sym y.patch_bytes, x.full_bytes ∙ sym y.full_bytes)

  pub one_cut_mapped : (patch full map : List ℕ) (K : ℕ) (a b : Result ⊤ Refusal) (p q f g l m : List ℕ)
      → CutMapped P patch full map K a p f l → CutMapped P patch full map K b q g m → (a ≡ b) × (p ≡ q) × (f ≡ g) × (l ≡ m)
  one_cut_mapped patch full map K a b p q f g l m x y = (
    answer_one a b (x.numbers ∙ sym y.numbers),
    x.patch_bytes ∙ sym y.patch_bytes,
    x.full_bytes ∙ sym y.full_bytes,
    x.map_bytes_is ∙ sym y.map_bytes_is,
  )

  pub one_sweep : (patch full : List ℕ) (a b : Result ⊤ Refusal) (f g : List ℕ) → Sweep P patch full a f → Sweep P patch full b g → (a ≡ b) × (f ≡ g)
  one_sweep patch full a b f g x y = (answer_one a b (x.numbers ∙ sym y.numbers), x.full_bytes ∙ sym y.full_bytes)

  pub one_highest : (patch : List ℕ) (a b : Result ℕ Refusal) → Highest P patch a → Highest P patch b → a ≡ b
  one_highest patch a b x y = extent_one a b (x.numbers ∙ sym y.numbers)

  pub one_build : (patch full map : List ℕ) (a b : Result ⊤ RefusedIn) (p q : List ℕ) → Build P patch full map a p → Build P patch full map b q
      → (a ≡ b) × (p ≡ q)
  one_build = build_one P

  pub one_look_up : (map : List ℕ) (n b : ℕ) (x y : Result Kind Refusal) → LookUp P map n b x → LookUp P map n b y → x ≡ y
  one_look_up = look_up_one P

  pub one_tally : (map : List ℕ) (n : ℕ) (x y : Result Tallied Refusal) → Tally P map n x → Tally P map n y → x ≡ y
  one_tally = tally_one P

-- "It looks at the payload only for PATCH ... and at the page only for FULL_REF": two decisions that differ in what is not looked at have one
-- outcome, so the same answer and the same bytes, refused or not. Whatever is lent as the payload with kinds 0, 2 and above, and as the page
-- with kinds 0, 1 and above 2, of whatever length, cannot matter, whatever number of stores is told.
pub record LooksAlike (d e : Decision) : Type 0 where
  pub kinds : d.kind ≡ e.kind
  pub payloads : d.kind ≡ patch_kind → d.payload ≡ e.payload
  pub pages : d.kind ≡ full_kind → d.page ≡ e.page

pub unseen_carry_out : (P : ℕ) (patch full : List ℕ) (b k : ℕ) (d e : Decision) → LooksAlike d e
    → carry_told P patch full b d k ≡ carry_told P patch full b e k
unseen_carry_out P patch full b k d e same = unseen P [] patch full b k d e same.kinds same.payloads same.pages

pub unseen_carry_out_mapped : (P : ℕ) (patch full map : List ℕ) (b k : ℕ) (d e : Decision) → LooksAlike d e
    → carry_mapped_told P patch full map b d k ≡ carry_mapped_told P patch full map b e k
unseen_carry_out_mapped P patch full map b k d e same = unseen_mapped P patch full map b k d e same.kinds same.payloads same.pages

-- so two programs that meet the contract of carrying out, lent such decisions, give the same
pub one_unseen : (P : ℕ) (patch full : List ℕ) (n k : ℕ) (d e : Decision) → LooksAlike d e → (a b : Result Written Refusal) (p q f g : List ℕ)
    → CarryOut P patch full n d k a p f → CarryOut P patch full n e k b q g → (a ≡ b) × (p ≡ q) × (f ≡ g)
one_unseen P patch full n k d e same a b p q f g x y =
    let o = unseen_carry_out P patch full n k d e same in
    one_carry_out P patch full n d k a b p q f g x (
    record { numbers = rw o y.numbers; patch_bytes = rw o y.patch_bytes; full_bytes = rw o y.full_bytes })
