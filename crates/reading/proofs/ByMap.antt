-- What a read by the map knows of its frame, and what once its block's pair is found.
use Prim.Native.Nat.{ℕ, ◌≤◌, ◌<◌}
use native.Mathlib.Omega.{arith}
use mathlib.Core.Path.{◌≡◌, sym, ap, ◌∙◌, subst}
use mathlib.Core.Bool.{Bool, true, not}
use mathlib.Core.List.{List, [], ◌∷◌, ◌++◌}
use lib.Dec.{leb, ltb}
use lib.ListN.{length}
use borrow.Author.Tests.{leb-true}
use Rattle.layout.specs.Sizes.{segment, blocks_at_most}
use Rattle.layout.specs.Numbers.{refusal_number}
use Rattle.layout.specs.declared.Refusal.{Refusal}
use Rattle.layout.specs.Refusals.{◌⇐◌, first_of}
use Rattle.layout.specs.Lengths.{blocks_in, patch_fits}
use Rattle.layout.specs.LengthLaws.{patch_fits_is, most_blocks}
use Rattle.blockmap.specs.Pairs.{map_bytes, pair_at}
use Rattle.blockmap.specs.Pack.{kind_of}
use Rattle.blockmap.specs.Calls.{short_map, LookUp}
use Rattle.blockmap.specs.CallLaws.{not_fits}
use Rattle.std.specs.Prelude.{Result, Ok, Err}
use Rattle.layout.specs.Numbers.{kind_number}
use Rattle.layout.specs.declared.Kind.{Kind}
use Rattle.layout.specs.declared.RefusedAt.{RefusedAt}
use Rattle.stream.specs.Calls.{page_of, pages_fit, page_rows}
use Rattle.store.specs.Block.{block_rows}
use Rattle.store.specs.Frame.{frame_rows}
use Rattle.store.specs.Open.{open_numbers, opened_numbers}
use Rattle.store.specs.OpenLaws.{Lent, buffered_refused, buffered_frame}
use Rattle.store.specs.declared.frame.Frame.{Frame}
use Rattle.reading.specs.Mapped.{own_rows, read_mapped_outcome, ReadMapped}
use Rattle.reading.specs.Parts.{kind_outcome, KindRead}
use Rattle.reading.specs.MappedLaws.{mapped_within, same_base_as, look_refuses, look_none, look_kind, look_below}

-- a sound frame beside a map that is long enough
pub record Lain (P : ℕ) (patch full map base page : List ℕ) (size n m : ℕ) : Type 0 where
  pub lent : Lent P (short_map map (blocks_in (length patch))) patch full base page size n m
  pub few : n ≤ blocks_at_most P
  pub long : map_bytes n ≤ length map

module _ (P : ℕ) (patch full map base page : List ℕ) (n k : ℕ) (fit : Bool) (e : n ≡ blocks_in (length patch)) (f : k ≡ map_bytes n)
    (g : fit ≡ pages_fit P base page) where
  needed : k ≡ map_bytes (blocks_in (length patch))
  needed = f ∙ ap map_bytes e

  row : not (leb k (length map)) ≡ ltb (length map) (map_bytes (blocks_in (length patch)))
  row = sym (not_fits k (length map)) ∙ ap (λ (l : ℕ). ltb (length map) l) needed

  pub lain_refused : (r : Refusal) → opened_numbers (Err r) ≡ open_numbers P fit (leb k (length map)) patch full
      → first_of (frame_rows P (page_rows P base page) (short_map map (blocks_in (length patch))) patch full) ≡ refusal_number r
  lain_refused r told =
      ap (λ (t : Bool). first_of (frame_rows P (page_rows P base page) ((9 ⇐ t) ∷ []) patch full)) (sym row)
      ∙ buffered_refused P patch full base page fit (leb k (length map)) g r told

  pub lain_frame : (x : Frame) → opened_numbers (Ok x) ≡ open_numbers P fit (leb k (length map)) patch full
      → Lain P patch full map base page x.size x.n x.m
  lain_frame x told =
      let w = buffered_frame P patch full base page fit (leb k (length map)) g x told in
      let o = subst (λ (t : Bool). Lent P ((9 ⇐ t) ∷ []) patch full base page x.size x.n x.m) row w.1 in
      let fits : patch_fits P (length patch) ≡ true = subst (λ (s : ℕ). patch_fits s (length patch) ≡ true) o.own o.patch_fit in
      let l : k ≤ length map = leb-true k (length map) w.0 in
      let same_map : map_bytes x.n ≡ k = ap map_bytes o.blocks ∙ sym needed in
      record { lent = o; few = omega (arith, o.blocks, (patch_fits_is P (length patch) fits).1); long = omega (arith, same_map, l) }

-- and the block's own pair stands for this kind
pub record Found (P : ℕ) (patch full map : List ℕ) (b : ℕ) (base page : List ℕ) (size n m : ℕ) (kind : Kind) : Type 0 where
  pub lent : Lent P (short_map map (blocks_in (length patch))) patch full base page size n m
  pub none : first_of (block_rows patch b ++ own_rows (pair_at map b)) ≡ 0
  pub own : kind_number kind ≡ kind_of (pair_at map b)
  pub below : b < segment

module _ (P : ℕ) (patch full map : List ℕ) (b : ℕ) (base page : List ℕ) (size n m : ℕ) (o : Lain P patch full map base page size n m) where
  pub pair_refused : (r : Refusal) → LookUp P map n b (Err r) → first_of (block_rows patch b ++ own_rows (pair_at map b)) ≡ refusal_number r
  pair_refused r told = look_refuses P patch map n b o.lent.blocks o.few o.long r told

  pub pair_found : (kind : Kind) → LookUp P map n b (Ok kind) → Found P patch full map b base page size n m kind
  pair_found kind l =
      let h : b < n = look_below P patch map n b o.lent.blocks o.few o.long kind l in
      record {
        lent = o.lent;
        none = look_none P patch map n b o.lent.blocks o.few o.long kind l;
        own = look_kind P patch map n b o.lent.blocks o.few o.long kind l;
        below = omega (arith, h, o.few, most_blocks P);
      }

-- what is read by the pair's kind, over a base that stands for the same page, is the call's
pub found_read : (P : ℕ) (patch full map : List ℕ) (b : ℕ) (base base' page : List ℕ) (size n m : ℕ) (kind : Kind)
    (answer : Result Kind RefusedAt) (page' : List ℕ)
    → Found P patch full map b base page size n m kind → page_of P base ≡ page_of P base'
    → KindRead (kind_number kind) size patch full b base' page answer page' → ReadMapped P patch full map b base page answer page'
found_read P patch full map b base base' page size n m kind answer page' o same r =
    let v : ℕ = kind_of (pair_at map b) in
    let e : read_mapped_outcome P patch full map b base page ≡ kind_outcome (kind_number kind) P patch full b base' page =
    mapped_within P patch full map b base page o.lent.none o.none
    ∙ same_base_as v P patch full b base base' page same
    ∙ ap (λ (j : ℕ). kind_outcome j P patch full b base' page) (sym o.own) in
    let w = subst (λ (s : ℕ). KindRead (kind_number kind) s patch full b base' page answer page') o.lent.own r in
    record { numbers = rw e w.numbers; bytes = rw e w.bytes }
