-- What the code gives at each of its ends is the turn that the definitions say. The code reads the position back from its bits, as z.
use Prim.Native.Nat.{ℕ, ◌≤◌, ◌<◌}
use mathlib.Core.Path.{◌≡◌, sym, ap, ◌∙◌, subst}
use mathlib.Core.Bool.{Bool, true, false}
use mathlib.Core.List.{List}
use lib.ListN.{length}
use lib.IntN.{ℤ}
use mir.Syntax.{w32}
use mir.Val.{SFits, to_z, of_z}
use mir.ValLaws.{to_z-of_z}
use Rattle.payload.specs.Steps.{Follows}
use Rattle.payload.specs.declared.Step.{Step}
use Rattle.payload.specs.declared.Step.TheVariants.{Entry as Next}
use Rattle.entry_reader.specs.Turns.{roomy, stands, left, stays, turn_at, Turned}
use Rattle.entry_reader.specs.TurnLaws.{turn_unfit, turn_outside, turn_past, turn_read, turn_told, turn_told_is}
use Rattle.entry_reader.specs.declared.Found.TheVariants.{Entry, End, Stopped}
use Rattle.entry_reader.specs.declared.Turn.{Turn}
use Rattle.payload.proofs.Turns.{place_back}

module _ (n : ℕ) (payload : List ℕ) (at : ℕ) (p : ℤ) (p_fits : SFits w32 p) (t : Turn) where
  abbrev z : ℤ
  z = to_z w32 (of_z w32 p)

  carried : t ≡ turn_at n payload at z → Turned n payload at p t
  carried e = record { turn = e ∙ ap (λ (x : ℤ). turn_at n payload at x) (to_z-of_z w32 p p_fits) }

  pub unfit : roomy payload ≡ false → t ≡ stays (Stopped at) at z → Turned n payload at p t
  unfit r e = carried (e ∙ sym (turn_unfit n payload at z r))

  pub ended : roomy payload ≡ true → length payload ≤ at → t ≡ stays End at z → Turned n payload at p t
  ended r h e = carried (e ∙ sym (turn_past n payload at z r h))

  -- the answer of the code's `stands`
  module _ (r : roomy payload ≡ true) (b : Bool) (is : b ≡ stands n z) where
    pub outside : at < length payload → b ≡ false → t ≡ stays (Stopped at) at z → Turned n payload at p t
    outside h o e = carried (e ∙ sym (turn_outside n payload at z r h (sym is ∙ o)))

    -- the decoder's step, once a `match` has told which it is
    pub stepped : b ≡ true → (s s' : Step) → s ≡ s' → Follows n payload at (left n payload at z) s → t ≡ turn_told at z s' → Turned n payload at p t
    stepped o s s' q f e =
        carried
        (e
        ∙ sym (turn_told_is n payload at z s' (subst (λ (x : Step). Follows n payload at (left n payload at z) x) q f))
        ∙ sym (turn_read n payload at z r (sym is ∙ o)))

    -- an entry, whose position the code reads back too
    pub entered : n ≤ 65536 → b ≡ true → (s : Step) (q : ℤ) (v next : ℕ) → s ≡ Next q v next → Follows n payload at (left n payload at z) s
        → t ≡ record { found = Entry (to_z w32 (of_z w32 q)) v; at = next; position = to_z w32 (of_z w32 q) } → Turned n payload at p t
    entered k o s q v next m f e =
        let g : Follows n payload at (left n payload at z) (Next q v next) = subst (λ (x : Step). Follows n payload at (left n payload at z) x) m f in
        let back : to_z w32 (of_z w32 q) ≡ q = place_back n q k g.lands in
        stepped o s (Next q v next) m f (e ∙ (λ i. record { found = Entry (back i) v; at = next; position = back i }))
