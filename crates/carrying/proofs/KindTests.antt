-- How the code tells kinds apart, by their numbers.
use Prim.Native.Nat.{◌≤◌}
use native.Mathlib.Omega.{arith}
use mathlib.Core.Path.{◌≡◌, refl}
use lib.Dec.{eqb}
use denote.Enum.Bare.{sameb}
use Rattle.layout.specs.Sizes.{patch_kind, full_kind}
use Rattle.layout.specs.Numbers.{kind_number}
use Rattle.layout.specs.contracts.Kind.{the_type}
use Rattle.layout.specs.declared.Kind.{Kind}
use Rattle.layout.specs.declared.Kind.TheVariants.{Empty, Patch, Full}

pub is_patch : (k : Kind) → sameb the_type k Patch ≡ eqb (kind_number k) patch_kind
is_patch Empty = refl
is_patch Patch = refl
is_patch Full = refl

pub is_full : (k : Kind) → sameb the_type k Full ≡ eqb (kind_number k) full_kind
is_full Empty = refl
is_full Patch = refl
is_full Full = refl

pub kind_few : (k : Kind) → kind_number k ≤ full_kind
kind_few Empty = omega arith
kind_few Patch = omega arith
kind_few Full = omega arith
