-- The position that a text says: a signed number of 32 bits.
use Rattle.std.specs.Prelude.{ℕ, ◌-◌, cond, List, eqb, leb, ltb, get_or, ℤ, pos, negsuc}
use Rattle.cases.specs.Decimal.{decimal}

-- one more than the highest position
abbrev pub held : ℕ
held = 2147483648

-- at or above 0, and 0 where it does not fit
unfoldable pub above : ℕ → ℤ
above size = cond (leb held size) (pos 0) (pos size)

-- below 0, and 0 where it does not fit
unfoldable pub below : ℕ → ℤ
below size = cond (eqb size 0) (pos 0) (cond (ltb held size) (pos 0) (negsuc (size - 1)))

-- `-` is 45
abbrev pub position : List ℕ → ℤ
position text = cond (eqb (get_or text 0 0) 45) (below (decimal 0 text)) (above (decimal 0 text))
