-- The text that `slotinfo` prints.
use Rattle.std.specs.Prelude.{ℕ, zero, suc, ◌+◌, ◌/◌, ◌%◌, cond, List, [], ◌∷◌, ◌++◌, eqb, ltb, ℤ, pos, negsuc}
use Prim.Native.Char.{code}
use Rattle.layout.specs.Sizes.{empty_kind, patch_kind}
use Rattle.span.specs.Ascii.{ascii}
use Rattle.info.specs.Info.{InfoNumbers}

-- the places that the code is asked to write at lie below this
abbrev pub widest : ℕ
widest = 1000

-- and the text of every answer has at most so many bytes
abbrev pub longest : ℕ
longest = 100

-- decimal digits, the most significant first, at most so many
unfoldable pub decimal_in : ℕ → ℕ → List ℕ
decimal_in zero n = []
decimal_in (suc k) n = cond (ltb n 10) [] (decimal_in k (n / 10)) ++ ((code "0" + n % 10) ∷ [])

-- 20 are enough for every number of 64 bits
abbrev pub decimal : ℕ → List ℕ
decimal n = decimal_in 20 n

-- a word, a number, and the line's end
unfoldable pub number_line : List ℕ → ℕ → List ℕ
number_line word n = word ++ (decimal n ++ ascii "\n")

unfoldable pub kind_line : ℕ → List ℕ
kind_line k = cond (eqb k empty_kind) (ascii "kind empty\n") (cond (eqb k patch_kind) (ascii "kind patch\n") (ascii "kind full\n"))

-- −1 stands for no position: no other position is below 0
unfoldable pub last_line : ℤ → List ℕ
last_line (pos n) = number_line (ascii "last ") n
last_line (negsuc n) = ascii "last -1\n"

-- the four lines of a slot
unfoldable pub slot_text : InfoNumbers → List ℕ
slot_text i =
    kind_line i.kind
    ++ (number_line (ascii "length ") i.length
    ++ (number_line (ascii "entries ") i.entries
    ++ last_line i.last))

-- or the one line of a refusal
unfoldable pub text : InfoNumbers → List ℕ
text i = cond (eqb i.number 0) (slot_text i) (number_line (ascii "refused ") i.number)
