-- The layout's sizes and places, each once. The code has the same numbers as constants of its type `Layout`, and `Layout::agrees` ties
-- the two. The page size is a parameter of every definition; `page_size` is the one size that the calls have today.
use Rattle.std.specs.Prelude.{ℕ, ◌+◌, ◌-◌, ◌*◌, ◌/◌, List, [], ◌∷◌}

abbrev pub page_size : ℕ
page_size = 8192

-- the most bytes of pages that one segment has
abbrev pub segment : ℕ
segment = 1073741824

abbrev pub blocks_at_most : ℕ → ℕ
blocks_at_most P = segment / P

abbrev pub patch_head : ℕ
patch_head = 512

abbrev pub full_head : ℕ
full_head = 4096

abbrev pub slot_size : ℕ
slot_size = 512

-- Headers: how many bytes their numbers take, their places, and what stands there

-- versions, flags and a payload's length
abbrev pub short_width : ℕ
short_width = 2

-- sizes
abbrev pub size_width : ℕ
size_width = 4

abbrev pub version_at : ℕ
version_at = 8

-- what follows the version: flags, sizes and zero bytes
abbrev pub rest_at : ℕ
rest_at = 10

abbrev pub page_size_at : ℕ
page_size_at = 12

abbrev pub slot_size_at : ℕ
slot_size_at = 16

abbrev pub patch_fields_size : ℕ
patch_fields_size = slot_size_at + size_width

abbrev pub full_fields_size : ℕ
full_fields_size = page_size_at + size_width

-- `PBKPATCH`
abbrev pub patch_magic : List ℕ
patch_magic = 80 ∷ 66 ∷ 75 ∷ 80 ∷ 65 ∷ 84 ∷ 67 ∷ 72 ∷ []

-- `PBKFULL` and a zero byte
abbrev pub full_magic : List ℕ
full_magic = 80 ∷ 66 ∷ 75 ∷ 70 ∷ 85 ∷ 76 ∷ 76 ∷ 0 ∷ []

abbrev pub patch_version : ℕ
patch_version = 2

abbrev pub full_version : ℕ
full_version = 1

abbrev pub header_flags : ℕ
header_flags = 0

-- Slots: places, and what stands there

abbrev pub kind_at : ℕ
kind_at = 0

abbrev pub slot_flags_at : ℕ
slot_flags_at = 1

abbrev pub length_at : ℕ
length_at = 2

abbrev pub reserved_at : ℕ
reserved_at = 4

abbrev pub payload_at : ℕ
payload_at = 8

abbrev pub room : ℕ
room = slot_size - payload_at

abbrev pub empty_kind : ℕ
empty_kind = 0

abbrev pub patch_kind : ℕ
patch_kind = 1

abbrev pub full_kind : ℕ
full_kind = 2

abbrev pub patch_flags : ℕ
patch_flags = 1

-- Places in the areas

abbrev pub slot_at : ℕ → ℕ
slot_at b = patch_head + slot_size * b

abbrev pub page_at : ℕ → ℕ → ℕ
page_at P b = full_head + P * b
