-- The paper's own offsets.
use Rattle.std.specs.Prelude.{◌≡◌, refl}
use Rattle.layout.specs.Sizes.{slot_at, page_at, blocks_at_most}

-- The paper's own numbers

pub record Offsets : Type 0 where
  pub block_0 : slot_at 0 ≡ 512
  pub block_131071 : slot_at 131071 ≡ 67108864
  pub page_1 : page_at 8192 1 ≡ 12288
  pub most_blocks : blocks_at_most 8192 ≡ 131072

pub offsets : Offsets
offsets = record { block_0 = refl; block_131071 = refl; page_1 = refl; most_blocks = refl }
