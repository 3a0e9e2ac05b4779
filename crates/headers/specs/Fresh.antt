-- Freshly formatted areas: headers, then zeros.
use Rattle.std.specs.Prelude.{ℕ, ◌-◌, cond, List, [], ◌++◌, eqb}
use Rattle.layout.specs.Sizes.{patch_head, full_head}
use Rattle.span.specs.Bytes.{zeros}
use Rattle.headers.specs.Headers.{patch_header, full_header}

-- freshly formatted areas of these lengths: headers, then zeros
unfoldable pub fresh_patch : ℕ → ℕ → List ℕ
fresh_patch P patch_length = patch_header P ++ zeros (patch_length - patch_head)

unfoldable pub fresh_full : ℕ → ℕ → List ℕ
fresh_full P full_length = cond (eqb full_length 0) [] (full_header P ++ zeros (full_length - full_head))
