-- Facts about numbers as the tests that definitions are written with: `search tests` under the definition's `unfolding`.
use Rattle.std.proofs.Common.{lt-ltb, le-ltb, le-leb, eq-eqb, ne_eqb, arith}
use Rattle.std.proofs.lemmas.Bool.{lt-leb}

pub ruleset tests = (le-leb, lt-leb, eq-eqb, ne_eqb, lt-ltb, le-ltb, arith)
