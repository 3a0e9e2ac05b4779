-- The numbers of two areas that were opened to look at.
use Rattle.std.specs.Prelude.{Result, Ok, Err}
use Rattle.layout.specs.declared.Refusal.{Refusal}
use Rattle.store.specs.declared.areas.Areas.{Areas}
use Rattle.store.specs.Open.{FrameNumbers, opened_numbers}

abbrev pub areas_numbers : Result Areas Refusal → FrameNumbers
areas_numbers (Ok a) = opened_numbers (Ok a.frame)
areas_numbers (Err r) = opened_numbers (Err r)
