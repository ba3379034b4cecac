-- `Front`, by what stands behind it.
use Rattle.std.specs.Prelude.{List}
use Rattle.isa.specs.Runs.{Begins}
use Rattle.pins.specs.Says.{Front}

pub record FrontLaws (A : Type 0) : Type 0 where
  pub front : {xs ys : List A} → Begins xs ys → Front xs ys
  pub begins : {xs ys : List A} → Front xs ys → Begins xs ys
