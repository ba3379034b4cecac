-- What the first core's words stand for: a state that can come about with the history.
use Rattle.std.specs.Prelude.{ℕ, List}
use Rattle.isa.specs.Manual.{Code, Mem}
use Rattle.pins.specs.Outside.{Hist}
use Rattle.pins.specs.PortWords.{inputs_of, shown}
use Rattle.pins.specs.Reach.{Mealy, Stands as StandsBy}
use Rattle.first.specs.declared.state.Core.{Core}
use Rattle.first.specs.WorkRules.{core_start}
use Rattle.first.specs.Step.{next, outputs}
use Rattle.first.specs.Layout.{decode}

abbrev pub machine : Mealy Core
machine = record { first = core_start; next = λ k i. next k (inputs_of i); out = λ k i. shown (outputs k (inputs_of i)) }

abbrev pub Stands : Code → Mem → ℕ → Hist → List ℕ → Type 0
Stands = StandsBy machine decode
