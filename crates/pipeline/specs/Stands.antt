-- The pipeline as a machine of its own, and the general machine's state that its arrays stand for.
use Rattle.pins.specs.PortWords.{inputs_of, shown}
use Rattle.pins.specs.Reach.{Mealy}
use Rattle.window.specs.Datapaths.{lists}
use Rattle.window.specs.Clocks.{State}
use Rattle.pipeline.specs.declared.state.Core.{Core}
use Rattle.pipeline.specs.Step.{core_start, next, outputs}
use Rattle.pipeline.specs.Schedule.{Tables, tables}

abbrev pub machine : Mealy Core
machine = record { first = core_start; next = λ k i. next k (inputs_of i); out = λ k i. shown (outputs k (inputs_of i)) }

abbrev pub window_of : Core → State Tables
window_of k = record { core = lists k.path; tables = tables k.turn }
