-- Always right: whatever the schedule, its tables and its predictions.
use Rattle.std.specs.Prelude.{ℕ, List, Option}
use Rattle.pins.specs.Says.{AlwaysRight}
use Rattle.pins.specs.Reach.{Stands}
use Rattle.window.specs.Clocks.{Schedule, State, machine}

abbrev pub WindowRight : Type 0 → Type 0
WindowRight T = (s : Schedule T) (decode : List ℕ → Option (State T)) → AlwaysRight (Stands (machine s) decode)
