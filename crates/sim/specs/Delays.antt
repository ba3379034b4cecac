-- The longest that an answer waits.
use Rattle.std.specs.Prelude.{ℕ}
use Rattle.sim.specs.declared.delay.Delay.{Delay}
use Rattle.sim.specs.declared.delay.Delay.TheVariants.{Fixed, UpTo}

abbrev pub most_of : Delay → ℕ
most_of (Fixed n) = n
most_of (UpTo n) = n
