use Rattle.window.proofs.AlwaysRight.{window_right}
use Rattle.window.proofs.laws.always_right.Goals as goal

pub returns : goal.returns
returns g c = window_right _
