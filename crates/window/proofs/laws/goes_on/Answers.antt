use Rattle.window.proofs.GoesOn.{window_goes_on}
use Rattle.window.proofs.laws.goes_on.Goals as goal

pub returns : goal.returns
returns g c = window_goes_on _
