use Rattle.pins.proofs.Reaching.{reach_laws}
use Rattle.pins.proofs.laws.reach.Goals as goal

pub returns : goal.returns
returns g c = reach_laws _
