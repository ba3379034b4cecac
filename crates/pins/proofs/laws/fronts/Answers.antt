use Rattle.pins.proofs.Beginnings.{front_laws}
use Rattle.pins.proofs.laws.fronts.Goals as goal

pub returns : goal.returns
returns g c = front_laws _
