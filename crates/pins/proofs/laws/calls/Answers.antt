use Rattle.pins.proofs.Calls.{call_laws}
use Rattle.pins.proofs.laws.calls.Goals as goal

pub returns : goal.returns
returns g c = call_laws _
