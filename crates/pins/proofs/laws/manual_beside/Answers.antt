use Rattle.pins.proofs.ManualBeside.{beside_laws}
use Rattle.pins.proofs.laws.manual_beside.Goals as goal

pub returns : goal.returns
returns c = beside_laws
