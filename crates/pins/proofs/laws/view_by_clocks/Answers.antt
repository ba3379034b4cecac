use Rattle.pins.proofs.ViewClock.{view_laws}
use Rattle.pins.proofs.laws.view_by_clocks.Goals as goal

pub returns : goal.returns
returns c = view_laws
