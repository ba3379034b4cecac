use Rattle.pins.proofs.Settling.{settled_laws}
use Rattle.pins.proofs.laws.settled_answers.Goals as goal

pub returns : goal.returns
returns c = settled_laws
