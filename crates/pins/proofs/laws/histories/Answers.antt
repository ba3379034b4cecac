use Rattle.pins.proofs.Histories.{history_laws}
use Rattle.pins.proofs.laws.histories.Goals as goal

pub returns : goal.returns
returns c = history_laws
