use Rattle.pins.proofs.Waiting.{wait_laws}
use Rattle.pins.proofs.laws.waits.Goals as goal

pub returns : goal.returns
returns c = wait_laws
