use Rattle.pins.proofs.Examples.{worked}
use Rattle.pins.proofs.worked_examples.Goals as goal

pub returns : goal.returns
returns c = worked
