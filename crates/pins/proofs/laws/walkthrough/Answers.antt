use Rattle.pins.proofs.Walking.{walked}
use Rattle.pins.proofs.laws.walkthrough.Goals as goal

pub returns : goal.returns
returns c = walked
