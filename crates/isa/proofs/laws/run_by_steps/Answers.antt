use Rattle.isa.proofs.RunSteps.{run_laws}
use Rattle.isa.proofs.laws.run_by_steps.Goals as goal

pub returns : goal.returns
returns c = run_laws
