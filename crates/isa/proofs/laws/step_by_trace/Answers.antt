use Rattle.isa.proofs.StepByTrace.{step_laws}
use Rattle.isa.proofs.laws.step_by_trace.Goals as goal

pub returns : goal.returns
returns c = step_laws
