use Rattle.isa.proofs.RunByTrace.{run_by_trace}
use Rattle.isa.proofs.laws.run_by_trace.Goals as goal

pub returns : goal.returns
returns c = run_by_trace
