use Rattle.isa.specs.Executing.{executed}
use Rattle.isa.proofs.execute.execute.Goals as goal

pub returns : goal.returns
unfolding executed
returns c = c.execute_kind.ensures
