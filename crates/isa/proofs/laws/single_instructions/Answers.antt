use Rattle.isa.proofs.Does.{single_laws}
use Rattle.isa.proofs.laws.single_instructions.Goals as goal

pub returns : goal.returns
returns c = single_laws
