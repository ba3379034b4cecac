use Rattle.isa.proofs.WordState.{width_laws}
use Rattle.isa.proofs.laws.run_of_words.Goals as goal

pub returns : goal.returns
returns c = width_laws
