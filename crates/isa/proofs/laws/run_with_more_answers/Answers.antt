use Rattle.isa.proofs.MoreAnswers.{answer_laws}
use Rattle.isa.proofs.laws.run_with_more_answers.Goals as goal

pub returns : goal.returns
returns c = answer_laws
