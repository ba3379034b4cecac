use Rattle.window.proofs.RetiringList.{retiring_laws}
use Rattle.window.proofs.laws.datapath_retires.Goals as goal

pub returns : goal.returns
returns c = retiring_laws
