use Rattle.window.proofs.DatapathList.{datapath_laws}
use Rattle.window.proofs.laws.datapath_is_machine.Goals as goal

pub returns : goal.returns
returns c = datapath_laws
