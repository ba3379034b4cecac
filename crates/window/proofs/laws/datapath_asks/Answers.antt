use Rattle.window.proofs.AskingList.{asking_laws}
use Rattle.window.proofs.laws.datapath_asks.Goals as goal

pub returns : goal.returns
returns c = asking_laws
