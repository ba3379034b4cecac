use Rattle.window.proofs.RingList.{ring_laws}
use Rattle.window.proofs.laws.ring_is_list.Goals as goal

pub returns : goal.returns
returns c = ring_laws
