use Rattle.window.proofs.BufferList.{buffer_laws}
use Rattle.window.proofs.laws.buffer_is_list.Goals as goal

pub returns : goal.returns
returns c = buffer_laws
