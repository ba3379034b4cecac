use Rattle.window.proofs.QueueList.{queue_laws}
use Rattle.window.proofs.laws.queues_are_lists.Goals as goal

pub returns : goal.returns
returns c = queue_laws
