use Rattle.std.proofs.Common.{rules}
use Rattle.reference.specs.Memory.{words_of}
use Rattle.reference.proofs.memory.Memory.get.Goals as goal

pub returns : goal.returns
unfolding words_of
returns c = search rules
