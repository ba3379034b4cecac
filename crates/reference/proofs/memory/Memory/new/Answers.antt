use Rattle.reference.specs.Memory.{words_of}
use Rattle.reference.proofs.Words.{reads_none}
use Rattle.reference.proofs.memory.Memory.new.Goals as goal

pub returns : goal.returns
unfolding words_of
returns c = reads_none c.new.result c.new.ensures.empty
