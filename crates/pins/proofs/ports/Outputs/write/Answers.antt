use Rattle.std.proofs.Common.{rules}
use Rattle.pins.specs.PortWords.{port_words}
use Rattle.pins.proofs.ports.Outputs.write.Goals as goal

pub returns : goal.returns
unfolding port_words
returns c = search rules
