use Rattle.reference.specs.Memory.{words_of}
use Rattle.reference.specs.Machine.{state}
use Rattle.reference.proofs.Running.{SoFar}
use Rattle.reference.proofs.machine.Machine.run.Given as goal

abbrev pub invariant-loop : goal.invariant-loop
invariant-loop l = SoFar l.history (words_of l.code) (state l.initial.self l.answers) l.counter (state l.self l.answers)
