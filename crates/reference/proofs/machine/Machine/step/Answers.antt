use Rattle.std.proofs.Common.{sym, refl, subst}
use Rattle.isa.specs.Manual.{Next}
use Rattle.reference.specs.Memory.{words_of}
use Rattle.reference.specs.Machine.{state, TriesTo}
use Rattle.reference.proofs.machine.Machine.step.Goals as goal

pub returns : goal.returns
returns c =
    let m = c.args.self.now in
    let answers = c.args.answers.now in
    let same = c.perform-outcome.ensures.manual (words_of c.args.code.now) (state m answers) refl refl (sym c.get-word.ensures) in
    subst (λ (n : Next). TriesTo c.enact.result m c.enact.new.self answers n) (sym same) c.enact.ensures
