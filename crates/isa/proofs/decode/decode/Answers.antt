use Rattle.std.proofs.Common.{sym, ap, ◌∙◌}
use Rattle.isa.specs.Decoding.{decodes}
use Rattle.isa.specs.Executing.{enact, outcome_in}
use Rattle.isa.proofs.Does.{decodes_to}
use Rattle.isa.proofs.decode.decode.Goals as goal

pub returns : goal.returns
unfolding decodes
returns c =
    let e = c.decode_by_opcode.ensures in
    record { value = e; manual = λ s. decodes_to c.args.word s ∙ ap (λ d. enact s (outcome_in s.regs s.pc d)) (sym e) }
