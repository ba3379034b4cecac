use Rattle.std.proofs.Common.{Some, sym, ap, ◌∙◌}
use Rattle.isa.proofs.Same.{instr_eq}
use Rattle.encoding.proofs.encode.Goals as goal

-- the word is taken where what it decodes to equals the instruction
pub returns-then-eq : goal.returns-then-eq
returns-then-eq c = sym c.decode.ensures.value ∙ c.in_ok-decoded.was ∙ ap Some (instr_eq _ _ (sym c.if-eq.ensures))
