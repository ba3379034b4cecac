use Rattle.std.proofs.Common.{refl, inr}
use Rattle.asm.proofs.pseudo.load.Goals as goal

pub returns-in_ok-add_imm-2 : goal.returns-in_ok-add_imm-2
returns-in_ok-add_imm-2 c = rw (c.one-else-imm-value.ensures.1, c.one-else-imm-value.ensures.0) (inr (_, refl, c.in_ok-add_imm-2.ensures))
