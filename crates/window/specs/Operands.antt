-- An instruction by its word: the registers that it reads and writes, and its outcome at the values of its operands.
use Rattle.std.specs.Prelude.{ℕ, ◌/◌, ◌%◌, Bool, true, false, Some, None, Option, ◌==◌}
use Rattle.isa.specs.Words.{pick}
use Rattle.isa.specs.Manual.{Code, S}
use Rattle.isa.specs.Registers.{value_in}
use Rattle.isa.specs.Decoding.{decodes}
use Rattle.isa.specs.Executing.{source1, source2, executed, work}
use Rattle.isa.specs.declared.instr.Instr.{Instr}
use Rattle.isa.specs.declared.instr.Instr.TheVariants.{Lui, Auipc, Jal, Jalr, Branch, Load, Store, AluImm, AluReg, MulDiv, Ecall}
use Rattle.isa.specs.declared.execute.Outcome.{Outcome}
use Rattle.isa.specs.declared.execute.Outcome.TheVariants.{Halt}
use Rattle.isa.specs.declared.execute.Stop.TheVariants.{Illegal, Misaligned}

-- the register that it writes; x0 where it writes none
abbrev pub target : Instr → ℕ
target (Lui rd imm) = rd.number
target (Auipc rd imm) = rd.number
target (Jal rd offset) = rd.number
target (Jalr rd rs1 offset) = rd.number
target (Branch c rs1 rs2 offset) = 0
target (Load rd rs1 offset) = rd.number
target (Store rs1 rs2 offset) = 0
target (AluImm o rd rs1 imm) = rd.number
target (AluReg o rd rs1 rs2) = rd.number
target (MulDiv o rd rs1 rs2) = rd.number
target Ecall = 0

abbrev pub is_store : Instr → Bool
is_store (Lui rd imm) = false
is_store (Auipc rd imm) = false
is_store (Jal rd offset) = false
is_store (Jalr rd rs1 offset) = false
is_store (Branch c rs1 rs2 offset) = false
is_store (Load rd rs1 offset) = false
is_store (Store rs1 rs2 offset) = true
is_store (AluImm o rd rs1 imm) = false
is_store (AluReg o rd rs1 rs2) = false
is_store (MulDiv o rd rs1 rs2) = false
is_store Ecall = false

-- of a word that may be no instruction
abbrev pub of_instr : {A : Type 0} → A → (Instr → A) → Option Instr → A
of_instr d f None = d
of_instr d f (Some i) = f i

abbrev pub left_register : ℕ → ℕ
left_register w = of_instr 0 (λ i. (source1 i).number) (decodes w)

abbrev pub right_register : ℕ → ℕ
right_register w = of_instr 0 (λ i. (source2 i).number) (decodes w)

abbrev pub written_register : ℕ → ℕ
written_register w = of_instr 0 target (decodes w)

abbrev pub may_store : ℕ → Bool
may_store w = of_instr false is_store (decodes w)

-- its outcome at an address, by its word and the values of its operands: shut, for the cores and their proofs
unfoldable pub work_with : ℕ → ℕ → ℕ → ℕ → Outcome
work_with pc w x y = pick (pc % 4 == 0) (of_instr (Halt Illegal) (λ i. executed i pc x y) (decodes w)) (Halt Misaligned)

-- the manual's next instruction at a state
abbrev pub code_at : Code → S → ℕ
code_at c s = c (s.pc / 4)

abbrev pub left_of : Code → S → ℕ
left_of c s = value_in s.regs (left_register (code_at c s))

abbrev pub right_of : Code → S → ℕ
right_of c s = value_in s.regs (right_register (code_at c s))

abbrev pub plan : Code → S → Outcome
plan c s = work s.regs s.pc (code_at c s)
