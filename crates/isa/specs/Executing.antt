-- What one instruction does at its operands, and what the manual's state is then.
use Rattle.std.specs.Prelude.{◌≡◌, ℕ, ◌*◌, ◌/◌, ◌%◌, ◌<◌, Bool, false, List, Some, None, Option, Result, MatchResult, ◌==◌}
use Rattle.isa.specs.Words.{pick, opt, add}
use Rattle.isa.specs.Manual.{Code, S, Next, stops, alu, muls, branch, wrote, jumped, asked, saved, device, after1, does, step}
use Rattle.isa.specs.Registers.{reg_of, value_in}
use Rattle.isa.specs.Ops.{alu_f3, alu_other, mul_f3, cond_f3}
use Rattle.isa.specs.Decoding.{decodes}
use Rattle.isa.specs.declared.reg.Reg.{Reg}
use Rattle.isa.specs.declared.instr.AluOp.{AluOp}
use Rattle.isa.specs.declared.instr.MulOp.{MulOp}
use Rattle.isa.specs.declared.instr.Cond.{Cond}
use Rattle.isa.specs.declared.instr.Instr.{Instr}
use Rattle.isa.specs.declared.instr.Instr.TheVariants.{Lui, Auipc, Jal, Jalr, Branch, Load, Store, AluImm, AluReg, MulDiv, Ecall}
use Rattle.isa.specs.declared.execute.Outcome.{Outcome}
use Rattle.isa.specs.declared.execute.Outcome.TheVariants.{Write, Jump, Load as Read, Store as Save, Halt}
use Rattle.isa.specs.declared.execute.Stop.{Stop}
use Rattle.isa.specs.declared.execute.UnknownStop.{UnknownStop}
use Rattle.isa.specs.declared.execute.Stop.TheVariants.{EnvCall, Illegal, Misaligned}

-- the registers that an instruction reads; x0 where it reads none
abbrev pub source1 : Instr → Reg
source1 (Lui rd imm) = reg_of 0
source1 (Auipc rd imm) = reg_of 0
source1 (Jal rd offset) = reg_of 0
source1 (Jalr rd rs1 offset) = rs1
source1 (Branch c rs1 rs2 offset) = rs1
source1 (Load rd rs1 offset) = rs1
source1 (Store rs1 rs2 offset) = rs1
source1 (AluImm o rd rs1 imm) = rs1
source1 (AluReg o rd rs1 rs2) = rs1
source1 (MulDiv o rd rs1 rs2) = rs1
source1 Ecall = reg_of 0

abbrev pub source2 : Instr → Reg
source2 (Lui rd imm) = reg_of 0
source2 (Auipc rd imm) = reg_of 0
source2 (Jal rd offset) = reg_of 0
source2 (Jalr rd rs1 offset) = reg_of 0
source2 (Branch c rs1 rs2 offset) = rs2
source2 (Load rd rs1 offset) = reg_of 0
source2 (Store rs1 rs2 offset) = rs2
source2 (AluImm o rd rs1 imm) = reg_of 0
source2 (AluReg o rd rs1 rs2) = rs2
source2 (MulDiv o rd rs1 rs2) = rs2
source2 Ecall = reg_of 0

-- what the operations give, by the manual's own definitions
abbrev pub alu_value : AluOp → ℕ → ℕ → ℕ
alu_value o x y = alu (alu_f3 o) (alu_other o) x y

abbrev pub mul_value : MulOp → ℕ → ℕ → ℕ
mul_value o x y = opt (muls (mul_f3 o) x y) 0 (λ v. v)

abbrev pub holds : Cond → ℕ → ℕ → Bool
holds c x y = opt (branch (cond_f3 c) x y) false (λ b. b)

-- an address that is no word's stops it
abbrev pub aligned : ℕ → Outcome → Outcome
aligned a o = pick (a % 4 == 0) o (Halt Misaligned)

-- an instruction's outcome at its address and the values of its two operands
abbrev pub outcome : Instr → ℕ → ℕ → ℕ → Outcome
outcome (Lui rd imm) pc x y = Write rd imm (add pc 4)
outcome (Auipc rd imm) pc x y = Write rd (add pc imm) (add pc 4)
outcome (Jal rd offset) pc x y = aligned (add pc offset) (Write rd (add pc 4) (add pc offset))
outcome (Jalr rd rs1 offset) pc x y = aligned (add x offset / 2 * 2) (Write rd (add pc 4) (add x offset / 2 * 2))
outcome (Branch c rs1 rs2 offset) pc x y = aligned (pick (holds c x y) (add pc offset) (add pc 4)) (Jump (pick (holds c x y) (add pc offset) (add pc 4)))
outcome (Load rd rs1 offset) pc x y = aligned (add x offset) (Read rd (add x offset))
outcome (Store rs1 rs2 offset) pc x y = aligned (add x offset) (Save (add x offset) y)
outcome (AluImm o rd rs1 imm) pc x y = Write rd (alu_value o x imm) (add pc 4)
outcome (AluReg o rd rs1 rs2) pc x y = Write rd (alu_value o x y) (add pc 4)
outcome (MulDiv o rd rs1 rs2) pc x y = Write rd (mul_value o x y) (add pc 4)
outcome Ecall pc x y = Halt EnvCall

-- the same, shut: what callers cite
unfoldable pub executed : Instr → ℕ → ℕ → ℕ → Outcome
executed i pc x y = outcome i pc x y

-- an instruction's outcome at the registers of a core or of the manual
abbrev pub outcome_in : List ℕ → ℕ → Option Instr → Outcome
outcome_in gs pc None = Halt Illegal
outcome_in gs pc (Some i) = executed i pc (value_in gs (source1 i).number) (value_in gs (source2 i).number)

-- the same of a word of code, at an address that may be no word's: shut, for the cores and their proofs
unfoldable pub work : List ℕ → ℕ → ℕ → Outcome
work gs pc w = pick (pc % 4 == 0) (outcome_in gs pc (decodes w)) (Halt Misaligned)

-- how it stopped, as the ports show it
abbrev pub how : Stop → ℕ
how EnvCall = 0
how Illegal = 1
how Misaligned = 2

-- and read back: as that code's stop, or refused where the ports never show it
abbrev pub StopsBy : ℕ → Result Stop UnknownStop → Type 0
StopsBy code r = MatchResult r (λ h. how h ≡ code) (λ e. (e.0 ≡ code) × (2 < code))

-- the manual's state after an outcome
abbrev pub enact : S → Outcome → Next
enact s (Write rd v n) = wrote s rd.number v n
enact s (Jump n) = jumped s n
enact s (Read rd a) = pick (device a) (asked s rd.number a s.answers) (wrote s rd.number (s.mem (a / 4)) (after1 s))
enact s (Save a v) = saved s a v
enact s (Halt h) = stops (how h)

-- a decoded instruction is the word's: at every state, what it does is what the manual does
abbrev pub DecodesTo : ℕ → Option Instr → Type 0
DecodesTo w d = (s : S) → does s w ≡ enact s (outcome_in s.regs s.pc d)

-- an outcome is the word's at registers and an address: whatever else the manual's state is
abbrev pub WorksTo : List ℕ → ℕ → ℕ → Outcome → Type 0
WorksTo gs pc w o = (c : Code) (s : S) → s.regs ≡ gs → s.pc ≡ pc → c (pc / 4) ≡ w → step c s ≡ enact s o
