-- What the operations of instructions mean, by the manual's definitions.
use Rattle.std.specs.Prelude.{◌≡◌, ℕ, Bool, true, false, Some, None, Result, MatchResult}
use Rattle.isa.specs.declared.instr.AluOp.{AluOp}
use Rattle.isa.specs.declared.instr.AluOp.TheVariants.{Add, Sub, Sll, Slt, Sltu, Xor, Srl, Sra, Or, And}
use Rattle.isa.specs.declared.instr.MulOp.{MulOp}
use Rattle.isa.specs.declared.instr.MulOp.TheVariants.{Mul, Mulhu, Divu, Remu}
use Rattle.isa.specs.declared.instr.Cond.{Cond}
use Rattle.isa.specs.declared.instr.Cond.TheVariants.{Eq, Ne, Lt, Ge, Ltu, Geu}
use Rattle.isa.specs.declared.instr.UnknownFunct3.{UnknownFunct3}
use Rattle.isa.specs.Decoding.{cond_of, mul_of}

-- field 3, and whether it is the other form
abbrev pub alu_f3 : AluOp → ℕ
alu_f3 Add = 0
alu_f3 Sub = 0
alu_f3 Sll = 1
alu_f3 Slt = 2
alu_f3 Sltu = 3
alu_f3 Xor = 4
alu_f3 Srl = 5
alu_f3 Sra = 5
alu_f3 Or = 6
alu_f3 And = 7

abbrev pub alu_other : AluOp → Bool
alu_other Add = false
alu_other Sub = true
alu_other Sll = false
alu_other Slt = false
alu_other Sltu = false
alu_other Xor = false
alu_other Srl = false
alu_other Sra = true
alu_other Or = false
alu_other And = false

abbrev pub mul_f3 : MulOp → ℕ
mul_f3 Mul = 0
mul_f3 Mulhu = 3
mul_f3 Divu = 5
mul_f3 Remu = 7

abbrev pub cond_f3 : Cond → ℕ
cond_f3 Eq = 0
cond_f3 Ne = 1
cond_f3 Lt = 4
cond_f3 Ge = 5
cond_f3 Ltu = 6
cond_f3 Geu = 7

-- what has a field 3: found by it, or refused where nothing has it
abbrev pub IsCond : ℕ → Result Cond UnknownFunct3 → Type 0
IsCond f r = MatchResult r (λ c. cond_of f ≡ Some c) (λ e. (e.0 ≡ f) × (cond_of f ≡ None))

abbrev pub IsMul : ℕ → Result MulOp UnknownFunct3 → Type 0
IsMul f r = MatchResult r (λ o. mul_of f ≡ Some o) (λ e. (e.0 ≡ f) × (mul_of f ≡ None))
