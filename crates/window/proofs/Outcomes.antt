-- What an instruction can come to, by its word; and that its outcome at the manual's operands is the manual's.
use Rattle.std.proofs.Common.{◌≡◌, ℕ, ◌*◌, ◌/◌, ◌%◌, ◌<◌, true, false, eqb, Some, None, Option, sym, refl, ap, arith}
use Rattle.isa.specs.Words.{pick, add}
use Rattle.isa.specs.Manual.{Code, S, step}
use Rattle.isa.specs.Registers.{value_in}
use Rattle.isa.specs.Decoding.{decodes}
use Rattle.isa.specs.Executing.{source1, source2, alu_value, mul_value, holds, aligned, outcome, executed, outcome_in, work, how, enact}
use Rattle.isa.specs.declared.reg.Reg.{Reg}
use Rattle.isa.specs.declared.instr.Instr.{Instr}
use Rattle.isa.specs.declared.instr.Instr.TheVariants.{Lui, Auipc, Jal, Jalr, Branch, Load, Store, AluImm, AluReg, MulDiv, Ecall}
use Rattle.isa.specs.declared.execute.Outcome.{Outcome}
use Rattle.isa.specs.declared.execute.Outcome.TheVariants.{Write as Writes, Jump as Jumps, Load as Loads, Store as Stores, Halt as Halts}
use Rattle.isa.specs.declared.execute.Stop.{Stop}
use Rattle.isa.specs.declared.execute.Stop.TheVariants.{EnvCall, Illegal, Misaligned}
use Rattle.isa.proofs.Does.{step_is}
use Rattle.window.specs.Operands.{target, is_store, of_instr, written_register, may_store, work_with, code_at, left_of, right_of, plan}
use Rattle.window.proofs.Cases.{pick_cases}

pub step_plan : (c : Code) (s : S) → step c s ≡ enact s (plan c s)
step_plan c s = step_is c s

-- worked out at the manual's operands it is the manual's
pub plan_with : (c : Code) (s : S) → work_with s.pc (code_at c s) (left_of c s) (right_of c s) ≡ plan c s
unfolding work work_with
plan_with c s = ap (λ o. pick (eqb (s.pc % 4) 0) o (Halts Misaligned)) (by (decodes (code_at c s)))
  where
    by : (o : Option Instr)
        → of_instr (Halts Illegal) (λ i. executed i s.pc (value_in s.regs (of_instr 0 (λ i. (source1 i).number) o)) (value_in s.regs (of_instr 0 (λ i. (source2 i).number) o))) o
        ≡ outcome_in s.regs s.pc o
    by None = refl
    by (Some i) = refl

pub register_low : (f : Instr → Reg) (o : Option Instr) → of_instr 0 (λ i. (f i).number) o < 32
register_low f None = omega arith
register_low f (Some i) = (f i).low

pub how_low : (h : Stop) → how h < 3
how_low EnvCall = omega arith
how_low Illegal = omega arith
how_low Misaligned = omega arith

module _ (w : ℕ) (P : Outcome → Type 0)
    (writes : (d : Reg) (x a : ℕ) → d.number ≡ written_register w → P (Writes d x a))
    (jumps : (a : ℕ) → P (Jumps a))
    (loads : (d : Reg) (a : ℕ) → d.number ≡ written_register w → P (Loads d a))
    (stores : (a x : ℕ) → may_store w ≡ true → P (Stores a x))
    (halts : (h : Stop) → P (Halts h)) where
  on_aligned : (a : ℕ) {o : Outcome} → P o → P (aligned a o)
  on_aligned a p = pick_cases P (eqb (a % 4) 0) (λ _. p) (λ _. halts Misaligned)

  by_instr : (i : Instr) (p x y : ℕ) → target i ≡ written_register w → is_store i ≡ may_store w → P (outcome i p x y)
  by_instr (Lui rd imm) p x y t s = writes rd imm (add p 4) t
  by_instr (Auipc rd imm) p x y t s = writes rd (add p imm) (add p 4) t
  by_instr (Jal rd offset) p x y t s = on_aligned (add p offset) (writes rd (add p 4) (add p offset) t)
  by_instr (Jalr rd rs1 offset) p x y t s = on_aligned (add x offset / 2 * 2) (writes rd (add p 4) (add x offset / 2 * 2) t)
  by_instr (Branch c rs1 rs2 offset) p x y t s =
      on_aligned (pick (holds c x y) (add p offset) (add p 4)) (jumps (pick (holds c x y) (add p offset) (add p 4)))
  by_instr (Load rd rs1 offset) p x y t s = on_aligned (add x offset) (loads rd (add x offset) t)
  by_instr (Store rs1 rs2 offset) p x y t s = on_aligned (add x offset) (stores (add x offset) y (sym s))
  by_instr (AluImm o rd rs1 imm) p x y t s = writes rd (alu_value o x imm) (add p 4) t
  by_instr (AluReg o rd rs1 rs2) p x y t s = writes rd (alu_value o x y) (add p 4) t
  by_instr (MulDiv o rd rs1 rs2) p x y t s = writes rd (mul_value o x y) (add p 4) t
  by_instr Ecall p x y t s = halts EnvCall

  pub work_cases : (p x y : ℕ) → P (work_with p w x y)
  unfolding work_with executed
  work_cases p x y = pick_cases P (eqb (p % 4) 0) (λ _. by (decodes w) refl) (λ _. halts Misaligned)
    where
      by : (o : Option Instr) → decodes w ≡ o → P (of_instr (Halts Illegal) (λ i. executed i p x y) o)
      by None e = halts Illegal
      by (Some i) e = by_instr i p x y (sym (ap (of_instr 0 target) e)) (sym (ap (of_instr false is_store) e))
