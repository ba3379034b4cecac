-- What is worked out from words is a word.
use Rattle.std.proofs.Common.{ℕ, ◌%◌, ◌^◌, ◌<◌, ◌≤◌, Bool, true, false, ltb, ◌⊎◌, sym, subst, inl, inr, div-le_self, arith}
use native.Mathlib.Nat.{mod-le}
use lib.Bits.{and_le_l, or_lt, xor_lt}
use Rattle.std.proofs.lemmas.Nat.{shr_le, mul-lt}
use Rattle.std.proofs.lemmas.Bool.{cases_lt}
use Rattle.isa.specs.Words.{bit}
use Rattle.isa.specs.Manual.{less_s, sar}
use Rattle.isa.specs.declared.instr.AluOp.{AluOp}
use Rattle.isa.specs.declared.instr.AluOp.TheVariants.{Add, Sub, Sll, Slt, Sltu, Xor, Srl, Sra, Or, And}
use Rattle.isa.specs.declared.instr.MulOp.{MulOp}
use Rattle.isa.specs.declared.instr.MulOp.TheVariants.{Mul, Mulhu, Divu, Remu}
use Rattle.isa.specs.Executing.{alu_value, mul_value}
use Rattle.isa.proofs.Bitwise.{and_is, or_is, xor_is, shl_is, shr_is, sar_low, sar_high}

bit_fits : (b : Bool) → bit b < 2 ^ 32
bit_fits true = omega arith
bit_fits false = omega arith

sar_fits : (x n : ℕ) → x < 2 ^ 32 → n < 32 → sar x n < 2 ^ 32
sar_fits x n p q = by (cases_lt x 2147483648)
  where
    by : (x < 2147483648) ⊎ (2147483648 ≤ x) → sar x n < 2 ^ 32
    by (inl h) = omega (arith, sym (sar_low x n h q), shr_le x n)
    by (inr h) = omega (arith, sym (sar_high x n h p q))

pub alu_fits : (o : AluOp) (x y : ℕ) → x < 2 ^ 32 → y < 2 ^ 32 → alu_value o x y < 2 ^ 32
alu_fits Add x y p q = omega arith
alu_fits Sub x y p q = omega arith
alu_fits Sll x y p q = subst (λ v. v < 2 ^ 32) (sym (shl_is x (y % 32) (omega arith))) (omega arith)
alu_fits Slt x y p q = bit_fits (less_s x y)
alu_fits Sltu x y p q = bit_fits (ltb x y)
alu_fits Xor x y p q = subst (λ v. v < 2 ^ 32) (sym (xor_is x y p q)) (xor_lt 32 x y p q)
alu_fits Srl x y p q = subst (λ v. v < 2 ^ 32) (sym (shr_is x (y % 32) (omega arith))) (omega (arith, shr_le x (y % 32)))
alu_fits Sra x y p q = sar_fits x (y % 32) p (omega arith)
alu_fits Or x y p q = subst (λ v. v < 2 ^ 32) (sym (or_is x y p q)) (or_lt 32 x y p q)
alu_fits And x y p q = subst (λ v. v < 2 ^ 32) (sym (and_is x y p q)) (omega (arith, and_le_l x y))

pub mul_fits : (o : MulOp) (x y : ℕ) → x < 2 ^ 32 → y < 2 ^ 32 → mul_value o x y < 2 ^ 32
mul_fits Mul x y p q = omega arith
mul_fits Mulhu x y p q = omega (arith, mul-lt x y 4294967296 4294967296 p q)
mul_fits Divu x y p q = grind (arith, div-le_self)
mul_fits Remu x y p q = grind (arith, mod-le)
