-- An instruction word taken apart: what `decode` answers.
use Rattle.std.specs.Prelude.{ℕ, Bool, ◌&&◌, Some, None, Option, ◌==◌}
use Rattle.isa.specs.Words.{pick}
use Rattle.isa.specs.Manual.{f_op, f_3, f_7, imm_i, imm_s, imm_b, imm_u, imm_j, ok_i, ok_r}
use Rattle.isa.specs.Registers.{rd_of, rs1_of, rs2_of}
use Rattle.isa.specs.declared.instr.AluOp.{AluOp}
use Rattle.isa.specs.declared.instr.AluOp.TheVariants.{Add, Sub, Sll, Slt, Sltu, Xor, Srl, Sra, Or, And}
use Rattle.isa.specs.declared.instr.MulOp.{MulOp}
use Rattle.isa.specs.declared.instr.MulOp.TheVariants.{Mul, Mulhu, Divu, Remu}
use Rattle.isa.specs.declared.instr.Cond.{Cond}
use Rattle.isa.specs.declared.instr.Cond.TheVariants.{Eq, Ne, Lt, Ge, Ltu, Geu}
use Rattle.isa.specs.declared.instr.Instr.{Instr}
use Rattle.isa.specs.declared.instr.Instr.TheVariants.{Lui, Auipc, Jal, Jalr, Branch, Load, Store, AluImm, AluReg, MulDiv, Ecall}

abbrev pub cond_of : ℕ → Option Cond
cond_of f = pick (f == 0) (Some Eq) (pick (f == 1) (Some Ne) (pick (f == 4) (Some Lt) (pick (f == 5) (Some Ge) (pick (f == 6) (Some Ltu) (pick (f == 7) (Some Geu) None)))))

abbrev pub mul_of : ℕ → Option MulOp
mul_of f = pick (f == 0) (Some Mul) (pick (f == 3) (Some Mulhu) (pick (f == 5) (Some Divu) (pick (f == 7) (Some Remu) None)))

abbrev pub alu_of : ℕ → Bool → AluOp
alu_of f other = pick (f == 0) (pick other Sub Add) (pick (f == 1) Sll (pick (f == 2) Slt (pick (f == 3) Sltu (pick (f == 4) Xor (pick (f == 5) (pick other Sra Srl) (pick (f == 6) Or And))))))

abbrev pub branch_of : ℕ → Option Cond → Option Instr
branch_of w None = None
branch_of w (Some c) = Some (Branch c (rs1_of w) (rs2_of w) (imm_b w))

abbrev pub muldiv_of : ℕ → Option MulOp → Option Instr
muldiv_of w None = None
muldiv_of w (Some o) = Some (MulDiv o (rd_of w) (rs1_of w) (rs2_of w))

abbrev pub alu_imm_of : ℕ → Option Instr
alu_imm_of w = pick (ok_i w) (Some (AluImm (alu_of (f_3 w) (f_3 w == 5 && f_7 w == 32)) (rd_of w) (rs1_of w) (imm_i w))) None

abbrev pub alu_reg_of : ℕ → Option Instr
alu_reg_of w = pick (f_7 w == 1) (muldiv_of w (mul_of (f_3 w))) (pick (ok_r w) (Some (AluReg (alu_of (f_3 w) (f_7 w == 32)) (rd_of w) (rs1_of w) (rs2_of w))) None)

abbrev pub decoded : ℕ → Option Instr
decoded w = pick (f_op w == 55) (Some (Lui (rd_of w) (imm_u w)))
    (pick (f_op w == 23) (Some (Auipc (rd_of w) (imm_u w)))
    (pick (f_op w == 111) (Some (Jal (rd_of w) (imm_j w)))
    (pick (f_op w == 103 && f_3 w == 0) (Some (Jalr (rd_of w) (rs1_of w) (imm_i w)))
    (pick (f_op w == 99) (branch_of w (cond_of (f_3 w)))
    (pick (f_op w == 3 && f_3 w == 2) (Some (Load (rd_of w) (rs1_of w) (imm_i w)))
    (pick (f_op w == 35 && f_3 w == 2) (Some (Store (rs1_of w) (rs2_of w) (imm_s w)))
    (pick (f_op w == 19 && ok_i w) (Some (AluImm (alu_of (f_3 w) (f_3 w == 5 && f_7 w == 32)) (rd_of w) (rs1_of w) (imm_i w)))
    (pick (f_op w == 51 && f_7 w == 1) (muldiv_of w (mul_of (f_3 w)))
    (pick (f_op w == 51 && ok_r w) (Some (AluReg (alu_of (f_3 w) (f_7 w == 32)) (rd_of w) (rs1_of w) (rs2_of w)))
    (pick (w == 115) (Some Ecall) None))))))))))

-- the same, shut: what callers cite
unfoldable pub decodes : ℕ → Option Instr
decodes w = decoded w
