-- What an instruction does in the manual is what its outcome does.
use Rattle.std.proofs.Common.{◌≡◌, ℕ, ◌*◌, ◌/◌, ◌%◌, Bool, true, false, ◌&&◌, eqb, List, Option, sym, refl, ap, ◌∙◌, ap₂, arith}
use Rattle.isa.specs.Words.{pick, opt, add}
use Rattle.isa.specs.Manual.{Code, S, Next, stops, f_op, f_rd, f_3, f_1, f_2, f_7, imm_b, imm_i, imm_j, imm_s, ok_i, ok_r, alu, muls, branch, reg, to, jumped, wrote, after1, does, step}
use Rattle.isa.specs.declared.instr.AluOp.{AluOp}
use Rattle.isa.specs.declared.instr.AluOp.TheVariants.{Add, Sub, Sll, Slt, Sltu, Xor, Srl, Sra, Or, And}
use Rattle.isa.specs.declared.instr.Instr.{Instr}
use Rattle.isa.specs.declared.execute.Outcome.{Outcome}
use Rattle.isa.specs.declared.execute.Outcome.TheVariants.{Write, Load as Read, Store as Save, Halt}
use Rattle.isa.specs.declared.execute.Stop.TheVariants.{Misaligned}
use Rattle.isa.specs.Registers.{rd_of}
use Rattle.isa.specs.Decoding.{decodes, cond_of, mul_of, alu_of, branch_of, muldiv_of, decoded}
use Rattle.isa.specs.Single.{SingleLaws}
use Rattle.isa.specs.Executing.{executed, alu_value, aligned, outcome_in, work, enact, DecodesTo, WorksTo}

-- a function of what is picked picks among its values
alu_pick : (h : AluOp → ℕ) (b0 b1 b2 b3 b4 b5 b6 o : Bool)
    → pick b0 (pick o (h Sub) (h Add)) (pick b1 (h Sll) (pick b2 (h Slt) (pick b3 (h Sltu) (pick b4 (h Xor) (pick b5 (pick o (h Sra) (h Srl)) (pick b6 (h Or) (h And)))))))
    ≡ h (pick b0 (pick o Sub Add) (pick b1 Sll (pick b2 Slt (pick b3 Sltu (pick b4 Xor (pick b5 (pick o Sra Srl) (pick b6 Or And)))))))
alu_pick h b0 b1 b2 b3 b4 b5 b6 o = grind arith

alu_is : (f : ℕ) (o : Bool) (x y : ℕ) → alu f o x y ≡ alu_value (alu_of f o) x y
alu_is f o x y = alu_pick (λ k. alu_value k x y) (eqb f 0) (eqb f 1) (eqb f 2) (eqb f 3) (eqb f 4) (eqb f 5) (eqb f 6) o

branch_is : (s : S) (w f : ℕ) → opt (branch f (reg s (f_1 w)) (reg s (f_2 w))) (stops 1) (λ b. to (pick b (add s.pc (imm_b w)) (after1 s)) (jumped s (pick b (add s.pc (imm_b w)) (after1 s)))) ≡ enact s (outcome_in s.regs s.pc (branch_of w (cond_of f)))
unfolding executed
branch_is s w f = grind arith

mul_is : (s : S) (w f : ℕ) → opt (muls f (reg s (f_1 w)) (reg s (f_2 w))) (stops 1) (λ x. wrote s (f_rd w) x (after1 s)) ≡ enact s (outcome_in s.regs s.pc (muldiv_of w (mul_of f)))
unfolding executed
mul_is s w f = grind arith

pick_to : {A B : Type 0} (h : B → A) (b : Bool) {x y : A} {u v : B} → x ≡ h u → y ≡ h v → pick b x y ≡ h (pick b u v)
pick_to h true p q = p
pick_to h false p q = q

-- down the manual's chain of tests, which is the decoder's
does_is : (s : S) (w : ℕ) → does s w ≡ enact s (outcome_in s.regs s.pc (decoded w))
unfolding executed
does_is s w =
    pick_to h (eqb (f_op w) 55) refl
    (pick_to h (eqb (f_op w) 23) refl
    (pick_to h (eqb (f_op w) 111) (word_at (add s.pc (imm_j w)) (Write (rd_of w) (after1 s) (add s.pc (imm_j w))))
    (pick_to h (eqb (f_op w) 103 && eqb (f_3 w) 0) (word_at (add x (imm_i w) / 2 * 2) (Write (rd_of w) (after1 s) (add x (imm_i w) / 2 * 2)))
    (pick_to h (eqb (f_op w) 99) (branch_is s w (f_3 w))
    (pick_to h (eqb (f_op w) 3 && eqb (f_3 w) 2) (word_at (add x (imm_i w)) (Read (rd_of w) (add x (imm_i w))))
    (pick_to h (eqb (f_op w) 35 && eqb (f_3 w) 2) (word_at (add x (imm_s w)) (Save (add x (imm_s w)) y))
    (pick_to h (eqb (f_op w) 19 && ok_i w) (value (alu_is (f_3 w) (eqb (f_3 w) 5 && eqb (f_7 w) 32) x (imm_i w)))
    (pick_to h (eqb (f_op w) 51 && eqb (f_7 w) 1) (mul_is s w (f_3 w))
    (pick_to h (eqb (f_op w) 51 && ok_r w) (value (alu_is (f_3 w) (eqb (f_7 w) 32) x y))
    (pick_to h (eqb w 115) refl refl))))))))))
  where
    h : Option Instr → Next
    h d = enact s (outcome_in s.regs s.pc d)

    x : ℕ
    x = reg s (f_1 w)

    y : ℕ
    y = reg s (f_2 w)

    word_at : (a : ℕ) (o : Outcome) → to a (enact s o) ≡ enact s (aligned a o)
    word_at a o = pick_to (enact s) (eqb (a % 4) 0) refl refl

    value : {a b : ℕ} → a ≡ b → wrote s (f_rd w) a (after1 s) ≡ wrote s (f_rd w) b (after1 s)
    value e = ap (λ v. wrote s (f_rd w) v (after1 s)) e

pub decodes_to : (w : ℕ) → DecodesTo w (decodes w)
unfolding decodes
decodes_to w s = does_is s w

-- one step, by the outcome: after this no proof opens `does`
pub step_is : (c : Code) (s : S) → step c s ≡ enact s (work s.regs s.pc (c (s.pc / 4)))
unfolding work
step_is c s = pick_to (enact s) (eqb (s.pc % 4) 0) (decodes_to (c (s.pc / 4)) s) refl

pub works_to : (gs : List ℕ) (pc w : ℕ) → WorksTo gs pc w (work gs pc w)
works_to gs pc w c s eg ep ew = step_is c s ∙ ap₂ (λ (l : List ℕ) (p : ℕ). enact s (work l p (c (p / 4)))) eg ep ∙ ap (λ (v : ℕ). enact s (work gs pc v)) ew

-- the three ways to an outcome
pub work_stray : (gs : List ℕ) (pc w : ℕ) → eqb (pc % 4) 0 ≡ false → Halt Misaligned ≡ work gs pc w
unfolding work
work_stray gs pc w e = ap (λ b. pick b (outcome_in gs pc (decodes w)) (Halt Misaligned)) (sym e)

pub work_decoded : (gs : List ℕ) (pc w : ℕ) (d : Option Instr) → eqb (pc % 4) 0 ≡ true → d ≡ decodes w → outcome_in gs pc d ≡ work gs pc w
unfolding work
work_decoded gs pc w d e f = ap₂ (λ b v. pick b (outcome_in gs pc v) (Halt Misaligned)) (sym e) f

pub as_works : (gs : List ℕ) (pc w : ℕ) {o : Outcome} → o ≡ work gs pc w → WorksTo gs pc w o
as_works gs pc w e c s eg ep ew = works_to gs pc w c s eg ep ew ∙ ap (enact s) (sym e)

pub single_laws : SingleLaws
single_laws = record { decoded = decodes_to; stepped = step_is }
