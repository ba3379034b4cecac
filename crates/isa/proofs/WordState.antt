-- A step of words leaves words: by the instruction's immediate, then by its outcome.
use Rattle.std.proofs.Common.{◌≡◌, ℕ, zero, suc, ◌*◌, ◌/◌, ◌%◌, ◌^◌, ◌<◌, ◌≤◌, Bool, true, false, ◌&&◌, eqb, ◌⊎◌, List, [], ◌∷◌, Some, None, Option, sym, ◌∙◌, subst, inl, inr, arith}
use Rattle.isa.specs.Words.{pick, put, add}
use Rattle.isa.specs.Manual.{Code, Mem, store, S, Ret, Ev, Next, goes, stops, f_op, f_3, f_7, imm_i, ok_i, ok_r, wrote, asked, device, after1, step}
use Rattle.isa.specs.Registers.{value_in}
use Rattle.isa.specs.Decoding.{cond_of, mul_of, branch_of, muldiv_of, decoded, decodes}
use Rattle.isa.specs.Executing.{source1, source2, holds, aligned, outcome, executed, outcome_in, work, enact}
use Rattle.isa.specs.Runs.{At}
use Rattle.isa.specs.Widths.{Words, WordMemory, WordState, WidthLaws}
use Rattle.isa.specs.declared.instr.MulOp.{MulOp}
use Rattle.isa.specs.declared.instr.Cond.{Cond}
use Rattle.isa.specs.declared.instr.Instr.{Instr}
use Rattle.isa.specs.declared.instr.Instr.TheVariants.{Lui, Auipc, Jal, Jalr, Branch, Load, Store, AluImm, AluReg, MulDiv, Ecall}
use Rattle.isa.specs.declared.execute.Outcome.{Outcome}
use Rattle.isa.specs.declared.execute.Outcome.TheVariants.{Write, Jump, Load as Read, Store as Save, Halt}
use Rattle.isa.proofs.Immediates.{signed_low, signed_high}
use Rattle.isa.proofs.Fits.{alu_fits, mul_fits}
use Rattle.isa.proofs.Lists.{nth_get_d}
use Rattle.isa.proofs.Does.{step_is}
use Rattle.isa.proofs.RunSteps.{along}
use Rattle.std.proofs.lemmas.Bool.{cases_lt}

pick_either : {A : Type 0} (P : A → Type 0) (b : Bool) {x y : A} → P x → P y → P (pick b x y)
pick_either P true p q = p
pick_either P false p q = q

imm_i_fits : (w : ℕ) → w < 2 ^ 32 → imm_i w < 2 ^ 32
imm_i_fits w h = by (cases_lt (w / 1048576) 2048)
  where
    by : (w / 1048576 < 2048) ⊎ (2048 ≤ w / 1048576) → imm_i w < 2 ^ 32
    by (inl l) = omega (arith, sym (signed_low 12 (w / 1048576) l))
    by (inr l) = omega (arith, sym (signed_high 12 (w / 1048576) l))

-- the immediates that are not added to anything
abbrev ImmFits : Option Instr → Type 0
ImmFits None = Unit {0}
ImmFits (Some (Lui rd imm)) = imm < 2 ^ 32
ImmFits (Some (Auipc rd imm)) = Unit {0}
ImmFits (Some (Jal rd offset)) = Unit {0}
ImmFits (Some (Jalr rd rs1 offset)) = Unit {0}
ImmFits (Some (Branch c rs1 rs2 offset)) = Unit {0}
ImmFits (Some (Load rd rs1 offset)) = Unit {0}
ImmFits (Some (Store rs1 rs2 offset)) = Unit {0}
ImmFits (Some (AluImm o rd rs1 imm)) = imm < 2 ^ 32
ImmFits (Some (AluReg o rd rs1 rs2)) = Unit {0}
ImmFits (Some (MulDiv o rd rs1 rs2)) = Unit {0}
ImmFits (Some Ecall) = Unit {0}

branch_fits : (w : ℕ) (c : Option Cond) → ImmFits (branch_of w c)
branch_fits w None = tt
branch_fits w (Some c) = tt

muldiv_fits : (w : ℕ) (o : Option MulOp) → ImmFits (muldiv_of w o)
muldiv_fits w None = tt
muldiv_fits w (Some o) = tt

decoded_fits : (w : ℕ) → w < 2 ^ 32 → ImmFits (decoded w)
decoded_fits w h =
    pick_either ImmFits (eqb (f_op w) 55) (omega arith)
    (pick_either ImmFits (eqb (f_op w) 23) tt
    (pick_either ImmFits (eqb (f_op w) 111) tt
    (pick_either ImmFits (eqb (f_op w) 103 && eqb (f_3 w) 0) tt
    (pick_either ImmFits (eqb (f_op w) 99) (branch_fits w (cond_of (f_3 w)))
    (pick_either ImmFits (eqb (f_op w) 3 && eqb (f_3 w) 2) tt
    (pick_either ImmFits (eqb (f_op w) 35 && eqb (f_3 w) 2) tt
    (pick_either ImmFits (eqb (f_op w) 19 && ok_i w) (imm_i_fits w h)
    (pick_either ImmFits (eqb (f_op w) 51 && eqb (f_7 w) 1) (muldiv_fits w (mul_of (f_3 w)))
    (pick_either ImmFits (eqb (f_op w) 51 && ok_r w) tt
    (pick_either ImmFits (eqb w 115) tt tt))))))))))

abbrev OutcomeFits : Outcome → Type 0
OutcomeFits (Write rd v n) = (v < 2 ^ 32) × (n < 2 ^ 32)
OutcomeFits (Jump n) = n < 2 ^ 32
OutcomeFits (Read rd a) = Unit {0}
OutcomeFits (Save a v) = v < 2 ^ 32
OutcomeFits (Halt h) = Unit {0}

aligned_fits : (a : ℕ) (o : Outcome) → OutcomeFits o → OutcomeFits (aligned a o)
aligned_fits a o p = pick_either OutcomeFits (eqb (a % 4) 0) p tt

outcome_fits : (i : Instr) (pc x y : ℕ) → ImmFits (Some i) → pc < 2 ^ 32 → x < 2 ^ 32 → y < 2 ^ 32 → OutcomeFits (outcome i pc x y)
outcome_fits (Lui rd imm) pc x y m p q r = (m, omega arith)
outcome_fits (Auipc rd imm) pc x y m p q r = (omega arith, omega arith)
outcome_fits (Jal rd offset) pc x y m p q r = aligned_fits (add pc offset) _ (omega arith, omega arith)
outcome_fits (Jalr rd rs1 offset) pc x y m p q r = aligned_fits (add x offset / 2 * 2) _ (omega arith, omega arith)
outcome_fits (Branch c rs1 rs2 offset) pc x y m p q r =
    aligned_fits (pick (holds c x y) (add pc offset) (add pc 4)) _ (pick_either (λ n. n < 2 ^ 32) (holds c x y) (omega arith) (omega arith))
outcome_fits (Load rd rs1 offset) pc x y m p q r = aligned_fits (add x offset) _ tt
outcome_fits (Store rs1 rs2 offset) pc x y m p q r = aligned_fits (add x offset) _ r
outcome_fits (AluImm o rd rs1 imm) pc x y m p q r = (alu_fits o x imm q m, omega arith)
outcome_fits (AluReg o rd rs1 rs2) pc x y m p q r = (alu_fits o x y q r, omega arith)
outcome_fits (MulDiv o rd rs1 rs2) pc x y m p q r = (mul_fits o x y q r, omega arith)
outcome_fits Ecall pc x y m p q r = tt

value_fits : (l : List ℕ) (r : ℕ) → Words l → value_in l r < 2 ^ 32
value_fits l r h = pick_either (λ n. n < 2 ^ 32) (eqb r 0) (omega arith) (subst (λ n. n < 2 ^ 32) (sym (nth_get_d l r)) (h r))

outcome_in_fits : (gs : List ℕ) (pc : ℕ) (i : Option Instr) → ImmFits i → pc < 2 ^ 32 → Words gs → OutcomeFits (outcome_in gs pc i)
unfolding executed
outcome_in_fits gs pc None m p h = tt
outcome_in_fits gs pc (Some i) m p h = outcome_fits i pc _ _ m p (value_fits gs (source1 i).number h) (value_fits gs (source2 i).number h)

work_fits : (gs : List ℕ) (pc w : ℕ) → w < 2 ^ 32 → pc < 2 ^ 32 → Words gs → OutcomeFits (work gs pc w)
unfolding work decodes
work_fits gs pc w k p h = pick_either OutcomeFits (eqb (pc % 4) 0) (outcome_in_fits gs pc (decoded w) (decoded_fits w k) p h) tt

put_fits : (l : List ℕ) (r x : ℕ) → x < 2 ^ 32 → Words l → Words (put l r x)
put_fits [] r x h k n = k n
put_fits (y ∷ l) zero x h k zero = h
put_fits (y ∷ l) zero x h k (suc n) = k (suc n)
put_fits (y ∷ l) (suc r) x h k zero = k 0
put_fits (y ∷ l) (suc r) x h k (suc n) = put_fits l r x h (λ j. k (suc j)) n

store_fits : (m : Mem) (a x : ℕ) → x < 2 ^ 32 → WordMemory m → WordMemory (store m a x)
store_fits m a x h k n = pick_either (λ z. z < 2 ^ 32) (eqb a n) h (k n)

-- what a step leaves, by cases
abbrev Leaves : Next → Type 0
Leaves (goes u t es) = WordState u × (t.val < 2 ^ 32)
Leaves (stops k) = Unit {0}

module _ (s : S) (k : WordState s) where
  shown_fits : (r x : ℕ) → x < 2 ^ 32 → pick (eqb r 0) 0 x < 2 ^ 32
  shown_fits r x h = pick_either (λ n. n < 2 ^ 32) (eqb r 0) (omega arith) h

  wrote_fits : (r x n : ℕ) → x < 2 ^ 32 → n < 2 ^ 32 → Leaves (wrote s r x n)
  wrote_fits r x n h p = (record { regs = put_fits s.regs r x h k.regs; pc = p; mem = k.mem; answers = k.answers }, shown_fits r x h)

  asked_fits : (r a : ℕ) (xs : List ℕ) → Words xs → Leaves (asked s r a xs)
  asked_fits r a [] h = tt
  asked_fits r a (x ∷ xs) h =
      (record { regs = put_fits s.regs r x (h 0) k.regs; pc = omega arith; mem = k.mem; answers = λ n. h (suc n) }, shown_fits r x (h 0))

  enact_fits : (o : Outcome) → OutcomeFits o → Leaves (enact s o)
  enact_fits (Write rd v n) h = wrote_fits rd.number v n h.0 h.1
  enact_fits (Jump n) h = (record { regs = k.regs; pc = h; mem = k.mem; answers = k.answers }, omega arith)
  enact_fits (Read rd a) h =
      pick_either Leaves (device a) (asked_fits rd.number a s.answers k.answers)
      (wrote_fits rd.number (s.mem (a / 4)) (after1 s) (k.mem (a / 4)) (omega arith))
  enact_fits (Save a v) h =
      let m = pick_either WordMemory (device a) k.mem (store_fits s.mem (a / 4) v h k.mem) in
      (record { regs = k.regs; pc = omega arith; mem = m; answers = k.answers }, omega arith)
  enact_fits (Halt j) h = tt

step_fits : (c : Code) (s : S) {u : S} {t : Ret} {es : List Ev} → WordMemory c → WordState s → step c s ≡ goes u t es
    → WordState u × (t.val < 2 ^ 32)
step_fits c s w k e =
    let w = work_fits s.regs s.pc (c (s.pc / 4)) (w (s.pc / 4)) k.pc k.regs in
    subst Leaves (sym (step_is c s) ∙ e) (enact_fits s k (work s.regs s.pc (c (s.pc / 4))) w)

run_fits : {c : Code} {s u : S} {n : ℕ} → WordMemory c → WordState s → At c s n u → WordState u
run_fits {c} {n = n} w k p = along (λ n u. WordState u) k (λ n u v t es h q e. (step_fits c u w h e).0) n p

pub width_laws : WidthLaws
width_laws = record { step = λ c s w k e. step_fits c s w k e; run = λ w k p. run_fits w k p }
