use Rattle.std.proofs.Common.{◌≡◌, ◌%◌, Some, None, ◌∙◌, arith}
use Rattle.std.proofs.lemmas.Bool.{eq-eqb, ne_eqb}
use Rattle.isa.specs.Registers.{value_in}
use Rattle.isa.specs.Executing.{executed, source1, source2}
use Rattle.isa.proofs.Does.{work_stray, work_decoded, as_works}
use Rattle.isa.proofs.execute.perform.Goals as goal

pub returns-then-pc-ne0 : goal.returns-then-pc-ne0
returns-then-pc-ne0 c =
    let gs = c.args.regs.now.values in
    let e = work_stray gs c.args.pc c.args.word (ne_eqb (c.args.pc % 4) 0 (λ e. omega arith)) in
    record { value = e; manual = as_works gs c.args.pc c.args.word e }

pub returns-in_default : goal.returns-in_default
returns-in_default c =
    let gs = c.args.regs.now.values in
    let e = work_decoded gs c.args.pc c.args.word None (eq-eqb (c.args.pc % 4) 0 (omega arith)) c.in_default.ensures.value in
    record { value = e; manual = as_works gs c.args.pc c.args.word e }

pub returns : goal.returns
returns c =
    let gs = c.args.regs.now.values in
    let o : c.execute.result ≡ executed c.in-Some.instr c.args.pc (value_in gs (source1 c.in-Some.instr).number) (value_in gs (source2 c.in-Some.instr).number) = cc in
    let e = o ∙ work_decoded gs c.args.pc c.args.word (Some c.in-Some.instr) (eq-eqb (c.args.pc % 4) 0 (omega arith)) c.in-Some.ensures.value in
    record { value = e; manual = as_works gs c.args.pc c.args.word e }
