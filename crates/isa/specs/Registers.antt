-- Registers: their numbers in an instruction word, and what they hold.
use Rattle.std.specs.Prelude.{ℕ, ◌/◌, ◌%◌, List, replicate, ◌==◌}
use Rattle.std.proofs.Common.{mod-lt, zero-lt-suc}
use Rattle.isa.specs.Words.{pick, opt, nth}
use Rattle.isa.specs.declared.reg.Reg.{Reg}
use Rattle.isa.specs.declared.regs.Regs.{Regs}

abbrev pub reg_of : ℕ → Reg
reg_of n = record { number = n % 32; low = mod-lt n (zero-lt-suc 31) }

abbrev pub rd_of : ℕ → Reg
rd_of w = reg_of (w / 128)

abbrev pub rs1_of : ℕ → Reg
rs1_of w = reg_of (w / 32768)

abbrev pub rs2_of : ℕ → Reg
rs2_of w = reg_of (w / 1048576)

-- what a register reads as, of the list of all
abbrev pub value_in : List ℕ → ℕ → ℕ
value_in l r = pick (r == 0) 0 (opt (nth l r) 0 (λ x. x))

abbrev pub no_regs : Regs
no_regs = record { values = replicate 32 0 }
