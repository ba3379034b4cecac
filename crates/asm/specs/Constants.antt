-- What loads a constant into a register.
use Rattle.std.specs.Prelude.{◌≡◌, ℕ, ◌+◌, ◌%◌, ◌^◌, ◌⊎◌, Some, None, Option}
use Rattle.isa.specs.declared.instr.AluOp.TheVariants.{Add}
use Rattle.isa.specs.declared.instr.Instr.TheVariants.{Lui, AluImm}
use Rattle.isa.specs.declared.reg.Reg.{Reg}
use Rattle.isa.specs.Decoding.{decodes}

-- one word gives v at once: lui, or addi to x0
abbrev pub Whole : Reg → ℕ → ℕ → Type 0
Whole rd v w = (decodes w ≡ Some (Lui rd v)) ⊎ ((x0 : Reg) × (x0.number ≡ 0) × (decodes w ≡ Some (AluImm Add rd x0 v)))

-- lui and then addi to what it gave
abbrev pub Halves : Reg → ℕ → ℕ → ℕ → Type 0
Halves rd v w x = (high : ℕ) × (low : ℕ) × (decodes w ≡ Some (Lui rd high)) × (decodes x ≡ Some (AluImm Add rd rd low)) × ((high + low) % 2 ^ 32 ≡ v)

abbrev pub Loads : Reg → ℕ → ℕ → Option ℕ → Type 0
Loads rd v w None = Whole rd v w
Loads rd v w (Some x) = Halves rd v w x
