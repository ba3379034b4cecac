-- Single instructions: what the code works out is what the manual does, for each kind.
use Rattle.std.specs.Prelude.{◌≡◌, ℕ, ◌/◌}
use Rattle.isa.specs.Manual.{Code, S, step}
use Rattle.isa.specs.Decoding.{decodes}
use Rattle.isa.specs.Executing.{work, enact, DecodesTo}

pub record SingleLaws : Type 0 where
  -- a word is decoded to the instruction that does what the manual does with the word, at every state
  pub decoded : (w : ℕ) → DecodesTo w (decodes w)
  -- a step is what the outcome at the operands' values makes of the state
  pub stepped : (c : Code) (s : S) → step c s ≡ enact s (work s.regs s.pc (c (s.pc / 4)))
