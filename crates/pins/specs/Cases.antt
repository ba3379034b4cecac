-- Worked examples: a loop, a device written and read, data written and read back; single stops; a clock at the ports; two clocks of the outside.
use Rattle.std.specs.Prelude.{◌≡◌, ℕ, List, [], ◌∷◌}
use Rattle.std.proofs.Math.Option.{some, none}
use Rattle.isa.specs.Words.{opt, nth}
use Rattle.isa.specs.Manual.{Code, Mem, Ret, writes, asks, stops, Run, run, muls}
use Rattle.pins.specs.Ports.{writes1, out_of}
use Rattle.pins.specs.Outside.{Hist, outside, evs}
use Rattle.pins.specs.Says.{first}

-- code that has these words at 0 and onward, and noughts behind them
unfoldable pub words : List ℕ → Code
words l = λ n. opt (nth l n) 0 (λ x. x)

--  0 addi x5, x0, 4      4 add  x10, x10, x5   8 addi x5, x5, -1    12 bne x5, x0, -8
-- 16 lui  x7, 0x80000   20 sw   x10, 0(x7)    24 lw   x6, 4(x7)     28 sw  x6, 8(x0)
-- 32 lw   x11, 8(x0)    36 ecall
unfoldable pub program : List ℕ
program = 4194963 ∷ 5571891 ∷ 4294083219 ∷ 4261584099 ∷ 2147484599 ∷ 10723363 ∷ 4432643 ∷ 6300707 ∷ 8398211 ∷ 115 ∷ []

unfoldable pub sevens : Mem
sevens = λ n. 7

unfoldable pub last : List Ret → Ret
last [] = record { pc = 0; reg = 0; val = 0 }
last (r ∷ []) = r
last (r ∷ s ∷ rs) = last (s ∷ rs)

-- n instructions of these words, with these answers of devices
abbrev pub ran : List ℕ → List ℕ → ℕ → Run
ran l answers n = run (words l) (first 0 sevens answers) n

-- two clocks: code wanted; then answered, while data is written and the next code wanted
unfoldable pub two : Hist
two = record { in1 = record { code = none; data1 = none }; out1 = record { code = some 0; data1 = none; rets = []; stopped = none } }
    ∷ record { in1 = record { code = some 19; data1 = none }; out1 = record { code = some 4; data1 = some (writes1 12 5); rets = []; stopped = none } } ∷ []

pub record Worked : Type 0 where
  -- with 99 from the device it ends by ecall
  pub at_end : (ran program (99 ∷ []) 30).is ≡ stops 0
  -- having written 10 to the device, asked it, and written 99 to 8
  pub outside_did : (ran program (99 ∷ []) 30).evs ≡ writes 2147483648 10 ∷ asks 2147483652 ∷ writes 8 99 ∷ []
  -- the last instruction reads 99 back into x11
  pub read_back : last (ran program (99 ∷ []) 30).rets ≡ record { pc = 32; reg = 11; val = 99 }
  -- without an answer the run goes no further than the asking
  pub no_answer : (ran program [] 30).is ≡ stops 3
  -- beq x0, x0, 0 goes on for ever: here five times
  pub branch_to_itself : (ran (99 ∷ []) [] 5).rets ≡ record { pc = 0; reg = 0; val = 0 } ∷ record { pc = 0; reg = 0; val = 0 } ∷ record { pc = 0; reg = 0; val = 0 } ∷ record { pc = 0; reg = 0; val = 0 } ∷ record { pc = 0; reg = 0; val = 0 } ∷ []
  -- a word of noughts is no instruction
  pub noughts : (ran [] [] 1).is ≡ stops 1
  pub noughts_do_nothing : (ran [] [] 1).rets ≡ []
  -- lw x1, 2(x0): an address that is not a multiple of 4
  pub load_from_2 : (ran (2105475 ∷ []) [] 1).is ≡ stops 2
  -- division by 0
  pub divu_by_0 : muls 5 17 0 ≡ some 4294967295
  pub remu_by_0 : muls 7 17 0 ≡ some 17
  -- a clock's words: code wanted at 8, a write of 5 to 12, one instruction done
  pub ports : out_of (1 ∷ 8 ∷ 2 ∷ 12 ∷ 5 ∷ 0 ∷ 0 ∷ 1 ∷ 4 ∷ 10 ∷ 3 ∷ 0 ∷ 0 ∷ 0 ∷ 0 ∷ 0 ∷ 0 ∷ 0 ∷ 0 ∷ 0 ∷ []) ≡ record { code = some 8; data1 = some (writes1 12 5); rets = record { pc = 4; reg = 10; val = 3 } ∷ []; stopped = none }
  -- the write isn't answered yet, nor is the second word of code
  pub waits : (outside sevens two).codes ≡ record { addr = 4; age = 0 } ∷ []
  pub did : evs two ≡ writes 12 5 ∷ []
