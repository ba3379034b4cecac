-- The parts of the promise that are proved on the way to the whole.
use Rattle.std.specs.Prelude.{◌≡◌, ℕ, ◌%◌, List, length, Some}
use Rattle.isa.specs.Manual.{Code, Mem, S}
use Rattle.isa.specs.Single.{SingleLaws}
use Rattle.isa.specs.Traces.{StepLaws}
use Rattle.isa.specs.Runs.{At, RunLaws, AnswerLaws}
use Rattle.pins.specs.Outside.{Hist, outside, rets}
use Rattle.pins.specs.Says.{first}
use Rattle.pins.specs.Settled.{SettledLaws}
use Rattle.first.specs.declared.state.Core.{Core}
use Rattle.first.specs.Layout.{decode}
use Rattle.first.specs.Stands.{Stands}

-- the instruction at work is the manual's next after those that are done: by its number, its address, and the registers that it reads
pub record NextAtWork (c : Code) (m : Mem) (a : ℕ) (h : Hist) (k : Core) : Type 0 where
  pub state : S
  pub at : At c (first a m (outside m h).told) (length (rets h)) state
  pub pc : k.pc ≡ state.pc
  pub regs : k.regs.values ≡ state.regs
  pub number : k.number.0 ≡ length (rets h) % 4294967296

abbrev pub AtWork : Type 0
AtWork = (c : Code) (m : Mem) (a : ℕ) (h : Hist) (w : List ℕ) → Stands c m a h w → (k : Core) × (decode w ≡ Some k) × NextAtWork c m a h k

pub record Parts : Type 0 where
  -- with what it is told, the manual's run goes on only one way, and what n instructions do is the beginning of what more do
  pub one_way : RunLaws
  pub more_answers : AnswerLaws
  -- single instructions are the manual's, and are seen by their traces
  pub single : SingleLaws
  pub traced : StepLaws
  -- what a load will be answered with is settled when it is requested
  pub settled : SettledLaws
  pub at_work : AtWork
