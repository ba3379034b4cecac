-- The manual's state that a machine stands for, and what a step of it is in the manual.
use Rattle.std.specs.Prelude.{◌≡◌, ℕ, List, [], ◌∷◌, drop, Some, None, Ok, Err, Option, Result, ◌==◌}
use Rattle.isa.specs.Words.{pick, put}
use Rattle.isa.specs.Manual.{S, Ev, writes, asks, Next, goes, stops, Mem}
use Rattle.isa.specs.Registers.{no_regs}
use Rattle.isa.specs.Executing.{how}
use Rattle.reference.specs.declared.machine.Machine.{Machine}
use Rattle.pins.specs.declared.ports.Retired.{Retired}
use Rattle.reference.specs.declared.trace.Effect.{Effect}
use Rattle.reference.specs.declared.trace.Effect.TheVariants.{Write, Ask}
use Rattle.reference.specs.declared.trace.Done.{Done}
use Rattle.reference.specs.declared.trace.Halt.{Halt}
use Rattle.reference.specs.declared.trace.Halt.TheVariants.{Stopped, NoAnswer}
use Rattle.pins.specs.PortWords.{ret_of}
use Rattle.reference.specs.Memory.{words_of}

-- with all that the devices answer
abbrev pub state : Machine → List ℕ → S
state m answers = record { regs = m.regs.values; pc = m.pc; mem = words_of m.memory; answers = drop m.used answers }

abbrev pub started : ℕ → Mem → List ℕ → S
started pc mem answers = record { regs = no_regs.values; pc = pc; mem = mem; answers = answers }

-- the machine after a register is written, and after none is
abbrev pub written : Machine → ℕ → ℕ → ℕ → Machine
written m r v next = record { regs = record { values = put m.regs.values r v }; pc = next; memory = m.memory; used = m.used }

abbrev pub moved : Machine → ℕ → Machine
moved m next = record { regs = m.regs; pc = next; memory = m.memory; used = m.used }

-- the trace then
abbrev pub traced : ℕ → ℕ → ℕ → Retired
traced pc r v = record { pc = pc; reg = r; value = pick (r == 0) 0 v }

abbrev pub untraced : ℕ → Retired
untraced pc = record { pc = pc; reg = 0; value = 0 }

abbrev pub event_of : Effect → Ev
event_of (Write a v) = writes a v
event_of (Ask a) = asks a

abbrev pub events_of : Option Effect → List Ev
events_of None = []
events_of (Some e) = event_of e ∷ []

-- as what the manual stops
abbrev pub halts : Halt → ℕ
halts (Stopped h) = how h
halts NoAnswer = 3

abbrev pub Step : Type 0
Step = Result Done Halt

-- what a step is in the manual, with the machine after it
abbrev pub next_of : Step → Machine → List ℕ → Next
next_of (Ok d) m answers = goes (state m answers) (ret_of d.trace) (events_of d.effect)
next_of (Err h) m answers = stops (halts h)

-- where no instruction is done, the state is as it was
abbrev pub Stays : Step → S → S → Type 0
Stays (Ok d) s u = Unit {0}
Stays (Err h) s u = u ≡ s

-- a step from one machine to another is the manual's
pub record StepsTo (k : Step) (m u : Machine) (answers : List ℕ) (n : Next) : Type 0 where
  pub next : next_of k u answers ≡ n
  pub stays : Stays k (state m answers) (state u answers)

-- the same where there may be no memory: then the state is as it was
abbrev pub TriesTo : {E : Type 0} → Result Step E → Machine → Machine → List ℕ → Next → Type 0
TriesTo (Ok k) m u answers n = StepsTo k m u answers n
TriesTo (Err e) m u answers n = state u answers ≡ state m answers
