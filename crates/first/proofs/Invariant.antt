-- What the first core keeps true of itself and of what was seen at its ports, in the middle of a clock too.
use Rattle.std.proofs.Common.{◌≡◌, ℕ, ◌/◌, ◌<◌, ◌≤◌, false, List, [], ◌∷◌, ◌++◌, length}
use mathlib.Core.Option.{Option, some, none}
use Rattle.isa.specs.Words.{pick}
use Rattle.isa.specs.Manual.{Code, Mem, S, Ret, Ev, asks, device, stops, step, run}
use Rattle.isa.specs.Runs.{At}
use Rattle.isa.specs.Executing.{work}
use Rattle.isa.specs.declared.reg.Reg.{Reg}
use Rattle.isa.specs.declared.execute.Outcome.TheVariants.{Load as Loads}
use Rattle.pins.specs.Says.{first}
use Rattle.pins.specs.View.{View}
use Rattle.pins.specs.Settled.{dues}
use Rattle.pins.specs.declared.held.Reading.{Reading}
use Rattle.pins.specs.declared.held.Reading.TheVariants.{Idle, Waiting, Answered}
use Rattle.first.specs.Model.{Model}
use Rattle.first.proofs.Fetched.{Fetched}
use Rattle.first.proofs.Buffered.{row_evs, final}
use Rattle.first.proofs.Requested.{Tags}

-- a device's word that came for the load at work, and is not yet the manual's past; the reading of it
abbrev pub unread : Reading → List ℕ
unread Idle = []
unread (Waiting a) = []
unread (Answered a x) = pick (device a) (x ∷ []) []

abbrev pub asked_ev : Reading → List Ev
asked_ev Idle = []
asked_ev (Waiting a) = pick (device a) (asks a ∷ []) []
asked_ev (Answered a x) = pick (device a) (asks a ∷ []) []

-- where the manual stands, if memory is f there
abbrev pub stands_at : Model → Mem → S
stands_at k f = record { regs = k.regs; pc = k.pc; mem = f; answers = unread k.lsu.load }

-- a load that was requested is the instruction at work; an answer that came is what it loads
abbrev pub Works : Code → List ℕ → ℕ → Mem → Reading → Type 0
Works c gs p f Idle = Unit {0}
Works c gs p f (Waiting a) = (r : Reg) × (work gs p (c (p / 4)) ≡ Loads r a)
Works c gs p f (Answered a x) = (r : Reg) × (work gs p (c (p / 4)) ≡ Loads r a) × (device a ≡ false → x ≡ f (a / 4))

-- it has stopped as the manual does there, with no store waiting and no load at work
abbrev pub Halts : Code → Model → Mem → Option ℕ → Type 0
Halts c k f none = Unit {0}
Halts c k f (some j) = (j < 3) × (step c (stands_at k f) ≡ stops j) × (k.lsu.row ≡ []) × (k.lsu.load ≡ Idle)

-- the manual after as many instructions as are done stands where the core does
pub record Runs (c : Code) (m : Mem) (a : ℕ) (k : Model) (f : Mem) (told : List ℕ) (rets : List Ret) (evs : List Ev) : Type 0 where
  pub at : At c (first a m told) (length rets) (stands_at k f)
  pub done : rets ≡ (run c (first a m told) (length rets)).rets
  -- what was asked of the outside, and the waiting stores, is what those instructions did, and the reading at work
  pub did : evs ++ row_evs k.lsu.row ≡ (run c (first a m told) (length rets)).evs ++ asked_ev k.lsu.load
  pub works : Works c k.regs k.pc f k.lsu.load
  pub halts : Halts c k f k.stop

pub record Inv (c : Code) (m : Mem) (a : ℕ) (k : Model) (v : View) : Type 0 where
  pub fetched : Fetched c k.pc k.fetch v.codes
  pub tags : Tags k.lsu.load (final v k.lsu.row) k.lsu.opens (dues v)
  pub few : length v.datas ≤ 4
  pub room : length k.lsu.row ≤ 8
  pub runs : Runs c m a k (final v k.lsu.row) v.told v.rets v.evs
