-- The instruction at work: what it does in a clock is decided first, and then done.
use Rattle.std.specs.Prelude.{ℕ, Bool, true, false, cond, ◌&&◌, Some, None, Option, ◌==◌, nat_lt}
use Rattle.isa.specs.Words.{add, put, pick}
use Rattle.isa.specs.Manual.{device}
use Rattle.isa.specs.Executing.{work}
use Rattle.isa.specs.Registers.{no_regs}
use Rattle.isa.specs.declared.reg.Reg.{Reg}
use Rattle.isa.specs.declared.regs.Regs.{Regs}
use Rattle.isa.specs.declared.execute.Outcome.{Outcome}
use Rattle.isa.specs.declared.execute.Outcome.TheVariants.{Write as Writes, Jump as Jumps, Load as Loads, Store as Stores, Halt as Halts}
use Rattle.pins.specs.declared.ports.Request.TheVariants.{Read}
use Rattle.pins.specs.PortWords.{done_none, done_one}
use Rattle.pins.specs.declared.held.Reading.{Reading}
use Rattle.pins.specs.declared.held.Reading.TheVariants.{Idle, Waiting, Answered}
use Rattle.first.specs.declared.state.Lsu.{Lsu}
use Rattle.first.specs.declared.state.Core.{Core}
use Rattle.first.specs.declared.state.Action.{Action}
use Rattle.first.specs.declared.state.Action.TheVariants.{Wait, Halt, Write, Jump, Push, Ask}
use Rattle.first.specs.declared.state.Effect.{Effect}
use Rattle.first.specs.FetchRules.{fetch_head, fetch_goto, fetch_start}
use Rattle.first.specs.StoreRules.{StoreBuffer, buffer_push, forwarded}
use Rattle.first.specs.LsuRules.{lsu_room, lsu_ask, lsu_start}

abbrev pub core_start : ℕ → Core
core_start a = record { regs = no_regs; pc = a; number = record { 0 = 0 }; fetch = fetch_start a; lsu = lsu_start; stopped = None }

abbrev pub no_stores : Core → Bool
no_stores k = k.lsu.stores.count == 0

-- a device is read only when no store waits; data is read unless a waiting store has the word
abbrev pub ask_device : Core → ℕ → Action
ask_device k a = cond (lsu_room k.lsu && no_stores k) (Ask a) Wait

abbrev pub forward_or_ask : Core → Reg → ℕ → Option ℕ → Action
forward_or_ask k rd a None = cond (lsu_room k.lsu) (Ask a) Wait
forward_or_ask k rd a (Some x) = Write rd x (add k.pc 4)

abbrev pub load_action : Core → Reg → ℕ → Reading → Action
load_action k rd a Idle = cond (device a) (ask_device k a) (forward_or_ask k rd a (forwarded k.lsu.stores a))
load_action k rd a (Waiting b) = Wait
load_action k rd a (Answered b x) = Write rd x (add k.pc 4)

abbrev pub outcome_action : Core → Outcome → Action
outcome_action k (Writes rd x n) = Write rd x n
outcome_action k (Jumps n) = Jump n
outcome_action k (Loads rd a) = load_action k rd a k.lsu.load
outcome_action k (Stores a x) = cond (nat_lt k.lsu.stores.count 8) (Push (record { address = a; value = x })) Wait
outcome_action k (Halts h) = cond (no_stores k) (Halt h) Wait

abbrev pub word_action : Core → Option ℕ → Action
word_action k None = Wait
word_action k (Some w) = outcome_action k (work k.regs.values k.pc w)

abbrev pub action_unless : Core → Bool → Action
action_unless k true = Wait
action_unless k false = word_action k (fetch_head k.fetch)

abbrev pub is_some : {A : Type 0} → Option A → Bool
is_some None = false
is_some (Some x) = true

abbrev pub halted : Core → Bool
halted k = is_some k.stopped

abbrev pub action : Core → Action
action k = action_unless k (halted k)

-- the instruction at work is done: registers, store buffer and next address after it
abbrev pub with_stores : Lsu → StoreBuffer → Lsu
with_stores d b = record { stores = b; requests = d.requests; load = d.load }

abbrev pub no_load : Lsu → Lsu
no_load d = record { stores = d.stores; requests = d.requests; load = Idle }

abbrev pub retire : Core → Regs → Lsu → ℕ → Core
retire k gs d a = record { regs = gs; pc = a; number = record { 0 = add k.number.0 1 }; fetch = fetch_goto k.fetch k.pc a; lsu = no_load d; stopped = k.stopped }

abbrev pub write_reg : Regs → Reg → ℕ → Regs
write_reg gs rd x = record { values = put gs.values rd.number x }

abbrev pub act : Core → Action → Core
act k Wait = k
act k (Halt h) = record { regs = k.regs; pc = k.pc; number = k.number; fetch = k.fetch; lsu = k.lsu; stopped = Some h }
act k (Write rd x a) = retire k (write_reg k.regs rd x) k.lsu a
act k (Jump a) = retire k k.regs k.lsu a
act k (Push s) = retire k k.regs (with_stores k.lsu (buffer_push k.lsu.stores s)) (add k.pc 4)
act k (Ask a) = record { regs = k.regs; pc = k.pc; number = k.number; fetch = k.fetch; lsu = lsu_ask k.lsu a; stopped = k.stopped }

-- and what it shows
abbrev pub nothing : Effect
nothing = record { done = done_none; request = None }

abbrev pub retired : ℕ → ℕ → ℕ → Effect
retired pc r x = record { done = done_one (record { pc = pc; reg = r; value = x }); request = None }

abbrev pub effect : Core → Action → Effect
effect k Wait = nothing
effect k (Halt h) = nothing
effect k (Write rd x a) = retired k.pc rd.number (pick (rd.number == 0) 0 x)
effect k (Jump a) = retired k.pc 0 0
effect k (Push s) = retired k.pc 0 0
effect k (Ask a) = record { done = done_none; request = Some (Read a) }
