-- One clock of the first core: its rules, one after the other.
use Rattle.std.specs.Prelude.{ℕ, Option}
use Rattle.pins.specs.declared.ports.Inputs.{Inputs}
use Rattle.pins.specs.declared.ports.Outputs.{Outputs}
use Rattle.pins.specs.declared.ports.Request.{Request}
use Rattle.first.specs.declared.state.Core.{Core}
use Rattle.first.specs.declared.state.Fetch.{Fetch}
use Rattle.first.specs.declared.state.Lsu.{Lsu}
use Rattle.first.specs.declared.state.Effect.{Effect}
use Rattle.first.specs.FetchRules.{fetch_take, fetch_wanted, fetch_want}
use Rattle.first.specs.LsuRules.{lsu_take, lsu_drain, drain_request}
use Rattle.first.specs.WorkRules.{action, act, effect}

abbrev pub with_lsu : Core → Lsu → Core
with_lsu k d = record { regs = k.regs; pc = k.pc; number = k.number; fetch = k.fetch; lsu = d; stopped = k.stopped }

abbrev pub with_fetch : Core → Fetch → Core
with_fetch k f = record { regs = k.regs; pc = k.pc; number = k.number; fetch = f; lsu = k.lsu; stopped = k.stopped }

-- the answer to a request is taken
abbrev pub answered : Core → Option ℕ → Core
answered k x = with_lsu k (lsu_take k.lsu x)

-- the instruction at work
abbrev pub worked : Core → Core
worked k = act k (action k)

abbrev pub work_effect : Core → Effect
work_effect k = effect k (action k)

-- the word of code that came is kept for the next clock
abbrev pub fetched : Core → Option ℕ → Core
fetched k x = with_fetch k (fetch_take k.fetch x)

-- a waiting store takes the request port, if the instruction at work has left it free
abbrev pub drained : Core → Option Request → Core
drained k r = with_lsu k (lsu_drain k.lsu r)

-- the next word of code is wanted
abbrev pub wanted : Core → Core
wanted k = with_fetch k (fetch_wanted k.fetch)

-- the core when its instruction has been at work, and the code's answer is taken
abbrev pub middle : Core → Inputs → Core
middle k i = fetched (worked (answered k i.answer)) i.code

abbrev pub middle_effect : Core → Inputs → Effect
middle_effect k i = work_effect (answered k i.answer)

unfoldable pub next : Core → Inputs → Core
next k i = wanted (drained (middle k i) (middle_effect k i).request)

unfoldable pub outputs : Core → Inputs → Outputs
outputs k i = record { want = fetch_want (middle k i).fetch; request = drain_request (middle k i).lsu (middle_effect k i).request; stopped = (middle k i).stopped; done = (middle_effect k i).done }
