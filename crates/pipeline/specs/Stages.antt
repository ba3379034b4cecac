-- Where the stages' instructions stand in the window, and what the memory stage wants of the request port.
use Rattle.std.specs.Prelude.{ℕ, zero, suc, ◌+◌, Bool, true, false, not, ◌||◌, take, Option, ◌==◌, Some, None}
use Rattle.std.specs.List.{list_any}
use Rattle.isa.specs.Words.{pick}
use Rattle.isa.specs.Manual.{device}
use Rattle.isa.specs.declared.execute.Outcome.{Outcome}
use Rattle.isa.specs.declared.execute.Outcome.TheVariants.{Write as Writes, Jump as Jumps, Load as Loads, Store as Stores, Halt as Halts}
use Rattle.window.specs.declared.entry.Entry.{Entry}
use Rattle.window.specs.declared.entry.Tag.{Tag}
use Rattle.window.specs.declared.datapath.Datapath.{Datapath}
use Rattle.window.specs.Entries.{given}
use Rattle.window.specs.Fairness as fairness
use Rattle.window.specs.Rings.{entry, entry_at}
use Rattle.window.specs.Queues.{Requests}
use Rattle.pipeline.specs.declared.stages.Stage.{Stage}
use Rattle.pipeline.specs.declared.stages.Stage.TheVariants.{Read, Execute, Memory}
use Rattle.pipeline.specs.declared.stages.Ask.{Ask}
use Rattle.pipeline.specs.declared.stages.Ask.TheVariants.{Load, Device}

abbrev pub is_load : ℕ → Tag → Bool
is_load n t = fairness.is_load n t

-- the load of the n-th instruction is asked for
abbrev pub asked : Requests → ℕ → Bool
asked q n = list_any (is_load n) (take q.count q.at)

abbrev pub none : {A : Type 0} → Option A → Bool
none o = given o true (λ _. false)

-- the memory stage stops where a load is to be asked for, at a device, where it halts, and where the outcome is not known
abbrev pub waits_outcome : Bool → Entry → Outcome → Bool
waits_outcome asked e (Writes r x b) = false
waits_outcome asked e (Jumps b) = false
waits_outcome asked e (Loads r b) = pick (device b) true (given e.loaded (not asked) (λ _. false))
waits_outcome asked e (Stores b x) = false
waits_outcome asked e (Halts h) = true

abbrev pub waits : Bool → Entry → Bool
waits asked e = given e.outcome true (waits_outcome asked e)

abbrev pub lacks_operand : Entry → Bool
lacks_operand e = none e.left || none e.right

abbrev pub lacks_outcome : Entry → Bool
lacks_outcome e = none e.outcome

abbrev pub stands : Stage → Requests → ℕ → Entry → Bool
stands Read q n e = lacks_operand e
stands Execute q n e = lacks_outcome e
stands Memory q n e = waits (asked q n) e

-- the first of r numbers from n on for which p holds
abbrev pub first_from : (ℕ → Bool) → ℕ → ℕ → ℕ
first_from p n zero = n
first_from p n (suc r) = pick (p n) n (first_from p (n + 1) r)

abbrev pub at_stage : Stage → Datapath → ℕ
at_stage s k = first_from (λ n. stands s k.requests n (entry k.window n)) 0 k.window.count

-- what the n-th instruction wants of the request port
abbrev pub ask_outcome : ℕ → Entry → Outcome → Option Ask
ask_outcome n e (Writes r x b) = None
ask_outcome n e (Jumps b) = None
ask_outcome n e (Loads r b) = pick (device b) (pick (n == 0) (Some Device) None) (given e.loaded (Some (Load n)) (λ _. None))
ask_outcome n e (Stores b x) = None
ask_outcome n e (Halts h) = None

abbrev pub ask_of : ℕ → Option Entry → Option Ask
ask_of n o = given o None (λ e. given e.outcome None (ask_outcome n e))

abbrev pub ask_at : Datapath → ℕ → Option Ask
ask_at k n = ask_of n (entry_at k.window n)
