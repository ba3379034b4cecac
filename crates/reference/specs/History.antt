-- A history of a run, and the manual's run.
use Rattle.std.specs.Prelude.{◌≡◌, ℕ, ◌≤◌, List, map, Some, None, Option, Ok, Err, vec_items, Result}
use Rattle.isa.specs.Manual.{Code, S, Ret, Ev, stops, run}
use Rattle.isa.specs.Runs.{At}
use Rattle.reference.specs.declared.history.History.{History}
use Rattle.reference.specs.declared.trace.Halt.{Halt}
use Rattle.pins.specs.PortWords.{ret_of}
use Rattle.reference.specs.Machine.{event_of, halts}

abbrev pub rets_of : History → List Ret
rets_of h = map ret_of (vec_items h.traces)

abbrev pub evs_of : History → List Ev
evs_of h = map event_of (vec_items h.effects)

-- how n instructions end: the manual stands at u, or has stopped
abbrev pub Ends : Option Halt → Code → S → ℕ → S → Type 0
Ends None c s n u = At c s n u
Ends (Some h) c s n u = (run c s n).is ≡ stops (halts h)

-- the history of n instructions from s, which left it at u
pub record HistoryOf (h : History) (c : Code) (s : S) (n : ℕ) (u : S) : Type 0 where
  pub rets : rets_of h ≡ (run c s n).rets
  pub evs : evs_of h ≡ (run c s n).evs
  pub ends : Ends h.end c s n u

-- what a run came to: its history; without memory, it stands somewhere on the way
abbrev pub RunsTo : {E : Type 0} → Result History E → Code → S → ℕ → S → Type 0
RunsTo (Ok h) c s n u = HistoryOf h c s n u
RunsTo (Err e) c s n u = (k : ℕ) × (k ≤ n) × At c s k u
