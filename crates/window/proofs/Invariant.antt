-- What the machine keeps true of itself and of what was seen at its ports, in the middle of a clock too.
use Rattle.std.proofs.Common.{◌≡◌, ℕ, suc, true, List, [], ◌∷◌, ◌++◌, length}
use mathlib.Core.Option.{Option as Opt, map}
use Rattle.isa.specs.Manual.{Code, Mem, S, Ret, Ev, asks, device, Run, run}
use Rattle.isa.specs.Runs.{At, more_answers}
use Rattle.isa.specs.declared.reg.Reg.{Reg}
use Rattle.isa.specs.declared.execute.Outcome.TheVariants.{Load as Loads}
use Rattle.pins.specs.Ports.{Req}
use Rattle.pins.specs.Says.{first}
use Rattle.pins.specs.View.{View, pop, push, evs_then, rets_then}
use Rattle.pins.specs.View as views
use Rattle.pins.specs.Settled.{Due, due, dues, flushed, mem_with, tells}
use Rattle.pins.proofs.Settling.{settled_laws}
use Rattle.window.specs.declared.entry.Tag.{Tag}
use Rattle.window.specs.declared.entry.Tag.TheVariants.{Acknowledgment, Load, Stale, Device}
use Rattle.pins.specs.declared.held.Reading.{Reading}
use Rattle.pins.specs.declared.held.Reading.TheVariants.{Idle, Waiting, Answered}
use Rattle.window.specs.Operands.{plan}
use Rattle.window.specs.Machine.{Core}
use Rattle.window.proofs.SourceRight.{with_stores, store_evs}
use Rattle.window.proofs.Held.{Held}

-- of a view, what an invariant speaks of: addresses of code that are wanted; what each open request is due; memory with all of them done;
-- what devices told; traces; effects
pub record Seen : Type 0 where
  pub codes : List ℕ
  pub dues : List Due
  pub mem : Mem
  pub told : List ℕ
  pub rets : List Ret
  pub evs : List Ev

abbrev pub seen : View → Seen
seen v = record { codes = v.codes; dues = dues v; mem = flushed v; told = v.told; rets = v.rets; evs = v.evs }

-- what is done to a view, done to what is seen of it
module _ (v : Seen) where
  abbrev pub code_taken : Opt ℕ → Seen
  code_taken x = record { codes = pop x v.codes; dues = v.dues; mem = v.mem; told = v.told; rets = v.rets; evs = v.evs }

  abbrev pub data_taken : Opt ℕ → Seen
  data_taken x = record { codes = v.codes; dues = pop x v.dues; mem = v.mem; told = v.told ++ tells x v.dues; rets = v.rets; evs = v.evs }

  abbrev pub retired : List Ret → Seen
  retired ts = record { codes = v.codes; dues = v.dues; mem = v.mem; told = v.told; rets = rets_then ts v.rets; evs = v.evs }

  abbrev pub requested : Opt Req → Seen
  requested r = record {
    codes = v.codes;
    dues = push (map (due v.mem) r) v.dues;
    mem = mem_with v.mem r;
    told = v.told;
    rets = v.rets;
    evs = evs_then r v.evs;
  }

  abbrev pub wanted : Opt ℕ → Seen
  wanted a = record { codes = push a v.codes; dues = v.dues; mem = v.mem; told = v.told; rets = v.rets; evs = v.evs }

pub seen_data : (x : Opt ℕ) (v : View) → seen (views.take_data x v) ≡ data_taken (seen v) x
seen_data x v = λ i. record {
  codes = v.codes;
  dues = settled_laws.answered x v i;
  mem = settled_laws.flushed_answered x v i;
  told = settled_laws.told x v i;
  rets = v.rets;
  evs = v.evs;
}

pub seen_request : (r : Opt Req) (v : View) → seen (views.ask_data r v) ≡ requested (seen v) r
seen_request r v = λ i. record {
  codes = v.codes;
  dues = settled_laws.asked r v i;
  mem = settled_laws.flushed_asked r v i;
  told = v.told;
  rets = v.rets;
  evs = evs_then r v.evs;
}

-- a device's word that came for the oldest, and is not yet the manual's past; the reading of it
abbrev pub unread : Reading → List ℕ
unread Idle = []
unread (Waiting a) = []
unread (Answered a x) = x ∷ []

abbrev pub reading : Reading → List Ev
reading Idle = []
reading (Waiting a) = asks a ∷ []
reading (Answered a x) = asks a ∷ []

abbrev pub readings : Reading → ℕ
readings Idle = 0
readings (Waiting a) = 1
readings (Answered a x) = 0

abbrev pub device_tags : List Tag → ℕ
device_tags [] = 0
device_tags (Acknowledgment ∷ ts) = device_tags ts
device_tags (Load n ∷ ts) = device_tags ts
device_tags (Stale ∷ ts) = device_tags ts
device_tags (Device ∷ ts) = suc (device_tags ts)

-- a device is read for the oldest alone
abbrev pub OldestReads : Code → S → Reading → Type 0
OldestReads c s Idle = Unit {0}
OldestReads c s (Waiting a) = (d : Reg) × (plan c s ≡ Loads d a) × (device a ≡ true)
OldestReads c s (Answered a x) = (d : Reg) × (plan c s ≡ Loads d a) × (device a ≡ true)

-- where the manual stands, with no more answers than are there, and with any that are still to come
abbrev pub base : Core → Mem → S
base k fl = record { regs = k.regs; pc = k.pc; mem = with_stores fl k.stores; answers = unread k.device }

abbrev pub stand : Core → Mem → List ℕ → S
stand k fl zs = more_answers (base k fl) zs

abbrev pub run_seen : Code → Mem → ℕ → Seen → Run
run_seen c m a v = run c (first a m v.told) (length v.rets)

-- the manual after as many instructions as are retired stands where the core does
pub record Runs (c : Code) (m : Mem) (a : ℕ) (k : Core) (v : Seen) : Type 0 where
  pub at : At c (first a m v.told) (length v.rets) (base k v.mem)
  pub done : v.rets ≡ (run_seen c m a v).rets
  -- what was asked of the outside, and the waiting stores, is what those instructions did, and the reading of a device at work
  pub did : v.evs ++ store_evs k.stores ≡ (run_seen c m a v).evs ++ reading k.device
  pub size : length k.regs ≡ 32

pub record Inv (c : Code) (m : Mem) (a : ℕ) (k : Core) (v : Seen) : Type 0 where
  pub runs : Runs c m a k v
  pub held : Held c (stand k v.mem) k.window k.requests v.dues k.fetches v.codes
  pub oldest : OldestReads c (base k v.mem) k.device
  pub one_reading : device_tags k.requests ≡ readings k.device
