-- The first core with lists in place of its arrays and counts: what its invariant and its rank speak of.
use Rattle.std.specs.Prelude.{ℕ, zero, suc, ◌+◌, ◌/◌, Bool, true, false, ◌&&◌, List, [], ◌∷◌, ◌++◌, length, replicate, ◌==◌, nat_lt}
use Rattle.std.proofs.Math.Option.{Option, some, none}
use Rattle.isa.specs.Words.{pick, opt, put, add}
use Rattle.isa.specs.Manual.{Ret, device}
use Rattle.isa.specs.Executing.{work, how}
use Rattle.isa.specs.declared.reg.Reg.{Reg}
use Rattle.isa.specs.declared.execute.Outcome.{Outcome}
use Rattle.isa.specs.declared.execute.Outcome.TheVariants.{Write as Writes, Jump as Jumps, Load as Loads, Store as Stores, Halt as Halts}
use Rattle.pins.specs.Ports.{In, Out, Req, reads, writes1}
use Rattle.pins.specs.declared.held.Store.{Store}
use Rattle.first.specs.declared.state.Open.{Open}
use Rattle.first.specs.declared.state.Open.TheVariants.{Acknowledgment, Load as ForLoad}
use Rattle.pins.specs.declared.held.Reading.{Reading}
use Rattle.pins.specs.declared.held.Reading.TheVariants.{Idle, Waiting, Answered}
use Rattle.first.specs.declared.state.Action.{Action}
use Rattle.first.specs.declared.state.Action.TheVariants.{Wait, Halt, Write, Jump, Push, Ask}

-- fetched words at the core's address and onward; wanted words still to come; older wanted ones to be dropped; the next address to want
pub record Fetching : Type 0 where
  pub words : List ℕ
  pub coming : ℕ
  pub stale : ℕ
  pub at : ℕ

-- waiting stores, oldest first; what the open requests are for, oldest first; the load at work
pub record Storing : Type 0 where
  pub row : List Store
  pub opens : List Open
  pub load : Reading

pub record Model : Type 0 where
  pub regs : List ℕ
  pub pc : ℕ
  pub fetch : Fetching
  pub lsu : Storing
  pub stop : Option ℕ

abbrev pub model_start : ℕ → Model
model_start a = record { regs = replicate 32 0; pc = a; fetch = record { words = []; coming = 0; stale = 0; at = a }; lsu = record { row = []; opens = []; load = Idle }; stop = none }

-- an answer to a request
abbrev pub answer_load : ℕ → Reading → Reading
answer_load x Idle = Idle
answer_load x (Waiting a) = Answered a x
answer_load x (Answered a y) = Answered a y

abbrev pub answer : ℕ → Storing → List Open → Storing
answer x d [] = d
answer x d (Acknowledgment ∷ ks) = record { row = d.row; opens = ks; load = d.load }
answer x d (ForLoad ∷ ks) = record { row = d.row; opens = ks; load = answer_load x d.load }

abbrev pub take_data : Option ℕ → Storing → Storing
take_data none d = d
take_data (some x) d = answer x d d.opens

-- the instruction at work: first what to do
-- the newest waiting store to the word
abbrev pub lookup : List Store → ℕ → Option ℕ
lookup [] a = none
lookup (p ∷ ps) a = opt (lookup ps a) (pick (p.address / 4 == a / 4) (some p.value) none) some

abbrev pub if_drained : List Store → Action → Action
if_drained [] x = x
if_drained (p ∷ ps) x = Wait

abbrev pub loading : Model → Reg → ℕ → Reading → Action
loading k r a (Answered b x) = Write r x (add k.pc 4)
loading k r a (Waiting b) = Wait
loading k r a Idle = pick (device a)
    (pick (nat_lt (length k.lsu.opens) 4) (if_drained k.lsu.row (Ask a)) Wait)
    (opt (lookup k.lsu.row a) (pick (nat_lt (length k.lsu.opens) 4) (Ask a) Wait) (λ x. Write r x (add k.pc 4)))

abbrev pub act : Model → Outcome → Action
act k (Writes r x a) = Write r x a
act k (Jumps a) = Jump a
act k (Loads r a) = loading k r a k.lsu.load
act k (Stores a x) = pick (nat_lt (length k.lsu.row) 8) (Push (record { address = a; value = x })) Wait
act k (Halts h) = if_drained k.lsu.row (Halt h)

abbrev pub work_on : Model → List ℕ → Action
work_on k [] = Wait
work_on k (w ∷ ws) = act k (work k.regs k.pc w)

abbrev pub decide : Model → Action
decide k = opt k.stop (work_on k k.fetch.words) (λ j. Wait)

-- then doing it: the core after, what is done, what is requested
pub record Did : Type 0 where
  pub core : Model
  pub rets : List Ret
  pub req : Option Req

abbrev pub rest : List ℕ → List ℕ
rest [] = []
rest (w ∷ ws) = ws

abbrev pub refetch : Bool → ℕ → Fetching → Fetching
refetch true a f = record { words = rest f.words; coming = f.coming; stale = f.stale; at = f.at }
refetch false a f = record { words = []; coming = 0; stale = f.stale + f.coming; at = a }

abbrev pub goto : Model → ℕ → Fetching
goto k a = refetch (a == add k.pc 4) a k.fetch

abbrev pub retired : Model → List ℕ → ℕ → List Store → Ret → Did
retired k gs b row t = record { core = record { regs = gs; pc = b; fetch = goto k b; lsu = record { row = row; opens = k.lsu.opens; load = Idle }; stop = k.stop }; rets = t ∷ []; req = none }

abbrev pub apply : Model → Action → Did
apply k Wait = record { core = k; rets = []; req = none }
apply k (Halt h) = record { core = record { regs = k.regs; pc = k.pc; fetch = k.fetch; lsu = k.lsu; stop = some (how h) }; rets = []; req = none }
apply k (Write r x b) = retired k (put k.regs r.number x) b k.lsu.row (record { pc = k.pc; reg = r.number; val = pick (r.number == 0) 0 x })
apply k (Jump b) = retired k k.regs b k.lsu.row (record { pc = k.pc; reg = 0; val = 0 })
apply k (Push s) = retired k k.regs (add k.pc 4) (k.lsu.row ++ (s ∷ [])) (record { pc = k.pc; reg = 0; val = 0 })
apply k (Ask a) = record { core = record { regs = k.regs; pc = k.pc; fetch = k.fetch; lsu = record { row = k.lsu.row; opens = k.lsu.opens ++ (ForLoad ∷ []); load = Waiting a }; stop = k.stop }; rets = []; req = some (reads a) }

-- a word of code that comes is worked on in the next clock; one that nobody waits for is ignored
abbrev pub took_use : ℕ → Fetching → ℕ → Fetching
took_use x f zero = f
took_use x f (suc n) = record { words = f.words ++ (x ∷ []); coming = n; stale = f.stale; at = f.at }

abbrev pub took : ℕ → Fetching → ℕ → Fetching
took x f zero = took_use x f f.coming
took x f (suc n) = record { words = f.words; coming = f.coming; stale = n; at = f.at }

abbrev pub take_code : Option ℕ → Fetching → Fetching
take_code none f = f
take_code (some x) f = took x f f.stale

-- a waiting store goes out
pub record Drained : Type 0 where
  pub lsu : Storing
  pub req : Option Req

abbrev pub drain_if : Storing → Store → List Store → Bool → Drained
drain_if d p ps true = record { lsu = record { row = ps; opens = d.opens ++ (Acknowledgment ∷ []); load = d.load }; req = some (writes1 p.address p.value) }
drain_if d p ps false = record { lsu = d; req = none }

abbrev pub drain_one : Storing → List Store → Drained
drain_one d [] = record { lsu = d; req = none }
drain_one d (p ∷ ps) = drain_if d p ps (nat_lt (length d.opens) 4)

abbrev pub drain : Option Req → Storing → Drained
drain none d = drain_one d d.row
drain (some r) d = record { lsu = d; req = some r }

-- the next word of code is wanted
pub record Wanted : Type 0 where
  pub fetch : Fetching
  pub want : Option ℕ

abbrev pub want_if : Fetching → Bool → Wanted
want_if f true = record { fetch = record { words = f.words; coming = f.coming + 1; stale = f.stale; at = add f.at 4 }; want = some f.at }
want_if f false = record { fetch = f; want = none }

abbrev pub want : Fetching → Wanted
want f = want_if f (nat_lt (length f.words + f.coming) 2 && nat_lt (f.stale + f.coming) 4)

-- one clock
pub record Clock : Type 0 where
  pub core : Model
  pub out : Out

abbrev pub taken : Model → In → Model
taken k i = record { regs = k.regs; pc = k.pc; fetch = k.fetch; lsu = take_data i.data1 k.lsu; stop = k.stop }

abbrev pub latched : Option ℕ → Did → Did
latched x d = record { core = record { regs = d.core.regs; pc = d.core.pc; fetch = take_code x d.core.fetch; lsu = d.core.lsu; stop = d.core.stop }; rets = d.rets; req = d.req }

abbrev pub ended : Did → Drained → Wanted → Clock
ended r d w = record { core = record { regs = r.core.regs; pc = r.core.pc; fetch = w.fetch; lsu = d.lsu; stop = r.core.stop }; out = record { code = w.want; data1 = d.req; rets = r.rets; stopped = r.core.stop } }

abbrev pub ending : Did → Clock
ending r = ended r (drain r.req r.core.lsu) (want r.core.fetch)

abbrev pub model_next : Model → In → Clock
model_next k i = ending (latched i.code (apply (taken k i) (decide (taken k i))))
