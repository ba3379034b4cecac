-- One clock of the pipeline: its rules, one after the other.
use Rattle.std.specs.Prelude.{ℕ, Bool, true, false, cond, not, ◌&&◌, ◌||◌, Some, None, Option, ◌==◌, nat_le, nat_lt}
use Rattle.isa.specs.Words.{add}
use Rattle.isa.specs.declared.execute.Outcome.{Outcome}
use Rattle.isa.specs.declared.execute.Outcome.TheVariants.{Write as Writes, Jump as Jumps, Load as Loads, Store as Stores, Halt as Halts}
use Rattle.pins.specs.PortWords.{done_none, done_one}
use Rattle.pins.specs.declared.ports.Inputs.{Inputs}
use Rattle.pins.specs.declared.ports.Outputs.{Outputs}
use Rattle.pins.specs.declared.ports.Request.{Request}
use Rattle.pins.specs.declared.ports.Retired.{Retired}
use Rattle.pins.specs.declared.ports.Done.{Done}
use Rattle.window.specs.declared.entry.Entry.{Entry}
use Rattle.window.specs.declared.datapath.Datapath.{Datapath}
use Rattle.window.specs.Entries.{given}
use Rattle.window.specs.Rings.{size, entry_at}
use Rattle.window.specs.Datapaths.{datapath_start, left_for, right_for, outcome_for, forward_for, ruled, code_taken, data_taken, redirected, next_pc_of, wanted}
use Rattle.window.specs.Retiring.{retired, done, drained, drain_request}
use Rattle.window.specs.Asking.{read_of, load_address, load_asked, device_address, device_asked, halts}
use Rattle.pipeline.specs.declared.state.Core.{Core}
use Rattle.pipeline.specs.declared.stages.Stage.TheVariants.{Read, Execute, Memory}
use Rattle.pipeline.specs.declared.stages.Ask.{Ask}
use Rattle.pipeline.specs.declared.stages.Ask.TheVariants.{Load, Device}
use Rattle.pipeline.specs.Stages.{at_stage, ask_at}

abbrev pub core_start : ℕ → Core
core_start a = record { path = datapath_start a; turn = false }

-- answers
abbrev pub code_in : Datapath → Option ℕ → Datapath
code_in k i = given i k (code_taken k)

abbrev pub data_in : Datapath → Option ℕ → Datapath
data_in k i = given i k (data_taken k)

-- memory
abbrev pub memory_stage : Datapath → Datapath
memory_stage k = ruled forward_for k (at_stage Memory k)

abbrev pub memory_ask : Datapath → Option Ask
memory_ask k = ask_at (memory_stage k) (at_stage Memory k)

-- executing
abbrev pub next_after : Entry → Outcome → Option ℕ
next_after e (Writes r x b) = Some b
next_after e (Jumps b) = Some b
next_after e (Loads r b) = Some (add e.pc 4)
next_after e (Stores b x) = Some (add e.pc 4)
next_after e (Halts h) = None

abbrev pub mispredicted : Entry → Option ℕ
mispredicted e = given e.outcome None (λ o. given (next_after e o) None (λ b. cond (b == e.predicted) None (Some b)))

abbrev pub redirect_by : Datapath → ℕ → Datapath
redirect_by k n = given (entry_at k.window n) k (λ e. given (mispredicted e) k (redirected k n))

abbrev pub executed : Datapath → ℕ → Datapath
executed k n = ruled (λ _ _ e. outcome_for e) k n

abbrev pub execute_stage : Datapath → Datapath
execute_stage k = redirect_by (executed k (at_stage Execute k)) (at_stage Execute k)

-- reading registers
abbrev pub read_at : Datapath → ℕ → Datapath
read_at k n = ruled right_for (ruled left_for k n) n

abbrev pub read_stage : Datapath → Datapath
read_stage k = read_at k (at_stage Read k)

-- the request port: does a waiting store take it?
abbrev pub store_goes : Bool → ℕ → Option Ask → Bool
store_goes t c None = nat_lt 0 c
store_goes t c (Some (Load n)) = nat_lt 0 c && (t || nat_le 8 c)
store_goes t c (Some Device) = nat_lt 0 c

abbrev pub goes : Core → Option Ask → Bool
goes k a = store_goes k.turn k.path.stores.count a

abbrev pub asked_path : Datapath → Option Ask → Datapath
asked_path k None = k
asked_path k (Some (Load n)) = load_asked k n
asked_path k (Some Device) = device_asked k

abbrev pub asked_request : Datapath → Option Ask → Option Request
asked_request k None = None
asked_request k (Some (Load n)) = read_of (load_address k n)
asked_request k (Some Device) = read_of (device_address k)

abbrev pub room : Core → Bool
room k = nat_lt k.path.requests.count 4

abbrev pub ported : Core → Option Ask → Core
ported k a = cond (room k) (cond (goes k a) (record { path = drained k.path; turn = false }) (record { path = asked_path k.path a; turn = true })) k

abbrev pub port_request : Core → Option Ask → Option Request
port_request k a = cond (room k) (cond (goes k a) (drain_request k.path) (asked_request k.path a)) None

-- fetching
abbrev pub fetch_room : Datapath → Bool
fetch_room k = nat_lt k.fetches.count 4 && not (nat_le size k.window.count)

abbrev pub fetch_stage : Datapath → Datapath
fetch_stage k = cond (fetch_room k) (wanted k (add (next_pc_of k) 4)) k

abbrev pub fetch_want : Datapath → Option ℕ
fetch_want k = cond (fetch_room k) (Some (next_pc_of k)) None

abbrev pub done_of : Option Retired → Done
done_of r = given r done_none done_one

-- within a clock: after the answers; after writing; after memory; after executing; after reading registers; after the request
abbrev pub heard : Core → Inputs → Datapath
heard k i = data_in (code_in k.path i.code) i.answer

abbrev pub wrote : Core → Inputs → Datapath
wrote k i = retired (heard k i)

abbrev pub ask : Core → Inputs → Option Ask
ask k i = memory_ask (wrote k i)

abbrev pub staged : Core → Inputs → Core
staged k i = record { path = read_stage (execute_stage (memory_stage (wrote k i))); turn = k.turn }

abbrev pub posted : Core → Inputs → Core
posted k i = ported (staged k i) (ask k i)

unfoldable pub next : Core → Inputs → Core
next k i = record { path = fetch_stage (posted k i).path; turn = (posted k i).turn }

unfoldable pub outputs : Core → Inputs → Outputs
outputs k i = record {
  want = fetch_want (posted k i).path;
  request = port_request (staged k i) (ask k i);
  stopped = halts (next k i).path;
  done = done_of (done (heard k i));
}
