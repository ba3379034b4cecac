-- Retiring and requests, as the datapath does them.
use Rattle.std.specs.Prelude.{◌≡◌, ℕ, ◌<◌, cond, List, [], ◌∷◌, Some, None, Option, ◌==◌, nat_lt}
use Rattle.isa.specs.Words.{pick, put, add}
use Rattle.isa.specs.Manual.{Ret}
use Rattle.isa.specs.declared.execute.Outcome.{Outcome}
use Rattle.isa.specs.declared.execute.Outcome.TheVariants.{Write as Writes, Jump as Jumps, Load as Loads, Store as Stores, Halt as Halts}
use Rattle.pins.specs.PortWords.{ret_of, request_of}
use Rattle.pins.specs.declared.ports.Retired.{Retired}
use Rattle.pins.specs.declared.ports.Request.{Request}
use Rattle.pins.specs.declared.ports.Request.TheVariants.{Write}
use Rattle.rings.specs.Places.{pushed_if_room, popped_if_any, queue_pushed_if_room, cut_to}
use Rattle.window.specs.declared.entry.Entry.{Entry}
use Rattle.pins.specs.declared.held.Store.{Store}
use Rattle.window.specs.declared.entry.Tag.TheVariants.{Acknowledgment}
use Rattle.pins.specs.Held.{answer_of}
use Rattle.pins.specs.declared.held.Reading.{Reading}
use Rattle.pins.specs.declared.held.Reading.TheVariants.{Idle, Waiting, Answered}
use Rattle.window.specs.declared.datapath.Datapath.{Datapath}
use Rattle.window.specs.Entries.{given}
use Rattle.window.specs.Machine.{popped, kept, retire, drain}
use Rattle.window.specs.Rings.{entry_at, StoreBuffer, buffer_entry}
use Rattle.window.specs.Queues.{requests_by, fetches_by}
use Rattle.window.specs.Datapaths.{lists, SizedDatapath}

-- the oldest leaves the window: in the queues each number is one less
abbrev pub numbers_popped : Datapath → Datapath
numbers_popped k = record {
  regs = k.regs;
  pc = k.pc;
  stores = k.stores;
  device = k.device;
  window = k.window;
  requests = requests_by popped k.requests;
  fetches = fetches_by popped k.fetches;
}

-- it goes on at b, where g was predicted
abbrev pub stayed : Datapath → ℕ → Datapath
stayed k b = record {
  regs = k.regs;
  pc = b;
  stores = k.stores;
  device = Idle;
  window = popped_if_any k.window;
  requests = requests_by popped k.requests;
  fetches = fetches_by popped k.fetches;
}

abbrev pub emptied : Datapath → ℕ → Datapath
emptied k b = record {
  regs = k.regs;
  pc = b;
  stores = k.stores;
  device = Idle;
  window = cut_to k.window 0;
  requests = requests_by (kept 0) k.requests;
  fetches = fetches_by (kept 0) k.fetches;
}

abbrev pub moved_on : Datapath → ℕ → ℕ → Datapath
moved_on k g b = cond (b == g) (stayed k b) (emptied k b)

-- what is shown
abbrev pub write_done : Datapath → ℕ → ℕ → Retired
write_done k d x = record { pc = k.pc; reg = d; value = pick (d == 0) 0 x }

abbrev pub plain_done : Datapath → Retired
plain_done k = record { pc = k.pc; reg = 0; value = 0 }

-- a register is written
abbrev pub with_register : Datapath → ℕ → ℕ → Datapath
with_register k d x = record { regs = record { values = put k.regs.values d x }; pc = k.pc; stores = k.stores; device = k.device; window = k.window; requests = k.requests; fetches = k.fetches }

abbrev pub written : Datapath → Entry → ℕ → ℕ → ℕ → Datapath
written k e d x b = moved_on (with_register k d x) e.predicted b

abbrev pub device_value : Reading → Option ℕ
device_value d = answer_of d

abbrev pub device_retired : Datapath → Entry → ℕ → Reading → Datapath
device_retired k e d Idle = k
device_retired k e d (Waiting b) = k
device_retired k e d (Answered b x) = written k e d x (add k.pc 4)

abbrev pub device_done : Datapath → ℕ → Reading → Option Retired
device_done k d Idle = None
device_done k d (Waiting b) = None
device_done k d (Answered b x) = Some (write_done k d x)

abbrev pub load_retired : Datapath → Entry → ℕ → Option ℕ → Datapath
load_retired k e d None = device_retired k e d k.device
load_retired k e d (Some x) = written k e d x (add k.pc 4)

abbrev pub load_done : Datapath → ℕ → Option ℕ → Option Retired
load_done k d None = device_done k d k.device
load_done k d (Some x) = Some (write_done k d x)

abbrev pub with_buffer : Datapath → StoreBuffer → Datapath
with_buffer k b = record { regs = k.regs; pc = k.pc; stores = b; device = k.device; window = k.window; requests = k.requests; fetches = k.fetches }

abbrev pub store_retired : Datapath → Entry → Store → Datapath
store_retired k e p = cond (nat_lt k.stores.count 8) (moved_on (with_buffer k (pushed_if_room k.stores p)) e.predicted (add k.pc 4)) k

abbrev pub store_done : Datapath → Option Retired
store_done k = cond (nat_lt k.stores.count 8) (Some (plain_done k)) None

abbrev pub outcome_retired : Datapath → Entry → Outcome → Datapath
outcome_retired k e (Writes d x b) = written k e d.number x b
outcome_retired k e (Jumps b) = moved_on k e.predicted b
outcome_retired k e (Loads d b) = load_retired k e d.number e.loaded
outcome_retired k e (Stores b x) = store_retired k e (record { address = b; value = x })
outcome_retired k e (Halts h) = k

abbrev pub outcome_done : Datapath → Entry → Outcome → Option Retired
outcome_done k e (Writes d x b) = Some (write_done k d.number x)
outcome_done k e (Jumps b) = Some (plain_done k)
outcome_done k e (Loads d b) = load_done k d.number e.loaded
outcome_done k e (Stores b x) = store_done k
outcome_done k e (Halts h) = None

abbrev pub retired : Datapath → Datapath
retired k = given (entry_at k.window 0) k (λ e. given e.outcome k (outcome_retired k e))

abbrev pub done : Datapath → Option Retired
done k = given (entry_at k.window 0) None (λ e. given e.outcome None (outcome_done k e))

-- a store goes out
abbrev pub drained : Datapath → Datapath
drained k = cond (nat_lt 0 k.stores.count)
    (record { regs = k.regs; pc = k.pc; stores = popped_if_any k.stores; device = k.device; window = k.window; requests = queue_pushed_if_room k.requests Acknowledgment; fetches = k.fetches })
    k

abbrev pub drain_request : Datapath → Option Request
drain_request k = cond (nat_lt 0 k.stores.count) (Some (Write (buffer_entry k.stores 0).address (buffer_entry k.stores 0).value)) None

-- as a list of traces
abbrev pub rets_of : Option Retired → List Ret
rets_of None = []
rets_of (Some r) = ret_of r ∷ []

pub record RetiringLaws : Type 0 where
  pub retires : (k : Datapath) → SizedDatapath k → lists (retired k) ≡ (retire (lists k)).core
  pub shows : (k : Datapath) → SizedDatapath k → rets_of (done k) ≡ (retire (lists k)).rets
  pub drains : (k : Datapath) → SizedDatapath k → k.requests.count < 4 → lists (drained k) ≡ (drain (lists k)).core
  pub asks : (k : Datapath) → SizedDatapath k → request_of (drain_request k) ≡ (drain (lists k)).req
  pub retire_sized : (k : Datapath) → SizedDatapath k → SizedDatapath (retired k)
  pub drain_sized : (k : Datapath) → SizedDatapath k → SizedDatapath (drained k)
