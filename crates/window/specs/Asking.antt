-- Requests for loads and devices, and stopping, as the datapath does them.
use Rattle.std.specs.Prelude.{◌≡◌, ℕ, ◌/◌, ◌<◌, Bool, false, ◌&&◌, Some, None, Option, ◌==◌}
use Rattle.isa.specs.Words.{pick}
use Rattle.isa.specs.Manual.{device}
use Rattle.isa.specs.declared.execute.Outcome.{Outcome}
use Rattle.isa.specs.declared.execute.Outcome.TheVariants.{Write as Writes, Jump as Jumps, Load as Loads, Store as Stores, Halt as Halts}
use Rattle.isa.specs.declared.execute.Stop.{Stop}
use Rattle.pins.specs.PortWords.{plain, stop_word, request_of}
use Rattle.pins.specs.declared.ports.Request.{Request}
use Rattle.pins.specs.declared.ports.Request.TheVariants.{Read}
use Rattle.window.specs.declared.entry.Tag.TheVariants.{Load, Device}
use Rattle.pins.specs.declared.held.Reading.{Reading}
use Rattle.pins.specs.declared.held.Reading.TheVariants.{Idle, Waiting, Answered}
use Rattle.window.specs.declared.entry.Source.{Source}
use Rattle.window.specs.declared.entry.Source.TheVariants.{Unknown, Memory, Forwarded}
use Rattle.window.specs.declared.datapath.Datapath.{Datapath}
use Rattle.window.specs.Entries.{given, number}
use Rattle.window.specs.Machine.{ask_load, ask_device, halted}
use Rattle.window.specs.Rings.{entry_at, source_in}
use Rattle.rings.specs.Places.{queue_pushed_if_room}
use Rattle.window.specs.Datapaths.{with_tags, lists, SizedDatapath}

abbrev pub read_of : Option ℕ → Option Request
read_of None = None
read_of (Some a) = Some (Read a)

-- a load from memory
abbrev pub memory_at : ℕ → Source → Option ℕ
memory_at b Unknown = None
memory_at b Memory = Some b
memory_at b (Forwarded x) = None

abbrev pub load_at : Datapath → ℕ → Outcome → Option ℕ
load_at k n (Writes r x b) = None
load_at k n (Jumps b) = None
load_at k n (Loads r b) = pick (device b) None (memory_at b (source_in k.window k.stores (b / 4) n))
load_at k n (Stores b x) = None
load_at k n (Halts h) = None

abbrev pub load_address : Datapath → ℕ → Option ℕ
load_address k n = given (entry_at k.window n) None (λ e. given e.outcome None (load_at k n))

abbrev pub load_asked : Datapath → ℕ → Datapath
load_asked k n = given (load_address k n) k (λ _. with_tags k (queue_pushed_if_room k.requests (Load (number n))))

-- no store waits, and no device is read
abbrev pub free_at : Reading → ℕ → Bool
free_at Idle c = c == 0
free_at (Waiting b) c = false
free_at (Answered b x) c = false

abbrev pub free : Datapath → Bool
free k = free_at k.device k.stores.count

-- the oldest's device
abbrev pub device_at : Datapath → Outcome → Option ℕ
device_at k (Writes r x b) = None
device_at k (Jumps b) = None
device_at k (Loads r b) = pick (device b && free k) (Some b) None
device_at k (Stores b x) = None
device_at k (Halts h) = None

abbrev pub device_address : Datapath → Option ℕ
device_address k = given (entry_at k.window 0) None (λ e. given e.outcome None (device_at k))

abbrev pub device_asked : Datapath → Datapath
device_asked k = given (device_address k) k (λ b. record {
  regs = k.regs;
  pc = k.pc;
  stores = k.stores;
  device = Waiting b;
  window = k.window;
  requests = queue_pushed_if_room k.requests Device;
  fetches = k.fetches;
})

-- it has stopped
abbrev pub halt_at : Datapath → Outcome → Option Stop
halt_at k (Writes r x b) = None
halt_at k (Jumps b) = None
halt_at k (Loads r b) = None
halt_at k (Stores b x) = None
halt_at k (Halts h) = pick (free k) (Some h) None

abbrev pub halts : Datapath → Option Stop
halts k = given (entry_at k.window 0) None (λ e. given e.outcome None (halt_at k))

pub record AskingLaws : Type 0 where
  pub load : (k : Datapath) (n : ℕ) → SizedDatapath k → k.requests.count < 4 → lists (load_asked k n) ≡ (ask_load n (lists k)).core
  pub load_asks : (k : Datapath) (n : ℕ) → SizedDatapath k → k.requests.count < 4 → request_of (read_of (load_address k n)) ≡ (ask_load n (lists k)).req
  pub reading : (k : Datapath) → SizedDatapath k → k.requests.count < 4 → lists (device_asked k) ≡ (ask_device (lists k)).core
  pub reading_asks : (k : Datapath) → SizedDatapath k → k.requests.count < 4 → request_of (read_of (device_address k)) ≡ (ask_device (lists k)).req
  pub stops : (k : Datapath) → plain (stop_word (halts k)) ≡ halted (lists k)
  pub load_sized : (k : Datapath) (n : ℕ) → SizedDatapath k → SizedDatapath (load_asked k n)
  pub reading_sized : (k : Datapath) → SizedDatapath k → SizedDatapath (device_asked k)
