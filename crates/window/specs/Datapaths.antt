-- The state of a core with a window, in code: what its rules do, and what that is to the machine's.
use Rattle.std.specs.Prelude.{◌≡◌, ℕ, ◌-◌, ◌/◌, ◌<◌, Some, None, Option, MatchOption}
use Rattle.isa.specs.Words.{pick, add}
use Rattle.isa.specs.Manual.{device}
use Rattle.isa.specs.Registers.{no_regs}
use Rattle.isa.specs.declared.reg.Reg.{Reg}
use Rattle.isa.specs.declared.execute.Outcome.{Outcome}
use Rattle.isa.specs.declared.execute.Outcome.TheVariants.{Write as Writes, Jump as Jumps, Load as Loads, Store as Stores, Halt as Halts}
use Rattle.rings.specs.Places.{pushed_if_room, queue_pushed_if_room, put_at, cut_to}
use Rattle.window.specs.declared.entry.Entry.{Entry}
use Rattle.window.specs.declared.entry.Number.{Number}
use Rattle.window.specs.declared.entry.Tag.{Tag}
use Rattle.window.specs.declared.entry.Tag.TheVariants.{Acknowledgment, Load, Stale, Device}
use Rattle.pins.specs.declared.held.Reading.{Reading}
use Rattle.pins.specs.declared.held.Reading.TheVariants.{Idle}
use Rattle.window.specs.declared.datapath.Datapath.{Datapath}
use Rattle.window.specs.Entries.{given, number, fresh, with_predicted, with_word, with_left, with_right, with_loaded}
use Rattle.window.specs.Operands.{left_register, right_register}
use Rattle.window.specs.Machine.{Core, begun, learn, read_left, read_right, executed, execute, forwarded, forward, kept, redirect, device_answered, take_data, take_code, next_pc, fetch}
use Rattle.window.specs.Rings.{size, Window, ring_start, operand, source_in, entry_at, buffer_start, items, waiting, Sized}
use Rattle.window.specs.Queues.{SizedQueue, Requests, requests_start, request_oldest, request_popped, requests_by, Fetches, fetches_start, fetch_oldest, fetch_popped, fetches_by, tags, wants}

abbrev pub datapath_start : ℕ → Datapath
datapath_start a = record { regs = no_regs; pc = a; stores = buffer_start; device = Idle; window = ring_start; requests = requests_start; fetches = fetches_start }

abbrev pub with_ring : Datapath → Window → Datapath
with_ring k w = record { regs = k.regs; pc = k.pc; stores = k.stores; device = k.device; window = w; requests = k.requests; fetches = k.fetches }

-- an operand that is not known yet, by the register that the word names, if there is a word
abbrev pub named : Option Reg → Option ℕ
named r = given r None (λ g. Some g.number)

abbrev pub operand_for : Datapath → ℕ → Option ℕ → Option ℕ → Option ℕ
operand_for k n known r = given known (given r None (λ g. operand k.window k.regs.values g n)) (λ _. None)

-- what the n-th instruction, which is e, learns by each rule
abbrev pub left_for : Datapath → ℕ → Entry → Option Entry
left_for k n e = given e.left (given e.word None (λ w. given (operand k.window k.regs.values (left_register w) n) None (λ x. Some (with_left e x)))) (λ _. None)

abbrev pub right_for : Datapath → ℕ → Entry → Option Entry
right_for k n e = given e.right (given e.word None (λ w. given (operand k.window k.regs.values (right_register w) n) None (λ x. Some (with_right e x)))) (λ _. None)

abbrev pub outcome_for : Entry → Option Entry
outcome_for e = given e.outcome (executed e) (λ _. None)

abbrev pub forward_by : Datapath → ℕ → Entry → Outcome → Option Entry
forward_by k n e (Writes r x a) = None
forward_by k n e (Jumps a) = None
forward_by k n e (Loads r a) = pick (device a) None (forwarded e (source_in k.window k.stores (a / 4) n))
forward_by k n e (Stores a x) = None
forward_by k n e (Halts h) = None

abbrev pub forward_for : Datapath → ℕ → Entry → Option Entry
forward_for k n e = given e.loaded (given e.outcome None (forward_by k n e)) (λ _. None)

-- a rule by which the n-th learns
abbrev pub ruled : (Datapath → ℕ → Entry → Option Entry) → Datapath → ℕ → Datapath
ruled f k n = with_ring k (given (entry_at k.window n) k.window (λ e. given (f k n e) k.window (put_at k.window n)))

-- the n-th has learned what a rule gives it, if that is something
abbrev pub Learns : (Entry → Option Entry → Type 0) → Datapath → ℕ → Datapath → Type 0
Learns Gives k n j = MatchOption (entry_at k.window n) (j ≡ k) (λ e. (o : Option Entry) × Gives e o × (j ≡ with_ring k (given o k.window (put_at k.window n))))

abbrev pub with_wants : Datapath → Fetches → Datapath
with_wants k q = record { regs = k.regs; pc = k.pc; stores = k.stores; device = k.device; window = k.window; requests = k.requests; fetches = q }

abbrev pub with_tags : Datapath → Requests → Datapath
with_tags k q = record { regs = k.regs; pc = k.pc; stores = k.stores; device = k.device; window = k.window; requests = q; fetches = k.fetches }

abbrev pub with_reading : Datapath → Reading → Datapath
with_reading k d = record { regs = k.regs; pc = k.pc; stores = k.stores; device = d; window = k.window; requests = k.requests; fetches = k.fetches }

-- a word of code that came
abbrev pub code_for : Datapath → ℕ → Option Number → Datapath
code_for k x None = k
code_for k x (Some m) = ruled (λ _ _ e. Some (with_word e x)) k m.0

abbrev pub code_taken : Datapath → ℕ → Datapath
code_taken k x = given (fetch_oldest k.fetches) k (code_for (with_wants k (fetch_popped k.fetches)) x)

-- an answer to a request
abbrev pub data_for : Datapath → ℕ → Tag → Datapath
data_for k x Acknowledgment = k
data_for k x (Load m) = ruled (λ _ _ e. Some (with_loaded e x)) k m.0
data_for k x Stale = k
data_for k x Device = with_reading k (device_answered x k.device)

abbrev pub data_taken : Datapath → ℕ → Datapath
data_taken k x = given (request_oldest k.requests) k (data_for (with_tags k (request_popped k.requests)) x)

-- the instructions from n on are flushed
abbrev pub flushed : Datapath → ℕ → Datapath
flushed k n = record {
  regs = k.regs;
  pc = k.pc;
  stores = k.stores;
  device = k.device;
  window = cut_to k.window n;
  requests = requests_by (kept n) k.requests;
  fetches = fetches_by (kept n) k.fetches;
}

-- another prediction
abbrev pub redirect_to : Datapath → ℕ → ℕ → Entry → Datapath
redirect_to k n g e = record {
  regs = k.regs;
  pc = k.pc;
  stores = k.stores;
  device = k.device;
  window = cut_to (put_at k.window n (with_predicted e g)) (add n 1);
  requests = requests_by (kept (add n 1)) k.requests;
  fetches = fetches_by (kept (add n 1)) k.fetches;
}

abbrev pub redirected : Datapath → ℕ → ℕ → Datapath
redirected k n g = given (entry_at k.window n) k (redirect_to k n g)

-- the next word of code
abbrev pub next_pc_of : Datapath → ℕ
next_pc_of k = given (entry_at k.window (k.window.count - 1)) k.pc (λ e. e.predicted)

abbrev pub wanted : Datapath → ℕ → Datapath
wanted k g = record {
  regs = k.regs;
  pc = k.pc;
  stores = k.stores;
  device = k.device;
  window = pushed_if_room k.window (fresh (next_pc_of k) g);
  requests = k.requests;
  fetches = queue_pushed_if_room k.fetches (Some (number k.window.count));
}

-- the machine's state that it stands for
abbrev pub lists : Datapath → Core
lists k = record {
  regs = k.regs.values;
  pc = k.pc;
  stores = waiting k.stores;
  device = k.device;
  window = items k.window;
  requests = tags k.requests;
  fetches = wants k.fetches;
}

pub record SizedDatapath (k : Datapath) : Type 0 where
  pub window : Sized k.window
  pub stores : Sized k.stores
  pub requests : SizedQueue k.requests
  pub fetches : SizedQueue k.fetches

pub record DatapathLaws : Type 0 where
  pub start : (a : ℕ) → lists (datapath_start a) ≡ begun a
  pub read_left : (k : Datapath) (n : ℕ) → SizedDatapath k → lists (ruled left_for k n) ≡ learn read_left n (lists k)
  pub read_right : (k : Datapath) (n : ℕ) → SizedDatapath k → lists (ruled right_for k n) ≡ learn read_right n (lists k)
  pub execute : (k : Datapath) (n : ℕ) → SizedDatapath k → lists (ruled (λ _ _ e. outcome_for e) k n) ≡ learn execute n (lists k)
  pub forward : (k : Datapath) (n : ℕ) → SizedDatapath k → lists (ruled forward_for k n) ≡ learn forward n (lists k)
  pub take_code : (k : Datapath) (x : ℕ) → SizedDatapath k → lists (code_taken k x) ≡ take_code x (lists k) (wants k.fetches)
  pub take_data : (k : Datapath) (x : ℕ) → SizedDatapath k → lists (data_taken k x) ≡ take_data x (lists k) (tags k.requests)
  pub redirect : (k : Datapath) (n g : ℕ) → SizedDatapath k → lists (redirected k n g) ≡ redirect n g (lists k)
  pub next_pc : (k : Datapath) → next_pc_of k ≡ next_pc (lists k)
  pub fetch : (k : Datapath) (g : ℕ) → SizedDatapath k → k.window.count < size → k.fetches.count < 4 → lists (wanted k g) ≡ fetch g (lists k)
  -- sizes are kept
  pub start_sized : (a : ℕ) → SizedDatapath (datapath_start a)
  pub ruled_sized : (f : Datapath → ℕ → Entry → Option Entry) (k : Datapath) (n : ℕ) → SizedDatapath k → SizedDatapath (ruled f k n)
  pub code_sized : (k : Datapath) (x : ℕ) → SizedDatapath k → SizedDatapath (code_taken k x)
  pub data_sized : (k : Datapath) (x : ℕ) → SizedDatapath k → SizedDatapath (data_taken k x)
  pub redirect_sized : (k : Datapath) (n g : ℕ) → SizedDatapath k → SizedDatapath (redirected k n g)
  pub fetch_sized : (k : Datapath) (g : ℕ) → SizedDatapath k → SizedDatapath (wanted k g)
