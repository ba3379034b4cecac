-- The general machine: its state, and its rules. Rules fill in what was unknown, retire the oldest, push one more at the end, or flush the end.
use Rattle.std.specs.Prelude.{ℕ, zero, suc, ◌/◌, Bool, true, false, List, [], ◌∷◌, ◌++◌, map, length, take, replicate, Some, None, Option, ◌==◌, nat_lt}
use Rattle.std.proofs.Math.Option.{Option as Opt, some, none}
use Rattle.isa.specs.Words.{pick, opt, nth, put, add}
use Rattle.isa.specs.Manual.{Ret, device}
use Rattle.isa.specs.Executing.{how}
use Rattle.isa.specs.declared.execute.Outcome.{Outcome}
use Rattle.isa.specs.declared.execute.Outcome.TheVariants.{Write as Writes, Jump as Jumps, Load as Loads, Store as Stores, Halt as Halts}
use Rattle.pins.specs.Ports.{Req, reads, writes1}
use Rattle.window.specs.declared.entry.Entry.{Entry}
use Rattle.window.specs.declared.entry.Number.{Number}
use Rattle.window.specs.declared.entry.Tag.{Tag}
use Rattle.window.specs.declared.entry.Tag.TheVariants.{Acknowledgment, Load, Stale, Device}
use Rattle.pins.specs.declared.held.Store.{Store}
use Rattle.pins.specs.Held.{with_answer}
use Rattle.pins.specs.declared.held.Reading.{Reading}
use Rattle.pins.specs.declared.held.Reading.TheVariants.{Idle, Waiting, Answered}
use Rattle.window.specs.declared.entry.Source.{Source}
use Rattle.window.specs.declared.entry.Source.TheVariants.{Unknown, Memory, Forwarded}
use Rattle.window.specs.Entries.{given, number, fresh, with_word, with_left, with_right, with_outcome, with_loaded, with_predicted}
use Rattle.window.specs.Operands.{left_register, right_register, work_with}
use Rattle.window.specs.Newest.{newest, source}

pub record Core : Type 0 where
  pub regs : List ℕ
  -- the address of the oldest instruction, or of the next to be fetched
  pub pc : ℕ
  -- retired stores that wait, oldest first
  pub stores : List Store
  pub device : Reading
  -- the instructions at work, oldest first
  pub window : List Entry
  -- what the open requests are for, and which instructions the wanted words of code (None: it was flushed), oldest first
  pub requests : List Tag
  pub fetches : List (Option Number)

abbrev pub begun : ℕ → Core
begun a = record { regs = replicate 32 0; pc = a; stores = []; device = Idle; window = []; requests = []; fetches = [] }

module _ (k : Core) where
  abbrev pub with_window : List Entry → Core
  with_window es = record {
    regs = k.regs;
    pc = k.pc;
    stores = k.stores;
    device = k.device;
    window = es;
    requests = k.requests;
    fetches = k.fetches;
  }

  abbrev pub with_requests : List Tag → Core
  with_requests ts = record {
    regs = k.regs;
    pc = k.pc;
    stores = k.stores;
    device = k.device;
    window = k.window;
    requests = ts;
    fetches = k.fetches;
  }

  abbrev pub with_fetches : List (Option Number) → Core
  with_fetches fs = record {
    regs = k.regs;
    pc = k.pc;
    stores = k.stores;
    device = k.device;
    window = k.window;
    requests = k.requests;
    fetches = fs;
  }

-- the n-th instruction learns something, or not
abbrev pub learn : (Core → ℕ → Entry → Option Entry) → ℕ → Core → Core
learn f n k = opt (nth k.window n) k (λ e. given (f k n e) k (λ d. with_window k (put k.window n d)))

-- operands
abbrev pub read_left : Core → ℕ → Entry → Option Entry
read_left k n e = given e.left (given e.word None (λ w. given (newest k.regs k.window n (left_register w)) None (λ x. Some (with_left e x)))) (λ _. None)

abbrev pub read_right : Core → ℕ → Entry → Option Entry
read_right k n e = given e.right (given e.word None (λ w. given (newest k.regs k.window n (right_register w)) None (λ x. Some (with_right e x)))) (λ _. None)

-- the outcome, once its operands are there
abbrev pub executed : Entry → Option Entry
executed e = given e.word None (λ w. given e.left None (λ x. given e.right None (λ y. Some (with_outcome e (work_with e.pc w x y)))))

abbrev pub execute : Core → ℕ → Entry → Option Entry
execute k n e = given e.outcome (executed e) (λ _. None)

-- a load whose word is with a store before it
abbrev pub forwarded : Entry → Source → Option Entry
forwarded e Unknown = None
forwarded e Memory = None
forwarded e (Forwarded x) = Some (with_loaded e x)

abbrev pub forward_outcome : Core → ℕ → Entry → Outcome → Option Entry
forward_outcome k n e (Writes r x a) = None
forward_outcome k n e (Jumps a) = None
forward_outcome k n e (Loads r a) = pick (device a) None (forwarded e (source k.stores k.window n (a / 4)))
forward_outcome k n e (Stores a x) = None
forward_outcome k n e (Halts h) = None

abbrev pub forward : Core → ℕ → Entry → Option Entry
forward k n e = given e.loaded (given e.outcome None (forward_outcome k n e)) (λ _. None)

-- numbers when the oldest is retired, and when all from n on are flushed; None: nobody waits any more
abbrev pub popped : ℕ → Option ℕ
popped zero = None
popped (suc k) = Some k

abbrev pub kept : ℕ → ℕ → Option ℕ
kept n k = pick (nat_lt k n) (Some k) None

abbrev pub retag : (ℕ → Option ℕ) → Tag → Tag
retag g Acknowledgment = Acknowledgment
retag g (Load n) = given (g n.0) Stale (λ j. Load (number j))
retag g Stale = Stale
retag g Device = Device

abbrev pub retags : (ℕ → Option ℕ) → List Tag → List Tag
retags g ts = map (retag g) ts

abbrev pub renumber : (ℕ → Option ℕ) → Option Number → Option Number
renumber g None = None
renumber g (Some n) = given (g n.0) None (λ j. Some (number j))

abbrev pub renumbers : (ℕ → Option ℕ) → List (Option Number) → List (Option Number)
renumbers g fs = map (renumber g) fs

-- another prediction for the n-th instruction: what is younger is flushed
abbrev pub redirect : ℕ → ℕ → Core → Core
redirect n g k = opt (nth k.window n) k (λ e. record {
  regs = k.regs;
  pc = k.pc;
  stores = k.stores;
  device = k.device;
  window = take n k.window ++ (with_predicted e g ∷ []);
  requests = retags (kept (suc n)) k.requests;
  fetches = renumbers (kept (suc n)) k.fetches;
})

-- the oldest is retired: the core after it, and its trace
pub record Retired : Type 0 where
  pub core : Core
  pub rets : List Ret

abbrev pub none_retired : Core → Retired
none_retired k = record { core = k; rets = [] }

-- after a right prediction the younger ones stay, after a wrong one they are flushed
abbrev pub leave : Core → List Entry → List ℕ → ℕ → List Store → Bool → Core
leave k es gs b ps true = record {
  regs = gs;
  pc = b;
  stores = ps;
  device = Idle;
  window = es;
  requests = retags popped k.requests;
  fetches = renumbers popped k.fetches;
}
leave k es gs b ps false = record {
  regs = gs;
  pc = b;
  stores = ps;
  device = Idle;
  window = [];
  requests = retags (kept 0) k.requests;
  fetches = renumbers (kept 0) k.fetches;
}

abbrev pub finish : Core → Entry → List Entry → List ℕ → ℕ → List Store → Ret → Retired
finish k e es gs b ps t = record { core = leave k es gs b ps (b == e.predicted); rets = t ∷ [] }

abbrev pub write_ret : Core → ℕ → ℕ → Ret
write_ret k d x = record { pc = k.pc; reg = d; val = pick (d == 0) 0 x }

abbrev pub plain_ret : Core → Ret
plain_ret k = record { pc = k.pc; reg = 0; val = 0 }

abbrev pub retire_write : Core → Entry → List Entry → ℕ → ℕ → ℕ → Retired
retire_write k e es d x b = finish k e es (put k.regs d x) b k.stores (write_ret k d x)

abbrev pub retire_device : Core → Entry → List Entry → ℕ → Reading → Retired
retire_device k e es d Idle = none_retired k
retire_device k e es d (Waiting b) = none_retired k
retire_device k e es d (Answered b x) = retire_write k e es d x (add k.pc 4)

abbrev pub retire_store : Core → Entry → List Entry → Store → Bool → Retired
retire_store k e es p true = finish k e es k.regs (add k.pc 4) (k.stores ++ (p ∷ [])) (plain_ret k)
retire_store k e es p false = none_retired k

abbrev pub retire_outcome : Core → Entry → List Entry → Outcome → Retired
retire_outcome k e es (Writes d x b) = retire_write k e es d.number x b
retire_outcome k e es (Jumps b) = finish k e es k.regs b k.stores (plain_ret k)
retire_outcome k e es (Loads d b) = given e.loaded (retire_device k e es d.number k.device) (λ x. retire_write k e es d.number x (add k.pc 4))
retire_outcome k e es (Stores b x) = retire_store k e es (record { address = b; value = x }) (nat_lt (length k.stores) 8)
retire_outcome k e es (Halts h) = none_retired k

abbrev pub retire_oldest : Core → List Entry → Retired
retire_oldest k [] = none_retired k
retire_oldest k (e ∷ es) = given e.outcome (none_retired k) (retire_outcome k e es)

abbrev pub retire : Core → Retired
retire k = retire_oldest k k.window

-- it has stopped: the oldest halts, and nothing before it is left to be done
abbrev pub halts_if : List Store → Reading → ℕ → Opt ℕ
halts_if [] Idle j = some j
halts_if [] (Waiting b) j = none
halts_if [] (Answered b x) j = none
halts_if (p ∷ ps) d j = none

abbrev pub halts_outcome : Core → Outcome → Opt ℕ
halts_outcome k (Writes d x b) = none
halts_outcome k (Jumps b) = none
halts_outcome k (Loads d b) = none
halts_outcome k (Stores b x) = none
halts_outcome k (Halts h) = halts_if k.stores k.device (how h)

abbrev pub halts_oldest : Core → List Entry → Opt ℕ
halts_oldest k [] = none
halts_oldest k (e ∷ es) = given e.outcome none (halts_outcome k)

abbrev pub halted : Core → Opt ℕ
halted k = halts_oldest k k.window

-- a request: the core after it, and what is asked
pub record Asked : Type 0 where
  pub core : Core
  pub req : Opt Req

abbrev pub nothing_asked : Core → Asked
nothing_asked k = record { core = k; req = none }

-- the load of the n-th instruction, from memory; a device is never read ahead
abbrev pub ask_from : Core → ℕ → ℕ → Bool → Source → Asked
ask_from k n b false Memory = record { core = with_requests k (k.requests ++ (Load (number n) ∷ [])); req = some (reads b) }
ask_from k n b false Unknown = nothing_asked k
ask_from k n b false (Forwarded x) = nothing_asked k
ask_from k n b true s = nothing_asked k

abbrev pub ask_outcome : Core → ℕ → Outcome → Asked
ask_outcome k n (Writes r x a) = nothing_asked k
ask_outcome k n (Jumps a) = nothing_asked k
ask_outcome k n (Loads r b) = ask_from k n b (device b) (source k.stores k.window n (b / 4))
ask_outcome k n (Stores a x) = nothing_asked k
ask_outcome k n (Halts h) = nothing_asked k

abbrev pub ask_load : ℕ → Core → Asked
ask_load n k = opt (nth k.window n) (nothing_asked k) (λ e. given e.outcome (nothing_asked k) (ask_outcome k n))

-- the oldest waiting store
abbrev pub drain_first : Core → List Store → Asked
drain_first k [] = nothing_asked k
drain_first k (p ∷ ps) = record {
  core = record {
    regs = k.regs;
    pc = k.pc;
    stores = ps;
    device = k.device;
    window = k.window;
    requests = k.requests ++ (Acknowledgment ∷ []);
    fetches = k.fetches;
  };
  req = some (writes1 p.address p.value);
}

abbrev pub drain : Core → Asked
drain k = drain_first k k.stores

-- the device that the oldest reads, with no store waiting: the reading is seen outside
abbrev pub device_if : Core → ℕ → Bool → Reading → List Store → Asked
device_if k b false d ps = nothing_asked k
device_if k b true (Waiting x) ps = nothing_asked k
device_if k b true (Answered x y) ps = nothing_asked k
device_if k b true Idle (p ∷ ps) = nothing_asked k
device_if k b true Idle [] = record {
  core = record {
    regs = k.regs;
    pc = k.pc;
    stores = k.stores;
    device = Waiting b;
    window = k.window;
    requests = k.requests ++ (Device ∷ []);
    fetches = k.fetches;
  };
  req = some (reads b);
}

abbrev pub device_outcome : Core → Outcome → Asked
device_outcome k (Writes d x b) = nothing_asked k
device_outcome k (Jumps b) = nothing_asked k
device_outcome k (Loads d b) = device_if k b (device b) k.device k.stores
device_outcome k (Stores b x) = nothing_asked k
device_outcome k (Halts h) = nothing_asked k

abbrev pub device_oldest : Core → List Entry → Asked
device_oldest k [] = nothing_asked k
device_oldest k (e ∷ es) = given e.outcome (nothing_asked k) (device_outcome k)

abbrev pub ask_device : Core → Asked
ask_device k = device_oldest k k.window

-- an answer to a request; one that nobody waits for is ignored
abbrev pub device_answered : ℕ → Reading → Reading
device_answered x d = with_answer x d

abbrev pub get_data : ℕ → Core → ℕ → Entry → Option Entry
get_data x k n e = Some (with_loaded e x)

abbrev pub take_data : ℕ → Core → List Tag → Core
take_data x k [] = k
take_data x k (Acknowledgment ∷ ts) = with_requests k ts
take_data x k (Load n ∷ ts) = learn (get_data x) n.0 (with_requests k ts)
take_data x k (Stale ∷ ts) = with_requests k ts
take_data x k (Device ∷ ts) = record {
  regs = k.regs;
  pc = k.pc;
  stores = k.stores;
  device = device_answered x k.device;
  window = k.window;
  requests = ts;
  fetches = k.fetches;
}

-- a word of code
abbrev pub get_code : ℕ → Core → ℕ → Entry → Option Entry
get_code x k n e = Some (with_word e x)

abbrev pub take_code : ℕ → Core → List (Option Number) → Core
take_code x k [] = k
take_code x k (None ∷ fs) = with_fetches k fs
take_code x k (Some n ∷ fs) = learn (get_code x) n.0 (with_fetches k fs)

-- the next word of code is wanted: where it is, by the predictions so far; where the one after it is, is anybody's guess
abbrev pub tip : ℕ → List Entry → ℕ
tip p [] = p
tip p (e ∷ es) = tip e.predicted es

abbrev pub next_pc : Core → ℕ
next_pc k = tip k.pc k.window

abbrev pub fetch : ℕ → Core → Core
fetch g k = record {
  regs = k.regs;
  pc = k.pc;
  stores = k.stores;
  device = k.device;
  window = k.window ++ (fresh (next_pc k) g ∷ []);
  requests = k.requests;
  fetches = k.fetches ++ (Some (number (length k.window)) ∷ []);
}
