-- Requests for loads and devices, and stopping, on the datapath are the machine's on its lists.
use Rattle.std.proofs.Common.{◌≡◌, ℕ, ◌/◌, ◌<◌, ◌≤◌, Bool, true, false, ◌&&◌, eqb, List, [], ◌∷◌, length, Some, None, Option, sym, refl, ap, ◌∙◌, subst, arith, eqb-true}
use mathlib.Core.Option.{Option as Opt, some, none}
use borrow.Author.Tests.{eqb-false}
use Rattle.isa.specs.Words.{pick, opt, nth}
use Rattle.isa.specs.Manual.{device}
use Rattle.isa.specs.Executing.{how}
use Rattle.isa.specs.declared.execute.Outcome.{Outcome}
use Rattle.isa.specs.declared.execute.Outcome.TheVariants.{Write as Writes, Jump as Jumps, Load as Loads, Store as Stores, Halt as Halts}
use Rattle.isa.specs.declared.execute.Stop.{Stop}
use Rattle.pins.specs.PortWords.{optional, plain, stop_word, request_of}
use Rattle.window.specs.declared.entry.Entry.{Entry}
use Rattle.pins.specs.declared.held.Store.{Store}
use Rattle.window.specs.declared.entry.Tag.TheVariants.{Load, Device}
use Rattle.pins.specs.declared.held.Reading.{Reading}
use Rattle.pins.specs.declared.held.Reading.TheVariants.{Idle, Waiting, Answered}
use Rattle.window.specs.declared.entry.Source.{Source}
use Rattle.window.specs.declared.entry.Source.TheVariants.{Unknown, Memory, Forwarded}
use Rattle.window.specs.declared.datapath.Datapath.{Datapath}
use Rattle.window.specs.Entries.{given, number}
use Rattle.window.specs.Machine.{with_requests, Asked, nothing_asked, ask_from, ask_outcome, ask_load, device_if, device_outcome, device_oldest, ask_device, halts_if, halts_outcome, halts_oldest, halted}
use Rattle.window.specs.Rings.{items, waiting}
use Rattle.rings.specs.Places.{queue_pushed_if_room}
use Rattle.window.specs.Queues.{wants}
use Rattle.window.specs.Datapaths.{with_tags, lists, SizedDatapath}
use Rattle.window.specs.Asking.{read_of, memory_at, load_at, load_address, load_asked, free_at, device_at, device_address, device_asked, halt_at, halts, AskingLaws}
use Rattle.window.proofs.Cases.{given_cases}
use Rattle.window.proofs.Held.{nth_inside}
use Rattle.window.proofs.RingList.{ring_laws}
use Rattle.window.proofs.BufferList.{buffer_laws}
use Rattle.window.proofs.QueueList.{queue_laws}

-- the address that is asked for, and the core then, are the machine's
pub record Asks (o : Option ℕ) (j : Datapath) (d : Asked) : Type 0 where
  pub core : lists j ≡ d.core
  pub req : request_of (read_of o) ≡ d.req

module _ (k : Datapath) (s : SizedDatapath k) (room : k.requests.count < 4) where
  -- a load
  module _ (n : ℕ) where
    abbrev load_then : Option ℕ → Datapath
    load_then o = given o k (λ _. with_tags k (queue_pushed_if_room k.requests (Load (number n))))

    load_from : (b : ℕ) (t : Bool) (q : Source) → Asks (pick t None (memory_at b q)) (load_then (pick t None (memory_at b q))) (ask_from (lists k) n b t q)
    load_from b true q = record { core = refl; req = refl }
    load_from b false Unknown = record { core = refl; req = refl }
    load_from b false (Forwarded x) = record { core = refl; req = refl }
    load_from b false Memory = record { core = ap (with_requests (lists k)) (queue_laws.requests.push k.requests (Load (number n)) s.requests room); req = refl }

    load_outcome : n ≤ k.window.count → (o : Outcome) → Asks (load_at k n o) (load_then (load_at k n o)) (ask_outcome (lists k) n o)
    load_outcome l (Writes r x b) = record { core = refl; req = refl }
    load_outcome l (Jumps b) = record { core = refl; req = refl }
    load_outcome l (Loads r b) =
        subst (λ q. Asks (load_at k n (Loads r b)) (load_then (load_at k n (Loads r b))) (ask_from (lists k) n b (device b) q))
        (ring_laws.source k.window k.stores (b / 4) n l) (load_from b (device b) _)
    load_outcome l (Stores b x) = record { core = refl; req = refl }
    load_outcome l (Halts h) = record { core = refl; req = refl }

    load_known : n ≤ k.window.count → (o : Option Outcome) → Asks (given o None (load_at k n)) (load_then (given o None (load_at k n))) (given o (nothing_asked (lists k)) (ask_outcome (lists k) n))
    load_known l None = record { core = refl; req = refl }
    load_known l (Some o) = load_outcome l o

    load_does : Asks (load_address k n) (load_asked k n) (ask_load n (lists k))
    load_does = subst (λ o. Asks (at o) (load_then (at o)) (ask_load n (lists k))) (sym (ring_laws.list.get k.window n)) (by (nth (items k.window) n) refl)
      where
        at : Option Entry → Option ℕ
        at o = given o None (λ e. given e.outcome None (load_at k n))

        by : (o : Opt Entry) → nth (items k.window) n ≡ o
            → Asks (at (optional o)) (load_then (at (optional o))) (opt o (nothing_asked (lists k)) (λ e. given e.outcome (nothing_asked (lists k)) (ask_outcome (lists k) n)))
        by none e = record { core = refl; req = refl }
        by (some x) e = let l = nth_inside (items k.window) n e in let c = ring_laws.list.count k.window in load_known (omega arith) x.outcome

  -- the oldest's device
  abbrev device_then : Option ℕ → Datapath
  device_then o = given o k (λ b. record {
    regs = k.regs;
    pc = k.pc;
    stores = k.stores;
    device = Waiting b;
    window = k.window;
    requests = queue_pushed_if_room k.requests Device;
    fetches = k.fetches;
  })

  -- with stores waiting or not, as the buffer counts them
  device_idle : (b : ℕ) (c : Bool) → eqb k.stores.count 0 ≡ c → (ps : List Store) → length ps ≡ k.stores.count
      → Asks (pick c (Some b) None) (device_then (pick c (Some b) None)) (device_if (lists k) b true Idle ps)
  device_idle b true e [] l = record {
    core = λ i. record {
      regs = k.regs.values;
      pc = k.pc;
      stores = waiting k.stores;
      device = Waiting b;
      window = items k.window;
      requests = queue_laws.requests.push k.requests Device s.requests room i;
      fetches = wants k.fetches;
    };
    req = refl;
  }
  device_idle b false e (p ∷ ps) l = record { core = refl; req = refl }
  device_idle b true e (p ∷ ps) l = let z = eqb-true k.stores.count 0 e in absurd (omega arith)
  device_idle b false e [] l = absurd (eqb-false k.stores.count 0 e (sym l))

  device_from : (b : ℕ) (t : Bool) (q : Reading)
      → Asks (pick (t && free_at q k.stores.count) (Some b) None) (device_then (pick (t && free_at q k.stores.count) (Some b) None)) (device_if (lists k) b t q (waiting k.stores))
  device_from b false q = record { core = refl; req = refl }
  device_from b true (Waiting x) = record { core = refl; req = refl }
  device_from b true (Answered x y) = record { core = refl; req = refl }
  device_from b true Idle = device_idle b (eqb k.stores.count 0) refl (waiting k.stores) (buffer_laws.list.count k.stores)

  reads_outcome : (o : Outcome) → Asks (device_at k o) (device_then (device_at k o)) (device_outcome (lists k) o)
  reads_outcome (Writes r x b) = record { core = refl; req = refl }
  reads_outcome (Jumps b) = record { core = refl; req = refl }
  reads_outcome (Loads r b) = device_from b (device b) k.device
  reads_outcome (Stores b x) = record { core = refl; req = refl }
  reads_outcome (Halts h) = record { core = refl; req = refl }

  reads_known : (o : Option Outcome) → Asks (given o None (device_at k)) (device_then (given o None (device_at k))) (given o (nothing_asked (lists k)) (device_outcome (lists k)))
  reads_known None = record { core = refl; req = refl }
  reads_known (Some o) = reads_outcome o

  reads_does : Asks (device_address k) (device_asked k) (ask_device (lists k))
  reads_does = subst (λ o. Asks (at o) (device_then (at o)) (ask_device (lists k))) (sym (ring_laws.list.get k.window 0)) (by (items k.window))
    where
      at : Option Entry → Option ℕ
      at o = given o None (λ e. given e.outcome None (device_at k))

      by : (es : List Entry) → Asks (at (optional (nth es 0))) (device_then (at (optional (nth es 0)))) (device_oldest (lists k) es)
      by [] = record { core = refl; req = refl }
      by (e ∷ es) = reads_known e.outcome

-- it has stopped
halts_is : (k : Datapath) → plain (stop_word (halts k)) ≡ halted (lists k)
halts_is k = ap (λ o. plain (stop_word (given o None (λ e. given e.outcome None (halt_at k))))) (ring_laws.list.get k.window 0) ∙ by (items k.window)
  where
    idle : (h : Stop) (c : Bool) → eqb k.stores.count 0 ≡ c → (ps : List Store) → length ps ≡ k.stores.count → plain (stop_word (pick c (Some h) None)) ≡ halts_if ps Idle (how h)
    idle h true e [] l = refl
    idle h false e (p ∷ ps) l = refl
    idle h true e (p ∷ ps) l = let z = eqb-true k.stores.count 0 e in absurd (omega arith)
    idle h false e [] l = absurd (eqb-false k.stores.count 0 e (sym l))

    busy : (h : Stop) (q : Reading) (ps : List Store) → length ps ≡ k.stores.count → plain (stop_word (pick (free_at q k.stores.count) (Some h) None)) ≡ halts_if ps q (how h)
    busy h Idle ps l = idle h (eqb k.stores.count 0) refl ps l
    busy h (Waiting b) [] l = refl
    busy h (Waiting b) (p ∷ ps) l = refl
    busy h (Answered b x) [] l = refl
    busy h (Answered b x) (p ∷ ps) l = refl

    outcome : (o : Outcome) → plain (stop_word (halt_at k o)) ≡ halts_outcome (lists k) o
    outcome (Writes r x b) = refl
    outcome (Jumps b) = refl
    outcome (Loads r b) = refl
    outcome (Stores b x) = refl
    outcome (Halts h) = busy h k.device (waiting k.stores) (buffer_laws.list.count k.stores)

    known : (o : Option Outcome) → plain (stop_word (given o None (halt_at k))) ≡ given o none (halts_outcome (lists k))
    known None = refl
    known (Some o) = outcome o

    by : (es : List Entry) → plain (stop_word (given (optional (nth es 0)) None (λ e. given e.outcome None (halt_at k)))) ≡ halts_oldest (lists k) es
    by [] = refl
    by (e ∷ es) = known e.outcome

pub asking_laws : AskingLaws
asking_laws = record {
  load = λ k n s r. (load_does k s r n).core;
  load_asks = λ k n s r. (load_does k s r n).req;
  reading = λ k s r. (reads_does k s r).core;
  reading_asks = λ k s r. (reads_does k s r).req;
  stops = halts_is;
  load_sized = λ k n s. given_cases SizedDatapath (load_address k n) (λ _. s) (λ _ _. record {
    window = s.window;
    stores = s.stores;
    requests = queue_laws.requests.push_sized k.requests (Load (number n)) s.requests;
    fetches = s.fetches;
  });
  reading_sized = λ k s. given_cases SizedDatapath (device_address k) (λ _. s) (λ _ _. record {
    window = s.window;
    stores = s.stores;
    requests = queue_laws.requests.push_sized k.requests Device s.requests;
    fetches = s.fetches;
  });
}
