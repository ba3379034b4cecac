-- Retiring and draining on the datapath are the machine's rules on its lists.
use Rattle.std.proofs.Common.{◌≡◌, ℕ, ◌<◌, Bool, true, false, cond, eqb, ltb, List, [], ◌∷◌, length, Some, None, Option, sym, refl, ap, ◌∙◌, subst, arith, ltb-true}
use Rattle.isa.specs.Words.{pick, put, add}
use Rattle.isa.specs.Manual.{Ret}
use Rattle.isa.specs.declared.execute.Outcome.{Outcome}
use Rattle.isa.specs.declared.execute.Outcome.TheVariants.{Write as Writes, Jump as Jumps, Load as Loads, Store as Stores, Halt as Halts}
use Rattle.pins.specs.PortWords.{request_of}
use Rattle.window.specs.declared.entry.Entry.{Entry}
use Rattle.pins.specs.declared.held.Store.{Store}
use Rattle.window.specs.declared.entry.Tag.TheVariants.{Acknowledgment}
use Rattle.pins.specs.declared.held.Reading.{Reading}
use Rattle.pins.specs.declared.held.Reading.TheVariants.{Idle, Waiting, Answered}
use Rattle.window.specs.declared.datapath.Datapath.{Datapath}
use Rattle.window.specs.Entries.{given}
use Rattle.window.specs.Machine.{popped, kept, retag, renumber, Retired, none_retired, leave, retire_write, retire_device, retire_store, retire_outcome, retire_oldest, retire, drain_first, drain}
use Rattle.window.specs.Rings.{entry, items, waiting, rest}
use Rattle.rings.specs.Places.{pushed_if_room, popped_if_any}
use Rattle.window.specs.Queues.{wants}
use Rattle.window.specs.Datapaths.{lists, SizedDatapath}
use Rattle.window.specs.Retiring.{stayed, emptied, moved_on, plain_done, with_register, written, device_retired, device_done, load_retired, load_done, with_buffer, store_retired, store_done, outcome_retired, outcome_done, retired, done, drained, drain_request, rets_of, RetiringLaws}
use Rattle.window.proofs.Circle.{by_test}
use Rattle.window.proofs.RingList.{ring_laws}
use Rattle.window.proofs.BufferList.{buffer_laws}
use Rattle.window.proofs.QueueList.{queue_laws}

-- it goes on
moved_is : (k : Datapath) (g b : ℕ) → SizedDatapath k
    → lists (moved_on k g b) ≡ leave (lists k) (rest (items k.window)) k.regs.values b (waiting k.stores) (eqb b g)
moved_is k g b s = by (eqb b g)
  where
    by : (t : Bool) → lists (cond t (stayed k b) (emptied k b)) ≡ leave (lists k) (rest (items k.window)) k.regs.values b (waiting k.stores) t
    by true = λ i. record {
      regs = k.regs.values;
      pc = b;
      stores = waiting k.stores;
      device = Idle;
      window = ring_laws.list.pop k.window i;
      requests = queue_laws.tags_by popped k.requests s.requests i;
      fetches = queue_laws.wants_by popped k.fetches s.fetches i;
    }
    by false = λ i. record {
      regs = k.regs.values;
      pc = b;
      stores = waiting k.stores;
      device = Idle;
      window = ring_laws.list.cut k.window 0 i;
      requests = queue_laws.tags_by (kept 0) k.requests s.requests i;
      fetches = queue_laws.wants_by (kept 0) k.fetches s.fetches i;
    }

moved_sized : (k : Datapath) (g b : ℕ) → SizedDatapath k → SizedDatapath (moved_on k g b)
moved_sized k g b s = by (eqb b g)
  where
    by : (t : Bool) → SizedDatapath (cond t (stayed k b) (emptied k b))
    by true = record {
      window = ring_laws.list.pop_sized k.window s.window;
      stores = s.stores;
      requests = queue_laws.requests.by_sized (retag popped) k.requests s.requests;
      fetches = queue_laws.fetches.by_sized (renumber popped) k.fetches s.fetches;
    }
    by false = record {
      window = ring_laws.list.cut_sized k.window 0 s.window;
      stores = s.stores;
      requests = queue_laws.requests.by_sized (retag (kept 0)) k.requests s.requests;
      fetches = queue_laws.fetches.by_sized (renumber (kept 0)) k.fetches s.fetches;
    }

-- what a rule leaves and shows is the machine's
pub record Does (k j : Datapath) (ts : List Ret) (d : Retired) : Type 0 where
  pub core : lists j ≡ d.core
  pub rets : ts ≡ d.rets
  pub sized : SizedDatapath j

module _ (k : Datapath) (s : SizedDatapath k) (e : Entry) (es : List Entry) (we : items k.window ≡ e ∷ es) where
  tail_is : rest (items k.window) ≡ es
  tail_is = ap rest we

  nothing : Does k k [] (none_retired (lists k))
  nothing = record { core = refl; rets = refl; sized = s }

  register_sized : (d x : ℕ) → SizedDatapath (with_register k d x)
  register_sized d x = record { window = s.window; stores = s.stores; requests = s.requests; fetches = s.fetches }

  write_does : (d x b : ℕ) → Does k (written k e d x b) (record { pc = k.pc; reg = d; val = pick (eqb d 0) 0 x } ∷ []) (retire_write (lists k) e es d x b)
  write_does d x b = record {
    core = moved_is (with_register k d x) e.predicted b (register_sized d x) ∙ ap (λ (z : List Entry). leave (lists k) z (put k.regs.values d x) b (waiting k.stores) (eqb b e.predicted)) tail_is;
    rets = refl;
    sized = moved_sized (with_register k d x) e.predicted b (register_sized d x);
  }

  device_does : (d : ℕ) (q : Reading) → Does k (device_retired k e d q) (rets_of (device_done k d q)) (retire_device (lists k) e es d q)
  device_does d Idle = nothing
  device_does d (Waiting b) = nothing
  device_does d (Answered b x) = write_does d x (add k.pc 4)

  load_does : (d : ℕ) (g : Option ℕ) → Does k (load_retired k e d g) (rets_of (load_done k d g))
      (given g (retire_device (lists k) e es d k.device) (λ x. retire_write (lists k) e es d x (add k.pc 4)))
  load_does d None = device_does d k.device
  load_does d (Some x) = write_does d x (add k.pc 4)

  buffer_sized : (p : Store) → SizedDatapath (with_buffer k (pushed_if_room k.stores p))
  buffer_sized p = record { window = s.window; stores = buffer_laws.list.push_sized k.stores p s.stores; requests = s.requests; fetches = s.fetches }

  store_does : (p : Store) → Does k (store_retired k e p) (rets_of (store_done k)) (retire_store (lists k) e es p (ltb (length (waiting k.stores)) 8))
  store_does p = subst (λ n. Does k (store_retired k e p) (rets_of (store_done k)) (retire_store (lists k) e es p (ltb n 8))) (sym (buffer_laws.list.count k.stores)) (by (ltb k.stores.count 8) refl)
    where
      by : (t : Bool) → ltb k.stores.count 8 ≡ t
          → Does k (cond t (moved_on (with_buffer k (pushed_if_room k.stores p)) e.predicted (add k.pc 4)) k)
          (rets_of (cond t (Some (plain_done k)) None)) (retire_store (lists k) e es p t)
      by false q = nothing
      by true q = record {
        core = moved_is (with_buffer k (pushed_if_room k.stores p)) e.predicted (add k.pc 4) (buffer_sized p)
            ∙ (λ i. leave (lists k) (tail_is i) k.regs.values (add k.pc 4) (buffer_laws.list.push k.stores p s.stores (ltb-true k.stores.count 8 q) i) (eqb (add k.pc 4) e.predicted));
        rets = refl;
        sized = moved_sized (with_buffer k (pushed_if_room k.stores p)) e.predicted (add k.pc 4) (buffer_sized p);
      }

  outcome_does : (o : Outcome) → Does k (outcome_retired k e o) (rets_of (outcome_done k e o)) (retire_outcome (lists k) e es o)
  outcome_does (Writes d x b) = write_does d.number x b
  outcome_does (Jumps b) = record {
    core = moved_is k e.predicted b s ∙ ap (λ (z : List Entry). leave (lists k) z k.regs.values b (waiting k.stores) (eqb b e.predicted)) tail_is;
    rets = refl;
    sized = moved_sized k e.predicted b s;
  }
  outcome_does (Loads d b) = load_does d.number e.loaded
  outcome_does (Stores b x) = store_does (record { address = b; value = x })
  outcome_does (Halts h) = nothing

  known_does : (o : Option Outcome) → Does k (given o k (outcome_retired k e)) (rets_of (given o None (outcome_done k e))) (given o (none_retired (lists k)) (retire_outcome (lists k) e es))
  known_does None = nothing
  known_does (Some o) = outcome_does o

retire_does : (k : Datapath) → SizedDatapath k → Does k (retired k) (rets_of (done k)) (retire (lists k))
retire_does k s =
    by_test (λ o. Does k (given o k (λ e. given e.outcome k (outcome_retired k e))) (rets_of (given o None (λ e. given e.outcome None (outcome_done k e)))) (retire (lists k)))
    0 k.window.count _ _
    (λ l.
    let w = ring_laws.list.oldest k.window l in
    subst (λ (z : List Entry). Does k (given (entry k.window 0).outcome k (outcome_retired k (entry k.window 0))) (rets_of (given (entry k.window 0).outcome None (outcome_done k (entry k.window 0)))) (retire_oldest (lists k) z))
    (sym w) (known_does k s (entry k.window 0) (items (popped_if_any k.window)) w (entry k.window 0).outcome))
    (λ l.
    let z : k.window.count ≡ 0 = omega arith in
    subst (λ (y : List Entry). Does k k [] (retire_oldest (lists k) y)) (sym (ring_laws.list.empty k.window l)) (record { core = refl; rets = refl; sized = s }))

-- a store goes out
drain_is : (k : Datapath) → SizedDatapath k → k.requests.count < 4 → lists (drained k) ≡ (drain (lists k)).core
drain_is k s m =
    by_test (λ (j : Datapath). lists j ≡ (drain (lists k)).core) 0 k.stores.count _ _
    (λ l. (λ i. record {
      regs = k.regs.values;
      pc = k.pc;
      stores = waiting (popped_if_any k.stores);
      device = k.device;
      window = items k.window;
      requests = queue_laws.requests.push k.requests Acknowledgment s.requests m i;
      fetches = wants k.fetches;
    }) ∙ sym (ap (λ (ps : List Store). (drain_first (lists k) ps).core) (buffer_laws.list.oldest k.stores l)))
    (λ l. sym (ap (λ (ps : List Store). (drain_first (lists k) ps).core) (buffer_laws.list.empty k.stores l)))

drain_asks : (k : Datapath) → request_of (drain_request k) ≡ (drain (lists k)).req
drain_asks k =
    by_test (λ o. request_of o ≡ (drain (lists k)).req) 0 k.stores.count _ _
    (λ l. sym (ap (λ (ps : List Store). (drain_first (lists k) ps).req) (buffer_laws.list.oldest k.stores l)))
    (λ l. sym (ap (λ (ps : List Store). (drain_first (lists k) ps).req) (buffer_laws.list.empty k.stores l)))

pub retiring_laws : RetiringLaws
retiring_laws = record {
  retires = λ k s. (retire_does k s).core;
  shows = λ k s. (retire_does k s).rets;
  drains = drain_is;
  asks = λ k s. drain_asks k;
  retire_sized = λ k s. (retire_does k s).sized;
  drain_sized = λ k s. by_test SizedDatapath 0 k.stores.count _ _ (λ l. record {
    window = s.window;
    stores = buffer_laws.list.pop_sized k.stores s.stores;
    requests = queue_laws.requests.push_sized k.requests Acknowledgment s.requests;
    fetches = s.fetches;
  }) (λ l. s);
}
