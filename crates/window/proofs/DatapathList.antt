-- The datapath's rules are the machine's on its lists.
use Rattle.std.proofs.Common.{◌≡◌, ℕ, suc, ◌/◌, ◌<◌, List, [], ◌∷◌, ◌++◌, take, replicate, Some, None, Option, sym, refl, ap, ◌∙◌, arith}
use mathlib.Core.Option.{Option as Opt, some, none}
use Rattle.isa.specs.Words.{pick, opt, nth, add}
use Rattle.isa.specs.Manual.{device}
use Rattle.isa.specs.declared.execute.Outcome.{Outcome}
use Rattle.isa.specs.declared.execute.Outcome.TheVariants.{Write as Writes, Jump as Jumps, Load as Loads, Store as Stores, Halt as Halts}
use Rattle.pins.specs.PortWords.{optional}
use Rattle.window.specs.declared.entry.Entry.{Entry}
use Rattle.window.specs.declared.entry.Number.{Number}
use Rattle.window.specs.declared.entry.Tag.{Tag}
use Rattle.window.specs.declared.entry.Tag.TheVariants.{Acknowledgment, Load, Stale, Device}
use Rattle.pins.specs.declared.held.Reading.TheVariants.{Idle}
use Rattle.window.specs.declared.datapath.Datapath.{Datapath}
use Rattle.window.specs.Entries.{given, number, fresh, with_predicted, with_word, with_left, with_right, with_loaded}
use Rattle.window.specs.Operands.{left_register, right_register}
use Rattle.window.specs.Machine.{Core, with_window, with_requests, with_fetches, retag, renumber, learn, read_left, read_right, execute, forwarded, forward_outcome, forward, kept, retags, renumbers, redirect, device_answered, get_data, take_data, get_code, take_code, fetch}
use Rattle.rings.specs.Places.{put_at, cut_to}
use Rattle.window.specs.Rings.{size, Window, entry, entry_at, items, rest, Sized}
use Rattle.window.specs.Queues.{request_oldest, request_popped, fetch_oldest, fetch_popped, tags, wants}
use Rattle.window.specs.Datapaths.{left_for, right_for, outcome_for, forward_by, forward_for, ruled, with_wants, with_tags, with_reading, code_for, code_taken, data_for, data_taken, redirect_to, redirected, next_pc_of, wanted, lists, SizedDatapath, DatapathLaws}
use Rattle.window.proofs.Cases.{given_cases}
use Rattle.window.proofs.Circle.{by_test}
use Rattle.window.proofs.RingList.{ring_laws}
use Rattle.window.proofs.BufferList.{buffer_laws}
use Rattle.window.proofs.QueueList.{queue_laws}

-- a rule that is the machine's at each entry
rule_is : (f : Datapath → ℕ → Entry → Option Entry) (g : Core → ℕ → Entry → Option Entry) (k : Datapath) (n : ℕ) → SizedDatapath k
    → (n < k.window.count → (e : Entry) → f k n e ≡ g (lists k) n e) → lists (ruled f k n) ≡ learn g n (lists k)
rule_is f g k n s h =
    ap (λ (w : Window). with_window (lists k) (items w))
    (by_test (λ o. given o k.window (λ e. given (f k n e) k.window (put_at k.window n)) ≡ given o k.window (λ e. given (g (lists k) n e) k.window (put_at k.window n)))
    n k.window.count _ _ (λ l. ap (λ o. given o k.window (put_at k.window n)) (h l (entry k.window n))) (λ _. refl))
    ∙ sym (ring_laws.learn g n (lists k) k.window s.window refl)

left_is : (k : Datapath) (n : ℕ) → SizedDatapath k → lists (ruled left_for k n) ≡ learn read_left n (lists k)
left_is k n s = rule_is left_for read_left k n s (λ l e i.
    given e.left (given e.word None (λ w. given (ring_laws.operand k.window k.regs.values (left_register w) n (omega arith) i) None (λ x. Some (with_left e x)))) (λ _. None))

right_is : (k : Datapath) (n : ℕ) → SizedDatapath k → lists (ruled right_for k n) ≡ learn read_right n (lists k)
right_is k n s = rule_is right_for read_right k n s (λ l e i.
    given e.right (given e.word None (λ w. given (ring_laws.operand k.window k.regs.values (right_register w) n (omega arith) i) None (λ x. Some (with_right e x)))) (λ _. None))

forward_is : (k : Datapath) (n : ℕ) → SizedDatapath k → lists (ruled forward_for k n) ≡ learn forward n (lists k)
forward_is k n s = rule_is forward_for forward k n s (λ l e i. given e.loaded (given e.outcome None (λ o. by l e o i)) (λ _. None))
  where
    by : n < k.window.count → (e : Entry) (o : Outcome) → forward_by k n e o ≡ forward_outcome (lists k) n e o
    by l e (Writes r x a) = refl
    by l e (Jumps a) = refl
    by l e (Loads r a) = ap (λ q. pick (device a) None (forwarded e q)) (ring_laws.source k.window k.stores (a / 4) n (omega arith))
    by l e (Stores a x) = refl
    by l e (Halts h) = refl

-- sizes
ruled_sized : (f : Datapath → ℕ → Entry → Option Entry) (k : Datapath) (n : ℕ) → SizedDatapath k → SizedDatapath (ruled f k n)
ruled_sized f k n s = record {
  window = given_cases Sized (entry_at k.window n) (λ _. s.window) (λ e _.
      given_cases Sized (f k n e) (λ _. s.window) (λ d _. ring_laws.list.put_sized k.window n d s.window));
  stores = s.stores;
  requests = s.requests;
  fetches = s.fetches;
}

wants_sized : (k : Datapath) → SizedDatapath k → SizedDatapath (with_wants k (fetch_popped k.fetches))
wants_sized k s = record { window = s.window; stores = s.stores; requests = s.requests; fetches = queue_laws.fetches.pop_sized k.fetches s.fetches }

tags_sized : (k : Datapath) → SizedDatapath k → SizedDatapath (with_tags k (request_popped k.requests))
tags_sized k s = record { window = s.window; stores = s.stores; requests = queue_laws.requests.pop_sized k.requests s.requests; fetches = s.fetches }

-- answers
code_is : (k : Datapath) (x : ℕ) → SizedDatapath k → lists (code_taken k x) ≡ take_code x (lists k) (wants k.fetches)
code_is k x s =
    ap (λ o. lists (given o k (code_for (with_wants k (fetch_popped k.fetches)) x))) (queue_laws.fetches.oldest k.fetches s.fetches)
    ∙ by (wants k.fetches) (queue_laws.fetches.pop k.fetches s.fetches)
  where
    by : (fs : List (Option Number)) → wants (fetch_popped k.fetches) ≡ rest fs
        → lists (given (optional (nth fs 0)) k (code_for (with_wants k (fetch_popped k.fetches)) x)) ≡ take_code x (lists k) fs
    by [] e = refl
    by (None ∷ fs) e = ap (with_fetches (lists k)) e
    by (Some m ∷ fs) e =
        rule_is (λ _ _ d. Some (with_word d x)) (get_code x) (with_wants k (fetch_popped k.fetches)) m.0 (wants_sized k s) (λ l d. refl)
        ∙ ap (λ (z : List (Option Number)). learn (get_code x) m.0 (with_fetches (lists k) z)) e

data_is : (k : Datapath) (x : ℕ) → SizedDatapath k → lists (data_taken k x) ≡ take_data x (lists k) (tags k.requests)
data_is k x s =
    ap (λ o. lists (given o k (data_for (with_tags k (request_popped k.requests)) x))) (queue_laws.requests.oldest k.requests s.requests)
    ∙ by (tags k.requests) (queue_laws.requests.pop k.requests s.requests)
  where
    by : (ts : List Tag) → tags (request_popped k.requests) ≡ rest ts
        → lists (given (optional (nth ts 0)) k (data_for (with_tags k (request_popped k.requests)) x)) ≡ take_data x (lists k) ts
    by [] e = refl
    by (Acknowledgment ∷ ts) e = ap (with_requests (lists k)) e
    by (Stale ∷ ts) e = ap (with_requests (lists k)) e
    by (Load m ∷ ts) e =
        rule_is (λ _ _ d. Some (with_loaded d x)) (get_data x) (with_tags k (request_popped k.requests)) m.0 (tags_sized k s) (λ l d. refl)
        ∙ ap (λ (z : List Tag). learn (get_data x) m.0 (with_requests (lists k) z)) e
    by (Device ∷ ts) e = ap (λ (z : List Tag). with_requests (lists (with_reading k (device_answered x k.device))) z) e

code_sized : (k : Datapath) (x : ℕ) → SizedDatapath k → SizedDatapath (code_taken k x)
code_sized k x s = given_cases SizedDatapath (fetch_oldest k.fetches) (λ _. s) (λ f _. by f)
  where
    by : (f : Option Number) → SizedDatapath (code_for (with_wants k (fetch_popped k.fetches)) x f)
    by None = wants_sized k s
    by (Some m) = ruled_sized (λ _ _ d. Some (with_word d x)) (with_wants k (fetch_popped k.fetches)) m.0 (wants_sized k s)

data_sized : (k : Datapath) (x : ℕ) → SizedDatapath k → SizedDatapath (data_taken k x)
data_sized k x s = given_cases SizedDatapath (request_oldest k.requests) (λ _. s) (λ t _. by t)
  where
    by : (t : Tag) → SizedDatapath (data_for (with_tags k (request_popped k.requests)) x t)
    by Acknowledgment = tags_sized k s
    by (Load m) = ruled_sized (λ _ _ d. Some (with_loaded d x)) (with_tags k (request_popped k.requests)) m.0 (tags_sized k s)
    by Stale = tags_sized k s
    by Device = let z = tags_sized k s in record { window = z.window; stores = z.stores; requests = z.requests; fetches = z.fetches }

-- another prediction
module _ (k : Datapath) (n g : ℕ) (s : SizedDatapath k) where
  abbrev flushed : Entry → Core
  flushed e = record {
    regs = k.regs.values;
    pc = k.pc;
    stores = (lists k).stores;
    device = k.device;
    window = take n (items k.window) ++ (with_predicted e g ∷ []);
    requests = retags (kept (suc n)) (tags k.requests);
    fetches = renumbers (kept (suc n)) (wants k.fetches);
  }

  inside : n < k.window.count → (e : Entry) → lists (redirect_to k n g e) ≡ flushed e
  inside l e =
      let c = s.window.count in
      let m : add n 1 ≡ suc n = omega arith in
      λ i. record {
        regs = k.regs.values;
        pc = k.pc;
        stores = (lists k).stores;
        device = k.device;
        window = (ap (λ j. items (cut_to (put_at k.window n (with_predicted e g)) j)) m ∙ ring_laws.list.redirect k.window n (with_predicted e g) s.window l) i;
        requests = (queue_laws.tags_by (kept (add n 1)) k.requests s.requests ∙ ap (λ j. retags (kept j) (tags k.requests)) m) i;
        fetches = (queue_laws.wants_by (kept (add n 1)) k.fetches s.fetches ∙ ap (λ j. renumbers (kept j) (wants k.fetches)) m) i;
      }

  by_entry : (o : Opt Entry) → given (optional o) (lists k) flushed ≡ opt o (lists k) flushed
  by_entry none = refl
  by_entry (some e) = refl

  unfoldable Same : Option Entry → Type 0
  Same o = lists (given o k (redirect_to k n g)) ≡ given o (lists k) flushed

  tested : Same (entry_at k.window n)
  unfolding Same
  tested = by_test Same n k.window.count (Some (entry k.window n)) None (λ l. inside l (entry k.window n)) (λ _. refl)

  step : (o : Option Entry) → Same o → lists (given o k (redirect_to k n g)) ≡ given o (lists k) flushed
  unfolding Same
  step o h = h

  redirect_is : lists (redirected k n g) ≡ redirect n g (lists k)
  redirect_is =
      step (entry_at k.window n) tested
      ∙ ap (λ o. given o (lists k) flushed) (ring_laws.list.get k.window n)
      ∙ by_entry (nth (items k.window) n)

  redirect_sized : SizedDatapath (redirected k n g)
  redirect_sized = given_cases SizedDatapath (entry_at k.window n) (λ _. s) (λ e _. record {
    window = ring_laws.list.cut_sized (put_at k.window n (with_predicted e g)) (add n 1) (ring_laws.list.put_sized k.window n (with_predicted e g) s.window);
    stores = s.stores;
    requests = queue_laws.requests.by_sized (retag (kept (add n 1))) k.requests s.requests;
    fetches = queue_laws.fetches.by_sized (renumber (kept (add n 1))) k.fetches s.fetches;
  })

-- one more word of code
fetch_is : (k : Datapath) (g : ℕ) → SizedDatapath k → k.window.count < size → k.fetches.count < 4 → lists (wanted k g) ≡ fetch g (lists k)
fetch_is k g s l m = λ i. record {
  regs = k.regs.values;
  pc = k.pc;
  stores = (lists k).stores;
  device = k.device;
  window = (ring_laws.list.push k.window (fresh (next_pc_of k) g) s.window l ∙ ap (λ p. items k.window ++ (fresh p g ∷ [])) (ring_laws.next k.window k.pc)) i;
  requests = (lists k).requests;
  fetches = (queue_laws.fetches.push k.fetches (Some (number k.window.count)) s.fetches m ∙ ap (λ n. wants k.fetches ++ (Some (number n) ∷ [])) (sym (ring_laws.list.count k.window))) i;
}

pub datapath_laws : DatapathLaws
datapath_laws = record {
  start = λ a i. record {
    regs = replicate 32 0;
    pc = a;
    stores = buffer_laws.list.start i;
    device = Idle;
    window = ring_laws.list.start i;
    requests = queue_laws.requests.start i;
    fetches = queue_laws.fetches.start i;
  };
  read_left = left_is;
  read_right = right_is;
  execute = λ k n s. rule_is (λ _ _ e. outcome_for e) execute k n s (λ l e. refl);
  forward = forward_is;
  take_code = code_is;
  take_data = data_is;
  redirect = redirect_is;
  next_pc = λ k. ring_laws.next k.window k.pc;
  fetch = fetch_is;
  start_sized = λ a. record {
    window = ring_laws.list.start_sized;
    stores = buffer_laws.list.start_sized;
    requests = queue_laws.requests.start_sized;
    fetches = queue_laws.fetches.start_sized;
  };
  ruled_sized = ruled_sized;
  code_sized = code_sized;
  data_sized = data_sized;
  redirect_sized = redirect_sized;
  fetch_sized = λ k g s. record {
    window = ring_laws.list.push_sized k.window (fresh (next_pc_of k) g) s.window;
    stores = s.stores;
    requests = s.requests;
    fetches = queue_laws.fetches.push_sized k.fetches (Some (number k.window.count)) s.fetches;
  };
}
