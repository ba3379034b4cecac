-- The rules that take answers, and the one that fetches, keep the invariant.
use Rattle.std.proofs.Common.{◌≡◌, ℕ, zero, suc, ◌/◌, List, [], ◌∷◌, ◌++◌, length, Some, None, Option, sym, refl, ap, ◌∙◌, append-nil, arith}
use mathlib.Core.Option.{Option as Opt, some, none}
use Rattle.isa.specs.Words.{nth}
use Rattle.isa.specs.Manual.{Code, Mem, S, asks, Run, run}
use Rattle.isa.specs.Runs.{At, run_more}
use Rattle.isa.proofs.RunSteps.{goes_not_stops}
use Rattle.isa.proofs.MoreAnswers.{answer_laws}
use Rattle.pins.specs.Says.{first}
use Rattle.pins.specs.View.{CodeAllowed}
use Rattle.pins.specs.Settled.{Due, any_word, from_device, that_word, Meets}
use Rattle.window.specs.declared.entry.Entry.{Entry}
use Rattle.window.specs.declared.entry.Number.{Number}
use Rattle.window.specs.declared.entry.Tag.{Tag}
use Rattle.window.specs.declared.entry.Tag.TheVariants.{Acknowledgment, Load, Stale, Device}
use Rattle.pins.specs.declared.held.Reading.{Reading}
use Rattle.pins.specs.declared.held.Reading.TheVariants.{Idle, Waiting, Answered}
use Rattle.window.specs.Entries.{fresh}
use Rattle.window.specs.Machine.{Core, with_requests, with_fetches, learn, device_answered, get_data, take_data, get_code, take_code, tip, next_pc, fetch}
use Rattle.window.specs.Clocks.{answer_code, answer_data}
use Rattle.window.proofs.Cases.{some_none}
use Rattle.window.proofs.Lines.{Reaches, predictions}
use Rattle.window.proofs.Claims.{Each, Head, each_head, each_push, each_map, Request, Fetch, request_map}
use Rattle.window.proofs.Held.{LoadsWord, IsAt, addresses, addresses_append, addresses_length, held_push}
use Rattle.window.proofs.Invariant.{Seen, code_taken, data_taken, wanted, device_tags, readings, base, stand, Inv}
use Rattle.window.proofs.LearnKept.{learn_kept}

module _ (c : Code) (m : Mem) (a : ℕ) where
  abbrev LoadsIn : Core → Seen → ℕ → ℕ → Type 0
  LoadsIn k v = LoadsWord c (stand k v.mem) (predictions k.window)

  -- the queue of requests moves on, and nothing else
  abbrev due_left : Seen → List Due → Seen
  due_left v ds = record { codes = v.codes; dues = ds; mem = v.mem; told = v.told; rets = v.rets; evs = v.evs }

  moved_on : (k : Core) (v : Seen) (ts : List Tag) (ds : List Due) → Inv c m a k v → device_tags ts ≡ readings k.device
      → Each (Request (LoadsIn k v)) ts ds → Inv c m a (with_requests k ts) (due_left v ds)
  moved_on k v ts ds h i o = record {
    runs = record { at = h.runs.at; done = h.runs.done; did = h.runs.did; size = h.runs.size };
    held = record { line = h.held.line; datas = o; codes = h.held.codes };
    oldest = h.oldest;
    one_reading = i;
  }

  -- a load's word
  load_got : (k : Core) (v : Seen) (n x : ℕ) → Inv c m a k v → LoadsIn k v n x → Inv c m a (learn (get_data x) n k) v
  load_got k v n x h p = learn_kept c m a k v h (get_data x) n (λ e at. record {
    predicted = refl;
    pc = refl;
    agrees = λ zs s r f. record {
      here = f.here;
      word = f.word;
      left = f.left;
      right = f.right;
      outcome = f.outcome;
      loaded = λ d b q. p.is zs s r d b q;
    };
  })

  -- a device's answer: the state with it is one of those that were spoken of already
  device_got : (k : Core) (v : Seen) (x : ℕ) (ts : List Tag) (ds : List Due) → k.requests ≡ Device ∷ ts → Inv c m a k v
      → Each (Request (LoadsIn k v)) ts ds → (q : Reading) → k.device ≡ q
      → Inv c m a
      (record { regs = k.regs; pc = k.pc; stores = k.stores; device = device_answered x q; window = k.window; requests = ts; fetches = k.fetches })
      (record { codes = v.codes; dues = ds; mem = v.mem; told = v.told ++ (x ∷ []); rets = v.rets; evs = v.evs })
  device_got k v x ts ds e h o Idle q = let i : suc (device_tags ts) ≡ 0 = ap device_tags (sym e) ∙ h.one_reading ∙ ap readings q in absurd (omega arith)
  device_got k v x ts ds e h o (Answered b y) q = let i : suc (device_tags ts) ≡ 0 = ap device_tags (sym e) ∙ h.one_reading ∙ ap readings q in absurd (omega arith)
  device_got k v x ts ds e h o (Waiting b) q =
      let i : suc (device_tags ts) ≡ 1 = ap device_tags (sym e) ∙ h.one_reading ∙ ap readings q in
      let p : At c (first a m v.told) (length v.rets) (base k v.mem) = h.runs.at in
      let same : run c (first a m (v.told ++ (x ∷ []))) (length v.rets) ≡ run_more (run c (first a m v.told) (length v.rets)) (x ∷ []) =
      answer_laws.run c (first a m v.told) (x ∷ []) (length v.rets) (λ s. goes_not_stops p.is s) in
      record {
        runs = record {
          at = rw q at (answer_laws.at (x ∷ []) p);
          done = h.runs.done ∙ sym (ap (λ (r : Run). r.rets) same);
          did = (rw q at h.runs.did) ∙ ap (λ (r : Run). r.evs ++ (asks b ∷ [])) (sym same);
          size = h.runs.size;
        };
        held = record {
          line = λ zs. rw q at (h.held.line (x ∷ zs));
          datas = each_map (λ t d r. request_map (λ n y l. record { inside = l.inside; is = λ zs. rw q at (l.is (x ∷ zs)) }) t d r) o;
          codes = h.held.codes;
        };
        oldest = rw q at h.oldest;
        one_reading = omega arith;
      }

  -- by the oldest tag and what it is due
  data_by : (k : Core) (v : Seen) (x : ℕ) (ts : List Tag) (d : Due) (ds : List Due) → k.requests ≡ ts → v.dues ≡ d ∷ ds → Inv c m a k v
      → Meets (some x) (d ∷ ds) → Head (Request (LoadsIn k v)) ts d ds → Inv c m a (take_data x k ts) (data_taken v (some x))
  data_by k v x [] d ds e f h r o = absurd o
  data_by k v x (Acknowledgment ∷ ts) any_word ds e f h r (p, o) =
      rw (f, append-nil v.told) (moved_on k v ts ds h (ap device_tags (sym e) ∙ h.one_reading) o)
  data_by k v x (Acknowledgment ∷ ts) from_device ds e f h r (p, o) = absurd p
  data_by k v x (Acknowledgment ∷ ts) (that_word y) ds e f h r (p, o) = absurd p
  data_by k v x (Load n ∷ ts) any_word ds e f h r (p, o) = absurd p
  data_by k v x (Load n ∷ ts) from_device ds e f h r (p, o) = absurd p
  data_by k v x (Load n ∷ ts) (that_word y) ds e f h r (p, o) =
      rw (f, append-nil v.told)
      (load_got (with_requests k ts) (due_left v ds) n.0 x (moved_on k v ts ds h (ap device_tags (sym e) ∙ h.one_reading) o) (rw r.1 p))
  data_by k v x (Stale ∷ ts) any_word ds e f h r (p, o) = absurd p
  data_by k v x (Stale ∷ ts) from_device ds e f h r (p, o) = absurd p
  data_by k v x (Stale ∷ ts) (that_word y) ds e f h r (p, o) =
      rw (f, append-nil v.told) (moved_on k v ts ds h (ap device_tags (sym e) ∙ h.one_reading) o)
  data_by k v x (Device ∷ ts) any_word ds e f h r (p, o) = absurd p
  data_by k v x (Device ∷ ts) from_device ds e f h r (p, o) = rw f (device_got k v x ts ds e h o k.device refl)
  data_by k v x (Device ∷ ts) (that_word y) ds e f h r (p, o) = absurd p

  pub data_kept : (x : Opt ℕ) (k : Core) (v : Seen) → Meets x v.dues → Inv c m a k v → Inv c m a (answer_data x k) (data_taken v x)
  data_kept none k v r h = rw append-nil h
  data_kept (some x) k v r h = by v.dues refl r
    where
      by : (ds : List Due) → v.dues ≡ ds → Meets (some x) ds → Inv c m a (take_data x k k.requests) (data_taken v (some x))
      by [] e r = absurd r
      by (d ∷ ds) e r = data_by k v x k.requests d ds refl e h r (each_head (rw e at h.held.datas))

  -- code
  wants_left : (k : Core) (v : Seen) (fs : List (Option Number)) (qs : List ℕ) → Inv c m a k v → Each (Fetch (IsAt (addresses k.window))) fs qs
      → Inv c m a (with_fetches k fs) (record { codes = qs; dues = v.dues; mem = v.mem; told = v.told; rets = v.rets; evs = v.evs })
  wants_left k v fs qs h o = record {
    runs = record { at = h.runs.at; done = h.runs.done; did = h.runs.did; size = h.runs.size };
    held = record { line = h.held.line; datas = h.held.datas; codes = o };
    oldest = h.oldest;
    one_reading = h.one_reading;
  }

  pub nth_address : (es : List Entry) (n : ℕ) (e : Entry) {p : ℕ} → nth es n ≡ some e → nth (addresses es) n ≡ some p → p ≡ e.pc
  nth_address [] n e at q = some_none at refl
  nth_address (d ∷ es) zero e at q = let same : d ≡ e = cc in let z : d.pc ≡ _ = cc in sym z ∙ ap (λ (y : Entry). y.pc) same
  nth_address (d ∷ es) (suc n) e at q = nth_address es n e at q

  code_got : (k : Core) (v : Seen) (n x b : ℕ) → Inv c m a k v → x ≡ c (b / 4) → IsAt (addresses k.window) n b → Inv c m a (learn (get_code x) n k) v
  code_got k v n x b h e p = learn_kept c m a k v h (get_code x) n (λ d at. record {
    predicted = refl;
    pc = refl;
    agrees = λ zs s r f. record {
      here = f.here;
      word = e ∙ ap (λ z. c (z / 4)) (nth_address k.window n d at p ∙ f.here);
      left = f.left;
      right = f.right;
      outcome = f.outcome;
      loaded = f.loaded;
    };
  })

  code_by : (k : Core) (v : Seen) (x b : ℕ) (fs : List (Option Number)) (qs : List ℕ) → v.codes ≡ b ∷ qs → Inv c m a k v → x ≡ c (b / 4)
      → Head (Fetch (IsAt (addresses k.window))) fs b qs → Inv c m a (take_code x k fs) (code_taken v (some x))
  code_by k v x b [] qs e h r o = absurd o
  code_by k v x b (None ∷ fs) qs e h r (p, o) = rw e (wants_left k v fs qs h o)
  code_by k v x b (Some n ∷ fs) qs e h r (p, o) = rw e (code_got (with_fetches k fs) _ n.0 x b (wants_left k v fs qs h o) r p)

  pub code_kept : (x : Opt ℕ) (k : Core) (v : Seen) → CodeAllowed c x v.codes → Inv c m a k v → Inv c m a (answer_code x k) (code_taken v x)
  code_kept none k v r h = h
  code_kept (some x) k v r h = by v.codes refl r
    where
      by : (qs : List ℕ) → v.codes ≡ qs → CodeAllowed c (some x) qs → Inv c m a (take_code x k k.fetches) (code_taken v (some x))
      by [] e r = absurd r
      by (b ∷ qs) e r = code_by k v x b k.fetches qs e h r (each_head (rw e at h.held.codes))

  -- where the next is, if no prediction was wrong
  reaches_tip : (s v : S) (es : List Entry) → Reaches c s (predictions es) v → v.pc ≡ tip s.pc es
  unfolding Reaches
  reaches_tip s v [] w = ap (λ (z : S). z.pc) (sym w)
  reaches_tip s v (e ∷ es) w = reaches_tip w.0 v es w.5 ∙ ap (λ z. tip z es) w.4

  nth_last : (ps : List ℕ) (n p : ℕ) → n ≡ length ps → nth (ps ++ (p ∷ [])) n ≡ some p
  nth_last [] n p e = rw e
  nth_last (q ∷ ps) n p e = rw e (nth_last ps (length ps) p refl)

  -- whatever is predicted to follow
  pub fetch_kept : (k : Core) (v : Seen) (g : ℕ) → Inv c m a k v → Inv c m a (fetch g k) (wanted v (some (next_pc k)))
  fetch_kept k v g h =
      let p = next_pc k in
      let w = held_push h.held (fresh p g) (λ zs s r.
      record { here = sym (reaches_tip (stand k v.mem zs) s k.window r); word = tt; left = tt; right = tt; outcome = tt; loaded = λ _ _ _. tt }) in
      record {
        runs = record { at = h.runs.at; done = h.runs.done; did = h.runs.did; size = h.runs.size };
        held = record {
          line = w.line;
          datas = w.datas;
          codes = each_push w.codes
              (rw addresses_append (nth_last (addresses k.window) (length k.window) p (sym (addresses_length k.window))));
        };
        oldest = h.oldest;
        one_reading = h.one_reading;
      }
