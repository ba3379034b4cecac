-- Retiring the oldest, and a new prediction, keep the invariant; and where it stops the manual does.
use Rattle.std.proofs.Common.{◌≡◌, ℕ, suc, ◌/◌, ◌<◌, Bool, true, false, eqb, ltb, List, [], ◌∷◌, ◌++◌, length, Some, None, Option, sym, refl, ap, ◌∙◌, subst, append_assoc, append-nil, add-one, length-append, eqb-true}
use mathlib.Core.Option.{Option as Opt, some, none}
use Rattle.isa.specs.Words.{pick, put, nth, add}
use Rattle.isa.specs.Manual.{Code, Mem, S, Ret, Ev, writes, asks, step, goes, stops, device, asked, wrote}
use Rattle.isa.specs.Runs.{more_answers, next_more}
use Rattle.isa.specs.Executing.{how, enact}
use Rattle.isa.specs.declared.reg.Reg.{Reg}
use Rattle.isa.specs.declared.execute.Outcome.{Outcome}
use Rattle.isa.specs.declared.execute.Outcome.TheVariants.{Write as Writes, Jump as Jumps, Load as Loads, Store as Stores, Halt as Halts}
use Rattle.isa.specs.declared.execute.Stop.{Stop}
use Rattle.isa.proofs.RunSteps.{at_suc, rets_suc, evs_suc, goes_not_stops}
use Rattle.isa.proofs.StepByTrace.{put_length}
use Rattle.isa.proofs.MoreAnswers.{answer_laws}
use Rattle.pins.specs.Ports.{writes1}
use Rattle.pins.specs.Outside.{mem_by}
use Rattle.window.specs.declared.entry.Entry.{Entry}
use Rattle.window.specs.declared.entry.Number.{Number}
use Rattle.window.specs.declared.entry.Tag.{Tag}
use Rattle.window.specs.declared.entry.Tag.TheVariants.{Acknowledgment, Load, Stale, Device}
use Rattle.pins.specs.declared.held.Store.{Store}
use Rattle.pins.specs.declared.held.Reading.{Reading}
use Rattle.pins.specs.declared.held.Reading.TheVariants.{Idle, Waiting, Answered}
use Rattle.window.specs.Entries.{given, number, with_predicted}
use Rattle.window.specs.Operands.{plan}
use Rattle.window.specs.Machine.{Core, popped, kept, retags, renumbers, redirect, Retired, leave, finish, write_ret, plain_ret, retire_write, retire_device, retire_store, retire_outcome, retire_oldest, retire, halts_if, halts_outcome, halts_oldest, halted}
use Rattle.window.proofs.Cases.{opt_cases, given_cases, clash}
use Rattle.window.proofs.Outcomes.{step_plan, how_low}
use Rattle.window.proofs.Lines.{known, Loaded, line_nil, line_at}
use Rattle.window.proofs.SourceRight.{with_stores, store_evs}
use Rattle.window.proofs.Claims.{requests_retag, fetches_renumber, kept_none}
use Rattle.window.proofs.Held.{Held, held_redirect, held_pop}
use Rattle.window.proofs.Invariant.{Seen, retired, unread, reading, readings, device_tags, OldestReads, base, stand, run_seen, Inv}
use Rattle.window.proofs.AskKept.{oldest_agrees}

pub device_tags_retags : (g : ℕ → Option ℕ) (ts : List Tag) → device_tags (retags g ts) ≡ device_tags ts
device_tags_retags g [] = refl
device_tags_retags g (Acknowledgment ∷ ts) = device_tags_retags g ts
device_tags_retags g (Load n ∷ ts) = by (g n.0) (device_tags_retags g ts)
  where
    by : (o : Option ℕ) → device_tags (retags g ts) ≡ device_tags ts → device_tags (given o Stale (λ j. Load (number j)) ∷ retags g ts) ≡ device_tags ts
    by None r = r
    by (Some j) r = r
device_tags_retags g (Stale ∷ ts) = device_tags_retags g ts
device_tags_retags g (Device ∷ ts) = ap suc (device_tags_retags g ts)

stores_push : (m : Mem) (ps : List Store) (p : Store) → with_stores m (ps ++ (p ∷ [])) ≡ mem_by (with_stores m ps) (writes1 p.address p.value)
stores_push m [] p = refl
stores_push m (q ∷ ps) p = stores_push (mem_by m (writes1 q.address q.value)) ps p

evs_push : (ps : List Store) (p : Store) → store_evs (ps ++ (p ∷ [])) ≡ store_evs ps ++ (writes p.address p.value ∷ [])
evs_push [] p = refl
evs_push (q ∷ ps) p = ap (λ z. writes q.address q.value ∷ z) (evs_push ps p)

length_push : {A : Type 0} (xs : List A) (x : A) → length (xs ++ (x ∷ [])) ≡ suc (length xs)
length_push xs x = length-append xs (x ∷ []) ∙ add-one (length xs)

step_more : (c : Code) (s : S) (zs : List ℕ) {u : S} {t : Ret} {fs : List Ev} → step c s ≡ goes u t fs → step c (more_answers s zs) ≡ goes (more_answers u zs) t fs
step_more c s zs e = answer_laws.step c s zs (λ q. goes_not_stops e q) ∙ ap (λ n. next_more n zs) e

module _ (c : Code) (m : Mem) (a : ℕ) (k : Core) (v : Seen) (h : Inv c m a k v) where
  abbrev pub RetiredKept : Retired → Type 0
  RetiredKept d = Inv c m a d.core (retired v d.rets)

  module _ (e : Entry) (es : List Entry) (we : k.window ≡ e ∷ es) where
    -- one instruction more, whatever it is
    module _ (gs : List ℕ) (b : ℕ) (ps : List Store) (t : Ret) (fs : List Ev)
        (went : step c (base k v.mem) ≡ goes (record { regs = gs; pc = b; mem = with_stores v.mem ps; answers = [] }) t fs)
        (size : length gs ≡ 32) (did : v.evs ++ store_evs ps ≡ (run_seen c m a v).evs ++ fs) (idle : device_tags k.requests ≡ 0) where
      abbrev later : List Entry → List Tag → List (Option Number) → Core
      later ws ts us = record { regs = gs; pc = b; stores = ps; device = Idle; window = ws; requests = ts; fetches = us }

      abbrev later_at : List ℕ → S
      later_at zs = record { regs = gs; pc = b; mem = with_stores v.mem ps; answers = zs }

      later_kept : (ws : List Entry) (g : ℕ → Option ℕ) → Held c later_at ws (retags g k.requests) v.dues (renumbers g k.fetches) v.codes
          → Inv c m a (later ws (retags g k.requests) (renumbers g k.fetches)) (retired v (t ∷ []))
      later_kept ws g w =
          let n = length_push v.rets t in
          record {
            runs = record {
              at = rw n (at_suc h.runs.at went);
              done = rw n (ap (λ z. z ++ (t ∷ [])) h.runs.done ∙ sym (rets_suc h.runs.at went));
              did = rw n (did ∙ sym (evs_suc h.runs.at went) ∙ sym (append-nil _));
              size = size;
            };
            held = w;
            oldest = tt;
            one_reading = device_tags_retags g k.requests ∙ idle;
          }

      flushed : Held c later_at [] (retags (kept 0) k.requests) v.dues (renumbers (kept 0) k.fetches) v.codes
      flushed = record {
        line = λ zs. line_nil c (later_at zs);
        datas = requests_retag (kept 0) (λ n x j q p. kept_none n j q) h.held.datas;
        codes = fetches_renumber (kept 0) (λ n x j q p. kept_none n j q) h.held.codes;
      }

      pub finish_kept : RetiredKept (finish k e es gs b ps t)
      finish_kept = by (eqb b e.predicted) refl
        where
          by : (x : Bool) → eqb b e.predicted ≡ x → Inv c m a (leave k es gs b ps x) (retired v (t ∷ []))
          by true p =
              later_kept es popped
              (held_pop c (stand k v.mem) later_at e es (λ zs. (t, fs, step_more c (base k v.mem) zs went, eqb-true b e.predicted p)) (rw we at h.held))
          by false p = later_kept [] (kept 0) flushed

    here : (o : Outcome) → e.outcome ≡ Some o → o ≡ plan c (base k v.mem)
    here o eo = known (oldest_agrees c m a k v h e es we []).outcome eo

    stepped : (o : Outcome) → e.outcome ≡ Some o → step c (base k v.mem) ≡ enact (base k v.mem) o
    stepped o eo = step_plan c (base k v.mem) ∙ ap (enact (base k v.mem)) (sym (here o eo))

    -- no device is read unless the oldest loads from one
    abbrev pub NoDevice : Outcome → Type 0
    NoDevice (Writes d x b) = Unit {0}
    NoDevice (Jumps b) = Unit {0}
    NoDevice (Loads d b) = device b ≡ false
    NoDevice (Stores b x) = Unit {0}
    NoDevice (Halts j) = Unit {0}

    pub idle_device : (o : Outcome) → e.outcome ≡ Some o → NoDevice o → k.device ≡ Idle
    idle_device o eo nd = by k.device h.oldest
      where
        reads : (d : Reg) (b : ℕ) → plan c (base k v.mem) ≡ Loads d b → device b ≡ true → {A : Type 0} → A
        reads d b p dv = clash dv (subst NoDevice (here o eo ∙ p) nd)

        by : (q : Reading) → OldestReads c (base k v.mem) q → q ≡ Idle
        by Idle w = refl
        by (Waiting b) w = reads w.0 b w.1 w.2
        by (Answered b x) w = reads w.0 b w.1 w.2

    -- where it stands after the oldest, if that reads no device
    abbrev next_at : List ℕ → ℕ → Mem → Reading → S
    next_at gs b f q = record { regs = gs; pc = b; mem = f; answers = unread q }

    plain : (o : Outcome) → e.outcome ≡ Some o → NoDevice o → (gs : List ℕ) (b : ℕ) (ps : List Store) (t : Ret) (fs : List Ev)
        → enact (base k v.mem) o ≡ goes (next_at gs b (with_stores v.mem ps) k.device) t fs → length gs ≡ 32
        → store_evs ps ≡ store_evs k.stores ++ fs → RetiredKept (finish k e es gs b ps t)
    plain o eo nd gs b ps t fs q size did =
        let i = idle_device o eo nd in
        finish_kept gs b ps t fs (stepped o eo ∙ q ∙ ap (λ z. goes (next_at gs b (with_stores v.mem ps) z) t fs) i) size
        (ap (λ z. v.evs ++ z) did ∙ sym (append_assoc v.evs (store_evs k.stores) fs)
        ∙ ap (λ z. z ++ fs) (h.runs.did ∙ ap (λ z. (run_seen c m a v).evs ++ reading z) i ∙ append-nil _))
        (h.one_reading ∙ ap readings i)

    load_steps : (d : Reg) (b : ℕ) (x : Bool) → device b ≡ x
        → enact (base k v.mem) (Loads d b) ≡ pick x (asked (base k v.mem) d.number b (unread k.device)) (wrote (base k v.mem) d.number (with_stores v.mem k.stores (b / 4)) (add k.pc 4))
    load_steps d b x dv = ap (λ y. pick y (asked (base k v.mem) d.number b (unread k.device)) (wrote (base k v.mem) d.number (with_stores v.mem k.stores (b / 4)) (add k.pc 4))) dv

    written : (d x : ℕ) → length (put k.regs d x) ≡ 32
    written d x = put_length k.regs d x ∙ h.runs.size

    -- a word of data that came
    loaded : (d : Reg) (b x : ℕ) → e.outcome ≡ Some (Loads d b) → e.loaded ≡ Some x → RetiredKept (retire_write k e es d.number x (add k.pc 4))
    loaded d b x eo ex =
        let f : Loaded (Some x) (stand k v.mem []) b = subst (λ z. Loaded z (stand k v.mem []) b) ex ((oldest_agrees c m a k v h e es we []).loaded d b (sym (here (Loads d b) eo))) in
        plain (Loads d b) eo f.0 (put k.regs d.number x) (add k.pc 4) k.stores (write_ret k d.number x) []
        (load_steps d b false f.0 ∙ ap (λ z. wrote (base k v.mem) d.number z (add k.pc 4)) (sym f.1))
        (written d.number x) (sym (append-nil _))

    -- a device's word that came
    answered : (d : Reg) (b : ℕ) → e.outcome ≡ Some (Loads d b) → (q : Reading) → k.device ≡ q → RetiredKept (retire_device k e es d.number q)
    answered d b eo Idle eq = h
    answered d b eo (Waiting b') eq = h
    answered d b eo (Answered b' x) eq =
        let o : OldestReads c (base k v.mem) (Answered b' x) = rw eq at h.oldest in
        let y : Loads d b ≡ Loads o.0 b' = here (Loads d b) eo ∙ o.1 in
        let z : b ≡ b' = cc in
        finish_kept (put k.regs d.number x) (add k.pc 4) k.stores (write_ret k d.number x) (asks b ∷ [])
        (stepped (Loads d b) eo ∙ load_steps d b true (ap device z ∙ o.2) ∙ ap (λ (w : Reading). asked (base k v.mem) d.number b (unread w)) eq)
        (written d.number x)
        (h.runs.did ∙ ap (λ (w : Reading). (run_seen c m a v).evs ++ reading w) eq ∙ ap (λ w. (run_seen c m a v).evs ++ (asks w ∷ [])) (sym z))
        (h.one_reading ∙ ap readings eq)

    outcome_kept : (o : Outcome) → e.outcome ≡ Some o → RetiredKept (retire_outcome k e es o)
    outcome_kept (Writes d x b) eo =
        plain (Writes d x b) eo tt (put k.regs d.number x) b k.stores (write_ret k d.number x) [] refl (written d.number x) (sym (append-nil _))
    outcome_kept (Jumps b) eo = plain (Jumps b) eo tt k.regs b k.stores (plain_ret k) [] refl h.runs.size (sym (append-nil _))
    outcome_kept (Loads d b) eo = given_cases RetiredKept e.loaded (λ _. answered d b eo k.device refl) (λ x ex. loaded d b x eo ex)
    outcome_kept (Stores b x) eo = by (ltb (length k.stores) 8)
      where
        p : Store
        p = record { address = b; value = x }

        by : (y : Bool) → RetiredKept (retire_store k e es (record { address = b; value = x }) y)
        by true =
            plain (Stores b x) eo tt k.regs (add k.pc 4) (k.stores ++ (record { address = b; value = x } ∷ [])) (plain_ret k) (writes b x ∷ [])
            (ap (λ (z : Mem). goes (next_at k.regs (add k.pc 4) z k.device) (plain_ret k) (writes b x ∷ [])) (sym (stores_push v.mem k.stores (record { address = b; value = x }))))
            h.runs.size (evs_push k.stores (record { address = b; value = x }))
        by false = h
    outcome_kept (Halts j) eo = h

  pub retire_kept : RetiredKept (retire k)
  retire_kept = by k.window refl
    where
      by : (es : List Entry) → k.window ≡ es → RetiredKept (retire_oldest k es)
      by [] we = h
      by (e ∷ es) we = given_cases RetiredKept e.outcome (λ _. h) (λ o eo. outcome_kept e es we o eo)

  -- another prediction: what is younger is flushed
  pub redirect_kept : (n g : ℕ) → Inv c m a (redirect n g k) v
  redirect_kept n g = opt_cases (λ z. Inv c m a z v) (nth k.window n) (λ _. h) (λ e at. record {
    runs = record { at = h.runs.at; done = h.runs.done; did = h.runs.did; size = h.runs.size };
    held = held_redirect h.held n e (with_predicted e g) at refl (λ zs s r.
        let f = line_at c (stand k v.mem zs) k.window n e s at (h.held.line zs) r in
        record { here = f.here; word = f.word; left = f.left; right = f.right; outcome = f.outcome; loaded = f.loaded });
    oldest = h.oldest;
    one_reading = device_tags_retags (kept (suc n)) k.requests ∙ h.one_reading;
  })

  -- it stops as the manual does
  pub record Stops (j : ℕ) : Type 0 where
    pub low : j < 3
    pub stops : step c (base k v.mem) ≡ stops j
    pub stores : k.stores ≡ []
    pub idle : k.device ≡ Idle

  abbrev pub StopRight : Opt ℕ → Type 0
  StopRight none = Unit {0}
  StopRight (some j) = Stops j

  pub halted_right : StopRight (halted k)
  halted_right = by k.window refl
    where
      with_nothing : (s : Stop) → plan c (base k v.mem) ≡ Halts s → (ps : List Store) → k.stores ≡ ps → (q : Reading) → k.device ≡ q → StopRight (halts_if ps q (how s))
      with_nothing s pl [] es Idle eq = record { low = how_low s; stops = step_plan c (base k v.mem) ∙ ap (enact (base k v.mem)) pl; stores = es; idle = eq }
      with_nothing s pl [] es (Waiting b) eq = tt
      with_nothing s pl [] es (Answered b x) eq = tt
      with_nothing s pl (p ∷ ps) es q eq = tt

      outcome : (o : Outcome) → o ≡ plan c (base k v.mem) → StopRight (halts_outcome k o)
      outcome (Writes d x b) q = tt
      outcome (Jumps b) q = tt
      outcome (Loads d b) q = tt
      outcome (Stores b x) q = tt
      outcome (Halts s) q = with_nothing s (sym q) k.stores refl k.device refl

      by : (es : List Entry) → k.window ≡ es → StopRight (halts_oldest k es)
      by [] we = tt
      by (e ∷ es) we = given_cases StopRight e.outcome (λ _. tt) (λ o eo. outcome o (known (oldest_agrees c m a k v h e es we []).outcome eo))
