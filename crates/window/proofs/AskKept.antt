-- The rules that ask for data keep the invariant.
use Rattle.std.proofs.Common.{◌≡◌, ℕ, ◌+◌, ◌/◌, Bool, true, false, List, [], ◌∷◌, ◌++◌, take, Some, sym, refl, ap, ◌∙◌, append_assoc, append-nil, arith}
use mathlib.Core.Option.{some}
use Rattle.isa.specs.Words.{nth}
use Rattle.isa.specs.Manual.{Code, Mem, S, asks, writes, device}
use Rattle.isa.specs.declared.reg.Reg.{Reg}
use Rattle.isa.specs.declared.execute.Outcome.{Outcome}
use Rattle.isa.specs.declared.execute.Outcome.TheVariants.{Write as Writes, Jump as Jumps, Load as Loads, Store as Stores, Halt as Halts}
use Rattle.pins.specs.Ports.{reads}
use Rattle.window.specs.declared.entry.Entry.{Entry}
use Rattle.window.specs.declared.entry.Tag.{Tag}
use Rattle.window.specs.declared.entry.Tag.TheVariants.{Acknowledgment, Load, Stale, Device}
use Rattle.pins.specs.declared.held.Store.{Store}
use Rattle.pins.specs.declared.held.Reading.{Reading}
use Rattle.pins.specs.declared.held.Reading.TheVariants.{Idle, Waiting, Answered}
use Rattle.window.specs.declared.entry.Source.{Source}
use Rattle.window.specs.declared.entry.Source.TheVariants.{Unknown, Memory, Forwarded}
use Rattle.window.specs.Entries.{number}
use Rattle.window.specs.Operands.{plan}
use Rattle.window.specs.Newest.{source}
use Rattle.window.specs.Machine.{Core, with_requests, Asked, ask_from, ask_outcome, ask_load, drain_first, drain, device_if, device_outcome, device_oldest, ask_device}
use Rattle.window.proofs.Cases.{opt_cases, given_cases}
use Rattle.window.proofs.Lines.{known, Agrees, Reaches, predictions, line_at, line_head}
use Rattle.window.proofs.SourceRight.{Is, store_evs}
use Rattle.window.proofs.Claims.{each_push}
use Rattle.window.proofs.Held.{LoadsWord, nth_inside, predictions_length}
use Rattle.window.proofs.Invariant.{Seen, requested, device_tags, readings, base, stand, Inv}
use Rattle.window.proofs.LearnKept.{source_at, same_load}

pub device_tags_append : (ts us : List Tag) → device_tags (ts ++ us) ≡ device_tags ts + device_tags us
device_tags_append [] us = omega arith
device_tags_append (Acknowledgment ∷ ts) us = device_tags_append ts us
device_tags_append (Load n ∷ ts) us = device_tags_append ts us
device_tags_append (Stale ∷ ts) us = device_tags_append ts us
device_tags_append (Device ∷ ts) us = let h = device_tags_append ts us in omega arith

module _ (c : Code) (m : Mem) (a : ℕ) (k : Core) (v : Seen) (h : Inv c m a k v) where
  abbrev pub AskedKept : Asked → Type 0
  AskedKept d = Inv c m a d.core (requested v d.req)

  -- a word of data is asked for: only the queues grow
  load_asked : (n b : ℕ) → device b ≡ false → LoadsWord c (stand k v.mem) (predictions k.window) n (v.mem (b / 4))
      → Inv c m a (with_requests k (k.requests ++ (Load (number n) ∷ []))) (requested v (some (reads b)))
  load_asked n b nd p = rw nd (record {
    runs = record {
      at = h.runs.at;
      done = h.runs.done;
      did = ap (λ z. z ++ store_evs k.stores) (append-nil v.evs) ∙ h.runs.did;
      size = h.runs.size;
    };
    held = record { line = h.held.line; datas = each_push h.held.datas p; codes = h.held.codes };
    oldest = h.oldest;
    one_reading = let i = h.one_reading in rw device_tags_append (omega arith);
  })

  pub load_kept : (n : ℕ) → AskedKept (ask_load n k)
  load_kept n = opt_cases AskedKept (nth k.window n) (λ _. h) (λ e at. given_cases AskedKept e.outcome (λ _. h) (λ o eo. by e at o eo))
    where
      from : (e : Entry) → nth k.window n ≡ some e → (d : Reg) (b : ℕ) → e.outcome ≡ Some (Loads d b) → (x : Bool) → device b ≡ x → (q : Source)
          → ((zs : List ℕ) (s : S) → Reaches c (stand k v.mem zs) (take n (predictions k.window)) s → Is (v.mem (b / 4)) q (s.mem (b / 4)))
          → AskedKept (ask_from k n b x q)
      from e at d b eo true dv q g = h
      from e at d b eo false dv Unknown g = h
      from e at d b eo false dv (Forwarded x) g = h
      from e at d b eo false dv Memory g = load_asked n b dv (record {
        inside = rw predictions_length (nth_inside k.window n at);
        is = λ zs s w d' b' q.
            let f = line_at c (stand k v.mem zs) k.window n e s at (h.held.line zs) w in
            let same = same_load f eo q in
            (ap device (sym same) ∙ dv, g zs s w ∙ ap (λ z. s.mem (z / 4)) same);
      })

      by : (e : Entry) → nth k.window n ≡ some e → (o : Outcome) → e.outcome ≡ Some o → AskedKept (ask_outcome k n o)
      by e at (Writes r x b) eo = h
      by e at (Jumps b) eo = h
      by e at (Loads d b) eo = from e at d b eo (device b) refl (source k.stores k.window n (b / 4)) (source_at c m a k v h n (b / 4))
      by e at (Stores b x) eo = h
      by e at (Halts j) eo = h

  -- a store goes out: the manual's memory does not move
  drain_by : (ps : List Store) → k.stores ≡ ps → AskedKept (drain_first k ps)
  drain_by [] e = h
  drain_by (p ∷ ps) e = record {
    runs = record {
      at = rw e at h.runs.at;
      done = h.runs.done;
      did = append_assoc v.evs (writes p.address p.value ∷ []) (store_evs ps) ∙ (rw e at h.runs.did);
      size = h.runs.size;
    };
    held = record { line = rw e at h.held.line; datas = each_push (rw e at h.held.datas) tt; codes = h.held.codes };
    oldest = rw e at h.oldest;
    one_reading = let i = h.one_reading in rw device_tags_append (omega arith);
  }

  pub drain_kept : AskedKept (drain k)
  drain_kept = drain_by k.stores refl

  -- a device is read for the oldest, with nothing waiting
  device_by : (d : Reg) (b : ℕ) → plan c (base k v.mem) ≡ Loads d b → (x : Bool) → device b ≡ x → (q : Reading) → k.device ≡ q
      → (ps : List Store) → k.stores ≡ ps → AskedKept (device_if k b x q ps)
  device_by d b pl false dv q eq ps es = h
  device_by d b pl true dv (Waiting x) eq ps es = h
  device_by d b pl true dv (Answered x y) eq ps es = h
  device_by d b pl true dv Idle eq (p ∷ ps) es = h
  device_by d b pl true dv Idle eq [] es = rw dv (record {
    runs = record {
      at = rw eq at h.runs.at;
      done = h.runs.done;
      did = rw es (append-nil _ ∙ ap (λ z. z ++ (asks b ∷ [])) (sym (append-nil v.evs) ∙ (rw (es, eq) at h.runs.did) ∙ append-nil _));
      size = h.runs.size;
    };
    held = record { line = rw eq at h.held.line; datas = each_push (rw eq at h.held.datas) tt; codes = h.held.codes };
    oldest = (d, pl, dv);
    one_reading = device_tags_append k.requests (Device ∷ []) ∙ ap (λ z. z + 1) (h.one_reading ∙ ap readings eq);
  })

  pub oldest_agrees : (e : Entry) (es : List Entry) → k.window ≡ e ∷ es → (zs : List ℕ) → Agrees c (stand k v.mem zs) e
  oldest_agrees e es we zs = line_head c (stand k v.mem zs) e es (rw we at (h.held.line zs))

  pub device_kept : AskedKept (ask_device k)
  device_kept = by k.window refl
    where
      outcome : (o : Outcome) → o ≡ plan c (base k v.mem) → AskedKept (device_outcome k o)
      outcome (Writes d x b) q = h
      outcome (Jumps b) q = h
      outcome (Loads d b) q = device_by d b (sym q) (device b) refl k.device refl k.stores refl
      outcome (Stores b x) q = h
      outcome (Halts j) q = h

      by : (es : List Entry) → k.window ≡ es → AskedKept (device_oldest k es)
      by [] we = h
      by (e ∷ es) we = given_cases AskedKept e.outcome (λ _. h) (λ o eo. outcome o (known (oldest_agrees e es we []).outcome eo))
