-- In each clock in which nothing is retired and it has not stopped, the rank falls.
use Rattle.std.proofs.Common.{◌≡◌, ℕ, ◌+◌, ◌*◌, ◌/◌, ◌<◌, ◌≤◌, Bool, true, false, not, ◌&&◌, ◌||◌, ltb, ◌⊎◌, List, [], ◌∷◌, ◌++◌, map, length, Some, None, Option, sym, refl, ap, ◌∙◌, subst, inl, inr, arith, ltb-false}
use mathlib.Core.List.{map-append}
use mathlib.Core.Option.{Option as Opt, some, none}
use lib.ListN.{length-map}
use Rattle.isa.specs.Words.{pick, nth}
use Rattle.isa.specs.Manual.{device}
use Rattle.isa.specs.Executing.{how}
use Rattle.isa.specs.declared.reg.Reg.{Reg}
use Rattle.isa.specs.declared.execute.Outcome.{Outcome}
use Rattle.isa.specs.declared.execute.Outcome.TheVariants.{Write as Writes, Jump as Jumps, Load as Loads, Store as Stores, Halt as Halts}
use Rattle.isa.specs.declared.execute.Stop.{Stop}
use Rattle.pins.specs.Ports.{Req, reads}
use Rattle.pins.specs.View.{pop}
use Rattle.pins.specs.Waits.{ages, aged, age0}
use Rattle.pins.specs.Progress.{Clock}
use Rattle.pins.proofs.Queues.{map_pop}
use Rattle.window.specs.declared.entry.Entry.{Entry}
use Rattle.window.specs.declared.entry.Number.{Number}
use Rattle.window.specs.declared.entry.Tag.{Tag}
use Rattle.window.specs.declared.entry.Tag.TheVariants.{Acknowledgment, Load, Stale, Device}
use Rattle.pins.specs.declared.held.Store.{Store}
use Rattle.pins.specs.declared.held.Reading.{Reading}
use Rattle.pins.specs.declared.held.Reading.TheVariants.{Idle, Waiting, Answered}
use Rattle.window.specs.declared.entry.Source.TheVariants.{Memory}
use Rattle.window.specs.Entries.{number, fresh}
use Rattle.window.specs.Newest.{source}
use Rattle.window.specs.Machine.{Asked, drain, next_pc, halted}
use Rattle.window.specs.Clocks.{loads, drains, room, request_if, fetch_if, fetch_room, Wanted, Schedule, State, ruled, chosen_port, posted, chosen_fetch, next, machine}
use Rattle.window.specs.Fairness.{has, is_load, any, is_idle, is_answered, store_room, ready, needs_drain, Served, FairClock, Fair}
use Rattle.window.proofs.Cases.{clash}
use Rattle.window.proofs.RuleCases.{load_asked, device_asked}
use Rattle.window.proofs.Invariant.{readings, device_tags}
use Rattle.window.proofs.Counted.{clock_few}
use Rattle.window.proofs.Marks.{is_device, is_fetch, spot, Young, spot_any, spot_none, spot_new, spot_young, Spared, spot_on, any_pop, pop_length}
use Rattle.window.proofs.Slots.{frees, frees_least, frees_16, frees_le, frees_full}
use Rattle.window.proofs.Onward.{More, Grows, Onward, rules_onward, head_grown}
use Rattle.window.proofs.Taken.{head_word, head_loaded}
use Rattle.window.proofs.AtPort.{drained, asked_oldest, asked_device}
use Rattle.window.proofs.Rank.{wait, wait_most, load_rank, device_rank, outcome_rank, load_most, device_most, outcome_most, oldest_rank, window_rank, load_age, device_age, code_age, port_wait, core_rank}
use Rattle.window.proofs.Clocked.{full, holds, requests_aged, fetches_aged, old, new, k0, k1, k2, k3, k4, asked, q0, q1, requests_later, codes_later, young1, codes_young1, falling1, few0, took1, window3, left3, also4, one_use, older, window4, halts4}

-- a reading of a device that waits has its tag open
device_open : (ts : List Tag) → device_tags ts ≡ 1 → any (map is_device ts) ≡ true
device_open [] h = absurd (omega arith)
device_open (Acknowledgment ∷ ts) h = device_open ts h
device_open (Load n ∷ ts) h = device_open ts h
device_open (Stale ∷ ts) h = device_open ts h
device_open (Device ∷ ts) h = refl

device_shut : (ts : List Tag) → device_tags ts ≡ 0 → any (map is_device ts) ≡ false
device_shut [] h = refl
device_shut (Acknowledgment ∷ ts) h = device_shut ts h
device_shut (Load n ∷ ts) h = device_shut ts h
device_shut (Stale ∷ ts) h = device_shut ts h
device_shut (Device ∷ ts) h = absurd (omega arith)

no_more : {A : Type 0} (x y : Option A) → (has x ≡ true → has y ≡ true) → has y ≡ false → has x ≡ false
no_more None y f q = refl
no_more (Some x) y f q = clash (f refl) q

has_none : {A : Type 0} (x : Option A) → has x ≡ false → x ≡ None
has_none None q = refl
has_none (Some x) q = clash refl q

module _ {T : Type 0} (s : Schedule T) (f : Fair s) {l : ℕ} (x : Clock (machine s) l) where
  abbrev z : State T
  z = x.at.state

  abbrev z' : State T
  z' = next s z x.answers

  fair : FairClock s f.work f.late f.turns z x.answers
  fair = f.clocks x.at.code x.at.mem x.at.start x.at.hist z x.answers x.at.reach x.allowed

  -- before and after: until the port is free
  abbrev E0 : ℕ
  E0 = port_wait l (f.late z) (k0 s x) (old s x)

  abbrev E1 : ℕ
  E1 = port_wait l (f.late z') (k4 s x) (new s x)

  abbrev rank0 : ℕ
  rank0 = core_rank l (f.work z) (f.late z) (k0 s x) (old s x)

  abbrev rank1 : ℕ
  rank1 = core_rank l (f.work z') (f.late z') (k4 s x) (new s x)

  late0 : f.late z ≤ E0
  late0 = let h = frees_least l (length (k0 s x).stores + f.late z) (q0 s x) in omega arith

  late1 : f.late z' ≤ E1
  late1 = let h = frees_least l (length (k4 s x).stores + f.late z') (q1 s x) in omega arith

  module _ (quiet : (ruled s z x.answers).rets ≡ []) where
    on : Onward (k1 s x) (k2 s x)
    on = rules_onward s.rules (s.hears x.answers z.tables z.core) (k1 s x) quiet

    same_stores : length (k2 s x).stores ≡ length (k0 s x).stores
    same_stores = ap length (on.stores ∙ (took1 s x).stores)

    fewer_stores : length (k4 s x).stores ≤ length (k0 s x).stores
    fewer_stores = let a = (left3 s x).less in let b = ap length (also4 s x).stores in let c = same_stores in omega arith

    -- the marks of what is open for the oldest
    loads2 : map (is_load 0) (k2 s x).requests ≡ pop x.answers.data1 (map (is_load 0) (k0 s x).requests)
    loads2 = on.loads ∙ ap (map (is_load 0)) (took1 s x).requests ∙ map_pop (is_load 0) x.answers.data1 (k0 s x).requests

    devices2 : map is_device (k2 s x).requests ≡ pop x.answers.data1 (map is_device (k0 s x).requests)
    devices2 = on.devices ∙ ap (map is_device) (took1 s x).requests ∙ map_pop is_device x.answers.data1 (k0 s x).requests

    fetches2 : map (is_fetch 0) (k2 s x).fetches ≡ pop x.answers.code (map (is_fetch 0) (k0 s x).fetches)
    fetches2 = on.fetches ∙ ap (map (is_fetch 0)) (took1 s x).fetches ∙ map_pop (is_fetch 0) x.answers.code (k0 s x).fetches

    -- any mark of the requests at the end
    marks4 : (mark : Tag → Bool) → map mark (k2 s x).requests ≡ pop x.answers.data1 (map mark (k0 s x).requests)
        → map mark (k4 s x).requests ≡ pop x.answers.data1 (map mark (k0 s x).requests) ++ map mark (left3 s x).more
    marks4 mark e =
        ap (map mark) ((also4 s x).requests ∙ (left3 s x).requests) ∙ map-append mark (k2 s x).requests (left3 s x).more
        ∙ ap (λ b. b ++ map mark (left3 s x).more) e

    -- one that is open and not answered waits a clock more
    waits_on : (mark : Tag → Bool) → map mark (k2 s x).requests ≡ pop x.answers.data1 (map mark (k0 s x).requests) → (a : ℕ)
        → spot (map mark (k0 s x).requests) (q0 s x) ≡ some a → Spared x.answers.data1 (map mark (k0 s x).requests)
        → spot (map mark (k4 s x).requests) (q1 s x) ≡ some (a + 1)
    waits_on mark e a h sp =
        (λ i. spot (marks4 mark e i) (requests_later s x i))
        ∙ spot_on x.answers.data1 (age0 (asked s x)) (map mark (k0 s x).requests) (map mark (left3 s x).more) (q0 s x) a sp h

    -- one that is asked for now has waited for none
    asked_now : (mark : Tag → Bool) → map mark (k2 s x).requests ≡ pop x.answers.data1 (map mark (k0 s x).requests) → (t : Tag) → mark t ≡ true
        → any (map mark (k0 s x).requests) ≡ false → (k4 s x).requests ≡ (k2 s x).requests ++ (t ∷ []) → (r : Req) → asked s x ≡ some r
        → spot (map mark (k4 s x).requests) (q1 s x) ≡ some 0
    asked_now mark e t mt none_open op r rq =
        let i = x.answers.data1 in
        let bs = map mark (k0 s x).requests in
        let older1 = map (λ n. n + 1) (pop i (q0 s x)) in
        let m4 : map mark (k4 s x).requests ≡ pop i bs ++ (true ∷ []) =
        ap (map mark) op ∙ map-append mark (k2 s x).requests (t ∷ []) ∙ (λ j. e j ++ (mt j ∷ [])) in
        let a1 : q1 s x ≡ older1 ++ (0 ∷ []) = requests_later s x ∙ ap (λ (y : Opt Req). aged i (age0 y) (q0 s x)) rq in
        let n : length (pop i bs) ≡ length older1 =
        pop_length i bs (q0 s x) (length-map (k0 s x).requests mark ∙ requests_aged s x.at) ∙ sym (length-map (pop i (q0 s x)) (λ n. n + 1)) in
        (λ j. spot (m4 j) (a1 j)) ∙ spot_new (pop i bs) older1 0 (any_pop i bs none_open) n

    code_waits : (a : ℕ) → code_age (k0 s x) (old s x) ≡ some a → Spared x.answers.code (map (is_fetch 0) (k0 s x).fetches) → code_age (k4 s x) (new s x) ≡ some (a + 1)
    code_waits a h sp =
        let m4 : map (is_fetch 0) (k4 s x).fetches ≡ pop x.answers.code (map (is_fetch 0) (k0 s x).fetches) ++ map (is_fetch 0) (also4 s x).wants =
        ap (map (is_fetch 0)) (also4 s x).fetches ∙ map-append (is_fetch 0) (k3 s x).fetches (also4 s x).wants
        ∙ ap (λ (w : List (Option Number)). map (is_fetch 0) w ++ map (is_fetch 0) (also4 s x).wants) (window3 s x).fetches
        ∙ ap (λ b. b ++ map (is_fetch 0) (also4 s x).wants) fetches2 in
        (λ i. spot (m4 i) (codes_later s x i))
        ∙ spot_on x.answers.code _ (map (is_fetch 0) (k0 s x).fetches) (map (is_fetch 0) (also4 s x).wants) (ages (old s x).codes) a sp h

    -- the port: held up a clock less; a store goes out; no room
    by_room : ((b : Bool) → room (k2 s x) ≡ b → E1 < E0) → E1 < E0
    by_room g = g (room (k2 s x)) refl

    held_less : f.late z' < f.late z → E1 < E0
    held_less h = by_room by
      where
        by : (b : Bool) → room (k2 s x) ≡ b → E1 < E0
        by true e = let w = fewer_stores in one_use s x e (length (k4 s x).stores + f.late z') (length (k0 s x).stores + f.late z) (omega arith)
        by false e = let w = fewer_stores in older s x e (length (k4 s x).stores + f.late z') (length (k0 s x).stores + f.late z) (omega arith)

    no_room_falls : f.late z' ≤ f.late z → room (k2 s x) ≡ false → E1 < E0
    no_room_falls h e = let w = fewer_stores in older s x e (length (k4 s x).stores + f.late z') (length (k0 s x).stores + f.late z) (omega arith)

    drain_falls : f.late z' ≤ f.late z → chosen_port s z x.answers ≡ drains → 0 < length (k2 s x).stores → E1 < E0
    drain_falls h p n = by_room by
      where
        by : (b : Bool) → room (k2 s x) ≡ b → E1 < E0
        by false e = no_room_falls h e
        by true e =
            let d = (drained (k2 s x) n).0 in
            let r4 : length (k4 s x).stores ≡ length (drain (k2 s x)).core.stores = ap length (also4 s x).stores ∙ (λ i. length (request_if (e i) (p i) (k2 s x)).core.stores) in
            let w = same_stores in
            one_use s x e (length (k4 s x).stores + f.late z') (length (k0 s x).stores + f.late z) (omega arith)

    -- the oldest before the clock, after the answers, after the rules
    module _ (e e1 d : Entry) (es es1 ds : List Entry) (w0 : (k0 s x).window ≡ e ∷ es) (w1 : (k1 s x).window ≡ e1 ∷ es1) (w2 : (k2 s x).window ≡ d ∷ ds) (m1 : More e e1) (m2 : More e1 d) where
      w4 : (k4 s x).window ≡ d ∷ (ds ++ (also4 s x).more)
      w4 = window4 s x d ds w2

      same_outcome : (o : Outcome) → e.outcome ≡ Some o → d.outcome ≡ Some o
      same_outcome o q = m2.outcome o (m1.outcome o q)

      -- held up a clock less, or served
      abbrev Serves : Outcome → Type 0
      Serves o = (f.late z' < f.late z) ⊎ ((f.late z' ≤ f.late z) × Served (k0 s x) (k2 s x) e d o (chosen_port s z x.answers))

      serves : (o : Outcome) → e.outcome ≡ Some o → Serves o
      serves o q = fair.serves quiet e es w0 o q d ds w2 (same_outcome o q)

      not_later : (o : Outcome) → Serves o → f.late z' ≤ f.late z
      not_later o (inl h) = omega arith
      not_later o (inr h) = h.0

      -- where it can be retired
      held : (o : Outcome) → ready (k0 s x) e o ≡ true → Serves o → f.late z' < f.late z
      held o r (inl h) = h
      held o r (inr h) = clash r h.1.retires

      -- a load of data
      load_falls : (r : Reg) (b : ℕ) → e.outcome ≡ Some (Loads r b) → device b ≡ false
          → load_rank l (f.late z') E1 d.loaded (load_age (k4 s x) (new s x)) < load_rank l (f.late z) E0 e.loaded (load_age (k0 s x) (old s x))
      load_falls r b q dv = by e.loaded refl (any (map (is_load 0) (k0 s x).requests)) refl d.loaded refl
        where
          sv : Serves (Loads r b)
          sv = serves (Loads r b) q

          le : f.late z' ≤ f.late z
          le = not_later (Loads r b) sv

          asks : d.loaded ≡ None → any (map (is_load 0) (k0 s x).requests) ≡ false → Serves (Loads r b)
              → (E1 < E0) ⊎ ((load_age (k4 s x) (new s x) ≡ some 0))
          asks dl an (inl h) = inl (held_less h)
          asks dl an (inr (h, v)) = at_port (room (k2 s x)) refl so.1
            where
              so : (source (k2 s x).stores (k2 s x).window 0 (b / 4) ≡ Memory)
                  × ((chosen_port s z x.answers ≡ loads 0) ⊎ ((chosen_port s z x.answers ≡ drains) × (0 < length (k2 s x).stores)))
              so = v.loads r b refl dv dl (ap any loads2 ∙ any_pop x.answers.data1 (map (is_load 0) (k0 s x).requests) an)

              at_port : (t : Bool) → room (k2 s x) ≡ t → (chosen_port s z x.answers ≡ loads 0) ⊎ ((chosen_port s z x.answers ≡ drains) × (0 < length (k2 s x).stores))
                  → (E1 < E0) ⊎ ((load_age (k4 s x) (new s x) ≡ some 0))
              at_port false t p = inl (no_room_falls h t)
              at_port true t (inr p) = inl (drain_falls h p.0 p.1)
              at_port true t (inl p) =
                  let a : posted s z x.answers ≡ load_asked (k2 s x) 0 b =
                  (λ i. request_if (t i) (p i) (k2 s x)) ∙ asked_oldest (k2 s x) d ds r b w2 (same_outcome (Loads r b) q) so.0 dv in
                  inr (asked_now (is_load 0) loads2 (Load (number 0)) refl an ((also4 s x).requests ∙ ap (λ (y : Asked). y.core.requests) a) (reads b) (ap (λ (y : Asked). y.req) a))

          by : (g : Option ℕ) → e.loaded ≡ g → (t : Bool) → any (map (is_load 0) (k0 s x).requests) ≡ t → (g' : Option ℕ) → d.loaded ≡ g'
              → load_rank l (f.late z') E1 g' (load_age (k4 s x) (new s x)) < load_rank l (f.late z) E0 g (load_age (k0 s x) (old s x))
          by (Some y) el t an (Some y') dl = held (Loads r b) (ap (λ (o : Option ℕ). has o || is_answered (k0 s x).device) el) sv
          by (Some y) el t an None dl = clash (m2.loaded (m1.loaded (ap has el))) (ap has dl)
          by None el true an g' dl = opened g' dl
            where
              age : (a : ℕ) × (load_age (k0 s x) (old s x) ≡ some a)
              age = spot_any (map (is_load 0) (k0 s x).requests) (q0 s x) an (length-map (k0 s x).requests (is_load 0) ∙ requests_aged s x.at)

              opened : (g' : Option ℕ) → d.loaded ≡ g'
                  → load_rank l (f.late z') E1 g' (load_age (k4 s x) (new s x)) < load_rank l (f.late z) E0 None (load_age (k0 s x) (old s x))
              opened (Some y') dl = let h = le in rw age.1 (omega arith)
              opened None dl =
                  let un = no_more e1.loaded d.loaded m2.loaded (ap has dl) in
                  let sp = (took1 s x).loaded e es w0 (ap head_loaded w1 ∙ un) in
                  let wt = waits_on (is_load 0) loads2 age.0 age.1 sp in
                  let yo = spot_young l (map (is_load 0) (k4 s x).requests) (q1 s x) (age.0 + 1) (young1 s x) wt in
                  let h = le in
                  rw (age.1, wt) (omega arith)
          by None el false an g' dl = shut g' dl
            where
              none_open : load_age (k0 s x) (old s x) ≡ none
              none_open = spot_none (map (is_load 0) (k0 s x).requests) (q0 s x) an

              lower : (g' : Option ℕ) → E1 < E0 → load_rank l (f.late z') E1 g' (load_age (k4 s x) (new s x)) < (l + 2) + E0
              lower g' h = let m = load_most l (f.late z') E1 late1 g' (load_age (k4 s x) (new s x)) in omega arith

              or_asked : (E1 < E0) ⊎ ((load_age (k4 s x) (new s x) ≡ some 0)) → load_rank l (f.late z') E1 None (load_age (k4 s x) (new s x)) < (l + 2) + E0
              or_asked (inl h) = lower None h
              or_asked (inr h) = let a = le in let b = late0 in rw h (omega arith)

              shut : (g' : Option ℕ) → d.loaded ≡ g'
                  → load_rank l (f.late z') E1 g' (load_age (k4 s x) (new s x)) < load_rank l (f.late z) E0 None (load_age (k0 s x) (old s x))
              shut (Some y') dl = let a = le in let b = late0 in rw none_open (omega arith)
              shut None dl = rw none_open (or_asked (asks dl an sv))

      -- a reading of a device
      abbrev FallsTo : Reading → Type 0
      FallsTo q =
          device_rank l (f.late z') E1 (k4 s x).device (device_age (k4 s x) (new s x)) < device_rank l (f.late z) E0 q (device_age (k0 s x) (old s x))

      device_falls : (r : Reg) (b : ℕ) → e.outcome ≡ Some (Loads r b) → device b ≡ true
          → device_rank l (f.late z') E1 (k4 s x).device (device_age (k4 s x) (new s x)) < device_rank l (f.late z) E0 (k0 s x).device (device_age (k0 s x) (old s x))
      device_falls r b q dv = by (k0 s x).device refl
        where
          sv : Serves (Loads r b)
          sv = serves (Loads r b) q

          le : f.late z' ≤ f.late z
          le = not_later (Loads r b) sv

          device2 : (k2 s x).device ≡ (k1 s x).device
          device2 = on.device

          stays_answered : (a y : ℕ) → (k1 s x).device ≡ Answered a y → (k4 s x).device ≡ Answered a y
          stays_answered a y h = (also4 s x).device ∙ (left3 s x).answered a y (device2 ∙ h)

          -- it was answered in this clock, or not
          answered_or : (q' : Reading) → (k1 s x).device ≡ q' → ((a : ℕ) × (y : ℕ) × ((k4 s x).device ≡ Answered a y)) ⊎ (is_answered (k1 s x).device ≡ false)
          answered_or Idle h = inr (ap is_answered h)
          answered_or (Waiting a) h = inr (ap is_answered h)
          answered_or (Answered a y) h = inl (a, y, stays_answered a y h)

          is_there : (a y : ℕ) → (k0 s x).device ≡ Answered a y → FallsTo (Answered a y)
          is_there a y h = by1 (k1 s x).device refl
            where
              less : f.late z' < f.late z
              less = held (Loads r b) (or_true (has e.loaded) (is_answered (k0 s x).device) (ap is_answered h)) sv
                where
                  or_true : (a b : Bool) → b ≡ true → a || b ≡ true
                  or_true true b e = refl
                  or_true false b e = e

              same : is_answered (k1 s x).device ≡ false → (k1 s x).device ≡ Answered a y
              same n = ((took1 s x).device n).same ∙ h

              by1 : (q' : Reading) → (k1 s x).device ≡ q' → device_rank l (f.late z') E1 (k4 s x).device (device_age (k4 s x) (new s x)) < f.late z
              by1 Idle n = clash {b = is_answered (k1 s x).device} (ap is_answered (same (ap is_answered n))) (ap is_answered n)
              by1 (Waiting c) n = clash {b = is_answered (k1 s x).device} (ap is_answered (same (ap is_answered n))) (ap is_answered n)
              by1 (Answered c w) n = rw (stays_answered c w n) less

          waits : (a : ℕ) → (k0 s x).device ≡ Waiting a → ((c : ℕ) × (y : ℕ) × ((k4 s x).device ≡ Answered c y)) ⊎ (is_answered (k1 s x).device ≡ false) → FallsTo (Waiting a)
          waits a h (inl (c, y, p)) = let u = le in rw p (omega arith)
          waits a h (inr n) =
              let u = (took1 s x).device n in
              let an = device_open (k0 s x).requests ((holds s x.at).inv.one_reading ∙ ap readings h) in
              let age = spot_any (map is_device (k0 s x).requests) (q0 s x) an (length-map (k0 s x).requests is_device ∙ requests_aged s x.at) in
              let wt = waits_on is_device devices2 age.0 age.1 (u.spared a h) in
              let yo = spot_young l (map is_device (k4 s x).requests) (q1 s x) (age.0 + 1) (young1 s x) wt in
              let p : (k4 s x).device ≡ Waiting a = (also4 s x).device ∙ (left3 s x).waiting a (device2 ∙ u.same ∙ h) in
              let v = le in
              rw (p, age.1, wt) (omega arith)

          lower : E1 < E0 → FallsTo Idle
          lower h = let m = device_most l (f.late z') E1 late1 (k4 s x).device (device_age (k4 s x) (new s x)) in omega arith

          idle : (k0 s x).device ≡ Idle → (k2 s x).device ≡ Idle → Serves (Loads r b) → (ps : List Store) → (k2 s x).stores ≡ ps → (t : Bool) → room (k2 s x) ≡ t → FallsTo Idle
          idle h h2 (inl n) ps es t rt = lower (held_less n)
          idle h h2 (inr (n, v)) ps es false rt = lower (no_room_falls n rt)
          idle h h2 (inr (n, v)) (p ∷ ps) es true rt =
              let m : 0 < length (k2 s x).stores = rw es (omega arith) in
              lower (drain_falls n (v.drains (λ i. dv i && is_idle (h2 i)) m) m)
          idle h h2 (inr (n, v)) [] es true rt =
              let p = v.reads r b refl dv h2 es in
              let a : posted s z x.answers ≡ device_asked (k2 s x) b =
              (λ i. request_if (rt i) (p i) (k2 s x)) ∙ asked_device (k2 s x) d ds r b w2 (same_outcome (Loads r b) q) h2 es dv in
              let an = device_shut (k0 s x).requests ((holds s x.at).inv.one_reading ∙ ap readings h) in
              let now = asked_now is_device devices2 Device refl an ((also4 s x).requests ∙ ap (λ (y : Asked). y.core.requests) a) (reads b) (ap (λ (y : Asked). y.req) a) in
              let d4 : (k4 s x).device ≡ Waiting b = (also4 s x).device ∙ ap (λ (y : Asked). y.core.device) a in
              let u = late0 in
              rw (d4, now) (omega arith)

          by : (q0 : Reading) → (k0 s x).device ≡ q0 → device_rank l (f.late z') E1 (k4 s x).device (device_age (k4 s x) (new s x)) < device_rank l (f.late z) E0 q0 (device_age (k0 s x) (old s x))
          by (Answered a y) h = is_there a y h
          by (Waiting a) h = waits a h (answered_or (k1 s x).device refl)
          by Idle h = at (k1 s x).device refl
            where
              at : (q' : Reading) → (k1 s x).device ≡ q' → FallsTo Idle
              at Idle n = idle h (device2 ∙ n) sv (k2 s x).stores refl (room (k2 s x)) refl
              at (Waiting c) n = let m : Waiting c ≡ Idle = sym n ∙ ((took1 s x).device (ap is_answered n)).same ∙ h in absurd (let y : ◌≡◌ {A = ℕ} 0 1 = cc in omega arith)
              at (Answered c y) n = let m = stays_answered c y n in let u = le in let v = late0 in rw m (omega arith)

      -- it stops, or the rank falls
      abbrev Result : ℕ → ℕ → Type 0
      Result m n = ((j : ℕ) × (halted (k4 s x) ≡ some j)) ⊎ (m < n)

      -- it waits for stores
      stores_fall : (o : Outcome) → needs_drain (k2 s x) o ≡ true → 0 < length (k2 s x).stores → Serves o → E1 < E0
      stores_fall o nd n (inl h) = held_less h
      stores_fall o nd n (inr (h, v)) = drain_falls h (v.drains nd n) n

      halt_falls : (h : Stop) → e.outcome ≡ Some (Halts h) → Result ((l + 2) + E1) ((l + 2) + E0)
      halt_falls h q = by (k2 s x).stores refl
        where
          by : (ps : List Store) → (k2 s x).stores ≡ ps → Result ((l + 2) + E1) ((l + 2) + E0)
          by (p ∷ ps) g = let t = stores_fall (Halts h) refl (rw g (omega arith)) (serves (Halts h) q) in inr (omega arith)
          by [] g = inl (how h, halts4 s x d ds h w2 (same_outcome (Halts h) q) g)

      outcome_falls : (o : Outcome) → e.outcome ≡ Some o
          → Result (outcome_rank l (f.late z') E1 d.loaded (k4 s x).device (load_age (k4 s x) (new s x)) (device_age (k4 s x) (new s x)) o)
          (outcome_rank l (f.late z) E0 e.loaded (k0 s x).device (load_age (k0 s x) (old s x)) (device_age (k0 s x) (old s x)) o)
      outcome_falls (Writes r v b) q = inr (held (Writes r v b) refl (serves (Writes r v b) q))
      outcome_falls (Jumps b) q = inr (held (Jumps b) refl (serves (Jumps b) q))
      outcome_falls (Loads r b) q = inr (by (device b) refl)
        where
          by : (t : Bool) → device b ≡ t
              → pick t (device_rank l (f.late z') E1 (k4 s x).device (device_age (k4 s x) (new s x))) (load_rank l (f.late z') E1 d.loaded (load_age (k4 s x) (new s x)))
              < pick t (device_rank l (f.late z) E0 (k0 s x).device (device_age (k0 s x) (old s x))) (load_rank l (f.late z) E0 e.loaded (load_age (k0 s x) (old s x)))
          by true dv = device_falls r b q dv
          by false dv = load_falls r b q dv
      outcome_falls (Stores b v) q = inr (by (store_room (k0 s x)) refl)
        where
          by : (t : Bool) → store_room (k0 s x) ≡ t → (l + 2) + E1 < (l + 2) + E0
          by true r = let h = held_less (held (Stores b v) r (serves (Stores b v) q)) in omega arith
          by false r =
              let n = ltb-false (length (k0 s x).stores) 8 r in
              let w = same_stores in
              let r2 : not (store_room (k2 s x)) ≡ true = ap (λ m. not (ltb m 8)) same_stores ∙ ap not r in
              let h = stores_fall (Stores b v) r2 (omega arith) (serves (Stores b v) q) in
              omega arith
      outcome_falls (Halts h) q = halt_falls h q

      -- the bands
      abbrev at0 : Option Outcome → Option ℕ → ℕ
      at0 o w = oldest_rank l (f.work z) (f.late z) E0 o w e.loaded (k0 s x).device (load_age (k0 s x) (old s x)) (device_age (k0 s x) (old s x)) (code_age (k0 s x) (old s x))

      abbrev at1 : Option Outcome → Option ℕ → ℕ
      at1 o w = oldest_rank l (f.work z') (f.late z') E1 o w d.loaded (k4 s x).device (load_age (k4 s x) (new s x)) (device_age (k4 s x) (new s x)) (code_age (k4 s x) (new s x))

      low : (w : Option ℕ) → 5 * l + 22 ≤ at0 None w
      low None = omega arith
      low (Some w) = omega arith

      e1_most : E1 ≤ 4 * l + 19
      e1_most =
          let a = (clock_few s z x.answers (few0 s x)).stores in
          let b = f.late_most z' in
          let c = frees_le l (length (k4 s x).stores + f.late z') 15 (q1 s x) (omega arith) (falling1 s x) (young1 s x) in
          let g = frees_16 l (q1 s x) in
          omega arith

      no_word : e.word ≡ None → e1.word ≡ None → at1 None None < at0 None None
      no_word ew ew1 =
          let an = (holds s x.at).fed 0 e (ap (λ w. nth w 0) w0) (ap has ew) in
          let age = spot_any (map (is_fetch 0) (k0 s x).fetches) (ages (old s x).codes) an (length-map (k0 s x).fetches (is_fetch 0) ∙ fetches_aged s x.at) in
          let sp = (took1 s x).word e es w0 (ap head_word w1 ∙ ap has ew1) in
          let wt = code_waits age.0 age.1 sp in
          let yo = spot_young l (map (is_fetch 0) (k4 s x).fetches) (ages (new s x).codes) (age.0 + 1) (codes_young1 s x) wt in
          rw (age.1, wt) (omega arith)

      words : e.outcome ≡ None → d.outcome ≡ None → (w : Option ℕ) → e.word ≡ w → (w' : Option ℕ) → d.word ≡ w' → at1 None w' < at0 None w
      words eo od None ew None dw = no_word ew (has_none e1.word (no_more e1.word d.word m2.word (ap has dw)))
      words eo od None ew (Some y) dw = let a = f.work_most z' in omega arith
      words eo od (Some w) ew None dw = clash (m2.word (m1.word (ap has ew))) (ap has dw)
      words eo od (Some w) ew (Some y) dw = let a = fair.works quiet e es w0 (ap has ew) eo d ds w2 od in omega arith

      outcomes : (o : Option Outcome) → e.outcome ≡ o → (o' : Option Outcome) → d.outcome ≡ o' → Result (at1 o' d.word) (at0 o e.word)
      outcomes (Some o) q o' q' = subst (λ y. Result (at1 y d.word) (at0 (Some o) e.word)) (sym (same_outcome o q) ∙ q') (outcome_falls o q)
      outcomes None q (Some o) q' =
          let a = outcome_most l (f.late z') E1 late1 d.loaded (k4 s x).device (load_age (k4 s x) (new s x)) (device_age (k4 s x) (new s x)) o in
          let b = low e.word in
          let c = e1_most in
          inr (omega arith)
      outcomes None q None q' = inr (words q q' e.word refl d.word refl)

      oldest_falls : Result rank1 rank0
      oldest_falls =
          let p : rank1 ≡ at1 d.outcome d.word =
          ap (λ (w : List Entry). window_rank l (f.work z') (f.late z') E1 w (k4 s x).device (load_age (k4 s x) (new s x)) (device_age (k4 s x) (new s x)) (code_age (k4 s x) (new s x)) (frees l 0 (ages (new s x).codes))) w4 in
          let q : rank0 ≡ at0 e.outcome e.word =
          ap (λ (w : List Entry). window_rank l (f.work z) (f.late z) E0 w (k0 s x).device (load_age (k0 s x) (old s x)) (device_age (k0 s x) (old s x)) (code_age (k0 s x) (old s x)) (frees l 0 (ages (old s x).codes))) w0 in
          subst (λ m. Result m rank0) (sym p) (subst (λ n. Result (at1 d.outcome d.word) n) (sym q) (outcomes e.outcome refl d.outcome refl))

    -- nothing is at work
    grows_none : (es ds : List Entry) → es ≡ [] → Grows es ds → ds ≡ []
    grows_none [] ds q g = g
    grows_none (e ∷ es) ds q g = absurd (let y : ◌≡◌ {A = ℕ} 0 1 = cc in omega arith)

    abbrev rank_with : List Entry → ℕ
    rank_with w =
        window_rank l (f.work z') (f.late z') E1 w (k4 s x).device (load_age (k4 s x) (new s x)) (device_age (k4 s x) (new s x)) (code_age (k4 s x) (new s x))
        (frees l 0 (ages (new s x).codes))

    empty_falls : (k0 s x).window ≡ [] → rank1 < rank0
    empty_falls w0 = by (fetch_room (k3 s x)) refl
      where
        w3 : (k3 s x).window ≡ []
        w3 = (window3 s x).window ∙ grows_none (k1 s x).window (k2 s x).window (grows_none (k0 s x).window (k1 s x).window w0 (took1 s x).window) on.window

        wants : (g : ℕ) × (chosen_fetch s z x.answers ≡ some g)
        wants = fair.fetches w0 w3

        q : rank0 ≡ (6 * l + 62) + frees l 0 (ages (old s x).codes)
        q = ap (λ (w : List Entry). window_rank l (f.work z) (f.late z) E0 w (k0 s x).device (load_age (k0 s x) (old s x)) (device_age (k0 s x) (old s x)) (code_age (k0 s x) (old s x)) (frees l 0 (ages (old s x).codes))) w0

        by : (b : Bool) → fetch_room (k3 s x) ≡ b → rank1 < rank0
        by true e =
            let w4 : (k4 s x).window ≡ fresh (next_pc (k3 s x)) wants.0 ∷ [] =
            (λ i. (fetch_if (e i) (wants.1 i) (k3 s x)).core.window) ∙ ap (λ (w : List Entry). w ++ (fresh (next_pc (k3 s x)) wants.0 ∷ [])) w3 in
            let p : rank1 ≡ (5 * l + 61) + wait l (code_age (k4 s x) (new s x)) = ap rank_with w4 in
            let a = wait_most l (code_age (k4 s x) (new s x)) in
            let b = q in
            omega arith
        by false e =
            let same : fetch_if (fetch_room (k3 s x)) (chosen_fetch s z x.answers) (k3 s x) ≡ record { core = k3 s x; code = none } = λ i. fetch_if (e i) (wants.1 i) (k3 s x) in
            let n3 : length (k3 s x).fetches ≡ length (pop x.answers.code (k0 s x).fetches) =
            ap length (window3 s x).fetches ∙ sym (length-map (k2 s x).fetches (is_fetch 0)) ∙ ap length on.fetches ∙ length-map (k1 s x).fetches (is_fetch 0) ∙ ap length (took1 s x).fetches in
            let fu = full x.answers.code (k0 s x).fetches (few0 s x).fetches (subst (λ n. ltb n 4 ≡ false) n3 e) in
            let c1 : ages (new s x).codes ≡ map (λ n. n + 1) (ages (old s x).codes) =
            codes_later s x ∙ (λ i. aged (fu.0 i) (age0 (same i).code) (ages (old s x).codes)) in
            let v = subst (λ y. frees l 0 y < frees l 0 (ages (old s x).codes)) (sym c1)
            (frees_full l 0 (ages (old s x).codes) (sym (fetches_aged s x.at) ∙ fu.1) (subst (Young l) c1 (codes_young1 s x))) in
            let w4 : (k4 s x).window ≡ [] = ap (λ (y : Wanted). y.core.window) same ∙ w3 in
            let p : rank1 ≡ (6 * l + 62) + frees l 0 (ages (new s x).codes) = ap rank_with w4 in
            let b = q in
            omega arith

    pub falls : ((j : ℕ) × (halted (k4 s x) ≡ some j)) ⊎ (rank1 < rank0)
    falls = by (k0 s x).window refl
      where
        by : (es : List Entry) → (k0 s x).window ≡ es → ((j : ℕ) × (halted (k4 s x) ≡ some j)) ⊎ (rank1 < rank0)
        by [] w0 = inr (empty_falls w0)
        by (e ∷ es) w0 =
            let a = head_grown (k0 s x).window (k1 s x).window e es w0 (took1 s x).window in
            let b = head_grown (k1 s x).window (k2 s x).window a.head a.tail a.is on.window in
            oldest_falls e a.head b.head es a.tail b.tail w0 a.is b.is a.more b.more
