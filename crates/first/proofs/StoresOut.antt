-- A waiting store gets the request port in time, however many loads go on: after each load's answer the port is free.
use Rattle.std.proofs.Common.{◌≡◌, ℕ, suc, ◌+◌, ◌*◌, ◌<◌, ◌≤◌, Bool, true, false, ltb, List, [], ◌∷◌, length, sym, refl, ap, subst, arith, length-append}
use mathlib.Core.Option.{Option, some, none}
use Rattle.std.proofs.lemmas.Bool.{ltb-true, ltb-false, lt-ltb, le-ltb}
use Rattle.isa.specs.Words.{pick, opt}
use Rattle.isa.specs.Executing.{work}
use Rattle.isa.specs.declared.execute.Outcome.{Outcome}
use Rattle.isa.specs.declared.execute.Outcome.TheVariants.{Write as Writes, Jump as Jumps, Load as Loads, Store as Stores, Halt as Halts}
use Rattle.pins.specs.Ports.{In, Req}
use Rattle.pins.specs.Outside.{ev_of}
use Rattle.pins.specs.View.{pop}
use Rattle.pins.specs.Waits.{aged, age0}
use Rattle.pins.specs.declared.held.Store.{Store}
use Rattle.first.specs.declared.state.Open.{Open}
use Rattle.first.specs.declared.state.Open.TheVariants.{Acknowledgment, Load as ForLoad}
use Rattle.pins.specs.declared.held.Reading.{Reading}
use Rattle.pins.specs.declared.held.Reading.TheVariants.{Idle, Waiting, Answered}
use Rattle.first.specs.declared.state.Action.{Action}
use Rattle.first.specs.declared.state.Action.TheVariants.{Wait, Halt, Write, Jump, Push, Ask}
use Rattle.first.specs.Model.{Storing, Model, Did, answer, answer_load, take_data, taken, if_drained, loading, act, work_on, decide, apply, drain, drain_one, drain_if, Drained, model_next}
use Rattle.first.proofs.Left.{AskedFor, Young, left, left_most}
use Rattle.first.proofs.DataFalls.{Some, oldest_falls}
use Rattle.first.proofs.RankFalls.{Bounded}

-- the time until the load at work has had the port, and the oldest request its answer
abbrev pub to_wait : ℕ → Reading → ℕ
to_wait l Idle = l + 2
to_wait l (Waiting a) = 0
to_wait l (Answered a x) = l + 2

abbrev pub store_rank : ℕ → Model → List ℕ → ℕ
store_rank l k qd = to_wait l k.lsu.load + left l 0 qd

to_wait_most : (l : ℕ) (p : Reading) → to_wait l p ≤ l + 2
to_wait_most l Idle = omega arith
to_wait_most l (Waiting a) = omega arith
to_wait_most l (Answered a x) = omega arith

pub store_most : (l : ℕ) (k : Model) (qd : List ℕ) → store_rank l k qd ≤ 2 * (l + 2)
store_most l k qd = omega (arith, to_wait_most l k.lsu.load, left_most l 0 qd)

abbrev None : Option Req → Type 0
None none = Unit {0}
None (some r) = ⊥

-- what doing an instruction leaves of the stores and requests
record Stays (l : ℕ) (k : Model) (d : Did) : Type 0 where
  row : length k.lsu.row ≤ length d.core.lsu.row
  opens : None d.req → length d.core.lsu.opens ≡ length k.lsu.opens
  load : None d.req → to_wait l d.core.lsu.load ≤ to_wait l k.lsu.load
  asked : Some d.req → to_wait l d.core.lsu.load ≡ 0

full_wait : (l : ℕ) (p : Reading) → (to_wait l p ≡ 0 → ⊥) → to_wait l p ≡ l + 2
full_wait l Idle h = refl
full_wait l (Waiting a) h = absurd (h refl)
full_wait l (Answered a x) h = refl

stays : (l : ℕ) (k : Model) (x : Action) → (to_wait l k.lsu.load ≡ 0 → x ≡ Wait) → Stays l k (apply k x)
stays l k Wait h = record { row = omega arith; opens = λ q. refl; load = λ q. omega arith; asked = λ q. absurd q }
stays l k (Halt j) h = record { row = omega arith; opens = λ q. refl; load = λ q. omega arith; asked = λ q. absurd q }
stays l k (Write r x b) h = let n = full_wait l k.lsu.load (λ z. let e = h z in let y : ◌≡◌ {A = ℕ} 0 1 = cc in omega arith) in record { row = omega arith; opens = λ q. refl; load = λ q. omega arith; asked = λ q. absurd q }
stays l k (Jump b) h = let n = full_wait l k.lsu.load (λ z. let e = h z in let y : ◌≡◌ {A = ℕ} 0 1 = cc in omega arith) in record { row = omega arith; opens = λ q. refl; load = λ q. omega arith; asked = λ q. absurd q }
stays l k (Push s) h = let n = full_wait l k.lsu.load (λ z. let e = h z in let y : ◌≡◌ {A = ℕ} 0 1 = cc in omega arith) in record { row = omega (arith, length-append k.lsu.row (s ∷ [])); opens = λ q. refl; load = λ q. omega arith; asked = λ q. absurd q }
stays l k (Ask b) h = record { row = omega arith; opens = λ q. absurd q; load = λ q. absurd q; asked = λ q. refl }

-- a load is requested only where none was
asks_act : (k : Model) (p : Reading) → k.lsu.load ≡ p → (x : Outcome) → Some (apply k (act k x)).req → p ≡ Idle
asks_act k p e (Writes r x b) h = absurd h
asks_act k p e (Jumps b) h = absurd h
asks_act k p e (Stores b x) h = by (ltb (length k.lsu.row) 8) h
  where
    by : (t : Bool) → Some (apply k (pick t (Push (record { address = b; value = x })) Wait)).req → p ≡ Idle
    by true h = absurd h
    by false h = absurd h
asks_act k p e (Halts j) h = by k.lsu.row h
  where
    by : (r : List Store) → Some (apply k (if_drained r (Halt j))).req → p ≡ Idle
    by [] h = absurd h
    by (s ∷ r) h = absurd h
asks_act k p e (Loads r b) h = by p (subst (λ (q : Reading). Some (apply k (loading k r b q)).req) e h)
  where
    by : (q : Reading) → Some (apply k (loading k r b q)).req → q ≡ Idle
    by Idle h = refl
    by (Waiting a) h = absurd h
    by (Answered a x) h = absurd h

asks_when : (k : Model) → Some (apply k (decide k)).req → k.lsu.load ≡ Idle
asks_when k h = by k.stop k.fetch.words h
  where
    by : (o : Option ℕ) (ws : List ℕ) → Some (apply k (opt o (work_on k ws) (λ j. Wait))).req → k.lsu.load ≡ Idle
    by (some j) ws h = absurd h
    by none [] h = absurd h
    by none (w ∷ ws) h = asks_act k k.lsu.load refl (work k.regs k.pc w) h

-- an answer leaves the stores; an idle load was idle before it; a full queue had no answer
row_taken : (i : Option ℕ) (d : Storing) → (take_data i d).row ≡ d.row
row_taken none d = refl
row_taken (some x) d = by d.opens
  where
    by : (ks : List Open) → (answer x d ks).row ≡ d.row
    by [] = refl
    by (Acknowledgment ∷ ks) = refl
    by (ForLoad ∷ ks) = refl

idle_taken : (i : Option ℕ) (d : Storing) → (take_data i d).load ≡ Idle → d.load ≡ Idle
idle_taken none d e = e
idle_taken (some x) d e = by d.opens e
  where
    idle_load : (p : Reading) → answer_load x p ≡ Idle → p ≡ Idle
    idle_load Idle e = refl
    idle_load (Waiting a) e = let z : ◌≡◌ {A = ℕ} 0 1 = cc in absurd (omega arith)
    idle_load (Answered a y) e = e

    by : (ks : List Open) → (answer x d ks).load ≡ Idle → d.load ≡ Idle
    by [] e = e
    by (Acknowledgment ∷ ks) e = e
    by (ForLoad ∷ ks) e = idle_load d.load e

full_taken : (i : Option ℕ) (q : List ℕ) → AskedFor i q → length q ≤ 4 → 4 ≤ length (pop i q) → i ≡ none
full_taken none q r h n = refl
full_taken (some x) [] r h n = absurd r
full_taken (some x) (g ∷ q) r h n = absurd (omega arith)

-- a store goes out where there is a place for it, and only with a request is one fewer waiting
drain_sends : (d : Storing) (row : List Store) → 0 < length row → length d.opens < 4 → 1 ≤ length (ev_of (drain_one d row).req)
drain_sends d [] h n = absurd (omega arith)
drain_sends d (p ∷ ps) h n = subst (λ (b : Bool). 1 ≤ length (ev_of (drain_if d p ps b).req)) (sym (lt-ltb (length d.opens) 4 n)) (omega arith)

drain_rows : (q : Option Req) (d : Storing) → length d.row ≤ length (drain q d).lsu.row + length (ev_of (drain q d).req)
drain_rows (some r) d = omega arith
drain_rows none d = by d.row refl
  where
    by : (row : List Store) → d.row ≡ row → length d.row ≤ length (drain_one d row).lsu.row + length (ev_of (drain_one d row).req)
    by [] e = omega arith
    by (p ∷ ps) e = sent (ltb (length d.opens) 4)
      where
        sent : (b : Bool) → length d.row ≤ length (drain_if d p ps b).lsu.row + length (ev_of (drain_if d p ps b).req)
        sent true = let n : length d.row ≡ suc (length ps) = ap length e in omega arith
        sent false = omega arith

full_drain : (d : Storing) (row : List Store) → 4 ≤ length d.opens → drain_one d row ≡ record { lsu = d; req = none }
full_drain d [] n = refl
full_drain d (p ∷ ps) n = ap (drain_if d p ps) (le-ltb (length d.opens) 4 n)

module _ (l : ℕ) (k : Model) (i : In) (qc qd : List ℕ) (h : Bounded k qc qd) (t : Bounded (taken k i) qc (pop i.data1 qd))
    (rd : AskedFor i.data1 qd) (waits : to_wait l (taken k i).lsu.load ≡ 0 → decide (taken k i) ≡ Wait) where
  abbrev d : Did
  d = apply (taken k i) (decide (taken k i))

  kept : Stays l (taken k i) d
  kept = stays l (taken k i) (decide (taken k i)) waits

  same_row : length (taken k i).lsu.row ≡ length k.lsu.row
  same_row = ap length (row_taken i.data1 k.lsu)

  abbrev qd' : Option Req → List ℕ
  qd' r = aged i.data1 (age0 r) qd

  abbrev Sends : Option Req → Type 0
  Sends q = length (ev_of (drain q d.core.lsu).req) ≡ 0 → to_wait l (drain q d.core.lsu).lsu.load + left l 0 (qd' (drain q d.core.lsu).req) < to_wait l k.lsu.load + left l 0 qd

  -- no place: then no answer came, and the oldest is older by a clock
  sends_full : d.req ≡ none → 4 ≤ length d.core.lsu.opens → Young l (qd' (drain none d.core.lsu).req) → Sends none
  sends_full e n y z =
      let quiet = subst None (sym e) tt in
      let op = kept.opens quiet in
      let ph = kept.load quiet in
      let dn : i.data1 ≡ none = full_taken i.data1 qd rd h.few_datas (omega (arith, t.opens)) in
      let ls : to_wait l (taken k i).lsu.load ≡ to_wait l k.lsu.load = ap (λ (x : Option ℕ). to_wait l (take_data x k.lsu).load) dn in
      let pq : pop i.data1 qd ≡ qd = ap (λ (x : Option ℕ). pop x qd) dn in
      let fd = full_drain d.core.lsu d.core.lsu.row n in
      let some_open : 0 < length (pop i.data1 qd) = omega (arith, t.opens) in
      let y' = subst (λ (x : Drained). Young l (qd' x.req)) fd y in
      let wf = oldest_falls l (pop i.data1 qd) none (λ z. absurd (omega arith)) y' in
      let wq : left l 0 (pop i.data1 qd) ≡ left l 0 qd = ap (left l 0) pq in
      subst (λ (x : Drained). to_wait l x.lsu.load + left l 0 (qd' x.req) < to_wait l k.lsu.load + left l 0 qd) (sym fd) (omega arith)

  -- the load's own request: then its wait is over
  sends_load : (r : Req) → d.req ≡ some r → Young l (qd' (some r)) → Sends (some r)
  sends_load r e y z =
      let sm = subst Some (sym e) tt in
      let w = kept.asked sm in
      let idle : k.lsu.load ≡ Idle = idle_taken i.data1 k.lsu (asks_when (taken k i) sm) in
      let tw : to_wait l k.lsu.load ≡ l + 2 = ap (to_wait l) idle in
      omega (arith, by_answer i.data1 qd)
    where
      -- a request behind the others does not wait longer than the oldest did, but for a place in the queue
      by_answer : (x : Option ℕ) (q : List ℕ) → left l 0 (aged x (some 0) q) ≤ suc l
      by_answer none [] = omega arith
      by_answer none (g ∷ q) = omega arith
      by_answer (some x) [] = omega arith
      by_answer (some x) (g ∷ []) = omega arith
      by_answer (some x) (g ∷ g' ∷ q) = omega arith

  sends_go : 0 < length k.lsu.row → (q : Option Req) → d.req ≡ q → Young l (qd' (drain q d.core.lsu).req) → Sends q
  sends_go r (some x) e y = sends_load x e y
  sends_go r none e y = by (ltb (length d.core.lsu.opens) 4) refl
    where
      by : (b : Bool) → ltb (length d.core.lsu.opens) 4 ≡ b → Sends none
      by true t z =
          let s = drain_sends d.core.lsu d.core.lsu.row (omega (arith, kept.row, same_row)) (ltb-true (length d.core.lsu.opens) 4 t) in
          absurd (omega arith)
      by false t z = sends_full e (ltb-false (length d.core.lsu.opens) 4 t) y z

  pub store_falls : 0 < length k.lsu.row → Young l (qd' (model_next k i).out.data1) → length (ev_of (model_next k i).out.data1) ≡ 0
      → store_rank l (model_next k i).core (qd' (model_next k i).out.data1) < store_rank l k qd
  store_falls r y z = sends_go r d.req refl y z

  pub rows_kept : length k.lsu.row ≤ length (model_next k i).core.lsu.row + length (ev_of (model_next k i).out.data1)
  rows_kept = omega (arith, kept.row, same_row, drain_rows d.req d.core.lsu)
