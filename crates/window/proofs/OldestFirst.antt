-- A schedule that puts the oldest first is fair, whatever the others do and whatever is predicted.
use Rattle.std.proofs.Common.{◌≡◌, ℕ, ◌/◌, ◌<◌, ◌≤◌, Bool, true, false, ◌&&◌, ltb, ◌⊎◌, List, [], ◌∷◌, ◌++◌, map, length, Some, None, Option, sym, refl, ap, ◌∙◌, subst, inl, inr, arith}
use mathlib.Core.Option.{some, none}
use Rattle.isa.specs.Words.{pick}
use Rattle.isa.specs.Manual.{device}
use Rattle.isa.specs.declared.execute.Outcome.{Outcome}
use Rattle.isa.specs.declared.execute.Outcome.TheVariants.{Write as Writes, Jump as Jumps, Load as Loads, Store as Stores, Halt as Halts}
use Rattle.pins.specs.Ports.{In}
use Rattle.window.specs.declared.entry.Entry.{Entry}
use Rattle.pins.specs.declared.held.Store.{Store}
use Rattle.pins.specs.declared.held.Reading.{Reading}
use Rattle.pins.specs.declared.held.Reading.TheVariants.{Idle, Waiting, Answered}
use Rattle.window.specs.declared.entry.Source.TheVariants.{Memory}
use Rattle.window.specs.Entries.{given}
use Rattle.window.specs.Newest.{row_source}
use Rattle.window.specs.Machine.{Core, learn, forward, retire}
use Rattle.window.specs.Clocks.{Move, forwards, move, Port, leaves, loads, drains, asks_device, room, State, run_rules, heard, ruled, chosen_port, posted, port_tables, chosen_fetch, next}
use Rattle.window.specs.Fairness.{has, load_open, is_idle, needs_drain, Served, FairClock}
use Rattle.window.specs.OldestFirst.{Policy, stores_first, take_turns, load_port, device_port, outcome_port, oldest_port, port_of, no_store, always, lifted, first_rules, oldest_first, OldestFirstFair}
use Rattle.window.proofs.Cases.{clash, some_not_none}
use Rattle.window.proofs.RuleCases.{learn_by}
use Rattle.window.proofs.Onward.{Onward, not_yet, rules_onward, retire_rest, head_grown, head_more, nil_left, nil_right}
use Rattle.window.proofs.Taken.{Took, took}
use Rattle.window.proofs.OldestReady.{needs, needs_less, head_needs, head_most, next_needs, three, Gains, gains, not_forwarded, not_ready, not_ready_before, uses_left, uses_most, rules_core, rules_rets}

-- the port, by the oldest's outcome
port_at : (t : Bool) (k : Core) (y : Port) (e : Entry) (es : List Entry) (o : Outcome) → k.window ≡ e ∷ es → e.outcome ≡ Some o → port_of t k y ≡ outcome_port t k e y o
port_at t k y e es o we eo = ap (oldest_port t k y) we ∙ ap (λ q. given q (stores_first k.stores y) (outcome_port t k e y)) eo

stores_go : (ps : List Store) (y : Port) → 0 < length ps → stores_first ps y ≡ drains
stores_go [] y h = absurd (omega arith)
stores_go (p ∷ ps) y h = refl

device_stores : (q : Reading) (ps : List Store) (y : Port) → 0 < length ps → device_port q ps y ≡ drains
device_stores Idle [] y h = absurd (omega arith)
device_stores Idle (p ∷ ps) y h = refl
device_stores (Waiting b) ps y h = stores_go ps y h
device_stores (Answered b x) ps y h = stores_go ps y h

-- with stores waiting one goes, unless it is the oldest's turn
turn_of : (t : Bool) (k : Core) (y : Port) → 0 < length k.stores → (port_of t k y ≡ drains) ⊎ (t ≡ false)
turn_of t k y h = by k.window
  where
    turns : (t : Bool) (ps : List Store) → 0 < length ps → (take_turns t ps ≡ drains) ⊎ (t ≡ false)
    turns t [] h = absurd (omega arith)
    turns true (p ∷ ps) h = inl refl
    turns false (p ∷ ps) h = inr refl

    load : (g : Option ℕ) (b : Bool) → (load_port t g b k.stores y ≡ drains) ⊎ (t ≡ false)
    load (Some x) b = inl (stores_go k.stores y h)
    load None true = inl (stores_go k.stores y h)
    load None false = turns t k.stores h

    loading : (e : Entry) (b : Bool) → (pick b (device_port k.device k.stores y) (load_port t e.loaded (load_open 0 k) k.stores y) ≡ drains) ⊎ (t ≡ false)
    loading e true = inl (device_stores k.device k.stores y h)
    loading e false = load e.loaded (load_open 0 k)

    outcome : (e : Entry) (o : Outcome) → (outcome_port t k e y o ≡ drains) ⊎ (t ≡ false)
    outcome e (Writes r x b) = inl (stores_go k.stores y h)
    outcome e (Jumps b) = inl (stores_go k.stores y h)
    outcome e (Loads r b) = loading e (device b)
    outcome e (Stores b x) = inl (stores_go k.stores y h)
    outcome e (Halts s) = inl (stores_go k.stores y h)

    known : (e : Entry) (o : Option Outcome) → (given o (stores_first k.stores y) (outcome_port t k e y) ≡ drains) ⊎ (t ≡ false)
    known e None = inl (stores_go k.stores y h)
    known e (Some o) = outcome e o

    by : (es : List Entry) → (oldest_port t k y es ≡ drains) ⊎ (t ≡ false)
    by [] = inl (stores_go k.stores y h)
    by (e ∷ es) = known e e.outcome

-- the oldest's load is asked for, unless a store goes
asks_load : (t : Bool) (ps : List Store) (y : Port) (g : Option ℕ) (b : Bool) → g ≡ None → b ≡ false
    → (load_port t g b ps y ≡ loads 0) ⊎ ((load_port t g b ps y ≡ drains) × (0 < length ps))
asks_load t ps y (Some x) b q r = some_not_none refl q
asks_load t ps y None true q r = clash refl r
asks_load t [] y None false q r = inl refl
asks_load true (p ∷ ps) y None false q r = inr (refl, omega arith)
asks_load false (p ∷ ps) y None false q r = inl refl

-- stores go where the oldest waits for them
drains_for : (t : Bool) (k : Core) (e : Entry) (y : Port) (o : Outcome) → needs_drain k o ≡ true → 0 < length k.stores → outcome_port t k e y o ≡ drains
drains_for t k e y (Writes r x b) n h = clash n refl
drains_for t k e y (Jumps b) n h = clash n refl
drains_for t k e y (Loads r b) n h = by (device b) n
  where
    by : (d : Bool) → d && is_idle k.device ≡ true → pick d (device_port k.device k.stores y) (load_port t e.loaded (load_open 0 k) k.stores y) ≡ drains
    by true n = device_stores k.device k.stores y h
    by false n = clash n refl
drains_for t k e y (Stores b x) n h = stores_go k.stores y h
drains_for t k e y (Halts s) n h = stores_go k.stores y h

no_pick : {A : Type 0} (b : Bool) (x y : A) → b ≡ true → pick b x y ≡ x
no_pick b x y e = ap (λ b. pick b x y) e

-- the others leave whose turn it is
turn_kept : {U : Type 0} (p : Policy U) (x : Move) (rs : List (U → Core → Move × U)) (t : Bool × U) (k : Core)
    → (run_rules (map (lifted p) rs ++ (always p x ∷ [])) t k).tables.0 ≡ t.0
turn_kept p x [] t k = refl
turn_kept p x (r ∷ rs) t k = turn_kept p x rs (lifted p r t k).1 (move (lifted p r t k).0 k).core

module _ {U : Type 0} (p : Policy U) (size : ltb 0 p.size ≡ true) (z : State (Bool × U)) (i : In) where
  abbrev k0 : Core
  k0 = z.core

  abbrev k1 : Core
  k1 = heard (oldest_first p) z i

  abbrev k2 : Core
  k2 = (ruled (oldest_first p) z i).core

  abbrev t1 : Bool × U
  t1 = (oldest_first p).hears i z.tables z.core

  -- before the last rule
  abbrev kb : Core
  kb = (run_rules (first_rules p) t1 k1).core

  last_is : k2 ≡ learn forward 0 kb
  last_is = rules_core (first_rules p) _ t1 k1

  abbrev young : Port
  young = (p.young (ruled (oldest_first p) z i).tables.1 k2).0

  abbrev turn : Bool
  turn = (ruled (oldest_first p) z i).tables.0

  took1 : Took i k0 k1
  took1 = took i k0

  module _ (quiet : (ruled (oldest_first p) z i).rets ≡ []) where
    quiet_first : (run_rules (first_rules p) t1 k1).rets ≡ []
    quiet_first = nil_left _ _ (sym (rules_rets (first_rules p) _ t1 k1) ∙ quiet)

    none_retired1 : (retire k1).rets ≡ []
    none_retired1 = nil_left (retire k1).rets _ quiet_first

    on_first : Onward k1 kb
    on_first = rules_onward (first_rules p) t1 k1 quiet_first

    on : Onward k1 k2
    on = rules_onward (oldest_first p).rules t1 k1 quiet

    -- the rules after those of the oldest
    abbrev rest_rules : List ((Bool × U) → Core → Move × (Bool × U))
    rest_rules = map (lifted p) p.others ++ (always p (forwards 0) ∷ [])

    quiet_rest : (run_rules rest_rules t1 (three (retire k1).core)).rets ≡ []
    quiet_rest = nil_right (retire k1).rets (run_rules rest_rules t1 (three (retire k1).core)).rets quiet

    on_rest : Onward (three (retire k1).core) k2
    on_rest = rules_onward rest_rules t1 (three (retire k1).core) quiet_rest

    -- with its word, the oldest has less to learn
    works : (e : Entry) (es : List Entry) → k0.window ≡ e ∷ es → has e.word ≡ true → (d : Entry) (ds : List Entry) → k2.window ≡ d ∷ ds → d.outcome ≡ None
        → head_needs (next (oldest_first p) z i).core.window < head_needs k0.window
    works e es w0 hw d ds w2 od =
        let a = head_grown k0.window k1.window e es w0 took1.window in
        let n1 = learns a.head a.tail a.is (a.more.word hw) (not_yet a.head d (head_more k1.window k2.window a.head d a.tail ds a.is w2 on.window) od) in
        let n2 = needs_less e a.head a.more in
        let h4 = next_needs (oldest_first p) z i d ds w2 in
        let h0 = ap head_needs w0 in
        omega arith
      where
        -- by one of the rules after the first
        learns : (e1 : Entry) (es1 : List Entry) → k1.window ≡ e1 ∷ es1 → has e1.word ≡ true → e1.outcome ≡ None → needs d < needs e1
        learns e1 es1 w1 hw eo =
            let g = subst (λ j. Gains (three j) e1) (sym (retire_rest k1 none_retired1)) (gains k1 e1 es1 w1 hw eo) in
            let n1 = needs_less g.head d (head_more (three (retire k1).core).window k2.window g.head d g.tail ds g.window w2 on_rest.window) in
            let n2 = g.less in
            omega arith

    served : (e : Entry) (es : List Entry) → k0.window ≡ e ∷ es → (o : Outcome) → e.outcome ≡ Some o → (d : Entry) (ds : List Entry) → k2.window ≡ d ∷ ds → d.outcome ≡ Some o
        → Served k0 k2 e d o (chosen_port (oldest_first p) z i)
    served e es w0 o eo d ds w2 od =
        let a = head_grown k0.window k1.window e es w0 took1.window in
        let o1 = a.more.outcome o eo in
        let b = head_grown k1.window kb.window a.head a.tail a.is on_first.window in
        let at = port_at turn k2 young d ds o w2 od in
        record {
          retires = not_ready_before i k0 e a.head a.more o (not_ready k1 a.head a.tail o a.is o1 none_retired1);
          loads = λ r c q dv dl no.
              let wb : (learn forward 0 kb).window ≡ d ∷ ds = ap (λ (j : Core). j.window) (sym last_is) ∙ w2 in
              let so = not_forwarded kb b.head b.tail r c b.is (b.more.outcome o o1 ∙ ap Some q) dv d ds wb dl in
              let st : k2.stores ≡ kb.stores = ap (λ (j : Core). j.stores) last_is ∙ learn_by (λ (j : Core). j.stores ≡ kb.stores) forward 0 kb refl (λ x y ax xy. refl) in
              let pt : chosen_port (oldest_first p) z i ≡ load_port turn d.loaded (load_open 0 k2) k2.stores young =
              at ∙ ap (outcome_port turn k2 d young) q ∙ ap (λ t. pick t (device_port k2.device k2.stores young) (load_port turn d.loaded (load_open 0 k2) k2.stores young)) dv in (
                ap (row_source (c / 4) Memory) st ∙ so,
                subst (λ y. (y ≡ loads 0) ⊎ ((y ≡ drains) × (0 < length k2.stores))) (sym pt) (asks_load turn k2.stores young d.loaded (load_open 0 k2) dl no),
              );
          reads = λ r c q dv di st.
              at ∙ ap (outcome_port turn k2 d young) q ∙ ap (λ t. pick t (device_port k2.device k2.stores young) (load_port turn d.loaded (load_open 0 k2) k2.stores young)) dv
              ∙ (λ j. device_port (di j) (st j) young);
          drains = λ n h. at ∙ drains_for turn k2 d young o n h;
        }

  -- the stores' turn
  abbrev later_turn : Bool
  later_turn = (next (oldest_first p) z i).tables.0

  took_turn : 0 < length k2.stores → room k2 ≡ true → (chosen_port (oldest_first p) z i ≡ drains) ⊎ ((turn ≡ false) × (later_turn ≡ true))
  took_turn n r = by (chosen_port (oldest_first p) z i) refl (turn_of turn k2 young n)
    where
      sets : (q : Port) → chosen_port (oldest_first p) z i ≡ q → no_store q ≡ true → later_turn ≡ true
      sets q e h = no_pick (room k2) (no_store (chosen_port (oldest_first p) z i)) turn r ∙ ap no_store e ∙ h

      by : (q : Port) → chosen_port (oldest_first p) z i ≡ q → (chosen_port (oldest_first p) z i ≡ drains) ⊎ (turn ≡ false)
          → (chosen_port (oldest_first p) z i ≡ drains) ⊎ ((turn ≡ false) × (later_turn ≡ true))
      by q e (inl d) = inl d
      by leaves e (inr t) = inr (t, sets leaves e refl)
      by (loads n) e (inr t) = inr (t, sets (loads n) e refl)
      by drains e (inr t) = inl e
      by asks_device e (inr t) = inr (t, sets asks_device e refl)

  same_turn : turn ≡ z.tables.0
  same_turn = turn_kept p (forwards 0) p.others t1 _

  fair_turn : 0 < length k2.stores → room k2 ≡ true → (chosen_port (oldest_first p) z i ≡ drains) ⊎ (uses_left later_turn < uses_left z.tables.0)
  fair_turn n r = by (took_turn n r)
    where
      by : (chosen_port (oldest_first p) z i ≡ drains) ⊎ ((turn ≡ false) × (later_turn ≡ true))
          → (chosen_port (oldest_first p) z i ≡ drains) ⊎ (uses_left later_turn < uses_left z.tables.0)
      by (inl d) = inl d
      by (inr (t, l)) = let a = ap uses_left (sym same_turn ∙ t) in let b = ap uses_left l in inr (omega arith)

  turn_stays : room k2 ≡ false → uses_left later_turn ≤ uses_left z.tables.0
  turn_stays r = let a = ap uses_left (ap (λ b. pick b (no_store (chosen_port (oldest_first p) z i)) turn) r ∙ same_turn) in omega arith

  fetches : (posted (oldest_first p) z i).core.window ≡ [] → (g : ℕ) × (chosen_fetch (oldest_first p) z i ≡ some g)
  fetches w =
      let g = (p.predicts (port_tables (oldest_first p) z i).1 (posted (oldest_first p) z i).core).0 in
      (g, ap (λ (es : List Entry). pick (ltb (length es) p.size) (some g) none) w ∙ no_pick (ltb 0 p.size) (some g) none size)

  fair_clock : FairClock (oldest_first p) (λ y. head_needs y.core.window) (λ y. 0) (λ y. uses_left y.tables.0) z i
  fair_clock = record {
    works = λ q e es w0 hw eo d ds w2 od. works q e es w0 hw d ds w2 od;
    serves = λ q e es w0 o eo d ds w2 od. inr (omega arith, served q e es w0 o eo d ds w2 od);
    fetches = λ _ w. fetches w;
    turn = fair_turn;
    turn_kept = turn_stays;
  }

pub oldest_first_fair : (U : Type 0) → OldestFirstFair U
oldest_first_fair U p size = record {
  work = λ z. head_needs z.core.window;
  late = λ z. 0;
  turns = λ z. uses_left z.tables.0;
  work_most = λ z. head_most z.core.window;
  late_most = λ z. omega arith;
  turns_most = λ z. uses_most z.tables.0;
  clocks = λ c m a h z i _ _. fair_clock p size z i;
}
