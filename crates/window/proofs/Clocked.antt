-- One clock of the machine at a point that it can come to: the states within it, and what each leaves to the next.
use Rattle.std.proofs.Common.{◌≡◌, ℕ, suc, ◌+◌, ◌<◌, ◌≤◌, Bool, true, false, eqb, ltb, List, [], ◌∷◌, ◌++◌, map, length, Some, Option, sym, refl, ap, ◌∙◌, subst, append-nil, arith, ltb-false, ltb-true}
use mathlib.Core.Option.{Option as Opt, some, none}
use lib.ListN.{length-map}
use Rattle.isa.specs.Words.{nth}
use Rattle.isa.specs.Executing.{how}
use Rattle.isa.specs.declared.execute.Outcome.TheVariants.{Halt as Halts}
use Rattle.isa.specs.declared.execute.Stop.{Stop}
use Rattle.pins.specs.Ports.{In, Req}
use Rattle.pins.specs.Outside.{O, Want, Wish, after, ev_of}
use Rattle.pins.specs.View.{view, pop}
use Rattle.pins.specs.Waits.{ages, ages1, aged, age0}
use Rattle.pins.specs.Reach.{clocked, clock_io}
use Rattle.pins.specs.Progress.{Point, around, Clock}
use Rattle.pins.proofs.Settling.{settled_laws}
use Rattle.pins.proofs.Waiting.{wait_laws}
use Rattle.pins.proofs.Invariants.{invariant_laws}
use Rattle.window.specs.declared.entry.Entry.{Entry}
use Rattle.window.specs.declared.entry.Number.{Number}
use Rattle.pins.specs.declared.held.Store.{Store}
use Rattle.pins.specs.declared.held.Reading.TheVariants.{Idle}
use Rattle.window.specs.Entries.{given, number, fresh}
use Rattle.window.specs.Machine.{Core, learn, read_left, read_right, execute, forward, Retired, leave, next_pc, halts_if, halts_outcome, halts_oldest, halted}
use Rattle.window.specs.Clocks.{Move, rest, reads_left, reads_right, executes, forwards, redirects, retires, move, room, request_if, fetch_if, fetch_room, Schedule, State, run_rules, heard, ruled, chosen_port, posted, chosen_fetch, next, shown, machine}
use Rattle.window.proofs.Cases.{opt_cases}
use Rattle.window.proofs.RuleCases.{learn_by, retire_by}
use Rattle.window.proofs.Claims.{each_length}
use Rattle.window.proofs.RetireKept.{idle_device}
use Rattle.window.proofs.Counted.{Few, retags_length}
use Rattle.window.proofs.AlwaysRight.{InvWhole, invariant}
use Rattle.window.proofs.Marks.{Young, pop_length}
use Rattle.window.proofs.Slots.{Falling, frees, frees_used, frees_full, frees_le, falling_outside, falling_after}
use Rattle.window.proofs.Taken.{Took, took}
use Rattle.window.proofs.Fed.{SameWindow, port_window}
use Rattle.window.proofs.AtPort.{LeftOver, left_over}

-- stores only wait longer by the rules, and as many requests are open
pub record Kept (k j : Core) : Type 0 where
  pub stores : length k.stores ≤ length j.stores
  pub requests : length j.requests ≡ length k.requests

kept_same : (k : Core) → Kept k k
kept_same k = record { stores = omega arith; requests = refl }

learn_keeps : (f : Core → ℕ → Entry → Option Entry) (n : ℕ) (k : Core) → Kept k (learn f n k)
learn_keeps f n k = learn_by (Kept k) f n k (kept_same k) (λ e d at ed. record { stores = omega arith; requests = refl })

leave_keeps : (k : Core) (es : List Entry) (gs : List ℕ) (b : ℕ) (ps : List Store) (x : Bool) → length k.stores ≤ length ps → Kept k (leave k es gs b ps x)
leave_keeps k es gs b ps true h = record { stores = h; requests = retags_length _ k.requests }
leave_keeps k es gs b ps false h = record { stores = h; requests = retags_length _ k.requests }

move_keeps : (x : Move) (k : Core) → Kept k (move x k).core
move_keeps rest k = kept_same k
move_keeps (reads_left n) k = learn_keeps read_left n k
move_keeps (reads_right n) k = learn_keeps read_right n k
move_keeps (executes n) k = learn_keeps execute n k
move_keeps (forwards n) k = learn_keeps forward n k
move_keeps (redirects n g) k =
    opt_cases (Kept k) (nth k.window n) (λ _. kept_same k) (λ e _. record { stores = omega arith; requests = retags_length _ k.requests })
move_keeps retires k =
    retire_by (λ (d : Retired). Kept k d.core) k (kept_same k) (λ e es gs b ps t f. leave_keeps k es gs b ps (eqb b e.predicted) f.more)

rules_keep : {T : Type 0} (rs : List (T → Core → Move × T)) (t : T) (k : Core) → Kept k (run_rules rs t k).core
rules_keep [] t k = kept_same k
rules_keep (r ∷ rs) t k =
    let p = move_keeps (r t k).0 k in
    let q = rules_keep rs (r t k).1 (move (r t k).0 k).core in
    let u = p.stores in
    let w = q.stores in
    record { stores = omega arith; requests = q.requests ∙ p.requests }

-- wanting code leaves all else
pub record Also (k j : Core) : Type 0 where
  pub stores : j.stores ≡ k.stores
  pub requests : j.requests ≡ k.requests
  pub device : j.device ≡ k.device
  pub more : List Entry
  pub window : j.window ≡ k.window ++ more
  pub wants : List (Option Number)
  pub fetches : j.fetches ≡ k.fetches ++ wants

also_same : (k : Core) → Also k k
also_same k = record {
  stores = refl;
  requests = refl;
  device = refl;
  more = [];
  window = sym (append-nil k.window);
  wants = [];
  fetches = sym (append-nil k.fetches);
}

pub also : (b : Bool) (g : Opt ℕ) (k : Core) → Also k (fetch_if b g k).core
also true none k = also_same k
also false none k = also_same k
also false (some g) k = also_same k
also true (some g) k = record {
  stores = refl;
  requests = refl;
  device = refl;
  more = fresh (next_pc k) g ∷ [];
  window = refl;
  wants = Some (number (length k.window)) ∷ [];
  fetches = refl;
}

-- with four open after the answers none was answered
pub full : {A : Type 0} (i : Opt ℕ) (ts : List A) → length ts ≤ 4 → ltb (length (pop i ts)) 4 ≡ false → (i ≡ none) × (length ts ≡ 4)
full none ts f e = let z = ltb-false (length ts) 4 e in (refl, omega arith)
full (some x) [] f e = let z = ltb-false 0 4 e in absurd (omega arith)
full (some x) (t ∷ ts) f e = let z = ltb-false (length ts) 4 e in absurd (omega arith)

nil_of : {A : Type 0} (xs : List A) → length xs ≡ 0 → xs ≡ []
nil_of [] q = refl
nil_of (x ∷ xs) q = absurd (omega arith)

halted_is : (k : Core) (e : Entry) (es : List Entry) (h : Stop) → k.window ≡ e ∷ es → e.outcome ≡ Some (Halts h) → k.stores ≡ [] → k.device ≡ Idle
    → halted k ≡ some (how h)
halted_is k e es h w o st d =
    ap (halts_oldest k) w ∙ ap (λ q. given q none (halts_outcome k)) o ∙ (λ i. halts_if (st i) (d i) (how h))

module _ {T : Type 0} (s : Schedule T) {l : ℕ} (p : Point (machine s) l) where
  pub holds : InvWhole p.code p.mem p.start p.state.core (view p.mem p.hist)
  holds = (invariant_laws (invariant s)).holds p.reach

  pub requests_aged : length p.state.core.requests ≡ length (ages1 (around p).datas)
  requests_aged =
      let v = view p.mem p.hist in
      each_length holds.inv.held.datas ∙ settled_laws.number v
      ∙ length-map (around p).datas (λ (w : Wish). w.req) ∙ sym (length-map (around p).datas (λ (w : Wish). w.age))

  pub fetches_aged : length p.state.core.fetches ≡ length (ages (around p).codes)
  fetches_aged =
      each_length holds.inv.held.codes
      ∙ length-map (around p).codes (λ (w : Want). w.addr) ∙ sym (length-map (around p).codes (λ (w : Want). w.age))

module _ {T : Type 0} (s : Schedule T) {l : ℕ} (x : Clock (machine s) l) where
  abbrev pub before : State T
  before = x.at.state

  abbrev pub ins : In
  ins = x.answers

  abbrev pub old : O
  old = around x.at

  abbrev pub new : O
  new = after old (clock_io (machine s) before ins)

  -- the core before the clock, after the answers, after the rules, after the request, after it
  abbrev pub k0 : Core
  k0 = before.core

  abbrev pub k1 : Core
  k1 = heard s before ins

  abbrev pub k2 : Core
  k2 = (ruled s before ins).core

  abbrev pub k3 : Core
  k3 = (posted s before ins).core

  abbrev pub k4 : Core
  k4 = (next s before ins).core

  abbrev pub asked : Opt Req
  asked = (posted s before ins).req

  -- ages of the requests
  abbrev pub q0 : List ℕ
  q0 = ages1 old.datas

  abbrev pub q1 : List ℕ
  q1 = ages1 new.datas

  pub requests_later : q1 ≡ aged ins.data1 (age0 asked) q0
  requests_later = wait_laws.datas_aged old (clock_io (machine s) before ins)

  pub codes_later : ages new.codes ≡ aged ins.code (age0 (shown s before ins).code) (ages old.codes)
  codes_later = wait_laws.codes_aged old (clock_io (machine s) before ins)

  pub young0 : Young l q0
  young0 = wait_laws.datas_young l old.datas x.at.calm.1

  pub young1 : Young l q1
  young1 = wait_laws.datas_young l new.datas x.calm.1

  pub codes_young1 : Young l (ages new.codes)
  codes_young1 = wait_laws.codes_young l new.codes x.calm.0

  pub falling0 : Falling q0
  falling0 = falling_outside x.at.mem x.at.hist

  pub falling1 : Falling q1
  falling1 = falling_after old (clock_io (machine s) before ins) falling0

  pub few0 : Few k0
  few0 = (holds s x.at).few

  -- the invariant after it
  pub later : InvWhole x.at.code x.at.mem x.at.start k4 (view x.at.mem (x.at.hist ++ (clock_io (machine s) before ins ∷ [])))
  later = (invariant_laws (invariant s)).holds (clocked ins x.at.reach x.allowed)

  pub took1 : Took ins k0 k1
  took1 = took ins k0

  pub kept2 : Kept k1 k2
  kept2 = rules_keep s.rules (s.hears ins before.tables k0) k1

  pub window3 : SameWindow k2 k3
  window3 = port_window (room k2) (chosen_port s before ins) k2

  pub left3 : LeftOver k2 (posted s before ins)
  left3 = left_over (room k2) (chosen_port s before ins) k2

  pub also4 : Also k3 k4
  also4 = also (fetch_room k3) (chosen_fetch s before ins) k3

  pub stores2 : length k0.stores ≤ length k2.stores
  stores2 = let u = kept2.stores in let w = ap length took1.stores in omega arith

  pub stores4 : length k0.stores ≤ length k4.stores + length (ev_of asked)
  stores4 = let u = stores2 in let w = left3.stores in let y = ap length also4.stores in omega arith

  pub requests2 : length k2.requests ≡ length (pop ins.data1 k0.requests)
  requests2 = kept2.requests ∙ ap length took1.requests

  -- with room at the port, one time fewer that it must be free; without room, all that is open gets older
  pub one_use : room k2 ≡ true → (u w : ℕ) → u < w → frees l u q1 < frees l w q0
  one_use e u w h =
      let n = ltb-true (length k2.requests) 4 e in
      let pl = pop_length ins.data1 k0.requests q0 (requests_aged s x.at) in
      let r2 = requests2 in
      let fw = few0.requests in
      let l0 = requests_aged s x.at in
      let f : frees l u q1 < frees l (suc u) q0 =
      subst (λ z. frees l u z < frees l (suc u) q0) (sym requests_later) (frees_used l u ins.data1 (age0 asked) q0 (omega arith) (omega arith) falling0 young0) in
      let g = frees_le l (suc u) w q0 h falling0 young0 in
      omega arith

  pub no_room : room k2 ≡ false → asked ≡ none
  no_room e = ap (λ b. (request_if b (chosen_port s before ins) k2).req) e

  pub older : room k2 ≡ false → (u w : ℕ) → u ≤ w → frees l u q1 < frees l w q0
  older e u w h =
      let f = full ins.data1 k0.requests few0.requests (subst (λ z. ltb z 4 ≡ false) requests2 e) in
      let qe : q1 ≡ map (λ n. n + 1) q0 = requests_later ∙ (λ i. aged (f.0 i) (age0 (no_room e i)) q0) in
      let a : frees l w q1 < frees l w q0 =
      subst (λ z. frees l w z < frees l w q0) (sym qe) (frees_full l w q0 (sym (requests_aged s x.at) ∙ f.1) (subst (Young l) qe young1)) in
      let b = frees_le l u w q1 h falling1 young1 in
      omega arith

  -- the oldest after the rules is the oldest at the end
  pub window4 : (d : Entry) (ds : List Entry) → k2.window ≡ d ∷ ds → k4.window ≡ d ∷ (ds ++ also4.more)
  window4 d ds w = also4.window ∙ ap (λ (es : List Entry). es ++ also4.more) (window3.window ∙ w)

  -- where it halts with no store waiting, the core has stopped
  pub halts4 : (d : Entry) (ds : List Entry) (h : Stop) → k2.window ≡ d ∷ ds → d.outcome ≡ Some (Halts h) → k2.stores ≡ [] → halted k4 ≡ some (how h)
  halts4 d ds h w o e =
      let less = left3.less in
      let same = ap length also4.stores in
      let none2 : length k2.stores ≡ 0 = ap length e in
      let idle = idle_device x.at.code x.at.mem x.at.start k4 _ later.inv d (ds ++ also4.more) (window4 d ds w) (Halts h) o tt in
      halted_is k4 d (ds ++ also4.more) h (window4 d ds w) o (nil_of k4.stores (omega arith)) idle
