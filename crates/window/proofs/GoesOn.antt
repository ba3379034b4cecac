-- Every core with a window and a fair schedule goes on.
use Rattle.std.proofs.Common.{◌≡◌, ℕ, ◌+◌, ◌*◌, ◌<◌, ◌≤◌, ◌⊎◌, List, [], ◌∷◌, ◌++◌, length, Some, None, Option, sym, refl, ap, ◌∙◌, inl, inr, arith}
use mathlib.Core.Option.{Option as Opt, some, none}
use Rattle.isa.specs.Manual.{Ret}
use Rattle.isa.specs.Executing.{how}
use Rattle.isa.specs.declared.execute.Outcome.{Outcome}
use Rattle.isa.specs.declared.execute.Outcome.TheVariants.{Write as Writes, Jump as Jumps, Load as Loads, Store as Stores, Halt as Halts}
use Rattle.isa.specs.declared.execute.Stop.{Stop}
use Rattle.pins.specs.Outside.{O, stopped}
use Rattle.pins.specs.Waits.{ages, ages1}
use Rattle.pins.specs.Progress.{Point, around, Clock, Retires}
use Rattle.pins.specs.Progress as progress
use Rattle.pins.proofs.Waiting.{wait_laws}
use Rattle.pins.proofs.Progressing.{progress_laws}
use Rattle.window.specs.declared.entry.Entry.{Entry}
use Rattle.pins.specs.declared.held.Store.{Store}
use Rattle.window.specs.Entries.{given}
use Rattle.window.specs.Machine.{Core, none_retired, retire_outcome, retire_oldest, halts_if, halts_outcome, halts_oldest, halted}
use Rattle.window.specs.Clocks.{Move, rest, reads_left, reads_right, executes, forwards, redirects, retires, move, Schedule, State, run_rules, machine}
use Rattle.window.specs.Fairness.{Fair, WindowGoesOn}
use Rattle.window.proofs.Cases.{some_none}
use Rattle.window.proofs.Slots.{frees, frees_least, frees_le, frees_16, frees_1, falling_outside}
use Rattle.window.proofs.Onward.{move_onward, rules_onward, head_grown}
use Rattle.window.proofs.Rank.{load_age, device_age, code_age, port_wait, core_rank, window_most}
use Rattle.window.proofs.Clocked.{holds, k0, k1, k2, k4, took1, halts4}
use Rattle.window.proofs.Falls.{falls}
use Rattle.window.proofs.StoresOut.{owed, store_rank, drains_fair}

-- it has stopped: the oldest halts, and no store waits
pub record Halting (k : Core) : Type 0 where
  pub head : Entry
  pub tail : List Entry
  pub stop : Stop
  pub window : k.window ≡ head ∷ tail
  pub outcome : head.outcome ≡ Some (Halts stop)
  pub stores : k.stores ≡ []

halting : (k : Core) (n : ℕ) → halted k ≡ some n → Halting k
halting k n h = by k.window refl h
  where
    no : {A : Type 0} → ◌≡◌ {A = Opt ℕ} none (some n) → A
    no q = some_none q refl

    empty : (e : Entry) (es : List Entry) (j : Stop) → k.window ≡ e ∷ es → e.outcome ≡ Some (Halts j) → (ps : List Store) → k.stores ≡ ps
        → halts_if ps k.device (how j) ≡ some n → Halting k
    empty e es j we eo [] es0 h = record { head = e; tail = es; stop = j; window = we; outcome = eo; stores = es0 }
    empty e es j we eo (p ∷ ps) es0 h = no h

    at : (e : Entry) (es : List Entry) → k.window ≡ e ∷ es → (o : Outcome) → e.outcome ≡ Some o → halts_outcome k o ≡ some n → Halting k
    at e es we (Writes d x b) eo h = no h
    at e es we (Jumps b) eo h = no h
    at e es we (Loads d b) eo h = no h
    at e es we (Stores b x) eo h = no h
    at e es we (Halts j) eo h = empty e es j we eo k.stores refl h

    known : (e : Entry) (es : List Entry) → k.window ≡ e ∷ es → (o : Option Outcome) → e.outcome ≡ o → given o none (halts_outcome k) ≡ some n → Halting k
    known e es we None eo h = no h
    known e es we (Some o) eo h = at e es we o eo h

    by : (es : List Entry) → k.window ≡ es → halts_oldest k es ≡ some n → Halting k
    by [] we h = no h
    by (e ∷ es) we h = known e es we e.outcome refl h

-- an oldest that halts is not retired
move_halting : (x : Move) (k : Core) (e : Entry) (es : List Entry) (j : Stop) → k.window ≡ e ∷ es → e.outcome ≡ Some (Halts j) → (move x k).rets ≡ []
move_halting rest k e es j we eo = refl
move_halting (reads_left n) k e es j we eo = refl
move_halting (reads_right n) k e es j we eo = refl
move_halting (executes n) k e es j we eo = refl
move_halting (forwards n) k e es j we eo = refl
move_halting (redirects n g) k e es j we eo = refl
move_halting retires k e es j we eo =
    ap (λ (w : List Entry). (retire_oldest k w).rets) we ∙ ap (λ (o : Option Outcome). (given o (none_retired k) (retire_outcome k e es)).rets) eo

rules_halting : {T : Type 0} (rs : List (T → Core → Move × T)) (t : T) (k : Core) (e : Entry) (es : List Entry) (j : Stop) → k.window ≡ e ∷ es
    → e.outcome ≡ Some (Halts j) → (run_rules rs t k).rets ≡ []
rules_halting [] t k e es j we eo = refl
rules_halting (r ∷ rs) t k e es j we eo =
    let x = (r t k).0 in
    let n = move_halting x k e es j we eo in
    let d = head_grown k.window (move x k).core.window e es we (move_onward x k n).window in
    ap (λ (ts : List Ret). ts ++ (run_rules rs (r t k).1 (move x k).core).rets) n
    ∙ rules_halting rs (r t k).1 (move x k).core d.head d.tail j d.is (d.more.outcome (Halts j) eo)

module _ {T : Type 0} (s : Schedule T) (f : Fair s) where
  abbrev rank : ℕ → State T → O → ℕ
  rank l z o = core_rank l (f.work z) (f.late z) z.core o

  bounded : {l : ℕ} (p : Point (machine s) l) → rank l p.state (around p) ≤ 63 + 16 * l
  bounded {l} p =
      let k = p.state.core in
      let q = ages1 (around p).datas in
      let few = (holds s p).few.stores in
      let late = f.late_most p.state in
      let n = length k.stores + f.late p.state in
      let a = frees_le l n 15 q (omega arith) (falling_outside p.mem p.hist) (wait_laws.datas_young l (around p).datas p.calm.1) in
      let b = frees_16 l q in
      let c = frees_least l n q in
      window_most l (f.work p.state) (f.late p.state) (port_wait l (f.late p.state) k (around p)) k.window k.device
      (load_age k (around p)) (device_age k (around p)) (code_age k (around p)) (frees l 0 (ages (around p).codes))
      (f.work_most p.state) (omega arith) (omega arith) (frees_1 l (ages (around p).codes))

  rank_falls : {l : ℕ} (x : Clock (machine s) l) → (progress.shown x).rets ≡ [] → (progress.shown x).stopped ≡ none
      → rank l (progress.next_state x) (progress.next_around x) < rank l x.at.state (around x.at)
  rank_falls {l} x quiet going = by (falls s f x quiet)
    where
      by : ((j : ℕ) × (halted (k4 s x) ≡ some j)) ⊎ (rank l (progress.next_state x) (progress.next_around x) < rank l x.at.state (around x.at))
          → rank l (progress.next_state x) (progress.next_around x) < rank l x.at.state (around x.at)
      by (inl (j, h)) = some_none h going
      by (inr h) = h

  -- once stopped it stays so
  stop_stays : {l : ℕ} (x : Clock (machine s) l) (j : ℕ) → stopped x.at.hist ≡ some j → (n : ℕ) × ((progress.shown x).stopped ≡ some n)
  stop_stays x j e =
      let h = halting (k0 s x) j (sym (holds s x.at).halt ∙ e) in
      let a = head_grown (k0 s x).window (k1 s x).window h.head h.tail h.window (took1 s x).window in
      let o1 = a.more.outcome (Halts h.stop) h.outcome in
      let quiet = rules_halting s.rules (s.hears x.answers x.at.state.tables (k0 s x)) (k1 s x) a.head a.tail h.stop a.is o1 in
      let on = rules_onward s.rules (s.hears x.answers x.at.state.tables (k0 s x)) (k1 s x) quiet in
      let b = head_grown (k1 s x).window (k2 s x).window a.head a.tail a.is on.window in
      (how h.stop, halts4 s x b.head b.tail h.stop b.is (b.more.outcome (Halts h.stop) o1) (on.stores ∙ (took1 s x).stores ∙ h.stores))

  retires_fair : Retires (machine s) rank
  retires_fair = record { bounded = λ p. bounded p; falls = λ x u w. rank_falls x u w; stays = λ x j e. stop_stays x j e }

pub window_goes_on : (T : Type 0) → WindowGoesOn T
window_goes_on T s f decode =
    (progress_laws (State T)).goes_on (machine s) decode (rank s f) (owed s f) (store_rank s f) (retires_fair s f) (drains_fair s f)
