-- What is open, wanted and waiting is bounded: at most four, four and eight.
use Rattle.std.proofs.Common.{◌≡◌, ℕ, suc, ◌≤◌, Bool, true, false, eqb, List, [], ◌∷◌, length, Some, None, Option, refl, ap, arith, length-append, ltb-true}
use mathlib.Core.Option.{Option as Opt, some, none}
use Rattle.isa.specs.Words.{nth}
use Rattle.pins.specs.Ports.{In}
use Rattle.window.specs.declared.entry.Entry.{Entry}
use Rattle.window.specs.declared.entry.Number.{Number}
use Rattle.window.specs.declared.entry.Tag.{Tag}
use Rattle.window.specs.declared.entry.Tag.TheVariants.{Acknowledgment, Load, Stale, Device}
use Rattle.pins.specs.declared.held.Store.{Store}
use Rattle.window.specs.Machine.{Core, with_requests, with_fetches, learn, read_left, read_right, execute, forward, retags, renumbers, Retired, leave, Asked, take_data, get_data, take_code, get_code}
use Rattle.window.specs.Clocks.{Move, rest, reads_left, reads_right, executes, forwards, redirects, retires, move, Port, room, request_if, fetch_if, fetch_room, answer_code, answer_data, answered, Schedule, State, run_rules, heard, ruled, chosen_port, posted, chosen_fetch, next}
use Rattle.window.proofs.Cases.{opt_cases}
use Rattle.window.proofs.RuleCases.{learn_by, retire_by, request_by}

pub record Few (k : Core) : Type 0 where
  pub requests : length k.requests ≤ 4
  pub fetches : length k.fetches ≤ 4
  pub stores : length k.stores ≤ 8

pub retags_length : (g : ℕ → Option ℕ) (ts : List Tag) → length (retags g ts) ≡ length ts
retags_length g [] = refl
retags_length g (t ∷ ts) = ap suc (retags_length g ts)

pub renumbers_length : (g : ℕ → Option ℕ) (fs : List (Option Number)) → length (renumbers g fs) ≡ length fs
renumbers_length g [] = refl
renumbers_length g (f ∷ fs) = ap suc (renumbers_length g fs)

learn_few : (f : Core → ℕ → Entry → Option Entry) (n : ℕ) (k : Core) → Few k → Few (learn f n k)
learn_few f n k h = learn_by Few f n k h (λ e d at ed. record { requests = h.requests; fetches = h.fetches; stores = h.stores })

leave_few : (k : Core) (es : List Entry) (gs : List ℕ) (b : ℕ) (ps : List Store) (x : Bool) → Few k → length ps ≤ 8 → Few (leave k es gs b ps x)
leave_few k es gs b ps true h l = record { requests = rw retags_length h.requests; fetches = rw renumbers_length h.fetches; stores = l }
leave_few k es gs b ps false h l = record { requests = rw retags_length h.requests; fetches = rw renumbers_length h.fetches; stores = l }

pub move_few : (x : Move) (k : Core) → Few k → Few (move x k).core
move_few rest k h = h
move_few (reads_left n) k h = learn_few read_left n k h
move_few (reads_right n) k h = learn_few read_right n k h
move_few (executes n) k h = learn_few execute n k h
move_few (forwards n) k h = learn_few forward n k h
move_few (redirects n g) k h =
    opt_cases Few (nth k.window n) (λ _. h)
    (λ e _. record { requests = rw retags_length h.requests; fetches = rw renumbers_length h.fetches; stores = h.stores })
move_few retires k h =
    retire_by (λ (d : Retired). Few d.core) k h
    (λ e es gs b ps t f. leave_few k es gs b ps (eqb b e.predicted) h (f.few h.stores))

pub rules_few : {T : Type 0} (rs : List (T → Core → Move × T)) (t : T) (k : Core) → Few k → Few (run_rules rs t k).core
rules_few [] t k h = h
rules_few (r ∷ rs) t k h = rules_few rs (r t k).1 (move (r t k).0 k).core (move_few (r t k).0 k h)

port_few : (b : Bool) (p : Port) (k : Core) → room k ≡ b → Few k → Few (request_if b p k).core
port_few false p k e h = h
port_few true p k e h =
    let l = ltb-true (length k.requests) 4 e in
    request_by (λ (d : Asked). Few d.core) k h
    (λ n b d. record { requests = rw length-append (omega arith); fetches = h.fetches; stores = h.stores })
    (λ q ps s. let z : length k.stores ≡ suc (length ps) = ap length s in let y = h.stores in
    record { requests = rw length-append (omega arith); fetches = h.fetches; stores = omega arith })
    (λ b d i s. record { requests = rw length-append (omega arith); fetches = h.fetches; stores = h.stores })
    p

fetch_few : (b : Bool) (g : Opt ℕ) (k : Core) → fetch_room k ≡ b → Few k → Few (fetch_if b g k).core
fetch_few true none k e h = h
fetch_few false none k e h = h
fetch_few false (some g) k e h = h
fetch_few true (some g) k e h =
    let l = ltb-true (length k.fetches) 4 e in
    record { requests = h.requests; fetches = rw length-append (omega arith); stores = h.stores }

code_few : (x : ℕ) (k : Core) (fs : List (Option Number)) → length fs ≤ 4 → Few k → Few (take_code x k fs)
code_few x k [] l h = h
code_few x k (None ∷ fs) l h = record { requests = h.requests; fetches = omega arith; stores = h.stores }
code_few x k (Some n ∷ fs) l h = learn_few (get_code x) n.0 (with_fetches k fs) (record { requests = h.requests; fetches = omega arith; stores = h.stores })

data_few : (x : ℕ) (k : Core) (ts : List Tag) → length ts ≤ 4 → Few k → Few (take_data x k ts)
data_few x k [] l h = h
data_few x k (Acknowledgment ∷ ts) l h = record { requests = omega arith; fetches = h.fetches; stores = h.stores }
data_few x k (Load n ∷ ts) l h = learn_few (get_data x) n.0 (with_requests k ts) (record { requests = omega arith; fetches = h.fetches; stores = h.stores })
data_few x k (Stale ∷ ts) l h = record { requests = omega arith; fetches = h.fetches; stores = h.stores }
data_few x k (Device ∷ ts) l h = record { requests = omega arith; fetches = h.fetches; stores = h.stores }

pub answered_few : (i : In) (k : Core) → Few k → Few (answered i k)
answered_few i k h = datas i.data1 (answer_code i.code k) (codes i.code)
  where
    codes : (x : Opt ℕ) → Few (answer_code x k)
    codes none = h
    codes (some x) = code_few x k k.fetches h.fetches h

    datas : (x : Opt ℕ) (j : Core) → Few j → Few (answer_data x j)
    datas none j g = g
    datas (some x) j g = data_few x j j.requests g.requests g

pub clock_few : {T : Type 0} (s : Schedule T) (z : State T) (i : In) → Few z.core → Few (next s z i).core
clock_few s z i h =
    let r = rules_few s.rules (s.hears i z.tables z.core) (heard s z i) (answered_few i z.core h) in
    let p = port_few (room (ruled s z i).core) (chosen_port s z i) (ruled s z i).core refl r in
    fetch_few (fetch_room (posted s z i).core) (chosen_fetch s z i) (posted s z i).core refl p
