-- One clock of the general machine: answers are taken; then the schedule's rules, each deciding on the state at hand; then at
-- most one request; then perhaps a word of code is wanted. What is chosen, and what is predicted, is anybody's.
--
-- What a core with a window has to show:
--   a `Schedule` over tables of its own (T: predictors, counters, whatever else), whose clock its code's clock is;
--   for AlwaysRight nothing more (`Right.antt`);
--   for GoesOn that the schedule is `Fair` (`Fairness.antt`).
use Rattle.std.specs.Prelude.{ℕ, Bool, true, false, List, [], ◌∷◌, ◌++◌, length, nat_lt}
use Rattle.std.proofs.Math.Option.{Option as Opt, some, none}
use Rattle.isa.specs.Manual.{Ret}
use Rattle.pins.specs.Ports.{In, Out}
use Rattle.pins.specs.Reach.{Mealy}
use Rattle.window.specs.Machine as rules
use Rattle.window.specs.Machine.{Core, Retired, none_retired, Asked, nothing_asked, learn, next_pc, begun, halted}

-- what a rule does: nothing; the n-th instruction reads an operand, is executed, gets its word from a store before it;
-- the n-th is predicted to be followed by another address, and what is younger is flushed; the oldest is retired
pub data Move : Type 0 where
  rest : Move
  reads_left : ℕ → Move
  reads_right : ℕ → Move
  executes : ℕ → Move
  forwards : ℕ → Move
  redirects : ℕ → ℕ → Move
  retires : Move

abbrev pub move : Move → Core → Retired
move rest k = none_retired k
move (reads_left n) k = none_retired (learn rules.read_left n k)
move (reads_right n) k = none_retired (learn rules.read_right n k)
move (executes n) k = none_retired (learn rules.execute n k)
move (forwards n) k = none_retired (learn rules.forward n k)
move (redirects n g) k = none_retired (rules.redirect n g k)
move retires k = rules.retire k

-- the request port: left alone; the load of the n-th instruction; a waiting store; the device that the oldest reads
pub data Port : Type 0 where
  leaves : Port
  loads : ℕ → Port
  drains : Port
  asks_device : Port

abbrev pub request : Port → Core → Asked
request leaves k = nothing_asked k
request (loads n) k = rules.ask_load n k
request drains k = rules.drain k
request asks_device k = rules.ask_device k

-- at most four are open
abbrev pub room : Core → Bool
room k = nat_lt (length k.requests) 4

abbrev pub request_if : Bool → Port → Core → Asked
request_if true p k = request p k
request_if false p k = nothing_asked k

abbrev pub port : Port → Core → Asked
port p k = request_if (room k) p k

pub record Wanted : Type 0 where
  pub core : Core
  pub code : Opt ℕ

abbrev pub fetch_if : Bool → Opt ℕ → Core → Wanted
fetch_if b none k = record { core = k; code = none }
fetch_if true (some g) k = record { core = rules.fetch g k; code = some (next_pc k) }
fetch_if false (some g) k = record { core = k; code = none }

abbrev pub fetch_room : Core → Bool
fetch_room k = nat_lt (length k.fetches) 4

abbrev pub want : Opt ℕ → Core → Wanted
want g k = fetch_if (fetch_room k) g k

-- answers
abbrev pub answer_code : Opt ℕ → Core → Core
answer_code none k = k
answer_code (some x) k = rules.take_code x k k.fetches

abbrev pub answer_data : Opt ℕ → Core → Core
answer_data none k = k
answer_data (some x) k = rules.take_data x k k.requests

abbrev pub answered : In → Core → Core
answered i k = answer_data i.data1 (answer_code i.code k)

-- a schedule with tables T: what it takes from the answers; its rules, in order; the port; whether to fetch, and what is
-- predicted to follow. Each sees the tables and the state at hand, and leaves tables
pub record Schedule (T : Type 0) : Type 0 where
  pub begin : T
  pub hears : In → T → Core → T
  pub rules : List (T → Core → Move × T)
  pub port : T → Core → Port × T
  pub fetch : T → Core → Opt ℕ × T

pub record State (T : Type 0) : Type 0 where
  pub core : Core
  pub tables : T

pub record Ruled (T : Type 0) : Type 0 where
  pub core : Core
  pub tables : T
  pub rets : List Ret

-- a rule, and then the others
abbrev pub then : {T : Type 0} → List Ret → Ruled T → Ruled T
then ts z = record { core = z.core; tables = z.tables; rets = ts ++ z.rets }

abbrev pub run_rules : {T : Type 0} → List (T → Core → Move × T) → T → Core → Ruled T
run_rules [] t k = record { core = k; tables = t; rets = [] }
run_rules (r ∷ rs) t k = then (move (r t k).0 k).rets (run_rules rs (r t k).1 (move (r t k).0 k).core)

-- the states within a clock: after the answers, after the rules, after the request, at the end
module _ {T : Type 0} (s : Schedule T) (z : State T) (i : In) where
  abbrev pub heard : Core
  heard = answered i z.core

  abbrev pub ruled : Ruled T
  ruled = run_rules s.rules (s.hears i z.tables z.core) heard

  abbrev pub chosen_port : Port
  chosen_port = (s.port ruled.tables ruled.core).0

  abbrev pub posted : Asked
  posted = port chosen_port ruled.core

  abbrev pub port_tables : T
  port_tables = (s.port ruled.tables ruled.core).1

  abbrev pub chosen_fetch : Opt ℕ
  chosen_fetch = (s.fetch port_tables posted.core).0

  abbrev pub fetched : Wanted
  fetched = want chosen_fetch posted.core

  abbrev pub next : State T
  next = record { core = fetched.core; tables = (s.fetch port_tables posted.core).1 }

  abbrev pub shown : Out
  shown = record { code = fetched.code; data1 = posted.req; rets = ruled.rets; stopped = halted fetched.core }

abbrev pub machine : {T : Type 0} → Schedule T → Mealy (State T)
machine s = record { first = λ a. record { core = begun a; tables = s.begin }; next = next s; out = shown s }
