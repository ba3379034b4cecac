-- Schedules that put the oldest instruction first, and are fair whatever else they do: the oldest is retired, executed, reads its operands;
-- then others do what they may; then a waiting store's word is forwarded to the oldest. At the port the oldest and waiting stores take turns,
-- and what they leave is for younger loads. While there is room, code is fetched, with any prediction.
use Rattle.std.specs.Prelude.{◌≡◌, ℕ, Bool, true, false, List, [], ◌∷◌, ◌++◌, map, length, Some, None, Option, nat_lt}
use Rattle.std.proofs.Math.Option.{some, none}
use Rattle.isa.specs.Words.{pick}
use Rattle.isa.specs.Manual.{device}
use Rattle.isa.specs.declared.execute.Outcome.{Outcome}
use Rattle.isa.specs.declared.execute.Outcome.TheVariants.{Write as Writes, Jump as Jumps, Load as Loads, Store as Stores, Halt as Halts}
use Rattle.pins.specs.Ports.{In}
use Rattle.window.specs.declared.entry.Entry.{Entry}
use Rattle.pins.specs.declared.held.Store.{Store}
use Rattle.pins.specs.declared.held.Reading.{Reading}
use Rattle.pins.specs.declared.held.Reading.TheVariants.{Idle, Waiting, Answered}
use Rattle.window.specs.Entries.{given}
use Rattle.window.specs.Machine.{Core}
use Rattle.window.specs.Clocks.{Move, reads_left, reads_right, executes, forwards, retires, Port, leaves, loads, drains, asks_device, room, Schedule}
use Rattle.window.specs.Fairness.{load_open, Fair}

-- what is left to choose, with tables U
pub record Policy (U : Type 0) : Type 0 where
  pub begin : U
  pub hears : In → U → Core → U
  -- rules for the younger instructions, and their use of the port
  pub others : List (U → Core → Move × U)
  pub young : U → Core → Port × U
  -- how many instructions may be at work, and what is predicted to follow the next
  pub size : ℕ
  pub predicts : U → Core → ℕ × U

-- the port; t: the oldest had it last time
abbrev pub stores_first : List Store → Port → Port
stores_first [] y = y
stores_first (p ∷ ps) y = drains

abbrev pub take_turns : Bool → List Store → Port
take_turns t [] = loads 0
take_turns true (p ∷ ps) = drains
take_turns false (p ∷ ps) = loads 0

abbrev pub load_port : Bool → Option ℕ → Bool → List Store → Port → Port
load_port t (Some x) b ps y = stores_first ps y
load_port t None true ps y = stores_first ps y
load_port t None false ps y = take_turns t ps

abbrev pub device_port : Reading → List Store → Port → Port
device_port Idle [] y = asks_device
device_port Idle (p ∷ ps) y = drains
device_port (Waiting b) ps y = stores_first ps y
device_port (Answered b x) ps y = stores_first ps y

abbrev pub outcome_port : Bool → Core → Entry → Port → Outcome → Port
outcome_port t k e y (Writes r x b) = stores_first k.stores y
outcome_port t k e y (Jumps b) = stores_first k.stores y
outcome_port t k e y (Loads r b) = pick (device b) (device_port k.device k.stores y) (load_port t e.loaded (load_open 0 k) k.stores y)
outcome_port t k e y (Stores b x) = stores_first k.stores y
outcome_port t k e y (Halts h) = stores_first k.stores y

abbrev pub oldest_port : Bool → Core → Port → List Entry → Port
oldest_port t k y [] = stores_first k.stores y
oldest_port t k y (e ∷ es) = given e.outcome (stores_first k.stores y) (outcome_port t k e y)

abbrev pub port_of : Bool → Core → Port → Port
port_of t k y = oldest_port t k y k.window

abbrev pub no_store : Port → Bool
no_store leaves = true
no_store (loads n) = true
no_store drains = false
no_store asks_device = true

module _ {U : Type 0} (p : Policy U) where
  abbrev pub always : Move → (Bool × U) → Core → Move × (Bool × U)
  always x t k = (x, t)

  abbrev pub lifted : (U → Core → Move × U) → (Bool × U) → Core → Move × (Bool × U)
  lifted r t k = ((r t.1 k).0, (t.0, (r t.1 k).1))

  abbrev pub first_rules : List ((Bool × U) → Core → Move × (Bool × U))
  first_rules = always retires ∷ always (executes 0) ∷ always (reads_left 0) ∷ always (reads_right 0) ∷ map lifted p.others

  abbrev pub chooses : (Bool × U) → Core → Port
  chooses t k = port_of t.0 k (p.young t.1 k).0

  abbrev pub oldest_first : Schedule (Bool × U)
  oldest_first = record {
    begin = (false, p.begin);
    hears = λ i t k. (t.0, p.hears i t.1 k);
    rules = first_rules ++ (always (forwards 0) ∷ []);
    port = λ t k. (chooses t k, (pick (room k) (no_store (chooses t k)) t.0, (p.young t.1 k).1));
    fetch = λ t k. (pick (nat_lt (length k.window) p.size) (some (p.predicts t.1 k).0) none, (t.0, (p.predicts t.1 k).1));
  }

-- with room for one, at least
abbrev pub OldestFirstFair : Type 0 → Type 0
OldestFirstFair U = (p : Policy U) → nat_lt 0 p.size ≡ true → Fair (oldest_first p)
