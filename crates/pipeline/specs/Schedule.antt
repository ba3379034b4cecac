-- The pipeline as a schedule of the general machine: the stages from the last to the first, so that in a clock an instruction passes at
-- most one of them. Writing; memory; executing, where a wrong prediction is put right; reading registers.
use Rattle.std.specs.Prelude.{ℕ, ◌+◌, Bool, false, not, List, [], ◌∷◌, length, Option, nat_lt, Some, None}
use Rattle.std.proofs.Math.Option.{some, none}
use Rattle.isa.specs.Words.{pick, nth, add}
use Rattle.pins.specs.PortWords.{optional}
use Rattle.window.specs.declared.entry.Entry.{Entry}
use Rattle.window.specs.Entries.{given}
use Rattle.window.specs.Machine.{Core, next_pc}
use Rattle.window.specs.Fairness.{load_open}
use Rattle.window.specs.Rings.{size}
use Rattle.window.specs.Clocks.{Move, rest, reads_left, reads_right, executes, forwards, redirects, retires, Port, leaves, loads, drains, asks_device, room, Schedule}
use Rattle.pipeline.specs.declared.stages.Ask.{Ask}
use Rattle.pipeline.specs.declared.stages.Ask.TheVariants.{Load, Device}
use Rattle.pipeline.specs.Stages.{waits, lacks_operand, lacks_outcome, ask_of}
use Rattle.pipeline.specs.Step.{mispredicted, store_goes}

-- whose turn it is at the request port; within a clock also where a stage stands, and what the memory stage wants of the port
pub record Tables : Type 0 where
  pub turn : Bool
  pub at : ℕ
  pub ask : Option Ask

abbrev pub with_at : Tables → ℕ → Tables
with_at t n = record { turn = t.turn; at = n; ask = t.ask }

abbrev pub with_ask : Tables → Option Ask → Tables
with_ask t a = record { turn = t.turn; at = t.at; ask = a }

abbrev pub with_turn : Tables → Bool → Tables
with_turn t b = record { turn = b; at = t.at; ask = t.ask }

-- between clocks
abbrev pub tables : Bool → Tables
tables b = record { turn = b; at = 0; ask = None }

-- the first instruction for which p holds, from number n on
abbrev pub first_in : (ℕ → Entry → Bool) → ℕ → List Entry → ℕ
first_in p n [] = n
first_in p n (e ∷ es) = pick (p n e) n (first_in p (n + 1) es)

abbrev pub at_memory : Core → ℕ
at_memory k = first_in (λ n e. waits (load_open n k) e) 0 k.window

abbrev pub at_execute : Core → ℕ
at_execute k = first_in (λ n e. lacks_outcome e) 0 k.window

abbrev pub at_read : Core → ℕ
at_read k = first_in (λ n e. lacks_operand e) 0 k.window

abbrev pub the_entry : Core → ℕ → Option Entry
the_entry k n = optional (nth k.window n)

abbrev pub redirect_move : Core → ℕ → Move
redirect_move k n = given (the_entry k n) rest (λ e. given (mispredicted e) rest (redirects n))

-- the rules
abbrev pub writing : Tables → Core → Move × Tables
writing t k = (retires, t)

abbrev pub forwarding : Tables → Core → Move × Tables
forwarding t k = (forwards (at_memory k), with_at t (at_memory k))

abbrev pub asking : Tables → Core → Move × Tables
asking t k = (rest, with_ask t (ask_of t.at (the_entry k t.at)))

abbrev pub executing : Tables → Core → Move × Tables
executing t k = (executes (at_execute k), with_at t (at_execute k))

abbrev pub redirecting : Tables → Core → Move × Tables
redirecting t k = (redirect_move k t.at, t)

abbrev pub reading_left : Tables → Core → Move × Tables
reading_left t k = (reads_left (at_read k), with_at t (at_read k))

abbrev pub reading_right : Tables → Core → Move × Tables
reading_right t k = (reads_right t.at, t)

-- the request port
abbrev pub ask_port : Option Ask → Port
ask_port None = leaves
ask_port (Some (Load n)) = loads n
ask_port (Some Device) = asks_device

abbrev pub store_turn : Tables → Core → Bool
store_turn t k = store_goes t.turn (length k.stores) t.ask

abbrev pub port_of : Tables → Core → Port
port_of t k = pick (store_turn t k) drains (ask_port t.ask)

abbrev pub schedule : Schedule Tables
schedule = record {
  begin = tables false;
  hears = λ i t k. t;
  rules = writing ∷ forwarding ∷ asking ∷ executing ∷ redirecting ∷ reading_left ∷ reading_right ∷ [];
  port = λ t k. (port_of t k, with_turn t (pick (room k) (not (store_turn t k)) t.turn));
  fetch = λ t k. (pick (nat_lt (length k.window) size) (some (add (next_pc k) 4)) none, tables t.turn);
}
