-- Goes on: for every schedule that is fair to the oldest instruction and to waiting stores.
--
-- A schedule is asked for three numbers of its state:
--   work: how many clocks it still needs to execute the oldest, once its word is there (at most 38: a divider fits);
--   late: how many clocks it still holds the oldest up, once its outcome is known (at most 7: pipeline stages);
--   turns: how many other uses of the request port may come before a waiting store has its turn (at most 5).
-- In every clock, `FairClock` has to hold. Nothing is asked of younger instructions, of predictions, or of redirects.
use Rattle.std.specs.Prelude.{◌≡◌, ℕ, ◌/◌, ◌<◌, ◌≤◌, Bool, true, false, not, ◌&&◌, ◌||◌, ◌⊎◌, List, [], ◌∷◌, map, length, Some, None, Option, ◌==◌, nat_lt}
use Rattle.std.proofs.Math.Option.{some}
use Rattle.isa.specs.Manual.{Code, Mem, device}
use Rattle.isa.specs.declared.reg.Reg.{Reg}
use Rattle.isa.specs.declared.execute.Outcome.{Outcome}
use Rattle.isa.specs.declared.execute.Outcome.TheVariants.{Write as Writes, Jump as Jumps, Load as Loads, Store as Stores, Halt as Halts}
use Rattle.pins.specs.Ports.{In}
use Rattle.pins.specs.Outside.{Hist, RightIn}
use Rattle.pins.specs.Says.{GoesOn}
use Rattle.pins.specs.Reach.{Reach, Stands}
use Rattle.window.specs.declared.entry.Entry.{Entry}
use Rattle.window.specs.declared.entry.Tag.{Tag}
use Rattle.window.specs.declared.entry.Tag.TheVariants.{Acknowledgment, Load, Stale, Device}
use Rattle.pins.specs.declared.held.Reading.{Reading}
use Rattle.pins.specs.declared.held.Reading.TheVariants.{Idle, Waiting, Answered}
use Rattle.window.specs.declared.entry.Source.TheVariants.{Memory}
use Rattle.window.specs.Newest.{source}
use Rattle.window.specs.Machine.{Core}
use Rattle.window.specs.Clocks.{Port, loads, drains, asks_device, room, Schedule, State, ruled, chosen_port, posted, chosen_fetch, next, machine}

-- is it known?
abbrev pub has : {A : Type 0} → Option A → Bool
has None = false
has (Some x) = true

-- is a load of the n-th instruction open?
abbrev pub is_load : ℕ → Tag → Bool
is_load n Acknowledgment = false
is_load n (Load k) = k.0 == n
is_load n Stale = false
is_load n Device = false

abbrev pub any : List Bool → Bool
any [] = false
any (b ∷ bs) = b || any bs

abbrev pub load_open : ℕ → Core → Bool
load_open n k = any (map (is_load n) k.requests)

abbrev pub is_idle : Reading → Bool
is_idle Idle = true
is_idle (Waiting a) = false
is_idle (Answered a x) = false

abbrev pub is_answered : Reading → Bool
is_answered Idle = false
is_answered (Waiting a) = false
is_answered (Answered a x) = true

abbrev pub store_room : Core → Bool
store_room k = nat_lt (length k.stores) 8

-- can the oldest, with this outcome, be retired?
abbrev pub ready : Core → Entry → Outcome → Bool
ready k e (Writes d x b) = true
ready k e (Jumps b) = true
ready k e (Loads d b) = has e.loaded || is_answered k.device
ready k e (Stores b x) = store_room k
ready k e (Halts h) = false

-- must waiting stores go out before it can be?
abbrev pub needs_drain : Core → Outcome → Bool
needs_drain k (Writes d x b) = false
needs_drain k (Jumps b) = false
needs_drain k (Loads d b) = device b && is_idle k.device
needs_drain k (Stores b x) = not (store_room k)
needs_drain k (Halts h) = true

-- the oldest, with outcome o, got all that a clock can give it: before is the core at the clock's beginning, now the core after the rules
-- with d its oldest, p the use of the port
pub record Served (before now : Core) (e d : Entry) (o : Outcome) (p : Port) : Type 0 where
  -- what could be retired is
  pub retires : ready before e o ≡ false
  -- a load that is neither there nor asked for is not with a store, and is asked for, unless a store goes out
  pub loads : (r : Reg) (b : ℕ) → o ≡ Loads r b → device b ≡ false → d.loaded ≡ None → load_open 0 now ≡ false
      → (source now.stores now.window 0 (b / 4) ≡ Memory) × ((p ≡ loads 0) ⊎ ((p ≡ drains) × (0 < length now.stores)))
  -- a device is read as soon as no store waits
  pub reads : (r : Reg) (b : ℕ) → o ≡ Loads r b → device b ≡ true → now.device ≡ Idle → now.stores ≡ [] → p ≡ asks_device
  -- where it waits for stores, one goes out
  pub drains : needs_drain now o ≡ true → 0 < length now.stores → p ≡ drains

module _ {T : Type 0} (s : Schedule T) (work late turns : State T → ℕ) where
  pub record FairClock (z : State T) (i : In) : Type 0 where
    -- with its word, the oldest gets on
    pub works : (ruled s z i).rets ≡ [] → (e : Entry) (es : List Entry) → z.core.window ≡ e ∷ es → has e.word ≡ true → e.outcome ≡ None
        → (d : Entry) (ds : List Entry) → (ruled s z i).core.window ≡ d ∷ ds → d.outcome ≡ None
        → work (next s z i) < work z
    -- with its outcome, it is held up a clock less, or it is served
    pub serves : (ruled s z i).rets ≡ [] → (e : Entry) (es : List Entry) → z.core.window ≡ e ∷ es → (o : Outcome) → e.outcome ≡ Some o
        → (d : Entry) (ds : List Entry) → (ruled s z i).core.window ≡ d ∷ ds → d.outcome ≡ Some o
        → (late (next s z i) < late z) ⊎ ((late (next s z i) ≤ late z) × Served z.core (ruled s z i).core e d o (chosen_port s z i))
    -- with an empty window, the next word is wanted
    pub fetches : z.core.window ≡ [] → (posted s z i).core.window ≡ [] → (g : ℕ) × (chosen_fetch s z i ≡ some g)
    -- with room at the port a waiting store goes out, or has one use fewer before its turn; without room its turn is not lost
    pub turn : 0 < length (ruled s z i).core.stores → room (ruled s z i).core ≡ true
        → (chosen_port s z i ≡ drains) ⊎ (turns (next s z i) < turns z)
    pub turn_kept : room (ruled s z i).core ≡ false → turns (next s z i) ≤ turns z

pub record Fair {T : Type 0} (s : Schedule T) : Type 0 where
  pub work : State T → ℕ
  pub late : State T → ℕ
  pub turns : State T → ℕ
  pub work_most : (z : State T) → work z ≤ 38
  pub late_most : (z : State T) → late z ≤ 7
  pub turns_most : (z : State T) → turns z ≤ 5
  -- wherever it can come
  pub clocks : (c : Code) (m : Mem) (a : ℕ) (h : Hist) (z : State T) (i : In) → Reach (machine s) c m a h z → RightIn c m h i → FairClock s work late turns z i

abbrev pub WindowGoesOn : Type 0 → Type 0
WindowGoesOn T = (s : Schedule T) → Fair s → (decode : List ℕ → Option (State T)) → GoesOn (Stands (machine s) decode)
