-- How many clocks until the oldest is retired: a number, by bands of what is known of it, and its bounds.
use Rattle.std.proofs.Common.{ℕ, ◌+◌, ◌-◌, ◌*◌, ◌≤◌, Bool, true, false, List, [], ◌∷◌, map, length, Some, None, Option, arith}
use mathlib.Core.Option.{Option as Opt, some, none}
use Rattle.isa.specs.Words.{pick}
use Rattle.isa.specs.Manual.{device}
use Rattle.isa.specs.declared.execute.Outcome.{Outcome}
use Rattle.isa.specs.declared.execute.Outcome.TheVariants.{Write as Writes, Jump as Jumps, Load as Loads, Store as Stores, Halt as Halts}
use Rattle.pins.specs.Outside.{O}
use Rattle.pins.specs.Waits.{ages, ages1}
use Rattle.window.specs.declared.entry.Entry.{Entry}
use Rattle.pins.specs.declared.held.Reading.{Reading}
use Rattle.pins.specs.declared.held.Reading.TheVariants.{Idle, Waiting, Answered}
use Rattle.window.specs.Machine.{Core}
use Rattle.window.specs.Fairness.{is_load}
use Rattle.window.proofs.Marks.{is_device, is_fetch, spot}
use Rattle.window.proofs.Slots.{frees}

-- what is open for the oldest, by its age
abbrev pub wait : ℕ → Opt ℕ → ℕ
wait l none = 0
wait l (some a) = l - a

pub wait_most : (l : ℕ) (x : Opt ℕ) → wait l x ≤ l
wait_most l none = omega arith
wait_most l (some a) = omega arith

-- with l: the longest wait for an answer; d: how long it is held up once all is there; E: until the port was free often enough
module _ (l d E : ℕ) where
  -- a load: its word is there, or is not asked for, or was asked for a clocks ago
  abbrev pub load_rank : Option ℕ → Opt ℕ → ℕ
  load_rank (Some y) x = d
  load_rank None none = (l + 2) + E
  load_rank None (some a) = (1 + (l - a)) + d

  abbrev pub device_rank : Reading → Opt ℕ → ℕ
  device_rank Idle x = (l + 2) + E
  device_rank (Waiting b) x = (1 + wait l x) + d
  device_rank (Answered b y) x = d

  abbrev pub outcome_rank : Option ℕ → Reading → Opt ℕ → Opt ℕ → Outcome → ℕ
  outcome_rank g q x y (Writes r v b) = d
  outcome_rank g q x y (Jumps b) = d
  outcome_rank g q x y (Loads r b) = pick (device b) (device_rank q y) (load_rank g x)
  outcome_rank g q x y (Stores b v) = (l + 2) + E
  outcome_rank g q x y (Halts h) = (l + 2) + E

  module _ (h : d ≤ E) where
    pub load_most : (g : Option ℕ) (x : Opt ℕ) → load_rank g x ≤ (l + 2) + E
    load_most (Some y) x = omega arith
    load_most None none = omega arith
    load_most None (some a) = omega arith

    pub device_most : (q : Reading) (x : Opt ℕ) → device_rank q x ≤ (l + 2) + E
    device_most Idle x = omega arith
    device_most (Waiting b) x = let w = wait_most l x in omega arith
    device_most (Answered b y) x = omega arith

    pub outcome_most : (g : Option ℕ) (q : Reading) (x y : Opt ℕ) (o : Outcome) → outcome_rank g q x y o ≤ (l + 2) + E
    outcome_most g q x y (Writes r v b) = omega arith
    outcome_most g q x y (Jumps b) = omega arith
    outcome_most g q x y (Loads r b) = by (device b)
      where
        by : (t : Bool) → pick t (device_rank q y) (load_rank g x) ≤ (l + 2) + E
        by true = device_most q y
        by false = load_most g x
    outcome_most g q x y (Stores b v) = omega arith
    outcome_most g q x y (Halts s) = omega arith

-- the bands: its outcome is known; its word, and n clocks of working it out; neither; nothing is at work, and V until the code's port is free
abbrev pub oldest_rank : ℕ → ℕ → ℕ → ℕ → Option Outcome → Option ℕ → Option ℕ → Reading → Opt ℕ → Opt ℕ → Opt ℕ → ℕ
oldest_rank l n d E (Some o) w g q x y c = outcome_rank l d E g q x y o
oldest_rank l n d E None (Some w) g q x y c = (5 * l + 22) + n
oldest_rank l n d E None None g q x y c = (5 * l + 61) + wait l c

abbrev pub window_rank : ℕ → ℕ → ℕ → ℕ → List Entry → Reading → Opt ℕ → Opt ℕ → Opt ℕ → ℕ → ℕ
window_rank l n d E [] q x y c V = (6 * l + 62) + V
window_rank l n d E (e ∷ es) q x y c V = oldest_rank l n d E e.outcome e.word e.loaded q x y c

-- of a core and the outside
abbrev pub load_age : Core → O → Opt ℕ
load_age k o = spot (map (is_load 0) k.requests) (ages1 o.datas)

abbrev pub device_age : Core → O → Opt ℕ
device_age k o = spot (map is_device k.requests) (ages1 o.datas)

abbrev pub code_age : Core → O → Opt ℕ
code_age k o = spot (map (is_fetch 0) k.fetches) (ages o.codes)

abbrev pub port_wait : ℕ → ℕ → Core → O → ℕ
port_wait l d k o = frees l (length k.stores + d) (ages1 o.datas)

abbrev pub core_rank : ℕ → ℕ → ℕ → Core → O → ℕ
core_rank l n d k o = window_rank l n d (port_wait l d k o) k.window k.device (load_age k o) (device_age k o) (code_age k o) (frees l 0 (ages o.codes))

pub window_most : (l n d E : ℕ) (es : List Entry) (q : Reading) (x y c : Opt ℕ) (V : ℕ) → n ≤ 38 → d ≤ E → E ≤ 4 * l + 19 → V ≤ l + 1
    → window_rank l n d E es q x y c V ≤ 63 + 16 * l
window_most l n d E [] q x y c V hn hd hE hV = omega arith
window_most l n d E (e ∷ es) q x y c V hn hd hE hV = by e.outcome e.word
  where
    by : (o : Option Outcome) (w : Option ℕ) → oldest_rank l n d E o w e.loaded q x y c ≤ 63 + 16 * l
    by (Some o) w = let h = outcome_most l d E hd e.loaded q x y o in omega arith
    by None (Some w) = omega arith
    by None None = let h = wait_most l c in omega arith
