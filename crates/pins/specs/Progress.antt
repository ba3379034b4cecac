-- That a core goes on: from numbers that fall clock by clock.
use Rattle.std.specs.Prelude.{◌≡◌, ℕ, zero, suc, ◌+◌, ◌*◌, ◌<◌, ◌≤◌, List, [], length, Option}
use Rattle.std.proofs.Math.Option.{some, none}
use Rattle.isa.specs.Manual.{Code, Mem}
use Rattle.pins.specs.Ports.{In, Out}
use Rattle.pins.specs.Outside.{Hist, O, after, outside, RightIn, ev_of, evs, stopped}
use Rattle.pins.specs.Says.{here, GoesOn}
use Rattle.pins.specs.Waits.{Calm}
use Rattle.pins.specs.Reach.{Mealy, clock_io, Reach, Stands}

-- where a core can come with answers within l: the history, the state, and that nothing has waited for too long
pub record Point {State : Type 0} (k : Mealy State) (l : ℕ) : Type 0 where
  pub code : Code
  pub mem : Mem
  pub start : ℕ
  pub hist : Hist
  pub state : State
  pub reach : Reach k code mem start hist state
  pub calm : Calm l (outside mem hist)

abbrev pub around : {State : Type 0} {k : Mealy State} {l : ℕ} → Point k l → O
around p = outside p.mem p.hist

-- a clock from there
pub record Clock {State : Type 0} (k : Mealy State) (l : ℕ) : Type 0 where
  pub at : Point k l
  pub answers : In
  pub allowed : RightIn at.code at.mem at.hist answers
  pub calm : Calm l (after (around at) (clock_io k at.state answers))

module _ {State : Type 0} {k : Mealy State} {l : ℕ} (x : Clock k l) where
  -- what it shows, and how many effects that is
  abbrev pub shown : Out
  shown = k.out x.at.state x.answers

  abbrev pub effects_shown : ℕ
  effects_shown = length (ev_of shown.data1)

  -- the state and the outside that it leaves
  abbrev pub next_state : State
  next_state = k.next x.at.state x.answers

  abbrev pub next_around : O
  next_around = after (around x.at) (clock_io k x.at.state x.answers)

-- a rank that falls in each clock in which nothing is retired and the core has not stopped; and once stopped it stays so
pub record Retires {State : Type 0} (k : Mealy State) (rank : ℕ → State → O → ℕ) : Type 0 where
  pub bounded : {l : ℕ} (p : Point k l) → rank l p.state (around p) ≤ 63 + 16 * l
  pub falls : {l : ℕ} (x : Clock k l) → (shown x).rets ≡ [] → (shown x).stopped ≡ none
      → rank l (next_state x) (next_around x) < rank l x.at.state (around x.at)
  pub stays : {l : ℕ} (x : Clock k l) (j : ℕ) → stopped x.at.hist ≡ some j → (n : ℕ) × ((shown x).stopped ≡ some n)

-- how many effects of what is retired are still to be shown, of which a clock takes off those that it shows
pub record Owes {State : Type 0} (k : Mealy State) (owed : State → ℕ) : Type 0 where
  pub behind : {l : ℕ} (p : Point k l) → length (here p.code p.mem p.start p.hist).evs ≤ length (evs p.hist) + owed p.state
  pub kept : {l : ℕ} (x : Clock k l) → owed x.at.state ≤ owed (next_state x) + effects_shown x

-- a rank of the first j of them, which falls in each clock; one that shows an effect leaves one fewer
pub record Drains {State : Type 0} (k : Mealy State) (owed : State → ℕ) (rank : ℕ → State → O → ℕ → ℕ) : Type 0 where
  pub owes : Owes k owed
  pub bounded : {l : ℕ} (p : Point k l) (j : ℕ) → j ≤ owed p.state → rank l p.state (around p) j ≤ 63 + 16 * l
  pub waits : {l : ℕ} (x : Clock k l) (j : ℕ) → 0 < j → j ≤ owed x.at.state → effects_shown x ≡ 0
      → rank l (next_state x) (next_around x) j < rank l x.at.state (around x.at) j
  pub shows : {l : ℕ} (x : Clock k l) (j : ℕ) → 0 < j → suc j ≤ owed x.at.state → effects_shown x ≡ 1
      → rank l (next_state x) (next_around x) j < rank l x.at.state (around x.at) (suc j)

-- or simpler: at most eight are owed, and each clock while one is owed shows one, or a rank of at most 7 + 2 l falls
pub record DrainsEach {State : Type 0} (k : Mealy State) (owed : State → ℕ) (rank : ℕ → State → O → ℕ) : Type 0 where
  pub owes : Owes k owed
  pub few : {l : ℕ} (p : Point k l) → owed p.state ≤ 8
  pub bounded : {l : ℕ} (p : Point k l) → rank l p.state (around p) ≤ 7 + 2 * l
  pub waits : {l : ℕ} (x : Clock k l) → 0 < owed x.at.state → effects_shown x ≡ 0
      → rank l (next_state x) (next_around x) < rank l x.at.state (around x.at)

-- the first j, each of the later ones with its full time
abbrev pub rank_each : {State : Type 0} → (ℕ → State → O → ℕ) → ℕ → State → O → ℕ → ℕ
rank_each rank l s o zero = 0
rank_each rank l s o (suc j) = j * (8 + 2 * l) + rank l s o

pub record ProgressLaws (State : Type 0) : Type 0 where
  pub goes_on : (k : Mealy State) (decode : List ℕ → Option State) (rank : ℕ → State → O → ℕ) (owed : State → ℕ) (drain_rank : ℕ → State → O → ℕ → ℕ)
      → Retires k rank
      → Drains k owed drain_rank
      → GoesOn (Stands k decode)
  pub each : (k : Mealy State) (owed : State → ℕ) (rank : ℕ → State → O → ℕ) → DrainsEach k owed rank → Drains k owed (rank_each rank)
