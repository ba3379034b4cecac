-- A pure core, the histories that it can make, and what its words stand for.
use Rattle.std.specs.Prelude.{◌≡◌, ℕ, true, List, [], ◌∷◌, ◌++◌, length, Some, None, Option}
use Rattle.isa.specs.Manual.{Code, Mem}
use Rattle.pins.specs.declared.Started.TheVariants.{Ready}
use Rattle.pins.specs.declared.Clocked.TheVariants.{Done, NoCore}
use Rattle.pins.specs.Ports.{In, Out, in_of, out_of, sound_out}
use Rattle.pins.specs.Outside.{Io, Hist, RightIn}
use Rattle.pins.specs.Says.{AlwaysRight, StartedSays, ClockedSays}
use Rattle.pins.specs.View.{View, view, clock_view, Allowed, RightView}

-- a Mealy machine: where it begins at a start address, its next state, and what it shows in the clock
pub record Mealy (State : Type 0) : Type 0 where
  pub first : ℕ → State
  pub next : State → In → State
  pub out : State → In → Out

-- a clock's words at the ports
abbrev pub clock_io : {State : Type 0} → Mealy State → State → In → Io
clock_io k s i = record { in1 = i; out1 = k.out s i }

-- the state after a history that the core can make with allowed answers
pub data Reach {State : Type 0} (k : Mealy State) (c : Code) (m : Mem) (a : ℕ) : Hist → State → Type 0 where
  started : Reach k c m a [] (k.first a)
  clocked : {h : Hist} {s : State} (i : In) → Reach k c m a h s → RightIn c m h i → Reach k c m a (h ++ (clock_io k s i ∷ [])) (k.next s i)

-- a core's words stand for a history if they are read as a state that it reaches
abbrev pub Stands : {State : Type 0} → Mealy State → (List ℕ → Option State) → Code → Mem → ℕ → Hist → List ℕ → Type 0
Stands {State} k decode c m a h w = (s : State) × (decode w ≡ Some s) × Reach k c m a h s

-- from state s, with h behind it, the core goes over g to state t
pub data Trail {State : Type 0} (k : Mealy State) (c : Code) (m : Mem) : Hist → State → Hist → State → Type 0 where
  arrived : {h : Hist} {s : State} → Trail k c m h s [] s
  passed : {h g : Hist} {s t : State} (i : In)
      → RightIn c m h i
      → Trail k c m (h ++ (clock_io k s i ∷ [])) (k.next s i) g t
      → Trail k c m h s (clock_io k s i ∷ g) t

-- a history of two parts goes through a state between them
pub record Through {State : Type 0} (k : Mealy State) (c : Code) (m : Mem) (a : ℕ) (h g : Hist) (t : State) : Type 0 where
  pub between : State
  pub reach : Reach k c m a h between
  pub trail : Trail k c m h between g t

pub record ReachLaws (State : Type 0) : Type 0 where
  pub through : {k : Mealy State} {c : Code} {m : Mem} {a : ℕ} (h g : Hist) {t : State} → Reach k c m a (h ++ g) t → Through k c m a h g t
  -- and where it comes to by the first part and goes over the second, it comes to by both
  pub join : {k : Mealy State} {c : Code} {m : Mem} {a : ℕ} {h g : Hist} {s t : State}
      → Reach k c m a h s
      → Trail k c m h s g t
      → Reach k c m a (h ++ g) t

-- what the public calls have to show of their words, and no more, for their promise of Stands
pub record CallLaws (State : Type 0) : Type 0 where
  pub ready : (k : Mealy State) (decode : List ℕ → Option State) (a : ℕ) (w w' : List ℕ)
      → decode w' ≡ Some (k.first a)
      → StartedSays (Stands k decode) a w w' Ready
  pub done : (k : Mealy State) (decode : List ℕ → Option State) (w w' i o o' : List ℕ) (s : State)
      → length i ≡ 4
      → sound_out o' ≡ true
      → decode w ≡ Some s
      → decode w' ≡ Some (k.next s (in_of i))
      → out_of o' ≡ k.out s (in_of i)
      → ClockedSays (Stands k decode) w w' i o o' Done
  pub no_core : (k : Mealy State) (decode : List ℕ → Option State) (w w' i o o' : List ℕ)
      → decode w ≡ None
      → w' ≡ w
      → o' ≡ o
      → ClockedSays (Stands k decode) w w' i o o' NoCore

-- an invariant over state and view: it holds at first, each allowed clock keeps it, and where it holds the ports are right
pub record Invariant {State : Type 0} (k : Mealy State) (Inv : Code → Mem → ℕ → State → View → Type 0) : Type 0 where
  pub starts : (c : Code) (m : Mem) (a : ℕ) → Inv c m a (k.first a) (view m [])
  pub kept : (c : Code) (m : Mem) (a : ℕ) (s : State) (v : View) (i : In)
      → Allowed c v i
      → Inv c m a s v
      → Inv c m a (k.next s i) (clock_view (clock_io k s i) v)
  pub right : (c : Code) (m : Mem) (a : ℕ) (s : State) (v : View) → Inv c m a s v → RightView c m a v

-- (It speaks of every predicate, so that no function's contract can name it: each core's own does, which has AlwaysRight by it.)
pub record InvariantLaws {State : Type 0} (k : Mealy State) (Inv : Code → Mem → ℕ → State → View → Type 0) : Type 0 where
  pub holds : {c : Code} {m : Mem} {a : ℕ} {h : Hist} {s : State} → Reach k c m a h s → Inv c m a s (view m h)
  pub always_right : (decode : List ℕ → Option State) → AlwaysRight (Stands k decode)
