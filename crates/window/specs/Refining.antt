-- A core whose clock is another machine's, over a state that is read from its own: as a core's arrays are read as the machine's lists.
use Rattle.std.specs.Prelude.{◌≡◌, ℕ, List, Some, None, Option}
use Rattle.isa.specs.Manual.{Code, Mem}
use Rattle.pins.specs.Ports.{In}
use Rattle.pins.specs.Outside.{Hist, RightIn}
use Rattle.pins.specs.Says.{AlwaysRight, GoesOn}
use Rattle.pins.specs.Reach.{Mealy, Reach, Stands}

-- one clock of both, from states that are the same
pub record SameClock {A B : Type 0} (k : Mealy A) (j : Mealy B) (of : A → B) (s : A) (i : In) : Type 0 where
  pub next : of (k.next s i) ≡ j.next (of s) i
  pub out : k.out s i ≡ j.out (of s) i

-- wherever the core can come
pub record Refines {A B : Type 0} (k : Mealy A) (j : Mealy B) (of : A → B) : Type 0 where
  pub first : (a : ℕ) → of (k.first a) ≡ j.first a
  pub clocks : (c : Code) (m : Mem) (a : ℕ) (h : Hist) (s : A) (i : In) → Reach k c m a h s → RightIn c m h i → SameClock k j of s i

-- words that are read as the core's state, read as the machine's
abbrev pub read_as : {A B : Type 0} → (A → B) → Option A → Option B
read_as of None = None
read_as of (Some s) = Some (of s)

-- what is proved of the machine holds of the core
pub record RefineLaws (A B : Type 0) : Type 0 where
  pub reaches : {k : Mealy A} {j : Mealy B} {of : A → B} → Refines k j of → {c : Code} {m : Mem} {a : ℕ} {h : Hist} {s : A}
      → Reach k c m a h s
      → Reach j c m a h (of s)
  pub right : (k : Mealy A) (j : Mealy B) (of : A → B) (decode : List ℕ → Option A) → Refines k j of
      → AlwaysRight (Stands j (λ w. read_as of (decode w)))
      → AlwaysRight (Stands k decode)
  pub goes_on : (k : Mealy A) (j : Mealy B) (of : A → B) (decode : List ℕ → Option A) → Refines k j of
      → GoesOn (Stands j (λ w. read_as of (decode w)))
      → GoesOn (Stands k decode)

-- how it is shown: with what the core keeps true of itself besides (sizes of its arrays), and with all that is proved of the machine at hand.
-- (It speaks of every predicate, so that no function's contract can name it: each core's own does.)
pub record RefinesWith {A B : Type 0} (k : Mealy A) (j : Mealy B) (of : A → B) (Good : A → Type 0) : Type 0 where
  pub first : (a : ℕ) → of (k.first a) ≡ j.first a
  pub good_first : (a : ℕ) → Good (k.first a)
  pub clocks : (c : Code) (m : Mem) (a : ℕ) (h : Hist) (s : A) (i : In) → Reach j c m a h (of s) → RightIn c m h i → Good s
      → SameClock k j of s i × Good (k.next s i)
