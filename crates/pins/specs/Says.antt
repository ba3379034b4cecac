-- What a core promises at its ports, as types, and what the public calls promise.
use Rattle.std.specs.Prelude.{◌≡◌, ℕ, suc, ◌+◌, ◌*◌, ◌<◌, ◌≤◌, true, ◌⊎◌, ◌↔◌, List, [], ◌∷◌, ◌++◌, length, replicate, ◌≢◌}
use Rattle.std.proofs.Math.Option.{some}
use Rattle.pins.specs.declared.Started.{Started}
use Rattle.pins.specs.declared.Started.TheVariants.{Ready, Few}
use Rattle.pins.specs.declared.Clocked.{Clocked}
use Rattle.pins.specs.declared.Clocked.TheVariants.{Done, NoCore, NoPorts}
use Rattle.isa.specs.Manual.{Code, Mem, S, stops, Run, run}
use Rattle.pins.specs.Ports.{in_of, out_of, sound_out}
use Rattle.pins.specs.Outside.{Hist, outside, RightIn, Prompt, rets, evs, stopped}

-- where the manual begins: registers 0, data as they may be at first, at the start's address
abbrev pub first : ℕ → Mem → List ℕ → S
first a m answers = record { regs = replicate 32 0; pc = a; mem = m; answers = answers }

-- the first list is the beginning of the second
pub data Front {A : Type 0} : List A → List A → Type 0 where
  none_yet : {s : List A} → Front [] s
  and_so : {x : A} {s t : List A} → Front s t → Front (x ∷ s) (x ∷ t)

-- the manual's run by as many instructions as the history shows done, with what devices have answered in it
abbrev pub here : Code → Mem → ℕ → Hist → Run
here c m a h = run c (first a m (outside m h).told) (length (rets h))

-- at the ports one sees what the manual says
pub record Right (c : Code) (m : Mem) (a : ℕ) (h : Hist) : Type 0 where
  -- what is done is what the manual does, in order
  pub done : rets h ≡ (here c m a h).rets
  -- what was asked of the outside, but for reading code and data, is what the instructions that are done, and the next, do to it; nothing of what is only looked ahead to
  pub asked : (xs : List ℕ) × Front (evs h) (run c (first a m ((outside m h).told ++ xs)) (suc (length (rets h)))).evs
  -- and it is at most eight behind
  pub behind : length (here c m a h).evs ≤ length (evs h) + 8
  -- it stops as the manual does, and then with everything done
  pub stop : (k : ℕ) → stopped h ≡ some k → (k < 3) × ((run c (first a m (outside m h).told) (suc (length (rets h)))).is ≡ stops k) × (evs h ≡ (here c m a h).evs)
  -- at most four words of code and four requests are wanted at a time
  pub few_codes : length (outside m h).codes ≤ 4
  pub few_datas : length (outside m h).datas ≤ 4

-- What follows speaks of a core's own `Stands`: its words stand for a history, with that code, data at first, and start address
module _ (Stands : Code → Mem → ℕ → Hist → List ℕ → Type 0) where
  -- whatever history the words stand for, it is right
  abbrev pub AlwaysRight : Type 0
  AlwaysRight = (c : Code) (m : Mem) (a : ℕ) (h : Hist) (w : List ℕ) → Stands c m a h w → Right c m a h

  -- it goes on: with answers within l clocks, in any 64 and 16 l clocks an instruction is done, or it has stopped; and what was still to be asked at their beginning has been asked
  abbrev pub GoesOn : Type 0
  GoesOn = (c : Code) (m : Mem) (a l : ℕ) (h g : Hist) (w : List ℕ) → Stands c m a (h ++ g) w → Prompt l m (h ++ g) → 64 + 16 * l ≤ length g → ((length (rets h) < length (rets (h ++ g))) ⊎ ((k : ℕ) × (stopped (h ++ g) ≡ some k))) × (length (here c m a h).evs ≤ length (evs (h ++ g)))

  -- `start`: the address, the core's words before and after
  abbrev pub StartedSays : ℕ → List ℕ → List ℕ → Started → Type 0
  StartedSays a w w' Ready = (c : Code) (m : Mem) → Stands c m a [] w'
  StartedSays a w w' Few = w' ≡ w

  pub record StartedPost (a : ℕ) (w w' : List ℕ) (r : Started) : Type 0 where
    pub says : StartedSays a w w' r
    -- what the core's Stands has to meet, with the promise of each call
    pub right : AlwaysRight
    pub goes_on : GoesOn
    pub few : (length w < 65536) ↔ (r ≡ Few)

  -- `clock`: the core's words before and after, four words in, twenty out before and after
  abbrev pub ClockedSays : List ℕ → List ℕ → List ℕ → List ℕ → List ℕ → Clocked → Type 0
  ClockedSays w w' i o o' Done = (length i ≡ 4) × (sound_out o' ≡ true) × ((c : Code) (m : Mem) (a : ℕ) (h : Hist) → Stands c m a h w → RightIn c m h (in_of i) → Stands c m a (h ++ (record { in1 = in_of i; out1 = out_of o' } ∷ [])) w')
  ClockedSays w w' i o o' NoCore = ((c : Code) (m : Mem) (a : ℕ) (h : Hist) → Stands c m a h w → ⊥) × (w' ≡ w) × (o' ≡ o)
  ClockedSays w w' i o o' NoPorts = ((length i ≢ 4) ⊎ (length o ≢ 20)) × (w' ≡ w) × (o' ≡ o)

  pub record ClockedPost (w w' i o o' : List ℕ) (r : Clocked) : Type 0 where
    pub says : ClockedSays w w' i o o' r
    pub right : AlwaysRight
    pub goes_on : GoesOn
