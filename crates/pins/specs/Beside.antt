-- The manual beside a view: where it stands after what is retired, with what devices have told so far.
use Rattle.std.specs.Prelude.{◌≡◌, ℕ, suc, List, [], ◌∷◌, ◌++◌, length}
use Rattle.isa.specs.Manual.{Code, Mem, S, Ret, Ev, goes, stops, step, run}
use Rattle.isa.specs.Traces.{effects}
use Rattle.isa.specs.Runs.{At, Begins, more_answers}
use Rattle.pins.specs.Says.{Front, first}

-- it stands at u, its traces are those shown, and es is what it has done to the outside
pub record Beside (c : Code) (m : Mem) (a : ℕ) (told : List ℕ) (rets : List Ret) (u : S) (es : List Ev) : Type 0 where
  pub at : At c (first a m told) (length rets) u
  pub done : rets ≡ (run c (first a m told) (length rets)).rets
  pub did : (run c (first a m told) (length rets)).evs ≡ es

-- what was asked of the outside, as `Right` has it
abbrev pub Asked : Code → Mem → ℕ → List ℕ → List Ret → List Ev → Type 0
Asked c m a told rets ws = (xs : List ℕ) × Front ws (run c (first a m (told ++ xs)) (suc (length rets))).evs

pub record BesideLaws : Type 0 where
  pub starts : (c : Code) (m : Mem) (a : ℕ) → Beside c m a [] [] (first a m []) []
  -- a device tells; an instruction is retired
  pub tells : {c : Code} {m : Mem} {a : ℕ} {ts : List ℕ} {rs : List Ret} {u : S} {es : List Ev} (xs : List ℕ)
      → Beside c m a ts rs u es
      → Beside c m a (ts ++ xs) rs (more_answers u xs) es
  pub retires : {c : Code} {m : Mem} {a : ℕ} {ts : List ℕ} {rs : List Ret} {u w : S} {t : Ret} {es fs : List Ev}
      → Beside c m a ts rs u es
      → step c u ≡ goes w t fs
      → Beside c m a ts (rs ++ (t ∷ [])) w (es ++ fs)
  -- its memory is the first with what it did
  pub mem : {c : Code} {m : Mem} {a : ℕ} {ts : List ℕ} {rs : List Ret} {u : S} {es : List Ev} → Beside c m a ts rs u es → u.mem ≡ effects m es
  -- where it stops, the run does
  pub stops_next : {c : Code} {m : Mem} {a : ℕ} {ts : List ℕ} {rs : List Ret} {u : S} {es : List Ev} {k : ℕ}
      → Beside c m a ts rs u es
      → step c u ≡ stops k
      → (run c (first a m ts) (suc (length rs))).is ≡ stops k
  -- what was asked is of what is retired, or of that and the next instruction with some answers behind
  pub asked_done : {c : Code} {m : Mem} {a : ℕ} {ts : List ℕ} {rs : List Ret} {u : S} {es ws : List Ev}
      → Beside c m a ts rs u es
      → Begins ws es
      → Asked c m a ts rs ws
  pub asked_next : {c : Code} {m : Mem} {a : ℕ} {ts : List ℕ} {rs : List Ret} {u w : S} {t : Ret} {es fs ws : List Ev} (xs : List ℕ)
      → Beside c m a ts rs u es
      → step c (more_answers u xs) ≡ goes w t fs
      → Begins ws (es ++ fs)
      → Asked c m a ts rs ws
