-- The manual's run of n instructions: what one more adds, what it did by its traces, and what more answers change.
use Rattle.std.specs.Prelude.{◌≡◌, ℕ, suc, ◌+◌, ◌⊎◌, List, [], ◌∷◌, ◌++◌, length, ◌≢◌}
use Rattle.isa.specs.Manual.{Code, S, Ret, Ev, Next, goes, stops, step, Run, run}
use Rattle.isa.specs.Traces.{effects, Takes}

-- after n instructions the manual stands at u, and has not stopped
pub record At (c : Code) (s : S) (n : ℕ) (u : S) : Type 0 where
  pub last : Ret
  pub did : List Ev
  pub is : (run c s n).is ≡ goes u last did

-- where it stands after n + 1 it stood after n, and went a step
pub record Before (c : Code) (s : S) (n : ℕ) (v : S) : Type 0 where
  pub from : S
  pub ret : Ret
  pub evs : List Ev
  pub at : At c s n from
  pub went : step c from ≡ goes v ret evs

-- a run with what one more step came to
abbrev pub with_step : Run → Next → Run
with_step r (goes u t es) = record { rets = r.rets ++ (t ∷ []); evs = r.evs ++ es; is = goes u t es }
with_step r (stops k) = record { rets = r.rets; evs = r.evs; is = stops k }

-- the first list is the beginning of the second
pub record Begins {A : Type 0} (xs ys : List A) : Type 0 where
  pub rest : List A
  pub is : ys ≡ xs ++ rest

pub record RunLaws : Type 0 where
  -- one instruction more, whether it goes or stops
  pub one_more : {c : Code} {s u : S} {n : ℕ} {x : Next} → At c s n u → step c u ≡ x → run c s (suc n) ≡ with_step (run c s n) x
  -- once stopped it stays as it is
  pub stays : (c : Code) (s : S) (n : ℕ) {k : ℕ} → (run c s n).is ≡ stops k → (j : ℕ) → run c s (n + j) ≡ run c s n
  -- it stands somewhere, and only there, or it has stopped
  pub somewhere : (c : Code) (s : S) (n : ℕ) → ((u : S) × At c s n u) ⊎ ((k : ℕ) × ((run c s n).is ≡ stops k))
  pub one_state : {c : Code} {s u v : S} {n : ℕ} → At c s n u → At c s n v → u ≡ v
  pub before : {c : Code} {s v : S} {n : ℕ} → At c s (suc n) v → Before c s n v
  -- as many traces as instructions
  pub count : {c : Code} {s u : S} {n : ℕ} → At c s n u → length (run c s n).rets ≡ n
  -- what n instructions do is the beginning of what more of them do
  pub rets_begin : (c : Code) (s : S) (n k : ℕ) → Begins (run c s n).rets (run c s (n + k)).rets
  pub evs_begin : (c : Code) (s : S) (n k : ℕ) → Begins (run c s n).evs (run c s (n + k)).evs

-- what the state is after n instructions, by what they did
pub record Ran (s u : S) (es : List Ev) : Type 0 where
  pub mem : u.mem ≡ effects s.mem es
  pub answers : Takes es s.answers u.answers
  pub width : length u.regs ≡ length s.regs

abbrev pub RunByTrace : Type 0
RunByTrace = (c : Code) (s u : S) (n : ℕ) → At c s n u → Ran s u (run c s n).evs

-- the same with more answers of devices behind
abbrev pub more_answers : S → List ℕ → S
more_answers s xs = record { regs = s.regs; pc = s.pc; mem = s.mem; answers = s.answers ++ xs }

abbrev pub next_more : Next → List ℕ → Next
next_more (goes u t es) xs = goes (more_answers u xs) t es
next_more (stops k) xs = stops k

abbrev pub run_more : Run → List ℕ → Run
run_more r xs = record { rets = r.rets; evs = r.evs; is = next_more r.is xs }

-- a step, or a run, that did not run out of answers is the same with more behind, and leaves those over
pub record AnswerLaws : Type 0 where
  pub step : (c : Code) (s : S) (xs : List ℕ) → (step c s ≢ stops 3) → step c (more_answers s xs) ≡ next_more (step c s) xs
  pub run : (c : Code) (s : S) (xs : List ℕ) (n : ℕ) → ((run c s n).is ≢ stops 3) → run c (more_answers s xs) n ≡ run_more (run c s n) xs
  pub at : {c : Code} {s u : S} {n : ℕ} (xs : List ℕ) → At c s n u → At c (more_answers s xs) n (more_answers u xs)
